-- Jobs of a run are those of the code: they hear the answers that the code's jobs absorb.
use Rattle.std.specs.Prelude.{◌≡◌, ℕ, ◌-◌, length, slice_set, Option, Some, None}
use Rattle.node_base.specs.Props.{PropMap}
use Rattle.sync_core.specs.declared.fault.SyncFault.{SyncFault}
use Rattle.sync_core.specs.declared.answer.Answer.{Answer}
use Rattle.sync_core.specs.declared.answer.Answer.TheVariants as answer
use Rattle.sync_core.specs.declared.state.JobState.{JobState}
use Rattle.sync_core.specs.Mirror.{Call, Reply, Done, Seen, Refused, refusal, reply_to}
use Rattle.sync_core.specs.Jobs.{Job}
use Rattle.sync_core.specs.Deeds.{Deed, Calls, AsksIdentity, AsksLatest, Fetches, FetchesProps, heard}
use Rattle.sync_core.specs.States.{deed_in, after, Follows}
use Rattle.sync_core.specs.World.{Origin, moment_of, map_at, Question, Identity, Latest, Fetch, FetchProps, Room, Happening, Ask, Make, Starve, StopAfter, job_at, IsTrueAnswer, MayHappen, room_after}

-- a question as a deed
abbrev pub asked : Question → Deed
asked Identity = AsksIdentity
asked Latest = AsksLatest
asked (Fetch n set) = Fetches n
asked (FetchProps n) = FetchesProps n

-- a refusal, whatever it says
abbrev pub IsRefusal : Answer → Type 0
IsRefusal (answer.Refused f) = Unit {0}
IsRefusal (answer.Failed text) = Unit {0}
IsRefusal _ = ⊥

-- what gives a map, and a refusal where there is none
abbrev pub IsGiven : (PropMap → Answer) → Option PropMap → Answer → Type 0
IsGiven give (Some p) a = a ≡ give p
IsGiven give None a = IsRefusal a

-- the answer is the master's as it is now
abbrev pub IsAnswerOf : Origin → Question → Answer → Type 0
IsAnswerOf o Identity a = a ≡ answer.Identity o.identity
IsAnswerOf o Latest a = a ≡ answer.Latest (length o.trees - 1)
IsAnswerOf o (Fetch n set) a = IsGiven (answer.Revision set) (map_at o (moment_of o) n) a
IsAnswerOf o (FetchProps n) a = IsGiven answer.Map (map_at o (moment_of o) n) a

-- the answer is that of a mirror that replies so
abbrev pub IsAnswerFor : Reply → Answer → Type 0
IsAnswerFor Done a = a ≡ answer.Done
IsAnswerFor (Seen s) a = a ≡ answer.Seen s
IsAnswerFor (Refused why) a = (f : SyncFault) × (a ≡ answer.Refused f)

-- what happens is a seat's deed, and its answer is the master's, the mirror's, or that memory or room in the journal is short
abbrev pub IsDone : Origin → Room → ℕ → Deed → Answer → Happening → Type 0
IsDone o room seat d a (Ask k question) = (k ≡ seat) × (asked question ≡ d) × IsTrueAnswer o question × IsAnswerOf o question a
IsDone o room seat d a (Make k call) = (k ≡ seat) × (Calls call ≡ d) × IsAnswerFor (reply_to room.mirror seat call) a
IsDone o room seat d a (Starve k call) = (k ≡ seat) × (Calls call ≡ d) × ((f : SyncFault) × (a ≡ answer.Refused f))
IsDone o room seat d a _ = ⊥

-- the seat's job has heard the answer then, and nothing else has changed among the jobs
abbrev pub AnswersAreHeard : Type 0
AnswersAreHeard =
    (o : Origin) (room : Room) (seat : ℕ) (job : Job) (d : Deed) (a : Answer) (what : Happening) → job_at room.jobs seat ≡ Some job → IsDone o room seat d a what
    → (room_after o room what).jobs ≡ slice_set room.jobs seat (Some (heard job (moment_of o) d a))

-- a question that is refused is no event: it leaves the job as it was
abbrev pub RefusalTellsNothing : Type 0
RefusalTellsNothing = (job : Job) (moment : ℕ) (question : Question) (a : Answer) → IsRefusal a → heard job moment (asked question) a ≡ job

-- what a job does by the code's tables may happen, and leads to the state that the tables give
abbrev pub JobsGoOn : Type 0
JobsGoOn =
    (o : Origin) (room : Room) (seat : ℕ) (job : Job) (s : JobState) (a : Answer) (what : Happening)
    → job_at room.jobs seat ≡ Some job → Follows job s → IsDone o room seat (deed_in s) a what
    → MayHappen o room what × Follows (heard job (moment_of o) (deed_in s) a) (after s a)

-- the mirror may stop while the job's call is in flight, and keep its entry
abbrev pub StopsInFlight : Type 0
StopsInFlight =
    (o : Origin) (room : Room) (seat : ℕ) (job : Job) (s : JobState) (call : Call)
    → job_at room.jobs seat ≡ Some job → Follows job s → Calls call ≡ deed_in s → refusal room.mirror seat call ≡ None → MayHappen o room (StopAfter seat call)
