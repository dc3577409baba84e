-- What a run at a true master is in a world.
use Rattle.std.proofs.Common.{◌≡◌, ◌≢◌, ◌⊎◌, inl, inr, ℕ, suc, zero, ◌==◌, Bool, true, false, List, [], ◌∷◌, ◌++◌, map, length, drop, Option, Some, None, is_some, is_none, Result, Ok, Err, IfOk, if◌then◌else◌, refl, sym, ap, subst, ◌∙◌}
use Rattle.std.proofs.lemmas.List.{append-nil, append_assoc, map-append, take-append-drop}
use Rattle.std.specs.Prelude.{slice_get, slice_set}
use Rattle.std.specs.Option.{option_map, option_map_or}
use Rattle.node_base.specs.Tree.{PathMap}
use Rattle.node_base.specs.Props.{PropMap}
use Rattle.dump_load.specs.Faults.{fault_if, first_of}
use Rattle.dump_load.specs.Trees.{effect_tree}
use Rattle.repo_core.specs.Repository.{Revision, Repository, trees_of, tree_at}
use Rattle.repo_core.specs.declared.entry.Entry.{Entry}
use Rattle.repo_core.specs.declared.entry.Entry.TheVariants.{Revised, Mapped}
use Rattle.repo_core.specs.Entries.{with_entry, with_entry_in}
use Rattle.sync_core.specs.Copies.{Outcome, outcome_of}
use Rattle.sync_core.specs.Copies as kept
use Rattle.sync_core.specs.declared.answer.Answer.{Answer}
use Rattle.sync_core.specs.declared.answer.Answer.TheVariants as answer
use Rattle.sync_core.specs.declared.fault.SyncFault.{SyncFault}
use Rattle.sync_core.specs.declared.fault.SyncFault.TheVariants as fault
use Rattle.sync_core.specs.declared.reply.Reply.{Reply as Given}
use Rattle.sync_core.specs.declared.reply.Reply.TheVariants as given
use Rattle.sync_core.specs.declared.need.Need.TheVariants as need
use Rattle.sync_core.specs.declared.state.JobState.{JobState}
use Rattle.sync_core.specs.declared.state.JobState.TheVariants as state
use Rattle.sync_core.specs.declared.init_job.InitPhase.{InitPhase}
use Rattle.sync_core.specs.declared.init_job.InitPhase.TheVariants as initial
use Rattle.sync_core.specs.declared.sync_job.SyncPhase.{SyncPhase}
use Rattle.sync_core.specs.declared.sync_job.SyncPhase.TheVariants as phase
use Rattle.sync_core.specs.declared.copy_job.CopyPhase.{CopyPhase}
use Rattle.sync_core.specs.declared.copy_job.CopyPhase.TheVariants as copying
use Rattle.sync_core.specs.InitTable as init_table
use Rattle.sync_core.specs.SyncTable as sync_table
use Rattle.sync_core.specs.CopyTable as copy_table
use Rattle.sync_core.specs.SyncFollows as sync_follows
use Rattle.node_base.specs.declared.refusal.Refusal.TheVariants as device
use Rattle.sync_core.specs.Mirror.{mirror_with, holder_after, Call, Init, TakeLock, StealLock, ReleaseLock, SetCopying, Commit, PutProps, SetMerged, ClearCopying, Look, Refusal, Missed, Refused, refusal, granted, reply_to, accepted, entry_of, standing_of}
use Rattle.sync_core.specs.Jobs.{Job, Order, Locked, begun, refused_to}
use Rattle.sync_core.specs.Deeds.{Deed, Calls, AsksIdentity, AsksLatest, Fetches, FetchesProps, Ends, heard}
use Rattle.sync_core.specs.States.{deed_in, after, Follows}
use Rattle.sync_core.specs.Hearing.{IsRefusal, IsAnswerFor, IsDone, IsGiven, asked, AnswersAreHeard, RefusalTellsNothing, JobsGoOn}
use Rattle.sync_core.specs.Going.{FollowsOn}
use Rattle.sync_core.specs.World.{Origin, Room, World, Event, MasterCommit, MasterEdit, At, Happening, Begin, Ask, Make, Starve, Question, Identity, Latest, Fetch, FetchProps, moment_of, MayHappen, MayBe, run, IsRun, job_at, world_after, room_after, hears, does, made, told}
use Rattle.sync_core.specs.Law.{Starts, EveryRun, HolderGoesOn, IsMirrorOf}
use Rattle.sync_job.specs.Said.{IsQuestion}
use Rattle.sync_job.specs.Kept.{IsLook}
use Rattle.sync_job.specs.Masters.{MasterStep, Commits, Edits, Comes, IsTrue, IsTrueAt}
use Rattle.sync_job.specs.Mirrors.{MirrorNow, mirror_in, IsFit, Steps, Accepted, Doubted, Unchanged}
use Rattle.sync_job.specs.Mirrors as mirrors
use Rattle.sync_job.specs.Fronts.{IsHeard, accepted_by, counted_by}
use Rattle.sync_job.proofs.Fronts.{came, cause_isnt, refused_counts, come_stays}
use Rattle.sync_job.specs.Worlds.{IsAnswerAt, AreFirst, IsAnswered, IsServed, Accepts, Refuses, IsAsked, Serves, Happens, StandsAfter, IsEvents}

-- the core's laws of worlds
pub record WorldLaws : Type 0 where
  pub mirrors : EveryRun
  pub holder : HolderGoesOn
  pub heard : AnswersAreHeard
  pub refused : RefusalTellsNothing
  pub jobs : JobsGoOn
  pub follows : FollowsOn

pub some_is : {X : Type 0} (x y : X) → Some x ≡ Some y → x ≡ y
some_is x y e = ap (λ o. option_map_or (λ z. z) o x) e

none_isnt : {X : Type 0} {A : Type 0} (x : X) → ◌≡◌ {A = Option X} None (Some x) → A
none_isnt x e = absurd (cc)

-- events one after the other
pub run-append : (w : World) (xs ys : List Event) → run w (xs ++ ys) ≡ run (run w xs) ys
run-append w [] ys = refl
run-append w (x ∷ xs) ys = run-append (world_after w x) xs ys

pub is_run-append : (w : World) (xs ys : List Event) → IsRun w xs → IsRun (run w xs) ys → IsRun w (xs ++ ys)
is_run-append w [] ys p q = q
is_run-append w (x ∷ xs) ys p q = (p.0, is_run-append (world_after w x) xs ys p.1 q)

-- a master's own steps are events, which leave the mirrors
abbrev pub event_of : MasterStep → Event
event_of (Commits set props) = MasterCommit set props
event_of (Edits n props) = MasterEdit n props

pub record HasStepped (w : World) (steps : List MasterStep) (p : Origin) : Type 0 where
  pub run_is : IsRun w (map event_of steps)
  pub origin : (run w (map event_of steps)).origin ≡ p
  pub rooms : (run w (map event_of steps)).rooms ≡ w.rooms

pub comes_on : (w : World) (steps : List MasterStep) (p : Origin) → Comes w.origin steps p → HasStepped w steps p
comes_on w [] p h = record { run_is = tt; origin = sym h; rooms = refl }
comes_on w (Commits set props ∷ ss) p h =
    let r = comes_on (world_after w (MasterCommit set props)) ss p h.1 in
    record { run_is = (h.0, r.run_is); origin = r.origin; rooms = r.rooms }
comes_on w (Edits n props ∷ ss) p h =
    let r = comes_on (world_after w (MasterEdit n props)) ss p h.1 in
    record { run_is = (h.0, r.run_is); origin = r.origin; rooms = r.rooms }

-- what happens at the one mirror
pub at_rooms : (w : World) (room : Room) (what : Happening) → w.rooms ≡ room ∷ [] → (world_after w (At 0 what)).rooms ≡ room_after w.origin room what ∷ []
at_rooms w room what e = ap (λ rs. option_map_or (λ r. slice_set rs 0 (room_after w.origin r what)) (slice_get rs 0) rs) e

pub may_at : (w : World) (room : Room) (what : Happening) → w.rooms ≡ room ∷ [] → MayHappen w.origin room what → MayBe w (At 0 what)
may_at w room what e h = λ r at. subst (λ x. MayHappen w.origin x what) (some_is room r (sym (ap (λ rs. slice_get rs 0) e) ∙ at)) h

pub is_room : (w : World) (room : Room) → w.rooms ≡ room ∷ [] → slice_get w.rooms 0 ≡ Some room
is_room w room e = ap (λ rs. slice_get rs 0) e

-- a run of a job so far, in a world
pub record IsUnderWay (w : World) (events : List Event) (at : Origin → Type 0) (stands : MirrorNow → Type 0) (s : JobState) (trees : List PathMap) : Type 0 where
  pub happens : IsRun w events
  pub room : Room
  pub alone : (run w events).rooms ≡ room ∷ []
  pub master : at (run w events).origin
  pub mirror : MirrorNow
  pub there : stands mirror
  pub same : room.mirror ≡ mirror_in mirror
  pub job : Job
  pub seated : job_at room.jobs 0 ≡ Some job
  pub follows : Follows job s
  pub first : AreFirst trees (trees_of mirror.repository.revisions)

-- a job begins where there is none
pub begins : (order : Order) (s : JobState) → Follows (begun order) s → (w : World) (shaped : ℕ → Bool) (events : List Event) (at : Origin → Type 0) (stands : MirrorNow → Type 0) → (x : StandsAfter w shaped events at stands) → x.room.jobs ≡ [] → IsUnderWay w (events ++ At 0 (Begin order) ∷ []) at stands s []
begins order s f w shaped events at stands x none =
    let e : run w (events ++ At 0 (Begin order) ∷ []) ≡ world_after (run w events) (At 0 (Begin order)) = run-append w events (At 0 (Begin order) ∷ []) in
    record {
      happens = is_run-append w events (At 0 (Begin order) ∷ []) x.happens (may_at (run w events) x.room (Begin order) x.alone tt, tt);
      room = room_after (run w events).origin x.room (Begin order);
      alone = ap (λ v. v.rooms) e ∙ at_rooms (run w events) x.room (Begin order) x.alone;
      master = subst (λ v. at v.origin) (sym e) x.master;
      mirror = x.mirror;
      there = x.there;
      same = x.same;
      job = begun order;
      seated = ap (λ js. job_at (js ++ Some (begun order) ∷ []) 0) none;
      follows = f;
      first = (trees_of x.mirror.repository.revisions, refl);
    }

-- what is under way stands there
pub stands_after : WorldLaws → (w : World) (shaped : ℕ → Bool) (events : List Event) (at : Origin → Type 0) (stands : MirrorNow → Type 0) (s : JobState) (trees : List PathMap) → Starts w shaped → IsUnderWay w events at stands s trees → StandsAfter w shaped events at stands
stands_after laws w shaped events at stands s trees starts u =
    record { happens = u.happens; room = u.room; alone = u.alone; holds = laws.mirrors w shaped events starts u.happens 0 u.room (is_room (run w events) u.room u.alone); master = u.master; mirror = u.mirror; there = u.there; same = u.same }

-- the master goes on by itself
stepped_on : (w : World) (events : List Event) (at new : Origin → Type 0) (stands : MirrorNow → Type 0) (s : JobState) (trees : List PathMap) (steps : List MasterStep) (p : Origin) → (u : IsUnderWay w events at stands s trees) → Comes (run w events).origin steps p → new p → (v : IsUnderWay w (events ++ map event_of steps) new stands s trees) × ((run w (events ++ map event_of steps)).origin ≡ p)
stepped_on w events at new stands s trees steps p u comes there =
    let c = comes_on (run w events) steps p comes in
    let e : run w (events ++ map event_of steps) ≡ run (run w events) (map event_of steps) = run-append w events (map event_of steps) in
    let o : (run w (events ++ map event_of steps)).origin ≡ p = ap (λ v. v.origin) e ∙ c.origin in (
      record {
        happens = is_run-append w events (map event_of steps) u.happens c.run_is;
        room = u.room;
        alone = ap (λ v. v.rooms) e ∙ c.rooms ∙ u.alone;
        master = subst new (sym o) there;
        mirror = u.mirror;
        there = u.there;
        same = u.same;
        job = u.job;
        seated = u.seated;
        follows = u.follows;
        first = u.first;
      },
      o,
    )

-- the job at the seat, once it has heard something
heard_at : (jobs : List (Option Job)) (job new : Job) → job_at jobs 0 ≡ Some job → job_at (slice_set jobs 0 (Some new)) 0 ≡ Some new
heard_at [] job new e = none_isnt job e
heard_at (x ∷ xs) job new e = refl

-- something happens that is the job's deed, with its answer
event_on : WorldLaws → (w : World) (events : List Event) (at : Origin → Type 0) (stands stands_new : MirrorNow → Type 0) (s : JobState) (a : Answer) (trees after_trees : List PathMap) (what : Happening) (now : MirrorNow)
    → (u : IsUnderWay w events at stands s trees) → IsDone (run w events).origin u.room 0 (deed_in s) a what → (room_after (run w events).origin u.room what).mirror ≡ mirror_in now → stands_new now → AreFirst after_trees (trees_of now.repository.revisions)
    → IsUnderWay w (events ++ At 0 what ∷ []) at stands_new (after s a) after_trees
event_on laws w events at stands stands_new s a trees after_trees what now u done is there first =
    let v : World = run w events in
    let e : run w (events ++ At 0 what ∷ []) ≡ world_after v (At 0 what) = run-append w events (At 0 what ∷ []) in
    let j = laws.jobs v.origin u.room 0 u.job s a what u.seated u.follows done in
    record {
      happens = is_run-append w events (At 0 what ∷ []) u.happens (may_at v u.room what u.alone j.0, tt);
      room = room_after v.origin u.room what;
      alone = ap (λ x. x.rooms) e ∙ at_rooms v u.room what u.alone;
      master = subst (λ x. at x.origin) (sym e) u.master;
      mirror = now;
      there = there;
      same = is;
      job = heard u.job (moment_of v.origin) (deed_in s) a;
      seated = ap (λ js. job_at js 0) (laws.heard v.origin u.room 0 u.job (deed_in s) a what u.seated done) ∙ heard_at u.room.jobs u.job (heard u.job (moment_of v.origin) (deed_in s) a) u.seated;
      follows = j.1;
      first = first;
    }

-- a question that is refused is no event
none_on : WorldLaws → (w : World) (events : List Event) (at : Origin → Type 0) (stands stands_new : MirrorNow → Type 0) (s : JobState) (a : Answer) (trees after_trees : List PathMap) (q : Question) (now : MirrorNow)
    → (u : IsUnderWay w events at stands s trees) → asked q ≡ deed_in s → IsRefusal a → mirror_in now ≡ mirror_in u.mirror → stands_new now → AreFirst after_trees (trees_of now.repository.revisions)
    → IsUnderWay w events at stands_new (after s a) after_trees
none_on laws w events at stands stands_new s a trees after_trees q now u d r is there first =
    record {
      happens = u.happens;
      room = u.room;
      alone = u.alone;
      master = u.master;
      mirror = now;
      there = there;
      same = u.same ∙ sym is;
      job = u.job;
      seated = u.seated;
      follows = subst (λ j. Follows j (after s a)) (ap (λ x. heard u.job 0 x a) (sym d) ∙ laws.refused u.job 0 q a r) (laws.follows u.job 0 s a u.follows);
      first = first;
    }

-- a revision is fetched by a job that has its lock
fetches_locked : (job : Job) (s : JobState) (n : ℕ) → Follows job s → deed_in s ≡ Fetches n → job.stage ≡ Locked
fetches_locked job (state.Init s) n f e = absurd (by s.phase e)
  where
    by : (p : InitPhase) → init_table.deed_in s.url p ≡ Fetches n → ⊥
    by initial.Who e = cc
    by (initial.FetchProps u) e = cc
    by (initial.Init u props) e = cc
    by (initial.End x) e = cc
fetches_locked job (state.Sync s) n f e = by s.phase f e
  where
    lock : (token : List ℕ) (steal : Bool) → Calls (sync_table.lock_call token steal) ≡ Fetches n → ⊥
    lock token steal e = cc

    by : (p : SyncPhase) → sync_follows.FollowsIn p job s.known → sync_table.deed_in p ≡ Fetches n → job.stage ≡ Locked
    by (phase.Fetch m) f e = f.0.locked
    by (phase.Lock token steal) f e = absurd (lock token steal e)
    by phase.Look f e = absurd (cc)
    by (phase.Who shape uuid) f e = absurd (cc)
    by phase.Latest f e = absurd (cc)
    by (phase.SetCopying m) f e = absurd (cc)
    by (phase.Commit m set props) f e = absurd (cc)
    by (phase.FetchProps m) f e = absurd (cc)
    by (phase.Put m props) f e = absurd (cc)
    by (phase.Merge m) f e = absurd (cc)
    by phase.Clear f e = absurd (cc)
    by (phase.Release x) f e = absurd (cc)
    by (phase.End x) f e = absurd (cc)
fetches_locked job (state.Copy s) n f e = absurd (by s.phase e)
  where
    by : (p : CopyPhase) → copy_table.deed_in s.token p ≡ Fetches n → ⊥
    by copying.Lock e = cc
    by copying.Look e = cc
    by (copying.Who m uuid) e = cc
    by (copying.FetchProps m) e = cc
    by (copying.Put m props) e = cc
    by (copying.Release x) e = cc
    by (copying.End x) e = cc

-- who is refused for a lock that is held is at an initialised mirror
abbrev at_lock : Option (List ℕ) → Bool → Option Refusal → Option Refusal
at_lock url locked more = first_of (option_map Missed (first_of (fault_if (is_none url) need.NotInitialised ∷ fault_if locked need.LockHeld ∷ [])) ∷ more ∷ [])

initialised : (url : Option (List ℕ)) (locked : Bool) (more : Option Refusal) → at_lock url locked more ≡ Some (Missed need.LockHeld) → is_some url ≡ true
initialised None locked more h = absurd (cc)
initialised (Some x) locked more h = refl

-- the first trees of a mirror are those of its master
first_of_master : WorldLaws → (w : World) (shaped : ℕ → Bool) (events : List Event) (at : Origin → Type 0) (stands : MirrorNow → Type 0) (s : JobState) (trees first : List PathMap) (n : ℕ)
    → Starts w shaped → (u : IsUnderWay w events at stands s trees) → deed_in s ≡ Fetches n → AreFirst first (trees_of u.mirror.repository.revisions) → AreFirst first (run w events).origin.trees
first_of_master laws w shaped events at stands s trees first n starts u d f = (
  f.0 ++ drop (length u.room.mirror.revisions) (run w events).origin.trees,
  sym (append_assoc first f.0 (drop (length u.room.mirror.revisions) (run w events).origin.trees))
      ∙ ap (λ ts. ts ++ drop (length u.room.mirror.revisions) (run w events).origin.trees) (f.1 ∙ ap (λ m. trees_of m.revisions) (sym u.same) ∙ of.trees)
      ∙ take-append-drop (length u.room.mirror.revisions) (run w events).origin.trees,
)
  where
    room_is : slice_get (run w events).rooms 0 ≡ Some u.room
    room_is = is_room (run w events) u.room u.alone

    url : is_some (standing_of u.room.mirror.revisions).url ≡ true
    url = initialised (standing_of u.room.mirror.revisions).url (is_some (standing_of u.room.mirror.revisions).lock) _ ((laws.holder w shaped events starts u.happens 0 u.room room_is 0 u.job u.seated (fetches_locked u.job s n u.follows d)).no_lock 0 [])

    of : IsMirrorOf (run w events).origin u.room
    of = (laws.mirrors w shaped events starts u.happens 0 u.room room_is).mirror url

-- the trees at hand, once the master has gone on and its answer is known, are its first ones
trees_on : WorldLaws → (w : World) (shaped : ℕ → Bool) (events : List Event) (at : Origin → Type 0) (stands : MirrorNow → Type 0) (s : JobState) (trees first : List PathMap) (n : ℕ) (a : Answer) (now : MirrorNow) (o : Origin)
    → Starts w shaped → (u : IsUnderWay w events at stands s trees) → (run w events).origin ≡ o → deed_in s ≡ Fetches n → mirror_in now ≡ mirror_in u.mirror → AreFirst first (trees_of now.repository.revisions) → IsAnswered first (Fetches n) a o
    → IsAnswerAt (run w events).origin (Fetches n) a
trees_on laws w shaped events at stands s trees first n a now o starts u e d is f h =
    subst (λ x. IsAnswerAt x (Fetches n) a) (sym e)
    (h (subst (λ x. AreFirst first x.trees) e (first_of_master laws w shaped events at stands s trees first n starts u d (subst (λ m. AreFirst first (trees_of m.revisions)) is f))))

-- a question is asked and answered, or refused
asked_on : WorldLaws → (w : World) (events : List Event) (at : Origin → Type 0) (stands stands_new : MirrorNow → Type 0) (s : JobState) (d : Deed) (a : Answer) (trees first : List PathMap) (now : MirrorNow)
    → (u : IsUnderWay w events at stands s trees) → d ≡ deed_in s → IsQuestion d → IsAnswerAt (run w events).origin d a → mirror_in now ≡ mirror_in u.mirror → stands_new now → AreFirst first (trees_of now.repository.revisions)
    → (more : List Event) × IsUnderWay w (events ++ more) at stands_new (after s a) first
asked_on laws w events at stands stands_new s d a trees first now u e q h is there f = by d a e q h
  where
    o : Origin
    o = (run w events).origin

    refused : (q : Question) → asked q ≡ deed_in s → (a : Answer) → IsRefusal a → (more : List Event) × IsUnderWay w (events ++ more) at stands_new (after s a) first
    refused q d a r = ([], subst (λ es. IsUnderWay w es at stands_new (after s a) first) (sym (append-nil events)) (none_on laws w events at stands stands_new s a trees first q now u d r is there f))

    stays : (q : Question) → (room_after o u.room (Ask 0 q)).mirror ≡ mirror_in now
    stays q = ap (λ j. (option_map_or (λ job. hears u.room 0 (told o job q)) j u.room).mirror) u.seated ∙ u.same ∙ sym is

    answered : (q : Question) (a : Answer) → IsDone o u.room 0 (deed_in s) a (Ask 0 q) → (more : List Event) × IsUnderWay w (events ++ more) at stands_new (after s a) first
    answered q a done = (At 0 (Ask 0 q) ∷ [], event_on laws w events at stands stands_new s a trees first (Ask 0 q) now u done (stays q) there f)

    by : (d : Deed) (a : Answer) → d ≡ deed_in s → IsQuestion d → IsAnswerAt o d a → (more : List Event) × IsUnderWay w (events ++ more) at stands_new (after s a) first
    by (Calls call) a e q h = absurd q
    by Ends a e q h = absurd q
    by AsksIdentity (answer.Identity x) e q h = answered Identity (answer.Identity x) (refl, e, tt, ap (λ y. answer.Identity y) h)
    by AsksIdentity (answer.Refused x) e q h = refused Identity e (answer.Refused x) tt
    by AsksIdentity (answer.Failed x) e q h = refused Identity e (answer.Failed x) tt
    by AsksIdentity answer.Done e q h = absurd h
    by AsksIdentity (answer.Seen x) e q h = absurd h
    by AsksIdentity (answer.Latest x) e q h = absurd h
    by AsksIdentity (answer.Revision x y) e q h = absurd h
    by AsksIdentity (answer.Map x) e q h = absurd h
    by AsksLatest (answer.Latest x) e q h = answered Latest (answer.Latest x) (refl, e, tt, ap (λ y. answer.Latest y) h)
    by AsksLatest (answer.Refused x) e q h = refused Latest e (answer.Refused x) tt
    by AsksLatest (answer.Failed x) e q h = refused Latest e (answer.Failed x) tt
    by AsksLatest answer.Done e q h = absurd h
    by AsksLatest (answer.Seen x) e q h = absurd h
    by AsksLatest (answer.Identity x) e q h = absurd h
    by AsksLatest (answer.Revision x y) e q h = absurd h
    by AsksLatest (answer.Map x) e q h = absurd h
    by (Fetches n) (answer.Revision x y) e q h = answered (Fetch n x) (answer.Revision x y) (refl, e, h.0, subst (λ p. IsGiven (answer.Revision x) p (answer.Revision x y)) (sym h.1) refl)
    by (Fetches n) (answer.Refused x) e q h = refused (Fetch n []) e (answer.Refused x) tt
    by (Fetches n) (answer.Failed x) e q h = refused (Fetch n []) e (answer.Failed x) tt
    by (Fetches n) answer.Done e q h = absurd h
    by (Fetches n) (answer.Seen x) e q h = absurd h
    by (Fetches n) (answer.Identity x) e q h = absurd h
    by (Fetches n) (answer.Latest x) e q h = absurd h
    by (Fetches n) (answer.Map x) e q h = absurd h
    by (FetchesProps n) (answer.Map x) e q h = answered (FetchProps n) (answer.Map x) (refl, e, tt, subst (λ p. IsGiven answer.Map p (answer.Map x)) (sym h) refl)
    by (FetchesProps n) (answer.Refused x) e q h = refused (FetchProps n) e (answer.Refused x) tt
    by (FetchesProps n) (answer.Failed x) e q h = refused (FetchProps n) e (answer.Failed x) tt
    by (FetchesProps n) answer.Done e q h = absurd h
    by (FetchesProps n) (answer.Seen x) e q h = absurd h
    by (FetchesProps n) (answer.Identity x) e q h = absurd h
    by (FetchesProps n) (answer.Latest x) e q h = absurd h
    by (FetchesProps n) (answer.Revision x y) e q h = absurd h

-- a call is made and accepted
made_on : WorldLaws → (w : World) (events : List Event) (at : Origin → Type 0) (stands stands_new : MirrorNow → Type 0) (s : JobState) (call : Call) (a : Answer) (trees first : List PathMap) (now : MirrorNow)
    → (u : IsUnderWay w events at stands s trees) → deed_in s ≡ Calls call → refusal (mirror_in u.mirror) 0 call ≡ None → IsAnswerFor (granted (mirror_in u.mirror) call) a → mirror_in now ≡ accepted (mirror_in u.mirror) 0 call → stands_new now → AreFirst first (trees_of now.repository.revisions)
    → IsUnderWay w (events ++ At 0 (Make 0 call) ∷ []) at stands_new (after s a) first
made_on laws w events at stands stands_new s call a trees first now u d free granted_is is there f =
    event_on laws w events at stands stands_new s a trees first (Make 0 call) now u (refl, sym d, reply) mirror there f
  where
    free_there : refusal u.room.mirror 0 call ≡ None
    free_there = ap (λ m. refusal m 0 call) u.same ∙ free

    reply : IsAnswerFor (reply_to u.room.mirror 0 call) a
    reply = subst (λ m. IsAnswerFor (reply_to m 0 call) a) (sym u.same) (subst (λ r. IsAnswerFor r a) (sym (ap (λ r. option_map_or Refused r (granted (mirror_in u.mirror) call)) free)) granted_is)

    mirror : (room_after (run w events).origin u.room (Make 0 call)).mirror ≡ mirror_in now
    mirror =
        ap (λ j. (option_map_or (made u.room 0 call) j u.room).mirror) u.seated
        ∙ ap (λ r. (if is_some r then hears u.room 0 (refused_to u.job call) else does u.room 0 u.job call).mirror) free_there
        ∙ ap (λ m. accepted m 0 call) u.same
        ∙ sym is

-- a call is refused, for whatever cause
starved_on : WorldLaws → (w : World) (events : List Event) (at : Origin → Type 0) (stands stands_new : MirrorNow → Type 0) (s : JobState) (call : Call) (x : SyncFault) (trees first : List PathMap) (now : MirrorNow)
    → (u : IsUnderWay w events at stands s trees) → deed_in s ≡ Calls call → mirror_in now ≡ mirror_in u.mirror → stands_new now → AreFirst first (trees_of now.repository.revisions)
    → IsUnderWay w (events ++ At 0 (Starve 0 call) ∷ []) at stands_new (after s (answer.Refused x)) first
starved_on laws w events at stands stands_new s call x trees first now u d is there f =
    event_on laws w events at stands stands_new s (answer.Refused x) trees first (Starve 0 call) now u (refl, sym d, (x, refl))
    (ap (λ j. (option_map_or (λ job. hears u.room 0 (refused_to job call)) j u.room).mirror) u.seated ∙ u.same ∙ sym is)
    there
    f

-- a run goes on by a deed
pub goes_on : WorldLaws → (w : World) (shaped : ℕ → Bool) (events : List Event) (at_old at_new : Origin → Type 0) (stands_old stands_new : MirrorNow → Type 0) (seat_new : ℕ) (s : JobState) (a : Answer) (trees first : List PathMap)
    → deed_in s ≢ Ends → Starts w shaped → IsUnderWay w events at_old stands_old s trees → Happens at_old at_new stands_old stands_new 0 seat_new (deed_in s) a trees first
    → (more : List Event) × IsUnderWay w (events ++ more) at_new stands_new (after s a) first
goes_on laws w shaped events at_old at_new stands_old stands_new seat_new s a trees first goes starts u h = joined (by (deed_in s) refl t.answer sv.served)
  where
    t : IsTrueAt (run w events).origin at_new (IsAnswered first (deed_in s) a)
    t = h.master (run w events).origin u.master

    on : (v : IsUnderWay w (events ++ map event_of t.steps) at_new stands_old s trees) × ((run w (events ++ map event_of t.steps)).origin ≡ t.now)
    on = stepped_on w events at_old at_new stands_old s trees t.steps t.now u t.comes t.stays

    v : IsUnderWay w (events ++ map event_of t.steps) at_new stands_old s trees
    v = on.0

    sv : Serves stands_new v.mirror 0 (deed_in s) a trees first
    sv = h.mirror v.mirror v.there

    Result : Type 0
    Result = (more : List Event) × IsUnderWay w ((events ++ map event_of t.steps) ++ more) at_new stands_new (after s a) first

    joined : Result → (more : List Event) × IsUnderWay w (events ++ more) at_new stands_new (after s a) first
    joined r = (map event_of t.steps ++ r.0, subst (λ es. IsUnderWay w es at_new stands_new (after s a) first) (append_assoc events (map event_of t.steps) r.0) r.1)

    f : AreFirst first (trees_of sv.now.repository.revisions)
    f = sv.trees v.first

    answered : (d : Deed) → d ≡ deed_in s → IsQuestion d → IsAnswered first d a t.now → mirror_in sv.now ≡ mirror_in v.mirror → Result
    answered (Calls call) e q x is = absurd q
    answered Ends e q x is = absurd q
    answered AsksIdentity e q x is = asked_on laws w (events ++ map event_of t.steps) at_new stands_old stands_new s AsksIdentity a trees first sv.now v e q (subst (λ o. IsAnswerAt o AsksIdentity a) (sym on.1) x) is sv.there f
    answered AsksLatest e q x is = asked_on laws w (events ++ map event_of t.steps) at_new stands_old stands_new s AsksLatest a trees first sv.now v e q (subst (λ o. IsAnswerAt o AsksLatest a) (sym on.1) x) is sv.there f
    answered (FetchesProps n) e q x is = asked_on laws w (events ++ map event_of t.steps) at_new stands_old stands_new s (FetchesProps n) a trees first sv.now v e q (subst (λ o. IsAnswerAt o (FetchesProps n) a) (sym on.1) x) is sv.there f
    answered (Fetches n) e q x is =
        asked_on laws w (events ++ map event_of t.steps) at_new stands_old stands_new s (Fetches n) a trees first sv.now v e q
        (trees_on laws w shaped (events ++ map event_of t.steps) at_new stands_old s trees first n a sv.now t.now starts v on.1 (sym e) is f x)
        is
        sv.there
        f

    refused : (d : Deed) → d ≡ deed_in s → (x : SyncFault) → a ≡ answer.Refused x → IsAnswered first d a t.now → mirror_in sv.now ≡ mirror_in v.mirror → Result
    refused (Calls call) e x same q is =
        (At 0 (Starve 0 call) ∷ [], subst (λ y. IsUnderWay w ((events ++ map event_of t.steps) ++ At 0 (Starve 0 call) ∷ []) at_new stands_new (after s y) first) (sym same) (starved_on laws w (events ++ map event_of t.steps) at_new stands_old stands_new s call x trees first sv.now v (sym e) is sv.there f))
    refused Ends e x same q is = absurd (goes (sym e))
    refused AsksIdentity e x same q is = answered AsksIdentity e tt q is
    refused AsksLatest e x same q is = answered AsksLatest e tt q is
    refused (Fetches n) e x same q is = answered (Fetches n) e tt q is
    refused (FetchesProps n) e x same q is = answered (FetchesProps n) e tt q is

    by : (d : Deed) → d ≡ deed_in s → IsAnswered first d a t.now → IsServed v.mirror 0 d a sv.now → Result
    by d e x (Accepts call c free reply is) =
        (At 0 (Make 0 call) ∷ [], made_on laws w (events ++ map event_of t.steps) at_new stands_old stands_new s call a trees first sv.now v (sym e ∙ c) free reply is sv.there f)
    by d e x (Refuses y same is) = refused d e y same x is
    by d e x (IsAsked q is) = answered d e q x is

-- an accepted call leaves the trees that are there
map-set_tree : (x : List Revision) (n : ℕ) (p : PropMap) → trees_of (with_entry x (Mapped n p)) ≡ trees_of x
map-set_tree [] n p = refl
map-set_tree (r ∷ rs) zero p = refl
map-set_tree (r ∷ rs) (suc n) p = ap (λ ts. r.tree ∷ ts) (map-set_tree rs n p)

pub first_on : (x : List Revision) (e : Option Entry) (trees : List PathMap) → AreFirst trees (trees_of x) → AreFirst trees (trees_of (option_map_or (with_entry x) e x))
first_on x None trees f = f
first_on x (Some (Mapped n p)) trees f = (f.0, f.1 ∙ sym (map-set_tree x n p))
first_on x (Some (Revised n set p)) trees f =
    let r : Revision = record { tree = effect_tree (trees_of x) set; props = p } in
    (f.0 ++ r.tree ∷ [], sym (append_assoc trees f.0 (r.tree ∷ [])) ∙ ap (λ ts. ts ++ r.tree ∷ []) f.1 ∙ sym (map-append (λ y. y.tree) x (r ∷ [])))

pub revisions_in : (r : Repository) (e : Option Entry) → (option_map_or (with_entry_in r) e r).revisions ≡ option_map_or (with_entry r.revisions) e r.revisions
revisions_in r None = refl
revisions_in r (Some e) = refl

-- the mirror with an accepted call
accepted_in : (m : MirrorNow) (seat : ℕ) (call : Call) → mirror_in (mirrors.accepted m seat call) ≡ accepted (mirror_in m) seat call
accepted_in m seat call = ap (λ x. mirror_with x (holder_after m.holder seat call)) (revisions_in m.repository (entry_of m.repository.revisions call))

-- nothing is no list of one
pub no_one : {X A : Type 0} (x : X) (xs : List X) → xs ≡ [] → xs ≡ x ∷ [] → A
no_one x xs e f = absurd (let g : [] ≡ x ∷ [] = sym e ∙ f in cc)

abbrev head_or : {X : Type 0} → X → List X → X
head_or x [] = x
head_or x (y ∷ ys) = y

-- a call that counts is the one that was made
counted_is : (call k : Call) (o : Outcome) → counted_by (Calls call) o ≡ k ∷ [] → call ≡ k
counted_is call k kept.Done e = ap (λ xs. head_or call xs) e
counted_is call k (kept.Refused number text) e = by (number == 31) e
  where
    by : (b : Bool) → (if b then call ∷ [] else []) ≡ k ∷ [] → call ≡ k
    by true e = ap (λ xs. head_or call xs) e
    by false e = no_one k [] refl e
counted_is call k (kept.Seen s) e = no_one k [] refl e
counted_is call k (kept.Identity u) e = no_one k [] refl e
counted_is call k (kept.Latest n) e = no_one k [] refl e
counted_is call k (kept.Revision set props) e = no_one k [] refl e
counted_is call k (kept.Map props) e = no_one k [] refl e
counted_is call k (kept.Failed text) e = no_one k [] refl e

-- a call and its answer
pub serves_call : (stands : MirrorNow → Type 0) (m now : MirrorNow) (seat : ℕ) (call : Call) (result : Result Given SyncFault) (a : Answer) (trees : List PathMap)
    → Steps m seat call result now → stands now → IfOk result (IsFit call) → IsHeard result a → Serves stands m seat (Calls call) a trees trees
serves_call stands m now seat call result a trees steps there fits h = record { now = now; there = there; served = served steps fits h; come = came m now seat call result a steps fits h; free = free steps h; trees = grown steps }
  where
    free : Steps m seat call result now → IsHeard result a → (k : Call) → counted_by (Calls call) (outcome_of a) ≡ k ∷ [] → refusal (mirror_in m) seat k ≡ None
    free (Accepted r e p) h k c = subst (λ x. refusal (mirror_in m) seat x ≡ None) (counted_is call k (outcome_of a) c) p.free
    free (Doubted e p) h k c = subst (λ x. refusal (mirror_in m) seat x ≡ None) (counted_is call k (outcome_of a) c) p.free
    free (Unchanged f e cause is) h k c = no_one k (counted_by (Calls call) (outcome_of a)) (refused_counts call f a (cause_isnt m seat call f cause) (subst (λ x. IsHeard x a) e h)) c

    refused : (f : SyncFault) → IsHeard (Err f) a → (x : SyncFault) × (a ≡ answer.Refused x)
    refused f (inl e) = (f, e)
    refused f (inr (inl e)) = (fault.OutOfMemory, e.0)
    refused f (inr (inr e)) = (fault.Other device.DeviceFailed, e.0)

    looked : (call : Call) → IsLook call → mirror_in (mirrors.accepted m seat call) ≡ mirror_in m
    looked Look l = refl
    looked (Init x y z) l = absurd l
    looked (TakeLock x) l = absurd l
    looked (StealLock x) l = absurd l
    looked ReleaseLock l = absurd l
    looked (SetCopying x) l = absurd l
    looked (Commit x y z) l = absurd l
    looked (PutProps x y) l = absurd l
    looked (SetMerged x) l = absurd l
    looked ClearCopying l = absurd l

    accepts : (r : Given) → mirrors.IsAccepted m seat call r now → IsFit call r → IsHeard (Ok r) a → IsServed m seat (Calls call) a now
    accepts given.Done p fit e = Accepts call refl p.free (subst (λ x. IsAnswerFor x a) p.reply e) (ap mirror_in p.mirror ∙ accepted_in m seat call)
    accepts (given.Seen s) p fit (inl e) = Accepts call refl p.free (subst (λ x. IsAnswerFor x a) p.reply e) (ap mirror_in p.mirror ∙ accepted_in m seat call)
    accepts (given.Seen s) p fit (inr e) = Refuses fault.OutOfMemory e (ap mirror_in p.mirror ∙ looked call fit)

    served : Steps m seat call result now → IfOk result (IsFit call) → IsHeard result a → IsServed m seat (Calls call) a now
    served (Accepted r e p) fits h = accepts r p (subst (λ (x : Result Given SyncFault). IfOk x (IsFit call)) e fits) (subst (λ x. IsHeard x a) e h)
    served (Doubted e p) fits h = let x = refused (fault.Other device.DeviceFailed) (subst (λ x. IsHeard x a) e h) in Refuses x.0 x.1 (ap mirror_in p.mirror)
    served (Unchanged f e c is) fits h = let x = refused f (subst (λ x. IsHeard x a) e h) in Refuses x.0 x.1 (ap mirror_in is)

    grown : Steps m seat call result now → AreFirst trees (trees_of m.repository.revisions) → AreFirst trees (trees_of now.repository.revisions)
    grown (Accepted r e p) f = subst (λ x. AreFirst trees (trees_of x)) (sym (ap (λ k. k.repository.revisions) p.mirror ∙ revisions_in m.repository (entry_of m.repository.revisions call))) (first_on m.repository.revisions (entry_of m.repository.revisions call) trees f)
    grown (Doubted e p) f = subst (λ x. AreFirst trees (trees_of x)) (sym (ap (λ k. k.repository.revisions) p.mirror)) f
    grown (Unchanged g e c is) f = subst (λ x. AreFirst trees (trees_of x)) (sym (ap (λ k. k.repository.revisions) is)) f

-- nothing was asked of the master
pub unasked : {M : Type 0} (is_at : M → Origin → Type 0) (old new : M) (trees : List PathMap) (d : Deed) (a : Answer) → new ≡ old → ((o : Origin) → IsAnswered trees d a o) → IsTrue (is_at old) (is_at new) (IsAnswered trees d a)
unasked is_at old new trees d a e h o there = record { now = o; steps = []; comes = refl; stays = subst (λ m. is_at m o) (sym e) there; answer = h o }

-- a refusal is an answer to all
pub refusal_answers : (trees : List PathMap) (d : Deed) (f : SyncFault) (o : Origin) → IsAnswered trees d (answer.Refused f) o
refusal_answers trees (Calls call) f o = tt
refusal_answers trees AsksIdentity f o = tt
refusal_answers trees AsksLatest f o = tt
refusal_answers trees (Fetches n) f o = λ _. tt
refusal_answers trees (FetchesProps n) f o = tt
refusal_answers trees Ends f o = tt

-- a question's answer as it is heard
heard_answer : (trees : List PathMap) (d : Deed) (b a : Answer) (o : Origin) → IsAnswered trees d b o → (a ≡ b) ⊎ (a ≡ answer.Refused fault.OutOfMemory) → IsAnswered trees d a o
heard_answer trees d b a o h (inl e) = subst (λ x. IsAnswered trees d x o) (sym e) h
heard_answer trees d b a o h (inr e) = subst (λ x. IsAnswered trees d x o) (sym e) (refusal_answers trees d fault.OutOfMemory o)

-- a question was asked
pub asks : {P : Origin → Type 0} (at_old at_new : Origin → Type 0) (trees : List PathMap) (d : Deed) (b a : Answer) → IsTrue at_old at_new P → ((o : Origin) → P o → IsAnswered trees d b o) → (a ≡ b) ⊎ (a ≡ answer.Refused fault.OutOfMemory) → IsTrue at_old at_new (IsAnswered trees d a)
asks at_old at_new trees d b a h answers e o there =
    let t = h o there in
    record { now = t.now; steps = t.steps; comes = t.comes; stays = t.stays; answer = heard_answer trees d b a t.now (answers t.now t.answer) e }

-- a question, or a refusal, leaves the mirror
pub leaves : (stands_old stands_new : MirrorNow → Type 0) (seat : ℕ) (d : Deed) (a : Answer) (before first : List PathMap)
    → ((m : MirrorNow) → IsServed m seat d a m) → accepted_by d (outcome_of a) ≡ [] → counted_by d (outcome_of a) ≡ [] → ((m : MirrorNow) → stands_old m → stands_new m × (AreFirst before (trees_of m.repository.revisions) → AreFirst first (trees_of m.repository.revisions))) → (m : MirrorNow) → stands_old m → Serves stands_new m seat d a before first
leaves stands_old stands_new seat d a before first served none uncounted h m s =
    let x = h m s in
    record { now = m; there = x.0; served = served m; come = come_stays m (accepted_by d (outcome_of a)) (counted_by d (outcome_of a)) none uncounted; free = λ k c. no_one k (counted_by d (outcome_of a)) uncounted c; trees = x.1 }

-- what stands behind those at hand
pub rest_at : {X : Type 0} (front rest : List X) (t : X) → slice_get (front ++ rest) (length front) ≡ Some t → (more : List X) × (rest ≡ t ∷ more)
rest_at [] [] t h = none_isnt t h
rest_at [] (x ∷ xs) t h = (xs, ap (λ y. y ∷ xs) (some_is x t h))
rest_at (y ∷ ys) rest t h = rest_at ys rest t h

tree_there : (x : List Revision) (n : ℕ) → tree_at x n ≡ slice_get (trees_of x) n
tree_there [] n = refl
tree_there (r ∷ rs) zero = refl
tree_there (r ∷ rs) (suc n) = tree_there rs n

pub one_more : (x : List Revision) (trees : List PathMap) (n : ℕ) (t : PathMap) → n ≡ length trees → tree_at x n ≡ Some t → AreFirst trees (trees_of x) → AreFirst (trees ++ t ∷ []) (trees_of x)
one_more x trees n t e h f =
    let r = rest_at trees f.0 t (ap (λ ts. slice_get ts (length trees)) f.1 ∙ sym (tree_there x (length trees)) ∙ ap (λ k. tree_at x k) (sym e) ∙ h) in
    (r.0, append_assoc trees (t ∷ []) r.0 ∙ ap (λ ts. trees ++ ts) (sym r.1) ∙ f.1)

-- a loop's run so far
abbrev pub IsGoing : (Origin → Type 0) → (Origin → Type 0) → (MirrorNow → Type 0) → (MirrorNow → Type 0) → ℕ → ℕ → JobState → JobState → List PathMap → Type 0
IsGoing at_old at_now stands_old stands_now seat_old seat_now begin s trees =
    (seat_now ≡ seat_old)
    × ((order : Order) → Follows (begun order) begin → (w : World) (shaped : ℕ → Bool) (events : List Event) → Starts w shaped → (x : StandsAfter w shaped events at_old stands_old) → x.room.jobs ≡ [] → seat_old ≡ 0
    → (more : List Event) × IsUnderWay w (events ++ more) at_now stands_now s trees)

pub going_begins : (at : Origin → Type 0) (stands : MirrorNow → Type 0) (seat : ℕ) (s : JobState) → IsGoing at at stands stands seat seat s s []
going_begins at stands seat s = (refl, λ order f w shaped events starts x none at_seat. (At 0 (Begin order) ∷ [], begins order s f w shaped events at stands x none))

pub going_on : WorldLaws → (at_old at_mid at_new : Origin → Type 0) (stands_old stands_mid stands_new : MirrorNow → Type 0) (seat_old seat_mid seat_new : ℕ) (begin s u : JobState) (a : Answer) (trees first : List PathMap)
    → u ≡ after s a → deed_in s ≢ Ends → IsGoing at_old at_mid stands_old stands_mid seat_old seat_mid begin s trees → Happens at_mid at_new stands_mid stands_new seat_mid seat_new (deed_in s) a trees first
    → IsGoing at_old at_new stands_old stands_new seat_old seat_new begin u first
going_on laws at_old at_mid at_new stands_old stands_mid stands_new seat_old seat_mid seat_new begin s u a trees first e goes g h = (
  h.seat ∙ g.0,
  λ order f w shaped events starts x none at_seat.
      let r = g.1 order f w shaped events starts x none at_seat in
      let n = goes_on laws w shaped (events ++ r.0) at_mid at_new stands_mid stands_new seat_new s a trees first goes starts r.1 (subst (λ k. Happens at_mid at_new stands_mid stands_new k seat_new (deed_in s) a trees first) (g.0 ∙ at_seat) h) in
      (r.0 ++ n.0, subst (λ k. IsUnderWay w (events ++ (r.0 ++ n.0)) at_new stands_new k first) (sym e) (subst (λ es. IsUnderWay w es at_new stands_new (after s a) first) (append_assoc events r.0 n.0) n.1)),
)

pub gone : WorldLaws → (at_old at_new : Origin → Type 0) (stands_old stands_new : MirrorNow → Type 0) (seat_old seat_new : ℕ) (begin s : JobState) (trees : List PathMap)
    → IsGoing at_old at_new stands_old stands_new seat_old seat_new begin s trees → (order : Order) → Follows (begun order) begin → IsEvents at_old at_new stands_old stands_new seat_old
gone laws at_old at_new stands_old stands_new seat_old seat_new begin s trees g order f w shaped events starts x none at_seat =
    let r = g.1 order f w shaped events starts x none at_seat in (r.0, stands_after laws w shaped (events ++ r.0) at_new stands_new s trees starts r.1)

-- trees of the mirror that are taken one behind the other
abbrev pub KeepsFirst : (MirrorNow → Type 0) → (MirrorNow → Type 0) → List PathMap → List PathMap → Type 0
KeepsFirst stands_old stands_new before first = (m : MirrorNow) → stands_old m → stands_new m × (AreFirst before (trees_of m.repository.revisions) → AreFirst first (trees_of m.repository.revisions))

pub keeps_all : (stands : MirrorNow → Type 0) (trees : List PathMap) → KeepsFirst stands stands trees trees
keeps_all stands trees m s = (s, λ f. f)

pub keeps_on : (stands_old stands_mid stands_new : MirrorNow → Type 0) (before mid first : List PathMap) → KeepsFirst stands_old stands_mid before mid → KeepsFirst stands_mid stands_new mid first → KeepsFirst stands_old stands_new before first
keeps_on stands_old stands_mid stands_new before mid first a b m s = let x = a m s in let y = b m x.0 in (y.0, λ f. y.1 (x.1 f))

-- a call was made, behind which the mirror and the master stay
pub called : {M N : Type 0} (is_at : M → Origin → Type 0) (stands : N → MirrorNow → Type 0) (seat : N → ℕ) (master_old master_new : M) (first old new last : N) (call : Call) (result : Result Given SyncFault) (a : Answer)
    → master_new ≡ master_old → old ≡ first → last ≡ new → seat new ≡ seat old → ((m : MirrorNow) → stands old m → (now : MirrorNow) × (Steps m (seat old) call result now × stands new now)) → IfOk result (IsFit call) → IsHeard result a
    → (trees : List PathMap) → Happens (is_at master_old) (is_at master_new) (stands first) (stands last) (seat first) (seat last) (Calls call) a trees trees
called {M} {N} is_at stands seat master_old master_new first old new last call result a same e f sits moves fits h trees =
    subst (λ (x : N). Happens (is_at master_old) (is_at master_new) (stands x) (stands last) (seat x) (seat last) (Calls call) a trees trees) e
    (subst (λ (x : N). Happens (is_at master_old) (is_at master_new) (stands old) (stands x) (seat old) (seat x) (Calls call) a trees trees) (sym f)
    (record {
      master = unasked is_at master_old master_new trees (Calls call) a same (λ o. tt);
      mirror = λ m s. let x = moves m s in serves_call (stands new) m x.0 (seat old) call result a trees x.1.0 x.1.1 fits h;
      seat = sits;
    }))

-- a call wasn't made
pub uncalled : {M N : Type 0} (is_at : M → Origin → Type 0) (stands : N → MirrorNow → Type 0) (seat : N → ℕ) (master_old master_new : M) (old new : N) (d : Deed) (f : SyncFault)
    → accepted_by d (outcome_of (answer.Refused f)) ≡ [] → counted_by d (outcome_of (answer.Refused f)) ≡ [] → master_new ≡ master_old → new ≡ old
    → (trees : List PathMap) → Happens (is_at master_old) (is_at master_new) (stands old) (stands new) (seat old) (seat new) d (answer.Refused f) trees trees
uncalled {M} {N} is_at stands seat master_old master_new old new d f none uncounted same e trees =
    record {
      master = unasked is_at master_old master_new trees d (answer.Refused f) same (refusal_answers trees d f);
      mirror = λ m s. record { now = m; there = subst (λ (x : N). stands x m) (sym e) s; served = Refuses f refl refl; come = come_stays m (accepted_by d (outcome_of (answer.Refused f))) (counted_by d (outcome_of (answer.Refused f))) none uncounted; free = λ k c. no_one k (counted_by d (outcome_of (answer.Refused f))) uncounted c; trees = λ x. x };
      seat = ap seat e;
    }

-- the same, where the ports have stayed since
pub gone_at : {M N : Type 0} → WorldLaws → (is_at : M → Origin → Type 0) (stands : N → MirrorNow → Type 0) (seat : N → ℕ) (m_old m_mid m_new : M) (n_old n_mid n_new : N) (begin s : JobState) (trees : List PathMap)
    → m_new ≡ m_mid → n_new ≡ n_mid → IsGoing (is_at m_old) (is_at m_mid) (stands n_old) (stands n_mid) (seat n_old) (seat n_mid) begin s trees → (order : Order) → Follows (begun order) begin → IsEvents (is_at m_old) (is_at m_new) (stands n_old) (stands n_new) (seat n_old)
gone_at {M} {N} laws is_at stands seat m_old m_mid m_new n_old n_mid n_new begin s trees e f g order follows =
    subst (λ (m : M). IsEvents (is_at m_old) (is_at m) (stands n_old) (stands n_new) (seat n_old)) (sym e)
    (subst (λ (n : N). IsEvents (is_at m_old) (is_at m_mid) (stands n_old) (stands n) (seat n_old)) (sym f) (gone laws (is_at m_old) (is_at m_mid) (stands n_old) (stands n_mid) (seat n_old) (seat n_mid) begin s trees g order follows))
