-- A book's calls among the events of a mirror.
use Rattle.std.specs.Prelude.{◌≡◌, ℕ, ◌==◌, Bool, List, [], ◌∷◌, ◌++◌, slice_get, Some, None, is_some, if◌then◌else◌}
use Rattle.std.specs.Option.{option_map_or}
use Rattle.repo_core.specs.Repository.{Repository}
use Rattle.sync_core.specs.Jobs.{Job, Lawful}
use Rattle.sync_core.specs.Law.{Holds, IsRoomOf, Starts}
use Rattle.sync_core.specs.Mirror.{Call, Look, refusal}
use Rattle.sync_core.specs.World.{Origin, Room, Happening, Make, StopAfter, World, Event, MasterCommit, MasterEdit, At, IsRun, MayHappen, job_at, run, world_after}
use Rattle.sync_job.specs.Fronts.{replayed}

-- a look isn't kept
abbrev pub kept : Call → List Call
kept Look = []
kept call = call ∷ []

-- the call that a mirror accepts in a happening
abbrev pub kept_by : Room → Happening → List Call
kept_by room (Make seat call) = option_map_or (λ job. if is_some (refusal room.mirror seat call) then [] else kept call) (job_at room.jobs seat) []
kept_by room (StopAfter seat call) = option_map_or (λ job. kept call) (job_at room.jobs seat) []
kept_by room _ = []

-- those that the mirror of a number accepts in an event, and in a list of them
abbrev pub kept_in : ℕ → World → Event → List Call
kept_in i w (MasterCommit set props) = []
kept_in i w (MasterEdit n props) = []
kept_in i w (At j what) = if i == j then option_map_or (λ room. kept_by room what) (slice_get w.rooms i) [] else []

abbrev pub kept_at : ℕ → World → List Event → List Call
kept_at i w [] = []
kept_at i w (e ∷ es) = kept_in i w e ++ kept_at i (world_after w e) es

-- a book that was opened as a mirror stands, and keeps the calls that the mirror accepts in a list of events, has the mirror's
-- revisions behind them; so what holds of every mirror behind every list holds of the book
abbrev pub BooksFollow : Type 0
BooksFollow =
    (w : World) (shaped : ℕ → Bool) (events : List Event) → Starts w shaped → IsRun w events → (i : ℕ) (first last : Room) → IsRoomOf w i first → IsRoomOf (run w events) i last
    → (opening : Repository) (calls : List Call) → opening.revisions ≡ first.mirror.revisions → calls ≡ kept_at i w events → ((replayed opening calls).revisions ≡ last.mirror.revisions) × Holds (run w events).origin (shaped i) last

-- and an acceptable call is such an event, where it is lawful of a job
abbrev pub CallsMayHappen : Type 0
CallsMayHappen =
    (o : Origin) (room : Room) (seat : ℕ) (job : Job) (call : Call) → job_at room.jobs seat ≡ Some job → Lawful job call → refusal room.mirror seat call ≡ None
    → MayHappen o room (Make seat call) × (kept_by room (Make seat call) ≡ kept call)
