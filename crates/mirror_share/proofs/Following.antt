-- A book's revisions are those of a mirror that accepts its calls among any events.
use Rattle.std.proofs.Common.{◌≡◌, ◌≢◌, ℕ, ◌==◌, Bool, true, false, List, [], ◌∷◌, slice_get, slice_set, Option, Some, None, is_some, if◌then◌else◌, refl, sym, ap, ◌∙◌}
use Rattle.std.proofs.lemmas.Bool.{true≢false}
use Rattle.std.specs.Option.{option_map_or}
use Rattle.repo_core.specs.Repository.{Repository, Revision}
use Rattle.repo_core.specs.Entries.{with_entry, with_entry_in}
use Rattle.repo_core.specs.declared.entry.Entry.{Entry}
use Rattle.sync_core.specs.Jobs.{Job, refused_to}
use Rattle.sync_core.specs.Law.{EveryRun, IsRoomOf}
use Rattle.sync_core.specs.Mirror.{Call, Init, TakeLock, StealLock, ReleaseLock, SetCopying, Commit, PutProps, SetMerged, ClearCopying, Look, refusal, entry_of, revisions_by}
use Rattle.sync_core.specs.Replay as core
use Rattle.sync_core.specs.World.{Origin, Room, Happening, Begin, Ask, Make, Starve, Leave, Read, Stop, StopAfter, World, Event, MasterCommit, MasterEdit, At, does, hears, job_at, made, room_after, run, stands, stopped, told, world_after}
use Rattle.sync_core.proofs.Kept.{is_equal, itself}
use Rattle.sync_core.proofs.Lists.{some_is, slice_get-set_there, slice_get-set_elsewhere}
use Rattle.sync_core.proofs.Replays.{calls-join}
use Rattle.sync_job.specs.Fronts.{replayed}
use Rattle.sync_job.specs.Mirrors.{repository_by}
use Rattle.mirror_share.specs.Events.{kept, kept_by, kept_in, kept_at, BooksFollow, CallsMayHappen}

-- a repository's revisions after calls

by_entry : (r : Repository) (e : Option Entry) → (option_map_or (with_entry_in r) e r).revisions ≡ option_map_or (with_entry r.revisions) e r.revisions
by_entry r None = refl
by_entry r (Some e) = refl

revisions_after : (r : Repository) (calls : List Call) → (replayed r calls).revisions ≡ core.replayed r.revisions calls
revisions_after r [] = refl
revisions_after r (c ∷ cs) = revisions_after (repository_by r c) cs ∙ ap (λ x. core.replayed x cs) (by_entry r (entry_of r.revisions c))

by_kept : (x : List Revision) (call : Call) → core.replayed x (kept call) ≡ revisions_by x call
by_kept x (Init url uuid props) = refl
by_kept x (TakeLock token) = refl
by_kept x (StealLock token) = refl
by_kept x ReleaseLock = refl
by_kept x (SetCopying n) = refl
by_kept x (Commit n set props) = refl
by_kept x (PutProps n props) = refl
by_kept x (SetMerged n) = refl
by_kept x ClearCopying = refl
by_kept x Look = refl

-- one happening

asked : (room : Room) (seat : ℕ) (f : Job → Job) (job : Option Job) → (option_map_or (λ j. hears room seat (f j)) job room).mirror.revisions ≡ room.mirror.revisions
asked room seat f None = refl
asked room seat f (Some j) = refl

judged : (room : Room) (seat : ℕ) (call : Call) (job : Job) (b : Bool) → (if b then hears room seat (refused_to job call) else does room seat job call).mirror.revisions ≡ core.replayed room.mirror.revisions (if b then [] else kept call)
judged room seat call job true = refl
judged room seat call job false = sym (by_kept room.mirror.revisions call)

called : (room : Room) (seat : ℕ) (call : Call) (job : Option Job)
    → (option_map_or (made room seat call) job room).mirror.revisions ≡ core.replayed room.mirror.revisions (option_map_or (λ j. if is_some (refusal room.mirror seat call) then [] else kept call) job [])
called room seat call None = refl
called room seat call (Some j) = judged room seat call j (is_some (refusal room.mirror seat call))

stopped_in : (room : Room) (seat : ℕ) (call : Call) (job : Option Job) → (option_map_or (λ j. stopped (stands room seat j call)) job room).mirror.revisions ≡ core.replayed room.mirror.revisions (option_map_or (λ j. kept call) job [])
stopped_in room seat call None = refl
stopped_in room seat call (Some j) = sym (by_kept room.mirror.revisions call)

happened : (o : Origin) (room : Room) (what : Happening) → (room_after o room what).mirror.revisions ≡ core.replayed room.mirror.revisions (kept_by room what)
happened o room (Begin order) = refl
happened o room (Ask seat question) = asked room seat (λ job. told o job question) (job_at room.jobs seat)
happened o room (Make seat call) = called room seat call (job_at room.jobs seat)
happened o room (Starve seat call) = asked room seat (λ job. refused_to job call) (job_at room.jobs seat)
happened o room (Leave seat) = refl
happened o room (Read n) = refl
happened o room Stop = refl
happened o room (StopAfter seat call) = stopped_in room seat call (job_at room.jobs seat)

-- one event, and a list of them

next_of : (w : World) (e : Event) (i : ℕ) (room : Room) → IsRoomOf w i room → (next : Room) × IsRoomOf (world_after w e) i next × (next.mirror.revisions ≡ core.replayed room.mirror.revisions (kept_in i w e))
next_of w (MasterCommit set props) i room at = (room, at, refl)
next_of w (MasterEdit n props) i room at = (room, at, refl)
next_of w (At j what) i room at = by (i == j) refl
  where
    untouched : i ≢ j → (s : Option Room) → slice_get (option_map_or (λ r. slice_set w.rooms j (room_after w.origin r what)) s w.rooms) i ≡ Some room
    untouched other None = at
    untouched other (Some r) = slice_get-set_elsewhere w.rooms j (room_after w.origin r what) i other ∙ at

    by : (b : Bool) → (i == j) ≡ b
        → (next : Room) × IsRoomOf (world_after w (At j what)) i next × (next.mirror.revisions ≡ core.replayed room.mirror.revisions (if b then option_map_or (λ r. kept_by r what) (slice_get w.rooms i) [] else []))
    by true e =
        let same : i ≡ j = is_equal i j e in
        let here : slice_get w.rooms j ≡ Some room = ap (slice_get w.rooms) (sym same) ∙ at in (
          room_after w.origin room what,
          ap (λ s. slice_get (option_map_or (λ r. slice_set w.rooms j (room_after w.origin r what)) s w.rooms) i) here ∙ ap (slice_get (slice_set w.rooms j (room_after w.origin room what))) same ∙ slice_get-set_there w.rooms j room (room_after w.origin room what) here,
          happened w.origin room what ∙ ap (λ s. core.replayed room.mirror.revisions (option_map_or (λ r. kept_by r what) s [])) (sym at),
        )
    by false e = (room, untouched (λ same. true≢false (sym (ap (λ n. n == j) same ∙ itself j) ∙ e)) (slice_get w.rooms j), refl)

follows : (w : World) (events : List Event) (i : ℕ) (first last : Room) → IsRoomOf w i first → IsRoomOf (run w events) i last → last.mirror.revisions ≡ core.replayed first.mirror.revisions (kept_at i w events)
follows w [] i first last a b = ap (λ (r : Room). r.mirror.revisions) (some_is last first (sym b ∙ a))
follows w (e ∷ es) i first last a b =
    let n = next_of w e i first a in
    follows (world_after w e) es i n.0 last n.1 b ∙ ap (λ x. core.replayed x (kept_at i (world_after w e) es)) n.2 ∙ sym (calls-join first.mirror.revisions (kept_in i w e) (kept_at i (world_after w e) es))

pub books-follow : EveryRun → BooksFollow
books-follow law w shaped events starts is_run i first last a b opening calls same are = (
  revisions_after opening calls ∙ ap (λ x. core.replayed x calls) same ∙ ap (core.replayed first.mirror.revisions) are ∙ sym (follows w events i first last a b),
  law w shaped events starts is_run i last b,
)

pub calls-may-happen : CallsMayHappen
calls-may-happen o room seat job call there lawful free = (
  record { job = job; runs = there; lawful = lawful },
  ap (λ j. option_map_or (λ k. if is_some (refusal room.mirror seat call) then [] else kept call) j []) there ∙ ap (λ w. if is_some w then [] else kept call) free,
)
