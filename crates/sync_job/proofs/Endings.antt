-- How runs end well.
use Rattle.std.proofs.Common.{◌≡◌, ◌⊎◌, inl, inr, ℕ, Bool, List, [], ◌++◌, Option, Some, None, Result, refl, sym, ap, subst, ◌∙◌}
use Rattle.std.proofs.lemmas.List.{append-nil}
use Rattle.sync_core.specs.declared.answer.Answer.{Answer}
use Rattle.sync_core.specs.declared.answer.Answer.TheVariants as answer
use Rattle.sync_core.specs.declared.fault.SyncFault.{SyncFault}
use Rattle.sync_core.specs.declared.fault.SyncFault.TheVariants as fault
use Rattle.sync_core.specs.declared.ending.Ending.{Ending}
use Rattle.sync_core.specs.declared.ending.Ending.TheVariants as ending
use Rattle.sync_core.specs.declared.state.JobState.{JobState}
use Rattle.sync_core.specs.declared.state.JobState.TheVariants as state
use Rattle.sync_core.specs.declared.number.Number.TheVariants.{Absent}
use Rattle.sync_core.specs.declared.sync_job.Known.{Known}
use Rattle.sync_core.specs.declared.sync_job.SyncPhase.{SyncPhase}
use Rattle.sync_core.specs.declared.sync_job.SyncPhase.TheVariants as phase
use Rattle.sync_core.specs.declared.copy_job.CopyPhase.{CopyPhase}
use Rattle.sync_core.specs.declared.copy_job.CopyPhase.TheVariants as copying
use Rattle.sync_core.specs.Mirror.{ReleaseLock}
use Rattle.sync_core.specs.Jobs.{Job, Sync, begun}
use Rattle.sync_core.specs.SyncFollows as sync_follows
use Rattle.sync_core.specs.Deeds.{Deed, Calls}
use Rattle.sync_core.specs.States.{deed_in, after, ending_of, Follows, sync_start}
use Rattle.sync_core.specs.SyncTable as sync_table
use Rattle.sync_core.specs.CopyTable as copy_table
use Rattle.sync_job.specs.declared.report.Told.{Told}
use Rattle.sync_job.specs.Said.{Spoken, made, IsRound, Done, Lacking, Treeless}
use Rattle.sync_job.specs.Runs.{no_number, Round, said_by, Goes, Ran, IsReleased, hears_all, IsCopying, EndsSync, IsSyncRun, answer_to}
use Rattle.sync_job.proofs.Rounds.{Laws, carry, silent, run_rightly, IsRightly, EndsRefused}
use Rattle.sync_job.proofs.Releases.{run_lets_go}
use Rattle.sync_job.proofs.Causes.{run_reported, run_from, ended_refused, next_is, looked_is, who_is, cleared_is, copy_looked_is, copy_begin_is, copy_next_is}

-- how a job comes to a good end: it had ended so, or its lock is released
abbrev pub IsFineBy : JobState → Answer → Type 0
IsFineBy s a = (ending_of s ≡ Some ending.Fine) ⊎ ((deed_in s ≡ Calls ReleaseLock) × (a ≡ answer.Done))

pub never : {A : Type 0} → ◌≡◌ {A = Option Ending} None (Some ending.Fine) → A
never h = absurd (cc)

sync_fine : (p : SyncPhase) (k : Known) (a : Answer) → sync_table.ending_of (sync_table.after_in p k a) ≡ Some ending.Fine → (sync_table.ending_in p ≡ Some ending.Fine) ⊎ ((sync_table.deed_in p ≡ Calls ReleaseLock) × (a ≡ answer.Done))
sync_fine (phase.Lock token steal) k answer.Done h = absurd (cc)
sync_fine (phase.Lock token steal) k (answer.Seen x) h = absurd (cc)
sync_fine (phase.Lock token steal) k (answer.Identity x) h = absurd (cc)
sync_fine (phase.Lock token steal) k (answer.Latest x) h = absurd (cc)
sync_fine (phase.Lock token steal) k (answer.Revision x y) h = absurd (cc)
sync_fine (phase.Lock token steal) k (answer.Map x) h = absurd (cc)
sync_fine (phase.Lock token steal) k (answer.Refused x) h = absurd (cc)
sync_fine (phase.Lock token steal) k (answer.Failed x) h = absurd (cc)
sync_fine phase.Look k answer.Done h = absurd (cc)
sync_fine phase.Look k (answer.Seen x) h = absurd (looked_is x (λ p. sync_table.ending_in p ≡ Some ending.Fine → ⊥) (λ s x. never x) (λ y t x. never x) (sync_table.seen k x) h)
sync_fine phase.Look k (answer.Identity x) h = absurd (cc)
sync_fine phase.Look k (answer.Latest x) h = absurd (cc)
sync_fine phase.Look k (answer.Revision x y) h = absurd (cc)
sync_fine phase.Look k (answer.Map x) h = absurd (cc)
sync_fine phase.Look k (answer.Refused x) h = absurd (cc)
sync_fine phase.Look k (answer.Failed x) h = absurd (cc)
sync_fine (phase.Who shape uuid) k answer.Done h = absurd (cc)
sync_fine (phase.Who shape uuid) k (answer.Seen x) h = absurd (cc)
sync_fine (phase.Who shape uuid) k (answer.Identity x) h = absurd (who_is uuid x (λ p. sync_table.ending_in p ≡ Some ending.Fine → ⊥) (λ x. never x) (λ n x. never x) (λ x. never x) (λ o x. never x) k shape h)
sync_fine (phase.Who shape uuid) k (answer.Latest x) h = absurd (cc)
sync_fine (phase.Who shape uuid) k (answer.Revision x y) h = absurd (cc)
sync_fine (phase.Who shape uuid) k (answer.Map x) h = absurd (cc)
sync_fine (phase.Who shape uuid) k (answer.Refused x) h = absurd (cc)
sync_fine (phase.Who shape uuid) k (answer.Failed x) h = absurd (cc)
sync_fine phase.Latest k answer.Done h = absurd (cc)
sync_fine phase.Latest k (answer.Seen x) h = absurd (cc)
sync_fine phase.Latest k (answer.Identity x) h = absurd (cc)
sync_fine phase.Latest k (answer.Latest x) h = absurd (next_is (λ p. sync_table.ending_in p ≡ Some ending.Fine → ⊥) (λ n x. never x) (λ x. never x) (λ n x. never x) (λ y t x. never x) (record k { latest = Some x }) x h)
sync_fine phase.Latest k (answer.Revision x y) h = absurd (cc)
sync_fine phase.Latest k (answer.Map x) h = absurd (cc)
sync_fine phase.Latest k (answer.Refused x) h = absurd (cc)
sync_fine phase.Latest k (answer.Failed x) h = absurd (cc)
sync_fine (phase.SetCopying n) k answer.Done h = absurd (cc)
sync_fine (phase.SetCopying n) k (answer.Seen x) h = absurd (cc)
sync_fine (phase.SetCopying n) k (answer.Identity x) h = absurd (cc)
sync_fine (phase.SetCopying n) k (answer.Latest x) h = absurd (cc)
sync_fine (phase.SetCopying n) k (answer.Revision x y) h = absurd (cc)
sync_fine (phase.SetCopying n) k (answer.Map x) h = absurd (cc)
sync_fine (phase.SetCopying n) k (answer.Refused x) h = absurd (cc)
sync_fine (phase.SetCopying n) k (answer.Failed x) h = absurd (cc)
sync_fine (phase.Fetch n) k answer.Done h = absurd (cc)
sync_fine (phase.Fetch n) k (answer.Seen x) h = absurd (cc)
sync_fine (phase.Fetch n) k (answer.Identity x) h = absurd (cc)
sync_fine (phase.Fetch n) k (answer.Latest x) h = absurd (cc)
sync_fine (phase.Fetch n) k (answer.Revision x y) h = absurd (cc)
sync_fine (phase.Fetch n) k (answer.Map x) h = absurd (cc)
sync_fine (phase.Fetch n) k (answer.Refused x) h = absurd (cc)
sync_fine (phase.Fetch n) k (answer.Failed x) h = absurd (cc)
sync_fine (phase.Commit n set props) k answer.Done h = absurd (cc)
sync_fine (phase.Commit n set props) k (answer.Seen x) h = absurd (cc)
sync_fine (phase.Commit n set props) k (answer.Identity x) h = absurd (cc)
sync_fine (phase.Commit n set props) k (answer.Latest x) h = absurd (cc)
sync_fine (phase.Commit n set props) k (answer.Revision x y) h = absurd (cc)
sync_fine (phase.Commit n set props) k (answer.Map x) h = absurd (cc)
sync_fine (phase.Commit n set props) k (answer.Refused x) h = absurd (cc)
sync_fine (phase.Commit n set props) k (answer.Failed x) h = absurd (cc)
sync_fine (phase.FetchProps n) k answer.Done h = absurd (cc)
sync_fine (phase.FetchProps n) k (answer.Seen x) h = absurd (cc)
sync_fine (phase.FetchProps n) k (answer.Identity x) h = absurd (cc)
sync_fine (phase.FetchProps n) k (answer.Latest x) h = absurd (cc)
sync_fine (phase.FetchProps n) k (answer.Revision x y) h = absurd (cc)
sync_fine (phase.FetchProps n) k (answer.Map x) h = absurd (cc)
sync_fine (phase.FetchProps n) k (answer.Refused x) h = absurd (cc)
sync_fine (phase.FetchProps n) k (answer.Failed x) h = absurd (cc)
sync_fine (phase.Put n props) k answer.Done h = absurd (cc)
sync_fine (phase.Put n props) k (answer.Seen x) h = absurd (cc)
sync_fine (phase.Put n props) k (answer.Identity x) h = absurd (cc)
sync_fine (phase.Put n props) k (answer.Latest x) h = absurd (cc)
sync_fine (phase.Put n props) k (answer.Revision x y) h = absurd (cc)
sync_fine (phase.Put n props) k (answer.Map x) h = absurd (cc)
sync_fine (phase.Put n props) k (answer.Refused x) h = absurd (cc)
sync_fine (phase.Put n props) k (answer.Failed x) h = absurd (cc)
sync_fine (phase.Merge n) k answer.Done h = absurd (cc)
sync_fine (phase.Merge n) k (answer.Seen x) h = absurd (cc)
sync_fine (phase.Merge n) k (answer.Identity x) h = absurd (cc)
sync_fine (phase.Merge n) k (answer.Latest x) h = absurd (cc)
sync_fine (phase.Merge n) k (answer.Revision x y) h = absurd (cc)
sync_fine (phase.Merge n) k (answer.Map x) h = absurd (cc)
sync_fine (phase.Merge n) k (answer.Refused x) h = absurd (cc)
sync_fine (phase.Merge n) k (answer.Failed x) h = absurd (cc)
sync_fine phase.Clear k answer.Done h = absurd (cleared_is (λ p. sync_table.ending_in p ≡ Some ending.Fine → ⊥) (λ x. never x) (next_is (λ p. sync_table.ending_in p ≡ Some ending.Fine → ⊥) (λ n x. never x) (λ x. never x) (λ n x. never x) (λ y t x. never x)) (record k { copying = Absent }) h)
sync_fine phase.Clear k (answer.Seen x) h = absurd (cc)
sync_fine phase.Clear k (answer.Identity x) h = absurd (cc)
sync_fine phase.Clear k (answer.Latest x) h = absurd (cc)
sync_fine phase.Clear k (answer.Revision x y) h = absurd (cc)
sync_fine phase.Clear k (answer.Map x) h = absurd (cc)
sync_fine phase.Clear k (answer.Refused x) h = absurd (cc)
sync_fine phase.Clear k (answer.Failed x) h = absurd (cc)
sync_fine (phase.Release ending.Fine) k answer.Done h = inr (refl, refl)
sync_fine (phase.Release ending.Fine) k (answer.Seen x) h = absurd (cc)
sync_fine (phase.Release ending.Fine) k (answer.Identity x) h = absurd (cc)
sync_fine (phase.Release ending.Fine) k (answer.Latest x) h = absurd (cc)
sync_fine (phase.Release ending.Fine) k (answer.Revision x y) h = absurd (cc)
sync_fine (phase.Release ending.Fine) k (answer.Map x) h = absurd (cc)
sync_fine (phase.Release ending.Fine) k (answer.Refused x) h = absurd (cc)
sync_fine (phase.Release ending.Fine) k (answer.Failed x) h = absurd (cc)
sync_fine (phase.Release (ending.Refused y)) k a h = absurd (cc)
sync_fine (phase.End e) k a h = inl h

copy_fine : (token : List ℕ) (p : CopyPhase) (low high : ℕ) (a : Answer) → copy_table.ending_in (copy_table.after_in p low high a) ≡ Some ending.Fine → (copy_table.ending_in p ≡ Some ending.Fine) ⊎ ((copy_table.deed_in token p ≡ Calls ReleaseLock) × (a ≡ answer.Done))
copy_fine token copying.Lock low high answer.Done h = absurd (cc)
copy_fine token copying.Lock low high (answer.Seen x) h = absurd (cc)
copy_fine token copying.Lock low high (answer.Identity x) h = absurd (cc)
copy_fine token copying.Lock low high (answer.Latest x) h = absurd (cc)
copy_fine token copying.Lock low high (answer.Revision x y) h = absurd (cc)
copy_fine token copying.Lock low high (answer.Map x) h = absurd (cc)
copy_fine token copying.Lock low high (answer.Refused x) h = absurd (cc)
copy_fine token copying.Lock low high (answer.Failed x) h = absurd (cc)
copy_fine token copying.Look low high answer.Done h = absurd (cc)
copy_fine token copying.Look low high (answer.Seen x) h = absurd (copy_looked_is x (λ p. copy_table.ending_in p ≡ Some ending.Fine → ⊥) (λ x. never x) (λ y t x. never x) h)
copy_fine token copying.Look low high (answer.Identity x) h = absurd (cc)
copy_fine token copying.Look low high (answer.Latest x) h = absurd (cc)
copy_fine token copying.Look low high (answer.Revision x y) h = absurd (cc)
copy_fine token copying.Look low high (answer.Map x) h = absurd (cc)
copy_fine token copying.Look low high (answer.Refused x) h = absurd (cc)
copy_fine token copying.Look low high (answer.Failed x) h = absurd (cc)
copy_fine token (copying.Who m uuid) low high answer.Done h = absurd (cc)
copy_fine token (copying.Who m uuid) low high (answer.Seen x) h = absurd (cc)
copy_fine token (copying.Who m uuid) low high (answer.Identity x) h = absurd (copy_begin_is m uuid x (λ p. copy_table.ending_in p ≡ Some ending.Fine → ⊥) low high (λ e x. never x) (λ e x. never x) (λ o x. never x) (λ o x. never x) h)
copy_fine token (copying.Who m uuid) low high (answer.Latest x) h = absurd (cc)
copy_fine token (copying.Who m uuid) low high (answer.Revision x y) h = absurd (cc)
copy_fine token (copying.Who m uuid) low high (answer.Map x) h = absurd (cc)
copy_fine token (copying.Who m uuid) low high (answer.Refused x) h = absurd (cc)
copy_fine token (copying.Who m uuid) low high (answer.Failed x) h = absurd (cc)
copy_fine token (copying.FetchProps n) low high answer.Done h = absurd (cc)
copy_fine token (copying.FetchProps n) low high (answer.Seen x) h = absurd (cc)
copy_fine token (copying.FetchProps n) low high (answer.Identity x) h = absurd (cc)
copy_fine token (copying.FetchProps n) low high (answer.Latest x) h = absurd (cc)
copy_fine token (copying.FetchProps n) low high (answer.Revision x y) h = absurd (cc)
copy_fine token (copying.FetchProps n) low high (answer.Map x) h = absurd (cc)
copy_fine token (copying.FetchProps n) low high (answer.Refused x) h = absurd (cc)
copy_fine token (copying.FetchProps n) low high (answer.Failed x) h = absurd (cc)
copy_fine token (copying.Put n props) low high answer.Done h = absurd (copy_next_is (λ p. copy_table.ending_in p ≡ Some ending.Fine → ⊥) high n (λ e x. never x) (λ e x. never x) h)
copy_fine token (copying.Put n props) low high (answer.Seen x) h = absurd (cc)
copy_fine token (copying.Put n props) low high (answer.Identity x) h = absurd (cc)
copy_fine token (copying.Put n props) low high (answer.Latest x) h = absurd (cc)
copy_fine token (copying.Put n props) low high (answer.Revision x y) h = absurd (cc)
copy_fine token (copying.Put n props) low high (answer.Map x) h = absurd (cc)
copy_fine token (copying.Put n props) low high (answer.Refused x) h = absurd (cc)
copy_fine token (copying.Put n props) low high (answer.Failed x) h = absurd (cc)
copy_fine token (copying.Release ending.Fine) low high answer.Done h = inr (refl, refl)
copy_fine token (copying.Release ending.Fine) low high (answer.Seen x) h = absurd (cc)
copy_fine token (copying.Release ending.Fine) low high (answer.Identity x) h = absurd (cc)
copy_fine token (copying.Release ending.Fine) low high (answer.Latest x) h = absurd (cc)
copy_fine token (copying.Release ending.Fine) low high (answer.Revision x y) h = absurd (cc)
copy_fine token (copying.Release ending.Fine) low high (answer.Map x) h = absurd (cc)
copy_fine token (copying.Release ending.Fine) low high (answer.Refused x) h = absurd (cc)
copy_fine token (copying.Release ending.Fine) low high (answer.Failed x) h = absurd (cc)
copy_fine token (copying.Release (ending.Refused y)) low high a h = absurd (cc)
copy_fine token (copying.End e) low high a h = inl h

-- a job with a lock
abbrev pub HasLock : JobState → Type 0
HasLock (state.Init s) = ⊥
HasLock (state.Sync s) = Unit {0}
HasLock (state.Copy s) = Unit {0}

lock_after : (s : JobState) (a : Answer) → HasLock s → HasLock (after s a)
lock_after (state.Init s) a h = h
lock_after (state.Sync s) a h = tt
lock_after (state.Copy s) a h = tt

fine_by : (s : JobState) (a : Answer) → HasLock s → ending_of (after s a) ≡ Some ending.Fine → IsFineBy s a
fine_by (state.Init s) a l h = absurd l
fine_by (state.Sync s) a l h = sync_fine s.phase s.known a h
fine_by (state.Copy s) a l h = copy_fine s.token s.phase s.low s.high a h

-- its good end is that the lock is released
pub record EndsReleased (s : JobState) (es : List Spoken) : Type 0 where
  pub lock : HasLock s
  pub released : ending_of s ≡ Some ending.Fine → IsReleased es

no_done : (f : SyncFault) → answer.Refused f ≡ answer.Done → ⊥
no_done f h = cc

released_made : (d : Deed) (a : Answer) (es more : List Spoken) → d ≡ Calls ReleaseLock → a ≡ answer.Done → more ≡ made d a → IsReleased (es ++ more)
released_made d a es more e f m = record { before = es; last = ap (λ xs. es ++ xs) (m ∙ ap (λ x. made x a) e ∙ ap (λ x. made (Calls ReleaseLock) x) f) }

released_on : Laws → (s : JobState) (es : List Spoken) (a : Answer) (more : List Spoken) → EndsReleased s es → IsRound (deed_in s) a more → EndsReleased (after s a) (es ++ more)
released_on laws s es a more p r = record { lock = lock_after s a p.lock; released = λ h. by (fine_by s a p.lock h) r }
  where
    by : IsFineBy s a → IsRound (deed_in s) a more → IsReleased (es ++ more)
    by (inl h) r = subst (λ xs. IsReleased xs) (sym (append-nil es) ∙ ap (λ xs. es ++ xs) (sym (silent laws s ending.Fine a more h r))) (p.released h)
    by (inr h) (Done fits m) = released_made (deed_in s) a es more h.0 h.1 m
    by (inr h) (Lacking e m due) = absurd (no_done fault.OutOfMemory (sym e ∙ h.1))
    by (inr h) (Treeless of n f d e m) = absurd (no_done f (sym e ∙ h.1))

pub run_released : Laws → (s t : JobState) (rs : List Round) → Goes s rs t → HasLock s → ending_of s ≡ None → EndsReleased t (said_by rs)
run_released laws s t rs g l n = carry EndsReleased (released_on laws) s t rs [] g (record { lock = l; released = λ h. never (sym n ∙ h) })

-- a sync job stays one
abbrev pub IsSyncState : JobState → Type 0
IsSyncState (state.Init s) = ⊥
IsSyncState (state.Sync s) = Unit {0}
IsSyncState (state.Copy s) = ⊥

stays_sync : (s : JobState) (a : Answer) → IsSyncState s → IsSyncState (after s a)
stays_sync (state.Init s) a h = h
stays_sync (state.Sync s) a h = tt
stays_sync (state.Copy s) a h = h

pub some_fine : (e : Ending) → ◌≡◌ {A = Option Ending} (Some e) (Some ending.Fine) → e ≡ ending.Fine
some_fine e h = cc

synced : (t : JobState) (job : Job) → IsSyncState t → ending_of t ≡ Some ending.Fine → Follows job t → sync_follows.IsSynced job
synced (state.Init s) job i h f = absurd i
synced (state.Sync s) job i h f = by s.phase h f
  where
    by : (p : SyncPhase) → sync_table.ending_in p ≡ Some ending.Fine → sync_follows.FollowsIn p job s.known → sync_follows.IsSynced job
    by (phase.End e) h f = subst (λ x. sync_follows.EndsFrom x job) (some_fine e h) f
    by (phase.Lock token steal) h f = never h
    by phase.Look h f = never h
    by (phase.Who shape uuid) h f = never h
    by phase.Latest h f = never h
    by (phase.SetCopying n) h f = never h
    by (phase.Fetch n) h f = never h
    by (phase.Commit n set props) h f = never h
    by (phase.FetchProps n) h f = never h
    by (phase.Put n props) h f = never h
    by (phase.Merge n) h f = never h
    by phase.Clear h f = never h
    by (phase.Release e) h f = never h
synced (state.Copy s) job i h f = absurd i

fine_refused : (f : SyncFault) → ◌≡◌ {A = Option Ending} (Some ending.Fine) (Some (ending.Refused f)) → ⊥
fine_refused f h = cc

pub follows_fine : (s : JobState) (job : Job) → ending_of s ≡ Some ending.Fine → Follows job s ⊎ EndsRefused s → Follows job s
follows_fine s job h (inl f) = f
follows_fine s job h (inr r) = absurd (fine_refused r.0 (sym h ∙ r.1))

pub same_fault : (f g : SyncFault) → ending.Refused f ≡ ending.Refused g → f ≡ g
same_fault f g h = cc

-- a sync run
pub sync_run : {B : Type 0} → Laws → (token : List ℕ) (steal : Bool) (s : JobState) (old new : List Spoken) (heard_old heard_new : B → List Told → Type 0) (e : Ending) (x : Result (Unit {0}) SyncFault)
    → s ≡ sync_start token steal → Follows (begun (Sync token steal)) s → Ran s old new heard_old heard_new e → x ≡ answer_to e → IsSyncRun token steal old new heard_old heard_new x
sync_run laws token steal s old new ho hn e x start f ran same =
    record {
      more = said_by ran.going.rounds;
      adds = ran.going.adds;
      right = rightly.right;
      reported = run_reported s ran.last ran.going.rounds ran.going.goes;
      tells = ran.going.tells;
      let_go = run_lets_go (begun (Sync token steal)) (sync_start token steal) ran.last ran.going.rounds e refl goes ran.ended;
      end = subst (λ y. EndsSync (Sync token steal) y (said_by ran.going.rounds)) (sym same) (ends e ran.ended);
    }
  where
    goes : Goes (sync_start token steal) ran.going.rounds ran.last
    goes = subst (λ y. Goes y ran.going.rounds ran.last) start ran.going.goes

    rightly : IsRightly IsCopying (begun (Sync token steal)) ran.last (said_by ran.going.rounds)
    rightly = run_rightly laws IsCopying (begun (Sync token steal)) (sync_start token steal) ran.last ran.going.rounds (λ job n h. h) (subst (λ y. Follows (begun (Sync token steal)) y) start f) goes

    released : EndsReleased ran.last (said_by ran.going.rounds)
    released = run_released laws (sync_start token steal) ran.last ran.going.rounds goes tt refl

    is_sync : IsSyncState ran.last
    is_sync = carry (λ y es. IsSyncState y) (λ y es a more p r. stays_sync y a p) (sync_start token steal) ran.last ran.going.rounds [] goes tt

    ends : (e : Ending) → ending_of ran.last ≡ Some e → EndsSync (Sync token steal) (answer_to e) (said_by ran.going.rounds)
    ends ending.Fine h = record { all = synced ran.last (hears_all (begun (Sync token steal)) (said_by ran.going.rounds)) is_sync h (follows_fine ran.last (hears_all (begun (Sync token steal)) (said_by ran.going.rounds)) h rightly.follows); released = released.released h }
    ends (ending.Refused g) h = run_from laws IsCopying no_number (begun (Sync token steal)) (sync_start token steal) ran.last ran.going.rounds goes (record { rightly = record { right = tt; numbers = λ job n h. h; follows = inl (subst (λ y. Follows (begun (Sync token steal)) y) start f) }; from = record { refusals = λ y z. absurd z; who = λ y z. absurd z; merged = λ y z. absurd z; highest = λ n z. absurd z } }) g (ended_refused ran.last g h)
