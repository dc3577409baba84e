-- A lock that was answered is given back before a run ends.
use Rattle.std.proofs.Common.{◌≡◌, ◌≢◌, ℕ, true, false, List, [], ◌∷◌, ◌++◌, Option, Some, None, refl, sym, subst}
use Rattle.sync_core.specs.declared.answer.Answer.{Answer}
use Rattle.sync_core.specs.declared.answer.Answer.TheVariants as answer
use Rattle.sync_core.specs.declared.fault.SyncFault.{SyncFault}
use Rattle.sync_core.specs.declared.fault.SyncFault.TheVariants as fault
use Rattle.sync_core.specs.declared.ending.Ending.{Ending}
use Rattle.sync_core.specs.declared.state.JobState.{JobState}
use Rattle.sync_core.specs.declared.state.JobState.TheVariants as state
use Rattle.sync_core.specs.declared.init_job.InitPhase.{InitPhase}
use Rattle.sync_core.specs.declared.init_job.InitPhase.TheVariants as initial
use Rattle.sync_core.specs.declared.number.Number.TheVariants.{Absent}
use Rattle.sync_core.specs.declared.sync_job.Known.{Known}
use Rattle.sync_core.specs.declared.sync_job.SyncPhase.{SyncPhase}
use Rattle.sync_core.specs.declared.sync_job.SyncPhase.TheVariants as phase
use Rattle.sync_core.specs.declared.copy_job.CopyPhase.{CopyPhase}
use Rattle.sync_core.specs.declared.copy_job.CopyPhase.TheVariants as copying
use Rattle.sync_core.specs.Mirror.{ReleaseLock, Look}
use Rattle.sync_core.specs.Jobs.{Job, Stage, Begun, Locked, Over}
use Rattle.sync_core.specs.Deeds.{Deed, Calls, AsksIdentity, Fetches, heard}
use Rattle.sync_core.specs.States.{deed_in, after, ending_of}
use Rattle.sync_core.specs.InitTable as init_table
use Rattle.sync_core.specs.SyncTable as sync_table
use Rattle.sync_core.specs.CopyTable as copy_table
use Rattle.sync_job.specs.Kept.{refused_as}
use Rattle.sync_job.specs.Said.{Spoken, NoTree, Fits, IsRound, Done, Lacking, Treeless}
use Rattle.sync_job.specs.Runs.{Round, said_by, Goes, hears_all}
use Rattle.sync_job.proofs.Rounds.{carry, hears_append, heard_round}
use Rattle.sync_job.proofs.Causes.{next_is, looked_is, who_is, cleared_is, copy_looked_is, copy_begin_is, copy_next_is}

-- what is known of a job's lock in a phase: none was asked for yet, or the job has ended and has none; in between it may have it
abbrev pub SyncLets : SyncPhase → Job → Type 0
SyncLets (phase.Lock token steal) job = job.stage ≡ Begun
SyncLets (phase.End e) job = job.stage ≢ Locked
SyncLets phase.Look job = Unit {0}
SyncLets (phase.Who shape uuid) job = Unit {0}
SyncLets phase.Latest job = Unit {0}
SyncLets (phase.SetCopying n) job = Unit {0}
SyncLets (phase.Fetch n) job = Unit {0}
SyncLets (phase.Commit n set props) job = Unit {0}
SyncLets (phase.FetchProps n) job = Unit {0}
SyncLets (phase.Put n props) job = Unit {0}
SyncLets (phase.Merge n) job = Unit {0}
SyncLets phase.Clear job = Unit {0}
SyncLets (phase.Release e) job = Unit {0}

abbrev pub CopyLets : CopyPhase → Job → Type 0
CopyLets copying.Lock job = job.stage ≡ Begun
CopyLets (copying.End e) job = job.stage ≢ Locked
CopyLets copying.Look job = Unit {0}
CopyLets (copying.Who m uuid) job = Unit {0}
CopyLets (copying.FetchProps n) job = Unit {0}
CopyLets (copying.Put n props) job = Unit {0}
CopyLets (copying.Release e) job = Unit {0}

abbrev pub Lets : JobState → Job → Type 0
Lets (state.Init s) job = job.stage ≢ Locked
Lets (state.Sync s) job = SyncLets s.phase job
Lets (state.Copy s) job = CopyLets s.phase job

over : {s : Stage} → s ≡ Over → s ≢ Locked
over h x = cc

pub begun_unlocked : {s : Stage} → s ≡ Begun → s ≢ Locked
begun_unlocked h x = cc

-- a deed that is done leads on so
sync_done : (p : SyncPhase) (k : Known) (j : Job) (a : Answer) → SyncLets p j → Fits (sync_table.deed_in p) a → SyncLets (sync_table.after_in p k a).phase (heard j 0 (sync_table.deed_in p) a)
sync_done (phase.Lock token true) k j answer.Done h f = tt
sync_done (phase.Lock token true) k j (answer.Seen x) h f = absurd f
sync_done (phase.Lock token true) k j (answer.Identity x) h f = absurd f
sync_done (phase.Lock token true) k j (answer.Latest x) h f = absurd f
sync_done (phase.Lock token true) k j (answer.Revision x y) h f = absurd f
sync_done (phase.Lock token true) k j (answer.Map x) h f = absurd f
sync_done (phase.Lock token true) k j (answer.Refused x) h f = over refl
sync_done (phase.Lock token true) k j (answer.Failed x) h f = absurd f
sync_done (phase.Lock token false) k j answer.Done h f = tt
sync_done (phase.Lock token false) k j (answer.Seen x) h f = absurd f
sync_done (phase.Lock token false) k j (answer.Identity x) h f = absurd f
sync_done (phase.Lock token false) k j (answer.Latest x) h f = absurd f
sync_done (phase.Lock token false) k j (answer.Revision x y) h f = absurd f
sync_done (phase.Lock token false) k j (answer.Map x) h f = absurd f
sync_done (phase.Lock token false) k j (answer.Refused x) h f = over refl
sync_done (phase.Lock token false) k j (answer.Failed x) h f = absurd f
sync_done phase.Look k j answer.Done h f = tt
sync_done phase.Look k j (answer.Seen x) h f = looked_is x (λ p. SyncLets p (heard j 0 (Calls Look) (answer.Seen x))) (λ s. tt) (λ y t. tt) (sync_table.seen k x)
sync_done phase.Look k j (answer.Identity x) h f = tt
sync_done phase.Look k j (answer.Latest x) h f = tt
sync_done phase.Look k j (answer.Revision x y) h f = tt
sync_done phase.Look k j (answer.Map x) h f = tt
sync_done phase.Look k j (answer.Refused x) h f = tt
sync_done phase.Look k j (answer.Failed x) h f = tt
sync_done (phase.Who shape uuid) k j answer.Done h f = tt
sync_done (phase.Who shape uuid) k j (answer.Seen x) h f = tt
sync_done (phase.Who shape uuid) k j (answer.Identity x) h f = who_is uuid x (λ p. SyncLets p (heard j 0 AsksIdentity (answer.Identity x))) tt (λ n. tt) tt (λ o. tt) k shape
sync_done (phase.Who shape uuid) k j (answer.Latest x) h f = tt
sync_done (phase.Who shape uuid) k j (answer.Revision x y) h f = tt
sync_done (phase.Who shape uuid) k j (answer.Map x) h f = tt
sync_done (phase.Who shape uuid) k j (answer.Refused x) h f = tt
sync_done (phase.Who shape uuid) k j (answer.Failed x) h f = tt
sync_done phase.Latest k j answer.Done h f = tt
sync_done phase.Latest k j (answer.Seen x) h f = tt
sync_done phase.Latest k j (answer.Identity x) h f = tt
sync_done phase.Latest k j (answer.Latest x) h f = next_is (λ p. SyncLets p (heard j 0 (sync_table.deed_in phase.Latest) (answer.Latest x))) (λ n. tt) tt (λ n. tt) (λ y t. tt) (record k { latest = Some x }) x
sync_done phase.Latest k j (answer.Revision x y) h f = tt
sync_done phase.Latest k j (answer.Map x) h f = tt
sync_done phase.Latest k j (answer.Refused x) h f = tt
sync_done phase.Latest k j (answer.Failed x) h f = tt
sync_done (phase.SetCopying n) k j answer.Done h f = tt
sync_done (phase.SetCopying n) k j (answer.Seen x) h f = tt
sync_done (phase.SetCopying n) k j (answer.Identity x) h f = tt
sync_done (phase.SetCopying n) k j (answer.Latest x) h f = tt
sync_done (phase.SetCopying n) k j (answer.Revision x y) h f = tt
sync_done (phase.SetCopying n) k j (answer.Map x) h f = tt
sync_done (phase.SetCopying n) k j (answer.Refused x) h f = tt
sync_done (phase.SetCopying n) k j (answer.Failed x) h f = tt
sync_done (phase.Fetch n) k j answer.Done h f = tt
sync_done (phase.Fetch n) k j (answer.Seen x) h f = tt
sync_done (phase.Fetch n) k j (answer.Identity x) h f = tt
sync_done (phase.Fetch n) k j (answer.Latest x) h f = tt
sync_done (phase.Fetch n) k j (answer.Revision x y) h f = tt
sync_done (phase.Fetch n) k j (answer.Map x) h f = tt
sync_done (phase.Fetch n) k j (answer.Refused x) h f = tt
sync_done (phase.Fetch n) k j (answer.Failed x) h f = tt
sync_done (phase.Commit n set props) k j answer.Done h f = tt
sync_done (phase.Commit n set props) k j (answer.Seen x) h f = tt
sync_done (phase.Commit n set props) k j (answer.Identity x) h f = tt
sync_done (phase.Commit n set props) k j (answer.Latest x) h f = tt
sync_done (phase.Commit n set props) k j (answer.Revision x y) h f = tt
sync_done (phase.Commit n set props) k j (answer.Map x) h f = tt
sync_done (phase.Commit n set props) k j (answer.Refused x) h f = tt
sync_done (phase.Commit n set props) k j (answer.Failed x) h f = tt
sync_done (phase.FetchProps n) k j answer.Done h f = tt
sync_done (phase.FetchProps n) k j (answer.Seen x) h f = tt
sync_done (phase.FetchProps n) k j (answer.Identity x) h f = tt
sync_done (phase.FetchProps n) k j (answer.Latest x) h f = tt
sync_done (phase.FetchProps n) k j (answer.Revision x y) h f = tt
sync_done (phase.FetchProps n) k j (answer.Map x) h f = tt
sync_done (phase.FetchProps n) k j (answer.Refused x) h f = tt
sync_done (phase.FetchProps n) k j (answer.Failed x) h f = tt
sync_done (phase.Put n props) k j answer.Done h f = tt
sync_done (phase.Put n props) k j (answer.Seen x) h f = tt
sync_done (phase.Put n props) k j (answer.Identity x) h f = tt
sync_done (phase.Put n props) k j (answer.Latest x) h f = tt
sync_done (phase.Put n props) k j (answer.Revision x y) h f = tt
sync_done (phase.Put n props) k j (answer.Map x) h f = tt
sync_done (phase.Put n props) k j (answer.Refused x) h f = tt
sync_done (phase.Put n props) k j (answer.Failed x) h f = tt
sync_done (phase.Merge n) k j answer.Done h f = tt
sync_done (phase.Merge n) k j (answer.Seen x) h f = tt
sync_done (phase.Merge n) k j (answer.Identity x) h f = tt
sync_done (phase.Merge n) k j (answer.Latest x) h f = tt
sync_done (phase.Merge n) k j (answer.Revision x y) h f = tt
sync_done (phase.Merge n) k j (answer.Map x) h f = tt
sync_done (phase.Merge n) k j (answer.Refused x) h f = tt
sync_done (phase.Merge n) k j (answer.Failed x) h f = tt
sync_done phase.Clear k j answer.Done h f = cleared_is (λ p. SyncLets p (heard j 0 (sync_table.deed_in phase.Clear) answer.Done)) tt (next_is (λ p. SyncLets p (heard j 0 (sync_table.deed_in phase.Clear) answer.Done)) (λ n. tt) tt (λ n. tt) (λ y t. tt)) (record k { copying = Absent })
sync_done phase.Clear k j (answer.Seen x) h f = tt
sync_done phase.Clear k j (answer.Identity x) h f = tt
sync_done phase.Clear k j (answer.Latest x) h f = tt
sync_done phase.Clear k j (answer.Revision x y) h f = tt
sync_done phase.Clear k j (answer.Map x) h f = tt
sync_done phase.Clear k j (answer.Refused x) h f = tt
sync_done phase.Clear k j (answer.Failed x) h f = tt
sync_done (phase.Release e) k j answer.Done h f = over refl
sync_done (phase.Release e) k j (answer.Seen x) h f = absurd f
sync_done (phase.Release e) k j (answer.Identity x) h f = absurd f
sync_done (phase.Release e) k j (answer.Latest x) h f = absurd f
sync_done (phase.Release e) k j (answer.Revision x y) h f = absurd f
sync_done (phase.Release e) k j (answer.Map x) h f = absurd f
sync_done (phase.Release e) k j (answer.Refused x) h f = over refl
sync_done (phase.Release e) k j (answer.Failed x) h f = absurd f
sync_done (phase.End e) k j a h f = absurd f

-- and one that isn't done, where what was said tells the job nothing
sync_undone : (p : SyncPhase) (k : Known) (j : Job) (f : SyncFault) → SyncLets p j → sync_table.deed_in p ≢ Calls ReleaseLock → SyncLets (sync_table.after_in p k (answer.Refused f)).phase j
sync_undone (phase.Lock token steal) k j f h d = begun_unlocked h
sync_undone phase.Look k j f h d = tt
sync_undone (phase.Who shape uuid) k j f h d = tt
sync_undone phase.Latest k j f h d = tt
sync_undone (phase.SetCopying n) k j f h d = tt
sync_undone (phase.Fetch n) k j f h d = tt
sync_undone (phase.Commit n set props) k j f h d = tt
sync_undone (phase.FetchProps n) k j f h d = tt
sync_undone (phase.Put n props) k j f h d = tt
sync_undone (phase.Merge n) k j f h d = tt
sync_undone phase.Clear k j f h d = tt
sync_undone (phase.Release e) k j f h d = absurd (d refl)
sync_undone (phase.End e) k j f h d = h

copy_done : (token : List ℕ) (p : CopyPhase) (low high : ℕ) (j : Job) (a : Answer) → CopyLets p j → Fits (copy_table.deed_in token p) a → CopyLets (copy_table.after_in p low high a) (heard j 0 (copy_table.deed_in token p) a)
copy_done token copying.Lock low high j answer.Done h f = tt
copy_done token copying.Lock low high j (answer.Seen x) h f = absurd f
copy_done token copying.Lock low high j (answer.Identity x) h f = absurd f
copy_done token copying.Lock low high j (answer.Latest x) h f = absurd f
copy_done token copying.Lock low high j (answer.Revision x y) h f = absurd f
copy_done token copying.Lock low high j (answer.Map x) h f = absurd f
copy_done token copying.Lock low high j (answer.Refused x) h f = over refl
copy_done token copying.Lock low high j (answer.Failed x) h f = absurd f
copy_done token copying.Look low high j answer.Done h f = tt
copy_done token copying.Look low high j (answer.Seen x) h f = copy_looked_is x (λ p. CopyLets p (heard j 0 (Calls Look) (answer.Seen x))) tt (λ y t. tt)
copy_done token copying.Look low high j (answer.Identity x) h f = tt
copy_done token copying.Look low high j (answer.Latest x) h f = tt
copy_done token copying.Look low high j (answer.Revision x y) h f = tt
copy_done token copying.Look low high j (answer.Map x) h f = tt
copy_done token copying.Look low high j (answer.Refused x) h f = tt
copy_done token copying.Look low high j (answer.Failed x) h f = tt
copy_done token (copying.Who m uuid) low high j answer.Done h f = tt
copy_done token (copying.Who m uuid) low high j (answer.Seen x) h f = tt
copy_done token (copying.Who m uuid) low high j (answer.Identity x) h f = copy_begin_is m uuid x (λ p. CopyLets p (heard j 0 AsksIdentity (answer.Identity x))) low high (λ o. tt) (λ o. tt) (λ o. tt) (λ o. tt)
copy_done token (copying.Who m uuid) low high j (answer.Latest x) h f = tt
copy_done token (copying.Who m uuid) low high j (answer.Revision x y) h f = tt
copy_done token (copying.Who m uuid) low high j (answer.Map x) h f = tt
copy_done token (copying.Who m uuid) low high j (answer.Refused x) h f = tt
copy_done token (copying.Who m uuid) low high j (answer.Failed x) h f = tt
copy_done token (copying.FetchProps n) low high j answer.Done h f = tt
copy_done token (copying.FetchProps n) low high j (answer.Seen x) h f = tt
copy_done token (copying.FetchProps n) low high j (answer.Identity x) h f = tt
copy_done token (copying.FetchProps n) low high j (answer.Latest x) h f = tt
copy_done token (copying.FetchProps n) low high j (answer.Revision x y) h f = tt
copy_done token (copying.FetchProps n) low high j (answer.Map x) h f = tt
copy_done token (copying.FetchProps n) low high j (answer.Refused x) h f = tt
copy_done token (copying.FetchProps n) low high j (answer.Failed x) h f = tt
copy_done token (copying.Put n props) low high j answer.Done h f = copy_next_is (λ p. CopyLets p (heard j 0 (copy_table.deed_in token (copying.Put n props)) answer.Done)) high n (λ o. tt) (λ o. tt)
copy_done token (copying.Put n props) low high j (answer.Seen x) h f = tt
copy_done token (copying.Put n props) low high j (answer.Identity x) h f = tt
copy_done token (copying.Put n props) low high j (answer.Latest x) h f = tt
copy_done token (copying.Put n props) low high j (answer.Revision x y) h f = tt
copy_done token (copying.Put n props) low high j (answer.Map x) h f = tt
copy_done token (copying.Put n props) low high j (answer.Refused x) h f = tt
copy_done token (copying.Put n props) low high j (answer.Failed x) h f = tt
copy_done token (copying.Release e) low high j answer.Done h f = over refl
copy_done token (copying.Release e) low high j (answer.Seen x) h f = absurd f
copy_done token (copying.Release e) low high j (answer.Identity x) h f = absurd f
copy_done token (copying.Release e) low high j (answer.Latest x) h f = absurd f
copy_done token (copying.Release e) low high j (answer.Revision x y) h f = absurd f
copy_done token (copying.Release e) low high j (answer.Map x) h f = absurd f
copy_done token (copying.Release e) low high j (answer.Refused x) h f = over refl
copy_done token (copying.Release e) low high j (answer.Failed x) h f = absurd f
copy_done token (copying.End e) low high j a h f = absurd f

copy_undone : (token : List ℕ) (p : CopyPhase) (low high : ℕ) (j : Job) (f : SyncFault) → CopyLets p j → copy_table.deed_in token p ≢ Calls ReleaseLock → CopyLets (copy_table.after_in p low high (answer.Refused f)) j
copy_undone token copying.Lock low high j f h d = begun_unlocked h
copy_undone token copying.Look low high j f h d = tt
copy_undone token (copying.Who m uuid) low high j f h d = tt
copy_undone token (copying.FetchProps n) low high j f h d = tt
copy_undone token (copying.Put n props) low high j f h d = tt
copy_undone token (copying.Release e) low high j f h d = absurd (d refl)
copy_undone token (copying.End e) low high j f h d = h

init_done : (url : List ℕ) (p : InitPhase) (j : Job) (a : Answer) → j.stage ≢ Locked → Fits (init_table.deed_in url p) a → (heard j 0 (init_table.deed_in url p) a).stage ≢ Locked
init_done url initial.Who j answer.Done h f = absurd f
init_done url initial.Who j (answer.Seen x) h f = absurd f
init_done url initial.Who j (answer.Identity x) h f = h
init_done url initial.Who j (answer.Latest x) h f = absurd f
init_done url initial.Who j (answer.Revision x y) h f = absurd f
init_done url initial.Who j (answer.Map x) h f = absurd f
init_done url initial.Who j (answer.Refused x) h f = h
init_done url initial.Who j (answer.Failed x) h f = h
init_done url (initial.FetchProps u) j answer.Done h f = absurd f
init_done url (initial.FetchProps u) j (answer.Seen x) h f = absurd f
init_done url (initial.FetchProps u) j (answer.Identity x) h f = absurd f
init_done url (initial.FetchProps u) j (answer.Latest x) h f = absurd f
init_done url (initial.FetchProps u) j (answer.Revision x y) h f = absurd f
init_done url (initial.FetchProps u) j (answer.Map x) h f = h
init_done url (initial.FetchProps u) j (answer.Refused x) h f = h
init_done url (initial.FetchProps u) j (answer.Failed x) h f = h
init_done url (initial.Init u props) j answer.Done h f = over refl
init_done url (initial.Init u props) j (answer.Seen x) h f = absurd f
init_done url (initial.Init u props) j (answer.Identity x) h f = absurd f
init_done url (initial.Init u props) j (answer.Latest x) h f = absurd f
init_done url (initial.Init u props) j (answer.Revision x y) h f = absurd f
init_done url (initial.Init u props) j (answer.Map x) h f = absurd f
init_done url (initial.Init u props) j (answer.Refused x) h f = over refl
init_done url (initial.Init u props) j (answer.Failed x) h f = absurd f
init_done url (initial.End e) j a h f = absurd f

lets_done : (s : JobState) (j : Job) (a : Answer) → Lets s j → Fits (deed_in s) a → Lets (after s a) (heard j 0 (deed_in s) a)
lets_done (state.Init s) j a h f = init_done s.url s.phase j a h f
lets_done (state.Sync s) j a h f = sync_done s.phase s.known j a h f
lets_done (state.Copy s) j a h f = copy_done s.token s.phase s.low s.high j a h f

lets_undone : (s : JobState) (j : Job) (f : SyncFault) → Lets s j → deed_in s ≢ Calls ReleaseLock → Lets (after s (answer.Refused f)) j
lets_undone (state.Init s) j f h d = h
lets_undone (state.Sync s) j f h d = sync_undone s.phase s.known j f h d
lets_undone (state.Copy s) j f h d = copy_undone s.token s.phase s.low s.high j f h d

fetches_no_release : (d : Deed) (n : ℕ) → d ≡ Fetches n → d ≢ Calls ReleaseLock
fetches_no_release d n e h = cc

lets_on : (job : Job) (s : JobState) (es : List Spoken) (a : Answer) (more : List Spoken) → Lets s (hears_all job es) → IsRound (deed_in s) a more → Lets (after s a) (hears_all job (es ++ more))
lets_on job s es a more h (Done fits m) =
    subst (λ xs. Lets (after s a) (hears_all job (es ++ xs))) (sym m)
    (subst (λ x. Lets (after s a) x) (sym (heard_round job es (deed_in s) a fits)) (lets_done s (hears_all job es) a h fits))
lets_on job s es a more h (Lacking e m d) =
    subst (λ x. Lets (after s x) (hears_all job (es ++ more))) (sym e)
    (subst (λ xs. Lets (after s (answer.Refused fault.OutOfMemory)) (hears_all job (es ++ xs))) (sym m) (subst (λ x. Lets (after s (answer.Refused fault.OutOfMemory)) x) (sym (hears_append job es [])) (lets_undone s (hears_all job es) fault.OutOfMemory h d)))
lets_on job s es a more h (Treeless of n f d e m) =
    subst (λ x. Lets (after s x) (hears_all job (es ++ more))) (sym e)
    (subst (λ xs. Lets (after s (answer.Refused f)) (hears_all job (es ++ xs))) (sym m) (subst (λ x. Lets (after s (answer.Refused f)) x) (sym (hears_append job es (NoTree n (refused_as f) ∷ []))) (lets_undone s (hears_all job es) f h (fetches_no_release (deed_in s) of d))))

none_some : {A : Type 0} {e : Ending} → ◌≡◌ {A = Option Ending} None (Some e) → A
none_some h = absurd (cc)

lets_ended : (s : JobState) (job : Job) (e : Ending) → ending_of s ≡ Some e → Lets s job → job.stage ≢ Locked
lets_ended (state.Init s) job e h l = l
lets_ended (state.Sync s) job e h l = by s.phase h l
  where
    by : (p : SyncPhase) → sync_table.ending_in p ≡ Some e → SyncLets p job → job.stage ≢ Locked
    by (phase.End x) h l = l
    by (phase.Lock token steal) h l = none_some h
    by phase.Look h l = none_some h
    by (phase.Who shape uuid) h l = none_some h
    by phase.Latest h l = none_some h
    by (phase.SetCopying n) h l = none_some h
    by (phase.Fetch n) h l = none_some h
    by (phase.Commit n set props) h l = none_some h
    by (phase.FetchProps n) h l = none_some h
    by (phase.Put n props) h l = none_some h
    by (phase.Merge n) h l = none_some h
    by phase.Clear h l = none_some h
    by (phase.Release e) h l = none_some h
lets_ended (state.Copy s) job e h l = by s.phase h l
  where
    by : (p : CopyPhase) → copy_table.ending_in p ≡ Some e → CopyLets p job → job.stage ≢ Locked
    by (copying.End x) h l = l
    by copying.Lock h l = none_some h
    by copying.Look h l = none_some h
    by (copying.Who m uuid) h l = none_some h
    by (copying.FetchProps n) h l = none_some h
    by (copying.Put n props) h l = none_some h
    by (copying.Release e) h l = none_some h

-- a run that has ended has no lock
pub run_lets_go : (job : Job) (s t : JobState) (rs : List Round) (e : Ending) → Lets s job → Goes s rs t → ending_of t ≡ Some e → (hears_all job (said_by rs)).stage ≢ Locked
run_lets_go job s t rs e l g h = lets_ended t (hears_all job (said_by rs)) e h (carry (λ x es. Lets x (hears_all job es)) (lets_on job) s t rs [] g l)
