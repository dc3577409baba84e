-- Where a run's refusals come from, and how it ends well.
use Rattle.std.proofs.lemmas.List.{append-nil, append_assoc}
use Rattle.std.proofs.Common.{◌≡◌, ◌⊎◌, inl, inr, ℕ, ◌+◌, nat_lt, nat_le, not, Bool, true, false, List, [], ◌∷◌, ◌++◌, map, Option, Some, None, is_none, is_some, if◌then◌else◌, string_bytes, refl, sym, ap, subst, ◌∙◌}
use Rattle.std.specs.Option.{option_map_or}
use Rattle.sync_core.specs.declared.answer.Answer.{Answer}
use Rattle.sync_core.specs.declared.answer.Answer.TheVariants as answer
use Rattle.sync_core.specs.declared.fault.SyncFault.{SyncFault}
use Rattle.sync_core.specs.declared.fault.SyncFault.TheVariants as fault
use Rattle.sync_core.specs.declared.ending.Ending.{Ending}
use Rattle.sync_core.specs.declared.ending.Ending.TheVariants as ending
use Rattle.sync_core.specs.declared.standing.Standing.{Standing}
use Rattle.sync_core.specs.declared.resting.Resting.{Resting}
use Rattle.sync_core.specs.declared.resting.Resting.TheVariants as resting
use Rattle.sync_core.specs.declared.state.JobState.{JobState}
use Rattle.sync_core.specs.declared.state.JobState.TheVariants as state
use Rattle.sync_core.specs.declared.number.Number.{Number}
use Rattle.sync_core.specs.declared.number.Number.TheVariants.{Absent}
use Rattle.sync_core.specs.declared.init_job.InitPhase.{InitPhase}
use Rattle.sync_core.specs.declared.init_job.InitPhase.TheVariants as initial
use Rattle.sync_core.specs.declared.sync_job.Known.{Known}
use Rattle.sync_core.specs.declared.sync_job.SyncPhase.{SyncPhase}
use Rattle.sync_core.specs.declared.sync_job.SyncPhase.TheVariants as phase
use Rattle.sync_core.specs.declared.copy_job.CopyPhase.{CopyPhase}
use Rattle.sync_core.specs.declared.copy_job.CopyPhase.TheVariants as copying
use Rattle.sync_core.specs.Names.{is_absent, reaches}
use Rattle.sync_core.specs.Mirror.{Look}
use Rattle.sync_core.specs.Deeds.{Deed, Calls, AsksIdentity, AsksLatest, Fetches, FetchesProps, Ends, fault_in}
use Rattle.sync_core.specs.Jobs.{Job}
use Rattle.sync_core.specs.States.{deed_in, after, ending_of, Follows}
use Rattle.sync_core.specs.SyncFollows as sync_follows
use Rattle.sync_core.specs.Shapes.{shape_in}
use Rattle.sync_core.specs.Faults.{inconsistent_as}
use Rattle.sync_core.specs.Faults as numbers
use Rattle.sync_core.specs.Identities.{is_identity}
use Rattle.sync_core.specs.InitTable as init_table
use Rattle.sync_core.specs.SyncTable as sync_table
use Rattle.sync_core.specs.CopyTable as copy_table
use Rattle.sync_job.specs.declared.report.Told.{Told}
use Rattle.sync_core.specs.Copies.{outcome_of}
use Rattle.sync_job.specs.Kept.{refused_as}
use Rattle.sync_core.specs.Copies as told
use Rattle.sync_job.specs.Said.{Spoken, Says, NoTree, Tells, told_by, made, Fits, IsRound, Done, Lacking, Treeless}
use Rattle.sync_job.specs.Runs.{Round, said_by, Goes, IsSaid, IsLooked, IsForeign, IsBeyond, IsStuck, IsShown, ComesFrom, hears_all, Mirrors, Trees, Masters, Memory, Tables, due, ReportedFrom}
use Rattle.sync_job.proofs.Rounds.{Laws, carry, hears_append, EndsRefused, IsRightly, rightly_on}

-- reports

reported_append : (es ys : List Spoken) (ts : List Told) → ReportedFrom ts es → ReportedFrom [] ys → ReportedFrom ts (es ++ ys)
reported_append [] ys [] p q = q
reported_append [] ys (t ∷ ts) p q = absurd p
reported_append (Says d o ∷ es) ys [] p q = reported_append es ys (due d o) p q
reported_append (NoTree n o ∷ es) ys [] p q = reported_append es ys [] p q
reported_append (Tells t ∷ es) ys [] p q = absurd p
reported_append (e ∷ es) ys (t ∷ ts) p q = (p.0, reported_append es ys ts p.1 q)

reported_tells : (ts : List Told) → ReportedFrom ts (map Tells ts)
reported_tells [] = tt
reported_tells (t ∷ ts) = (refl, reported_tells ts)

due_told : (d : Deed) (a : Answer) → due d (outcome_of a) ≡ told_by d a
due_told (Calls c) answer.Done = refl
due_told (Calls c) (answer.Seen x) = refl
due_told (Calls c) (answer.Identity x) = refl
due_told (Calls c) (answer.Latest x) = refl
due_told (Calls c) (answer.Revision x y) = refl
due_told (Calls c) (answer.Map x) = refl
due_told (Calls c) (answer.Refused x) = refl
due_told (Calls c) (answer.Failed x) = refl
due_told AsksIdentity a = refl
due_told AsksLatest a = refl
due_told (Fetches n) a = refl
due_told (FetchesProps n) a = refl
due_told Ends a = refl

reported_round : (d : Deed) (a : Answer) (more : List Spoken) → IsRound d a more → ReportedFrom [] more
reported_round d a more (Done fits m) = subst (λ xs. ReportedFrom [] xs) (sym m) (subst (λ ts. ReportedFrom ts (map Tells (told_by d a))) (sym (due_told d a)) (reported_tells (told_by d a)))
reported_round d a more (Lacking e m due) = subst (λ xs. ReportedFrom [] xs) (sym m) tt
reported_round d a more (Treeless of n f x e m) = subst (λ xs. ReportedFrom [] xs) (sym m) tt

-- what is accepted is told
pub run_reported : (s t : JobState) (rs : List Round) → Goes s rs t → ReportedFrom [] (said_by rs)
run_reported s t rs g = carry (λ x es. ReportedFrom [] es) (λ x es a more p r. reported_append es more [] p (reported_round (deed_in x) a more r)) s t rs [] g tt

-- what may follow in a sync job's table

abbrev pub TellsNumbers : SyncFault → Type 0
TellsNumbers (fault.Inconsistent merged copying head) = Unit {0}
TellsNumbers _ = ⊥

pub next_is : (Q : SyncPhase → Type 0) → ((n : ℕ) → Q (phase.SetCopying n)) → Q (phase.Release ending.Fine) → ((n : ℕ) → Q (phase.Fetch n)) → ((x : SyncFault) → TellsNumbers x → Q (phase.Release (ending.Refused x))) → (k : Known) (latest : ℕ) → Q (sync_table.next k latest)
next_is Q set fine fetch refused k latest =
    elim (is_absent k.copying) as (λ (b : Bool). Q (if b then (if nat_lt k.head latest then phase.SetCopying (k.head + 1) else phase.Release ending.Fine) else (if nat_lt k.head 65535 then phase.Fetch (k.head + 1) else phase.Release (ending.Refused (sync_table.inconsistent k))))) [
      | true ↦ elim (nat_lt k.head latest) as (λ (b : Bool). Q (if b then phase.SetCopying (k.head + 1) else phase.Release ending.Fine)) [
        | true ↦ set (k.head + 1)
        | false ↦ fine
      ]
      | false ↦ elim (nat_lt k.head 65535) as (λ (b : Bool). Q (if b then phase.Fetch (k.head + 1) else phase.Release (ending.Refused (sync_table.inconsistent k)))) [
        | true ↦ fetch (k.head + 1)
        | false ↦ refused (sync_table.inconsistent k) tt
      ]
    ]

-- a look that shows a refusal
abbrev pub LooksBad : Standing → SyncFault → Type 0
LooksBad s f = ((is_none s.url ≡ true) × (f ≡ fault.NotInitialised)) ⊎ ((shape_in s.merged s.copying s.head ≡ None) × (f ≡ inconsistent_as s))

pub looked_is : (s : Standing) (Q : SyncPhase → Type 0) → ((shape : Resting) → Q (phase.Who shape s.uuid)) → ((x : SyncFault) → LooksBad s x → Q (phase.Release (ending.Refused x))) → (k : Known) → Q (sync_table.looked k s).phase
looked_is s Q who refused k = by_url (is_none s.url) refl
  where
    by_shape : (o : Option Resting) → shape_in s.merged s.copying s.head ≡ o → Q (option_map_or (λ shape. sync_table.at k (phase.Who shape s.uuid)) o (sync_table.give_up k (inconsistent_as s))).phase
    by_shape (Some shape) e = who shape
    by_shape None e = refused (inconsistent_as s) (inr (e, refl))

    by_url : (b : Bool) → is_none s.url ≡ b → Q (if b then sync_table.give_up k fault.NotInitialised else option_map_or (λ shape. sync_table.at k (phase.Who shape s.uuid)) (shape_in s.merged s.copying s.head) (sync_table.give_up k (inconsistent_as s))).phase
    by_url true e = refused fault.NotInitialised (inl (e, refl))
    by_url false e = by_shape (shape_in s.merged s.copying s.head) refl

resumed_is : (Q : SyncPhase → Type 0) → Q phase.Latest → ((n : ℕ) → Q (phase.FetchProps n)) → Q phase.Clear → (shape : Resting) (head : ℕ) → Q (sync_table.resumed shape head)
resumed_is Q latest props clear resting.Idle head = latest
resumed_is Q latest props clear (resting.Copying n) head = latest
resumed_is Q latest props clear (resting.Committed n) head = props head
resumed_is Q latest props clear resting.Merged head = clear

pub who_is : (uuid : Option (List ℕ)) (found : List ℕ) (Q : SyncPhase → Type 0) → Q phase.Latest → ((n : ℕ) → Q (phase.FetchProps n)) → Q phase.Clear → (is_identity uuid found ≡ false → Q (phase.Release (ending.Refused fault.WrongMaster))) → (k : Known) (shape : Resting) → Q (sync_table.after_who k shape uuid (answer.Identity found)).phase
who_is uuid found Q latest props clear refused k shape = by (is_identity uuid found) refl
  where
    by : (b : Bool) → is_identity uuid found ≡ b → Q (if b then sync_table.at k (sync_table.resumed shape k.head) else sync_table.give_up k fault.WrongMaster).phase
    by true e = resumed_is Q latest props clear shape k.head
    by false e = refused e

pub cleared_is : (Q : SyncPhase → Type 0) → Q phase.Latest → ((k : Known) (n : ℕ) → Q (sync_table.next k n)) → (k : Known) → Q (sync_table.cleared k).phase
cleared_is Q latest next k =
    elim k.latest as (λ (o : Option ℕ). Q (option_map_or (λ n. sync_table.at k (sync_table.next k n)) o (sync_table.at k phase.Latest)).phase) [
      | Some n ↦ next k n
      | None ↦ latest
    ]

-- refusals

abbrev pub IsOf : Ending → SyncFault → Type 0
IsOf ending.Fine f = ⊥
IsOf (ending.Refused x) f = x ≡ f

abbrev pub sync_refused : SyncPhase → SyncFault → Type 0
sync_refused (phase.Release e) f = IsOf e f
sync_refused (phase.End e) f = IsOf e f
sync_refused _ f = ⊥

abbrev pub copy_refused : CopyPhase → SyncFault → Type 0
copy_refused (copying.Release e) f = IsOf e f
copy_refused (copying.End e) f = IsOf e f
copy_refused _ f = ⊥

abbrev pub init_refused : InitPhase → SyncFault → Type 0
init_refused (initial.End e) f = IsOf e f
init_refused _ f = ⊥

abbrev pub refused_in : JobState → SyncFault → Type 0
refused_in (state.Init s) f = init_refused s.phase f
refused_in (state.Sync s) f = sync_refused s.phase f
refused_in (state.Copy s) f = copy_refused s.phase f

abbrev pub IsBad : Answer → Type 0
IsBad (answer.Refused x) = Unit {0}
IsBad (answer.Failed x) = Unit {0}
IsBad _ = ⊥

-- the identity and the merged number that a phase has from its look
abbrev pub who_in : SyncPhase → Option (List ℕ) → Type 0
who_in (phase.Who shape uuid) u = uuid ≡ u
who_in _ u = ⊥

abbrev pub copy_who_in : CopyPhase → Option (List ℕ) → Type 0
copy_who_in (copying.Who m uuid) u = uuid ≡ u
copy_who_in _ u = ⊥

abbrev pub merged_in : CopyPhase → Number → Type 0
merged_in (copying.Who m uuid) n = m ≡ n
merged_in _ n = ⊥

abbrev pub who_of : JobState → Option (List ℕ) → Type 0
who_of (state.Init s) u = ⊥
who_of (state.Sync s) u = who_in s.phase u
who_of (state.Copy s) u = copy_who_in s.phase u

abbrev pub merged_of : JobState → Number → Type 0
merged_of (state.Init s) n = ⊥
merged_of (state.Sync s) n = ⊥
merged_of (state.Copy s) n = merged_in s.phase n

abbrev pub no_one : Option (List ℕ) → Type 0
no_one u = ⊥

abbrev pub no_merged : Number → Type 0
no_merged n = ⊥

-- a phase that asks for the newest revision where none may be fetched
pub record Nowhere (k : Known) (f : SyncFault) : Type 0 where
  pub noted : is_absent k.copying ≡ false
  pub full : nat_lt k.head 65535 ≡ false
  pub fault : f ≡ sync_table.inconsistent k

abbrev pub stuck_in : SyncPhase → Known → SyncFault → Type 0
stuck_in phase.Latest k f = Nowhere k f
stuck_in _ k f = ⊥

abbrev pub stuck_of : JobState → SyncFault → Type 0
stuck_of (state.Init s) f = ⊥
stuck_of (state.Sync s) f = stuck_in s.phase s.known f
stuck_of (state.Copy s) f = ⊥

-- the highest number of a copying job
abbrev pub high_of : JobState → ℕ → Type 0
high_of (state.Init s) n = ⊥
high_of (state.Sync s) n = ⊥
high_of (state.Copy s) n = s.high ≡ n

abbrev pub never_stuck : SyncFault → Type 0
never_stuck f = ⊥

abbrev pub no_high : ℕ → Type 0
no_high n = ⊥

data From (a : Answer) (who : Option (List ℕ) → Type 0) (merged : Number → Type 0) (top : ℕ → Type 0) (stuck : SyncFault → Type 0) (before : Type 0) (f : SyncFault) : Type 0 where
  Before : before → From a who merged top stuck before f
  Bad : IsBad a → fault_in a ≡ f → From a who merged top stuck before f
  Looked : (s : Standing) → a ≡ answer.Seen s → LooksBad s f → From a who merged top stuck before f
  Foreign : (uuid : Option (List ℕ)) → (found : List ℕ) → who uuid → a ≡ answer.Identity found → is_identity uuid found ≡ false → fault.WrongMaster ≡ f → From a who merged top stuck before f
  Beyond : (m : Number) → (high : ℕ) → (found : List ℕ) → merged m → top high → a ≡ answer.Identity found → reaches m high ≡ false → fault.NotYetCopied high ≡ f → From a who merged top stuck before f
  Newest : (n : ℕ) → a ≡ answer.Latest n → stuck f → From a who merged top stuck before f

neither : ⊥ ⊎ ⊥ → ⊥
neither (inl x) = x
neither (inr x) = x

looks_bad : (s : Standing) (f x : SyncFault) → LooksBad s x → x ≡ f → LooksBad s f
looks_bad s f x t e = subst (λ y. LooksBad s y) e t

-- a job is refused by its table where a revision is noted and none may be fetched
nowhere : (k : Known) (latest : ℕ) (f : SyncFault) → sync_refused (sync_table.next k latest) f → Nowhere k f
nowhere k latest f = by (is_absent k.copying) refl
  where
    fine : (b : Bool) → sync_refused (if b then phase.SetCopying (k.head + 1) else phase.Release ending.Fine) f → ⊥
    fine true r = r
    fine false r = r

    full : (b : Bool) → nat_lt k.head 65535 ≡ b → is_absent k.copying ≡ false → sync_refused (if b then phase.Fetch (k.head + 1) else phase.Release (ending.Refused (sync_table.inconsistent k))) f → Nowhere k f
    full true h e r = absurd r
    full false h e r = record { noted = e; full = h; fault = sym r }

    by : (b : Bool) → is_absent k.copying ≡ b → sync_refused (if b then (if nat_lt k.head latest then phase.SetCopying (k.head + 1) else phase.Release ending.Fine) else (if nat_lt k.head 65535 then phase.Fetch (k.head + 1) else phase.Release (ending.Refused (sync_table.inconsistent k)))) f → Nowhere k f
    by true e r = absurd (fine (nat_lt k.head latest) r)
    by false e r = full (nat_lt k.head 65535) refl e r

-- and never once nothing is noted any more
not_cleared : (k : Known) (f : SyncFault) → sync_refused (sync_table.cleared (record k { copying = Absent })).phase f → ⊥
not_cleared k f = by k.latest
  where
    by : (o : Option ℕ) → sync_refused (option_map_or (λ n. sync_table.at (record k { copying = Absent }) (sync_table.next (record k { copying = Absent }) n)) o (sync_table.at (record k { copying = Absent }) phase.Latest)).phase f → ⊥
    by None r = r
    by (Some n) r = let e : true ≡ false = (nowhere (record k { copying = Absent }) n f r).noted in absurd (cc)

sync_from : (p : SyncPhase) (k : Known) (a : Answer) (f : SyncFault) → IsBad a ⊎ Fits (sync_table.deed_in p) a → sync_refused (sync_table.after_in p k a).phase f → From a (who_in p) no_merged no_high (stuck_in p k) (sync_refused p f) f
sync_from (phase.Lock token true) k answer.Done f h r = absurd r
sync_from (phase.Lock token true) k (answer.Seen x) f h r = absurd (neither h)
sync_from (phase.Lock token true) k (answer.Identity x) f h r = absurd (neither h)
sync_from (phase.Lock token true) k (answer.Latest x) f h r = absurd (neither h)
sync_from (phase.Lock token true) k (answer.Revision x y) f h r = absurd (neither h)
sync_from (phase.Lock token true) k (answer.Map x) f h r = absurd (neither h)
sync_from (phase.Lock token true) k (answer.Refused x) f h r = Bad tt r
sync_from (phase.Lock token true) k (answer.Failed x) f h r = Bad tt r
sync_from (phase.Lock token false) k answer.Done f h r = absurd r
sync_from (phase.Lock token false) k (answer.Seen x) f h r = absurd (neither h)
sync_from (phase.Lock token false) k (answer.Identity x) f h r = absurd (neither h)
sync_from (phase.Lock token false) k (answer.Latest x) f h r = absurd (neither h)
sync_from (phase.Lock token false) k (answer.Revision x y) f h r = absurd (neither h)
sync_from (phase.Lock token false) k (answer.Map x) f h r = absurd (neither h)
sync_from (phase.Lock token false) k (answer.Refused x) f h r = Bad tt r
sync_from (phase.Lock token false) k (answer.Failed x) f h r = Bad tt r
sync_from phase.Look k answer.Done f h r = absurd (neither h)
sync_from phase.Look k (answer.Seen x) f h r = looked_is x (λ p. sync_refused p f → From (answer.Seen x) (who_in phase.Look) no_merged no_high (stuck_in phase.Look k) ⊥ f) (λ shape z. absurd z) (λ y t e. Looked x refl (looks_bad x f y t e)) (sync_table.seen k x) r
sync_from phase.Look k (answer.Identity x) f h r = absurd (neither h)
sync_from phase.Look k (answer.Latest x) f h r = absurd (neither h)
sync_from phase.Look k (answer.Revision x y) f h r = absurd (neither h)
sync_from phase.Look k (answer.Map x) f h r = absurd (neither h)
sync_from phase.Look k (answer.Refused x) f h r = Bad tt r
sync_from phase.Look k (answer.Failed x) f h r = Bad tt r
sync_from (phase.Who shape uuid) k answer.Done f h r = absurd (neither h)
sync_from (phase.Who shape uuid) k (answer.Seen x) f h r = absurd (neither h)
sync_from (phase.Who shape uuid) k (answer.Identity x) f h r = who_is uuid x (λ p. sync_refused p f → From (answer.Identity x) (who_in (phase.Who shape uuid)) no_merged no_high (stuck_in (phase.Who shape uuid) k) ⊥ f) (λ x. absurd x) (λ n x. absurd x) (λ x. absurd x) (λ o e. Foreign uuid x refl refl o e) k shape r
sync_from (phase.Who shape uuid) k (answer.Latest x) f h r = absurd (neither h)
sync_from (phase.Who shape uuid) k (answer.Revision x y) f h r = absurd (neither h)
sync_from (phase.Who shape uuid) k (answer.Map x) f h r = absurd (neither h)
sync_from (phase.Who shape uuid) k (answer.Refused x) f h r = Bad tt r
sync_from (phase.Who shape uuid) k (answer.Failed x) f h r = Bad tt r
sync_from phase.Latest k answer.Done f h r = absurd (neither h)
sync_from phase.Latest k (answer.Seen x) f h r = absurd (neither h)
sync_from phase.Latest k (answer.Identity x) f h r = absurd (neither h)
sync_from phase.Latest k (answer.Latest x) f h r = let w = nowhere (record k { latest = Some x }) x f r in Newest x refl (record { noted = w.noted; full = w.full; fault = w.fault })
sync_from phase.Latest k (answer.Revision x y) f h r = absurd (neither h)
sync_from phase.Latest k (answer.Map x) f h r = absurd (neither h)
sync_from phase.Latest k (answer.Refused x) f h r = Bad tt r
sync_from phase.Latest k (answer.Failed x) f h r = Bad tt r
sync_from (phase.SetCopying n) k answer.Done f h r = absurd r
sync_from (phase.SetCopying n) k (answer.Seen x) f h r = absurd (neither h)
sync_from (phase.SetCopying n) k (answer.Identity x) f h r = absurd (neither h)
sync_from (phase.SetCopying n) k (answer.Latest x) f h r = absurd (neither h)
sync_from (phase.SetCopying n) k (answer.Revision x y) f h r = absurd (neither h)
sync_from (phase.SetCopying n) k (answer.Map x) f h r = absurd (neither h)
sync_from (phase.SetCopying n) k (answer.Refused x) f h r = Bad tt r
sync_from (phase.SetCopying n) k (answer.Failed x) f h r = Bad tt r
sync_from (phase.Fetch n) k answer.Done f h r = absurd (neither h)
sync_from (phase.Fetch n) k (answer.Seen x) f h r = absurd (neither h)
sync_from (phase.Fetch n) k (answer.Identity x) f h r = absurd (neither h)
sync_from (phase.Fetch n) k (answer.Latest x) f h r = absurd (neither h)
sync_from (phase.Fetch n) k (answer.Revision x y) f h r = absurd r
sync_from (phase.Fetch n) k (answer.Map x) f h r = absurd (neither h)
sync_from (phase.Fetch n) k (answer.Refused x) f h r = Bad tt r
sync_from (phase.Fetch n) k (answer.Failed x) f h r = Bad tt r
sync_from (phase.Commit n set props) k answer.Done f h r = absurd r
sync_from (phase.Commit n set props) k (answer.Seen x) f h r = absurd (neither h)
sync_from (phase.Commit n set props) k (answer.Identity x) f h r = absurd (neither h)
sync_from (phase.Commit n set props) k (answer.Latest x) f h r = absurd (neither h)
sync_from (phase.Commit n set props) k (answer.Revision x y) f h r = absurd (neither h)
sync_from (phase.Commit n set props) k (answer.Map x) f h r = absurd (neither h)
sync_from (phase.Commit n set props) k (answer.Refused x) f h r = Bad tt r
sync_from (phase.Commit n set props) k (answer.Failed x) f h r = Bad tt r
sync_from (phase.FetchProps n) k answer.Done f h r = absurd (neither h)
sync_from (phase.FetchProps n) k (answer.Seen x) f h r = absurd (neither h)
sync_from (phase.FetchProps n) k (answer.Identity x) f h r = absurd (neither h)
sync_from (phase.FetchProps n) k (answer.Latest x) f h r = absurd (neither h)
sync_from (phase.FetchProps n) k (answer.Revision x y) f h r = absurd (neither h)
sync_from (phase.FetchProps n) k (answer.Map x) f h r = absurd r
sync_from (phase.FetchProps n) k (answer.Refused x) f h r = Bad tt r
sync_from (phase.FetchProps n) k (answer.Failed x) f h r = Bad tt r
sync_from (phase.Put n props) k answer.Done f h r = absurd r
sync_from (phase.Put n props) k (answer.Seen x) f h r = absurd (neither h)
sync_from (phase.Put n props) k (answer.Identity x) f h r = absurd (neither h)
sync_from (phase.Put n props) k (answer.Latest x) f h r = absurd (neither h)
sync_from (phase.Put n props) k (answer.Revision x y) f h r = absurd (neither h)
sync_from (phase.Put n props) k (answer.Map x) f h r = absurd (neither h)
sync_from (phase.Put n props) k (answer.Refused x) f h r = Bad tt r
sync_from (phase.Put n props) k (answer.Failed x) f h r = Bad tt r
sync_from (phase.Merge n) k answer.Done f h r = absurd r
sync_from (phase.Merge n) k (answer.Seen x) f h r = absurd (neither h)
sync_from (phase.Merge n) k (answer.Identity x) f h r = absurd (neither h)
sync_from (phase.Merge n) k (answer.Latest x) f h r = absurd (neither h)
sync_from (phase.Merge n) k (answer.Revision x y) f h r = absurd (neither h)
sync_from (phase.Merge n) k (answer.Map x) f h r = absurd (neither h)
sync_from (phase.Merge n) k (answer.Refused x) f h r = Bad tt r
sync_from (phase.Merge n) k (answer.Failed x) f h r = Bad tt r
sync_from phase.Clear k answer.Done f h r = absurd (not_cleared k f r)
sync_from phase.Clear k (answer.Seen x) f h r = absurd (neither h)
sync_from phase.Clear k (answer.Identity x) f h r = absurd (neither h)
sync_from phase.Clear k (answer.Latest x) f h r = absurd (neither h)
sync_from phase.Clear k (answer.Revision x y) f h r = absurd (neither h)
sync_from phase.Clear k (answer.Map x) f h r = absurd (neither h)
sync_from phase.Clear k (answer.Refused x) f h r = Bad tt r
sync_from phase.Clear k (answer.Failed x) f h r = Bad tt r
sync_from (phase.Release ending.Fine) k answer.Done f h r = absurd r
sync_from (phase.Release ending.Fine) k (answer.Seen x) f h r = absurd (neither h)
sync_from (phase.Release ending.Fine) k (answer.Identity x) f h r = absurd (neither h)
sync_from (phase.Release ending.Fine) k (answer.Latest x) f h r = absurd (neither h)
sync_from (phase.Release ending.Fine) k (answer.Revision x y) f h r = absurd (neither h)
sync_from (phase.Release ending.Fine) k (answer.Map x) f h r = absurd (neither h)
sync_from (phase.Release ending.Fine) k (answer.Refused x) f h r = Bad tt r
sync_from (phase.Release ending.Fine) k (answer.Failed x) f h r = Bad tt r
sync_from (phase.Release (ending.Refused y)) k a f h r = Before r
sync_from (phase.End e) k a f h r = Before r

init_from : (p : InitPhase) (url : List ℕ) (a : Answer) (f : SyncFault) → IsBad a ⊎ Fits (init_table.deed_in url p) a → init_refused (init_table.after_in p a) f → From a no_one no_merged no_high never_stuck (init_refused p f) f
init_from initial.Who url answer.Done f h r = absurd (neither h)
init_from initial.Who url (answer.Seen x) f h r = absurd (neither h)
init_from initial.Who url (answer.Identity x) f h r = absurd r
init_from initial.Who url (answer.Latest x) f h r = absurd (neither h)
init_from initial.Who url (answer.Revision x y) f h r = absurd (neither h)
init_from initial.Who url (answer.Map x) f h r = absurd (neither h)
init_from initial.Who url (answer.Refused x) f h r = Bad tt r
init_from initial.Who url (answer.Failed x) f h r = Bad tt r
init_from (initial.FetchProps u) url answer.Done f h r = absurd (neither h)
init_from (initial.FetchProps u) url (answer.Seen x) f h r = absurd (neither h)
init_from (initial.FetchProps u) url (answer.Identity x) f h r = absurd (neither h)
init_from (initial.FetchProps u) url (answer.Latest x) f h r = absurd (neither h)
init_from (initial.FetchProps u) url (answer.Revision x y) f h r = absurd (neither h)
init_from (initial.FetchProps u) url (answer.Map x) f h r = absurd r
init_from (initial.FetchProps u) url (answer.Refused x) f h r = Bad tt r
init_from (initial.FetchProps u) url (answer.Failed x) f h r = Bad tt r
init_from (initial.Init u props) url answer.Done f h r = absurd r
init_from (initial.Init u props) url (answer.Seen x) f h r = absurd (neither h)
init_from (initial.Init u props) url (answer.Identity x) f h r = absurd (neither h)
init_from (initial.Init u props) url (answer.Latest x) f h r = absurd (neither h)
init_from (initial.Init u props) url (answer.Revision x y) f h r = absurd (neither h)
init_from (initial.Init u props) url (answer.Map x) f h r = absurd (neither h)
init_from (initial.Init u props) url (answer.Refused x) f h r = Bad tt r
init_from (initial.Init u props) url (answer.Failed x) f h r = Bad tt r
init_from (initial.End e) url a f h r = Before r

shapeless : (o : Option Resting) → is_some o ≡ false → o ≡ None
shapeless None h = refl
shapeless (Some x) h = absurd (cc)

pub copy_looked_is : (s : Standing) (Q : CopyPhase → Type 0) → Q (copying.Who s.merged s.uuid) → ((x : SyncFault) → LooksBad s x → Q (copying.Release (ending.Refused x))) → Q (copy_table.looked s)
copy_looked_is s Q who refused = by_url (is_none s.url) refl
  where
    by_shape : (b : Bool) → is_some (shape_in s.merged s.copying s.head) ≡ b → Q (if b then copying.Who s.merged s.uuid else copy_table.give_up (inconsistent_as s))
    by_shape true e = who
    by_shape false e = refused (inconsistent_as s) (inr (shapeless (shape_in s.merged s.copying s.head) e, refl))

    by_url : (b : Bool) → is_none s.url ≡ b → Q (if b then copy_table.give_up fault.NotInitialised else if is_some (shape_in s.merged s.copying s.head) then copying.Who s.merged s.uuid else copy_table.give_up (inconsistent_as s))
    by_url true e = refused fault.NotInitialised (inl (e, refl))
    by_url false e = by_shape (is_some (shape_in s.merged s.copying s.head)) refl

pub copy_begin_is : (m : Number) (uuid : Option (List ℕ)) (found : List ℕ) (Q : CopyPhase → Type 0) (low high : ℕ) → (nat_le low high ≡ true → Q (copying.FetchProps low)) → (nat_le low high ≡ false → Q (copying.Release ending.Fine)) → (is_identity uuid found ≡ false → Q (copying.Release (ending.Refused fault.WrongMaster))) → (reaches m high ≡ false → Q (copying.Release (ending.Refused (fault.NotYetCopied high)))) → Q (copy_table.after_who low high m uuid (answer.Identity found))
copy_begin_is m uuid found Q low high props fine other beyond = whose (is_identity uuid found) refl
  where
    starts : (b : Bool) → nat_le low high ≡ b → Q (if b then copying.FetchProps low else copying.Release ending.Fine)
    starts true e = props e
    starts false e = fine e

    merged : (b : Bool) → reaches m high ≡ b → Q (if not b then copy_table.give_up (fault.NotYetCopied high) else if nat_le low high then copying.FetchProps low else copying.Release ending.Fine)
    merged true e = starts (nat_le low high) refl
    merged false e = beyond e

    whose : (b : Bool) → is_identity uuid found ≡ b → Q (if b then copy_table.begin low high m else copy_table.give_up fault.WrongMaster)
    whose true e = merged (reaches m high) refl
    whose false e = other e

pub copy_next_is : (Q : CopyPhase → Type 0) (high n : ℕ) → (nat_lt n high ≡ true → Q (copying.FetchProps (n + 1))) → (nat_lt n high ≡ false → Q (copying.Release ending.Fine)) → Q (copy_table.next high n)
copy_next_is Q high n more fine = goes (nat_lt n high) refl
  where
    goes : (b : Bool) → nat_lt n high ≡ b → Q (if b then copying.FetchProps (n + 1) else copying.Release ending.Fine)
    goes true e = more e
    goes false e = fine e

copy_from : (token : List ℕ) (p : CopyPhase) (low high : ℕ) (a : Answer) (f : SyncFault) → IsBad a ⊎ Fits (copy_table.deed_in token p) a → copy_refused (copy_table.after_in p low high a) f → From a (copy_who_in p) (merged_in p) (λ n. high ≡ n) never_stuck (copy_refused p f) f
copy_from token copying.Lock low high answer.Done f h r = absurd r
copy_from token copying.Lock low high (answer.Seen x) f h r = absurd (neither h)
copy_from token copying.Lock low high (answer.Identity x) f h r = absurd (neither h)
copy_from token copying.Lock low high (answer.Latest x) f h r = absurd (neither h)
copy_from token copying.Lock low high (answer.Revision x y) f h r = absurd (neither h)
copy_from token copying.Lock low high (answer.Map x) f h r = absurd (neither h)
copy_from token copying.Lock low high (answer.Refused x) f h r = Bad tt r
copy_from token copying.Lock low high (answer.Failed x) f h r = Bad tt r
copy_from token copying.Look low high answer.Done f h r = absurd (neither h)
copy_from token copying.Look low high (answer.Seen x) f h r = copy_looked_is x (λ p. copy_refused p f → From (answer.Seen x) (copy_who_in copying.Look) (merged_in copying.Look) (λ n. high ≡ n) never_stuck ⊥ f) (λ z. absurd z) (λ y t e. Looked x refl (looks_bad x f y t e)) r
copy_from token copying.Look low high (answer.Identity x) f h r = absurd (neither h)
copy_from token copying.Look low high (answer.Latest x) f h r = absurd (neither h)
copy_from token copying.Look low high (answer.Revision x y) f h r = absurd (neither h)
copy_from token copying.Look low high (answer.Map x) f h r = absurd (neither h)
copy_from token copying.Look low high (answer.Refused x) f h r = Bad tt r
copy_from token copying.Look low high (answer.Failed x) f h r = Bad tt r
copy_from token (copying.Who m uuid) low high answer.Done f h r = absurd (neither h)
copy_from token (copying.Who m uuid) low high (answer.Seen x) f h r = absurd (neither h)
copy_from token (copying.Who m uuid) low high (answer.Identity x) f h r = copy_begin_is m uuid x (λ p. copy_refused p f → From (answer.Identity x) (copy_who_in (copying.Who m uuid)) (merged_in (copying.Who m uuid)) (λ n. high ≡ n) never_stuck ⊥ f) low high (λ e x. absurd x) (λ e x. absurd x) (λ o e. Foreign uuid x refl refl o e) (λ u e. Beyond m high x refl refl refl u e) r
copy_from token (copying.Who m uuid) low high (answer.Latest x) f h r = absurd (neither h)
copy_from token (copying.Who m uuid) low high (answer.Revision x y) f h r = absurd (neither h)
copy_from token (copying.Who m uuid) low high (answer.Map x) f h r = absurd (neither h)
copy_from token (copying.Who m uuid) low high (answer.Refused x) f h r = Bad tt r
copy_from token (copying.Who m uuid) low high (answer.Failed x) f h r = Bad tt r
copy_from token (copying.FetchProps n) low high answer.Done f h r = absurd (neither h)
copy_from token (copying.FetchProps n) low high (answer.Seen x) f h r = absurd (neither h)
copy_from token (copying.FetchProps n) low high (answer.Identity x) f h r = absurd (neither h)
copy_from token (copying.FetchProps n) low high (answer.Latest x) f h r = absurd (neither h)
copy_from token (copying.FetchProps n) low high (answer.Revision x y) f h r = absurd (neither h)
copy_from token (copying.FetchProps n) low high (answer.Map x) f h r = absurd r
copy_from token (copying.FetchProps n) low high (answer.Refused x) f h r = Bad tt r
copy_from token (copying.FetchProps n) low high (answer.Failed x) f h r = Bad tt r
copy_from token (copying.Put n props) low high answer.Done f h r = copy_next_is (λ p. copy_refused p f → From (answer.Done) (copy_who_in (copying.Put n props)) (merged_in (copying.Put n props)) (λ n. high ≡ n) never_stuck ⊥ f) high n (λ e x. absurd x) (λ e x. absurd x) r
copy_from token (copying.Put n props) low high (answer.Seen x) f h r = absurd (neither h)
copy_from token (copying.Put n props) low high (answer.Identity x) f h r = absurd (neither h)
copy_from token (copying.Put n props) low high (answer.Latest x) f h r = absurd (neither h)
copy_from token (copying.Put n props) low high (answer.Revision x y) f h r = absurd (neither h)
copy_from token (copying.Put n props) low high (answer.Map x) f h r = absurd (neither h)
copy_from token (copying.Put n props) low high (answer.Refused x) f h r = Bad tt r
copy_from token (copying.Put n props) low high (answer.Failed x) f h r = Bad tt r
copy_from token (copying.Release ending.Fine) low high answer.Done f h r = absurd r
copy_from token (copying.Release ending.Fine) low high (answer.Seen x) f h r = absurd (neither h)
copy_from token (copying.Release ending.Fine) low high (answer.Identity x) f h r = absurd (neither h)
copy_from token (copying.Release ending.Fine) low high (answer.Latest x) f h r = absurd (neither h)
copy_from token (copying.Release ending.Fine) low high (answer.Revision x y) f h r = absurd (neither h)
copy_from token (copying.Release ending.Fine) low high (answer.Map x) f h r = absurd (neither h)
copy_from token (copying.Release ending.Fine) low high (answer.Refused x) f h r = Bad tt r
copy_from token (copying.Release ending.Fine) low high (answer.Failed x) f h r = Bad tt r
copy_from token (copying.Release (ending.Refused y)) low high a f h r = Before r
copy_from token (copying.End e) low high a f h r = Before r

comes_from : (s : JobState) (a : Answer) (f : SyncFault) → IsBad a ⊎ Fits (deed_in s) a → refused_in (after s a) f → From a (who_of s) (merged_of s) (high_of s) (stuck_of s) (refused_in s f) f
comes_from (state.Init s) a f h r = init_from s.phase s.url a f h r
comes_from (state.Sync s) a f h r = sync_from s.phase s.known a f h r
comes_from (state.Copy s) a f h r = copy_from s.token s.phase s.low s.high a f h r

pub said_left : (e : Spoken) (xs ys : List Spoken) → IsSaid e xs → IsSaid e (xs ++ ys)
said_left e [] ys h = absurd h
said_left e (x ∷ xs) ys (inl h) = inl h
said_left e (x ∷ xs) ys (inr h) = inr (said_left e xs ys h)

pub said_right : (e : Spoken) (xs ys : List Spoken) → IsSaid e ys → IsSaid e (xs ++ ys)
said_right e [] ys h = h
said_right e (x ∷ xs) ys h = inr (said_right e xs ys h)

comes_more : (IsHigh : ℕ → Type 0) (job : Job) (es more : List Spoken) (f : SyncFault) → ComesFrom IsHigh job es f → ComesFrom IsHigh job (es ++ more) f
comes_more IsHigh job es more f (Mirrors d h) = Mirrors d (said_left (Says d (refused_as f)) es more h)
comes_more IsHigh job es more f (Trees n h) = Trees n (said_left (NoTree n (refused_as f)) es more h)
comes_more IsHigh job es more f (Masters d text e h) = Masters d text e (said_left (Says d (told.Failed (string_bytes text))) es more h)
comes_more IsHigh job es more f (Memory e) = Memory e
comes_more IsHigh job es more f (Tables d o heard rest e said shown) = Tables d o heard (rest ++ more) (ap (λ xs. xs ++ more) e ∙ append_assoc heard rest more) said shown

answered_bad : (IsHigh : ℕ → Type 0) (job : Job) (d : Deed) (a : Answer) (es : List Spoken) (f : SyncFault) → IsBad a → fault_in a ≡ f → ComesFrom IsHigh job (es ++ made d a) f
answered_bad IsHigh job d (answer.Refused x) es f b e = Mirrors d (said_right (Says d (refused_as f)) es (made d (answer.Refused x)) (inl (ap (λ y. Says d (refused_as y)) e)))
answered_bad IsHigh job d (answer.Failed x) es f b e = Masters d x (sym e) (said_right (Says d (told.Failed (string_bytes x))) es (made d (answer.Failed x)) (inl refl))
answered_bad IsHigh job d answer.Done es f b e = absurd b
answered_bad IsHigh job d (answer.Seen x) es f b e = absurd b
answered_bad IsHigh job d (answer.Identity x) es f b e = absurd b
answered_bad IsHigh job d (answer.Latest x) es f b e = absurd b
answered_bad IsHigh job d (answer.Revision x y) es f b e = absurd b
answered_bad IsHigh job d (answer.Map x) es f b e = absurd b

-- what a phase has from its look was seen
pub record SawUuid (es : List Spoken) (u : Option (List ℕ)) : Type 0 where
  pub standing : Standing
  pub looked : IsLooked standing es
  pub same : standing.uuid ≡ u

pub record SawMerged (es : List Spoken) (n : Number) : Type 0 where
  pub standing : Standing
  pub looked : IsLooked standing es
  pub same : standing.merged ≡ n

seen_made : (s : Standing) (es more : List Spoken) → IsRound (Calls Look) (answer.Seen s) more → IsLooked s (es ++ more)
seen_made s es more (Done fits m) = said_right (Says (Calls Look) (told.Seen s)) es more (subst (λ xs. IsSaid (Says (Calls Look) (told.Seen s)) xs) (sym m) (inl refl))
seen_made s es more (Lacking e m due) = absurd (never e)
  where
    never : answer.Seen s ≡ answer.Refused fault.OutOfMemory → ⊥
    never h = cc
seen_made s es more (Treeless of n g d e m) = absurd (never e)
  where
    never : answer.Seen s ≡ answer.Refused g → ⊥
    never h = cc

sync_saw : (p : SyncPhase) (k : Known) (a : Answer) (es more : List Spoken) → IsRound (sync_table.deed_in p) a more → (u : Option (List ℕ)) → who_in (sync_table.after_in p k a).phase u → SawUuid (es ++ more) u
sync_saw phase.Look k answer.Done es more r = λ u z. absurd z
sync_saw phase.Look k (answer.Seen x) es more r = looked_is x (λ p. (u : Option (List ℕ)) → who_in p u → SawUuid (es ++ more) u) (λ shape u e. record { standing = x; looked = seen_made x es more r; same = e }) (λ y t u z. absurd z) (sync_table.seen k x)
sync_saw phase.Look k (answer.Identity x) es more r = λ u z. absurd z
sync_saw phase.Look k (answer.Latest x) es more r = λ u z. absurd z
sync_saw phase.Look k (answer.Revision x y) es more r = λ u z. absurd z
sync_saw phase.Look k (answer.Map x) es more r = λ u z. absurd z
sync_saw phase.Look k (answer.Refused x) es more r = λ u z. absurd z
sync_saw phase.Look k (answer.Failed x) es more r = λ u z. absurd z
sync_saw (phase.Who shape uuid) k answer.Done es more r = λ u z. absurd z
sync_saw (phase.Who shape uuid) k (answer.Seen x) es more r = λ u z. absurd z
sync_saw (phase.Who shape uuid) k (answer.Identity x) es more r = who_is uuid x (λ p. (u : Option (List ℕ)) → who_in p u → SawUuid (es ++ more) u) (λ u z. absurd z) (λ n u z. absurd z) (λ u z. absurd z) (λ o u z. absurd z) k shape
sync_saw (phase.Who shape uuid) k (answer.Latest x) es more r = λ u z. absurd z
sync_saw (phase.Who shape uuid) k (answer.Revision x y) es more r = λ u z. absurd z
sync_saw (phase.Who shape uuid) k (answer.Map x) es more r = λ u z. absurd z
sync_saw (phase.Who shape uuid) k (answer.Refused x) es more r = λ u z. absurd z
sync_saw (phase.Who shape uuid) k (answer.Failed x) es more r = λ u z. absurd z
sync_saw phase.Latest k answer.Done es more r = λ u z. absurd z
sync_saw phase.Latest k (answer.Seen x) es more r = λ u z. absurd z
sync_saw phase.Latest k (answer.Identity x) es more r = λ u z. absurd z
sync_saw phase.Latest k (answer.Latest x) es more r = next_is (λ p. (u : Option (List ℕ)) → who_in p u → SawUuid (es ++ more) u) (λ n u z. absurd z) (λ u z. absurd z) (λ n u z. absurd z) (λ y t u z. absurd z) (record k { latest = Some x }) x
sync_saw phase.Latest k (answer.Revision x y) es more r = λ u z. absurd z
sync_saw phase.Latest k (answer.Map x) es more r = λ u z. absurd z
sync_saw phase.Latest k (answer.Refused x) es more r = λ u z. absurd z
sync_saw phase.Latest k (answer.Failed x) es more r = λ u z. absurd z
sync_saw (phase.SetCopying n) k answer.Done es more r = λ u z. absurd z
sync_saw (phase.SetCopying n) k (answer.Seen x) es more r = λ u z. absurd z
sync_saw (phase.SetCopying n) k (answer.Identity x) es more r = λ u z. absurd z
sync_saw (phase.SetCopying n) k (answer.Latest x) es more r = λ u z. absurd z
sync_saw (phase.SetCopying n) k (answer.Revision x y) es more r = λ u z. absurd z
sync_saw (phase.SetCopying n) k (answer.Map x) es more r = λ u z. absurd z
sync_saw (phase.SetCopying n) k (answer.Refused x) es more r = λ u z. absurd z
sync_saw (phase.SetCopying n) k (answer.Failed x) es more r = λ u z. absurd z
sync_saw (phase.Fetch n) k answer.Done es more r = λ u z. absurd z
sync_saw (phase.Fetch n) k (answer.Seen x) es more r = λ u z. absurd z
sync_saw (phase.Fetch n) k (answer.Identity x) es more r = λ u z. absurd z
sync_saw (phase.Fetch n) k (answer.Latest x) es more r = λ u z. absurd z
sync_saw (phase.Fetch n) k (answer.Revision x y) es more r = λ u z. absurd z
sync_saw (phase.Fetch n) k (answer.Map x) es more r = λ u z. absurd z
sync_saw (phase.Fetch n) k (answer.Refused x) es more r = λ u z. absurd z
sync_saw (phase.Fetch n) k (answer.Failed x) es more r = λ u z. absurd z
sync_saw (phase.Commit n set props) k answer.Done es more r = λ u z. absurd z
sync_saw (phase.Commit n set props) k (answer.Seen x) es more r = λ u z. absurd z
sync_saw (phase.Commit n set props) k (answer.Identity x) es more r = λ u z. absurd z
sync_saw (phase.Commit n set props) k (answer.Latest x) es more r = λ u z. absurd z
sync_saw (phase.Commit n set props) k (answer.Revision x y) es more r = λ u z. absurd z
sync_saw (phase.Commit n set props) k (answer.Map x) es more r = λ u z. absurd z
sync_saw (phase.Commit n set props) k (answer.Refused x) es more r = λ u z. absurd z
sync_saw (phase.Commit n set props) k (answer.Failed x) es more r = λ u z. absurd z
sync_saw (phase.FetchProps n) k answer.Done es more r = λ u z. absurd z
sync_saw (phase.FetchProps n) k (answer.Seen x) es more r = λ u z. absurd z
sync_saw (phase.FetchProps n) k (answer.Identity x) es more r = λ u z. absurd z
sync_saw (phase.FetchProps n) k (answer.Latest x) es more r = λ u z. absurd z
sync_saw (phase.FetchProps n) k (answer.Revision x y) es more r = λ u z. absurd z
sync_saw (phase.FetchProps n) k (answer.Map x) es more r = λ u z. absurd z
sync_saw (phase.FetchProps n) k (answer.Refused x) es more r = λ u z. absurd z
sync_saw (phase.FetchProps n) k (answer.Failed x) es more r = λ u z. absurd z
sync_saw (phase.Put n props) k answer.Done es more r = λ u z. absurd z
sync_saw (phase.Put n props) k (answer.Seen x) es more r = λ u z. absurd z
sync_saw (phase.Put n props) k (answer.Identity x) es more r = λ u z. absurd z
sync_saw (phase.Put n props) k (answer.Latest x) es more r = λ u z. absurd z
sync_saw (phase.Put n props) k (answer.Revision x y) es more r = λ u z. absurd z
sync_saw (phase.Put n props) k (answer.Map x) es more r = λ u z. absurd z
sync_saw (phase.Put n props) k (answer.Refused x) es more r = λ u z. absurd z
sync_saw (phase.Put n props) k (answer.Failed x) es more r = λ u z. absurd z
sync_saw (phase.Merge n) k answer.Done es more r = λ u z. absurd z
sync_saw (phase.Merge n) k (answer.Seen x) es more r = λ u z. absurd z
sync_saw (phase.Merge n) k (answer.Identity x) es more r = λ u z. absurd z
sync_saw (phase.Merge n) k (answer.Latest x) es more r = λ u z. absurd z
sync_saw (phase.Merge n) k (answer.Revision x y) es more r = λ u z. absurd z
sync_saw (phase.Merge n) k (answer.Map x) es more r = λ u z. absurd z
sync_saw (phase.Merge n) k (answer.Refused x) es more r = λ u z. absurd z
sync_saw (phase.Merge n) k (answer.Failed x) es more r = λ u z. absurd z
sync_saw phase.Clear k answer.Done es more r = cleared_is (λ p. (u : Option (List ℕ)) → who_in p u → SawUuid (es ++ more) u) (λ u z. absurd z) (next_is (λ p. (u : Option (List ℕ)) → who_in p u → SawUuid (es ++ more) u) (λ n u z. absurd z) (λ u z. absurd z) (λ n u z. absurd z) (λ y t u z. absurd z)) (record k { copying = Absent })
sync_saw phase.Clear k (answer.Seen x) es more r = λ u z. absurd z
sync_saw phase.Clear k (answer.Identity x) es more r = λ u z. absurd z
sync_saw phase.Clear k (answer.Latest x) es more r = λ u z. absurd z
sync_saw phase.Clear k (answer.Revision x y) es more r = λ u z. absurd z
sync_saw phase.Clear k (answer.Map x) es more r = λ u z. absurd z
sync_saw phase.Clear k (answer.Refused x) es more r = λ u z. absurd z
sync_saw phase.Clear k (answer.Failed x) es more r = λ u z. absurd z
sync_saw (phase.Lock token steal) k answer.Done es more r = λ u z. absurd z
sync_saw (phase.Lock token steal) k (answer.Seen x) es more r = λ u z. absurd z
sync_saw (phase.Lock token steal) k (answer.Identity x) es more r = λ u z. absurd z
sync_saw (phase.Lock token steal) k (answer.Latest x) es more r = λ u z. absurd z
sync_saw (phase.Lock token steal) k (answer.Revision x y) es more r = λ u z. absurd z
sync_saw (phase.Lock token steal) k (answer.Map x) es more r = λ u z. absurd z
sync_saw (phase.Lock token steal) k (answer.Refused x) es more r = λ u z. absurd z
sync_saw (phase.Lock token steal) k (answer.Failed x) es more r = λ u z. absurd z
sync_saw (phase.Release e) k a es more r = λ u z. absurd z
sync_saw (phase.End e) k a es more r = λ u z. absurd z

copy_saw_who : (token : List ℕ) (p : CopyPhase) (low high : ℕ) (a : Answer) (es more : List Spoken) → IsRound (copy_table.deed_in token p) a more → (u : Option (List ℕ)) → copy_who_in (copy_table.after_in p low high a) u → SawUuid (es ++ more) u
copy_saw_who token copying.Lock low high answer.Done es more r = λ u z. absurd z
copy_saw_who token copying.Lock low high (answer.Seen x) es more r = λ u z. absurd z
copy_saw_who token copying.Lock low high (answer.Identity x) es more r = λ u z. absurd z
copy_saw_who token copying.Lock low high (answer.Latest x) es more r = λ u z. absurd z
copy_saw_who token copying.Lock low high (answer.Revision x y) es more r = λ u z. absurd z
copy_saw_who token copying.Lock low high (answer.Map x) es more r = λ u z. absurd z
copy_saw_who token copying.Lock low high (answer.Refused x) es more r = λ u z. absurd z
copy_saw_who token copying.Lock low high (answer.Failed x) es more r = λ u z. absurd z
copy_saw_who token copying.Look low high answer.Done es more r = λ u z. absurd z
copy_saw_who token copying.Look low high (answer.Seen x) es more r = copy_looked_is x (λ p. (u : Option (List ℕ)) → copy_who_in p u → SawUuid (es ++ more) u) (λ u e. record { standing = x; looked = seen_made x es more r; same = e }) (λ y t u z. absurd z)
copy_saw_who token copying.Look low high (answer.Identity x) es more r = λ u z. absurd z
copy_saw_who token copying.Look low high (answer.Latest x) es more r = λ u z. absurd z
copy_saw_who token copying.Look low high (answer.Revision x y) es more r = λ u z. absurd z
copy_saw_who token copying.Look low high (answer.Map x) es more r = λ u z. absurd z
copy_saw_who token copying.Look low high (answer.Refused x) es more r = λ u z. absurd z
copy_saw_who token copying.Look low high (answer.Failed x) es more r = λ u z. absurd z
copy_saw_who token (copying.Who m uuid) low high answer.Done es more r = λ u z. absurd z
copy_saw_who token (copying.Who m uuid) low high (answer.Seen x) es more r = λ u z. absurd z
copy_saw_who token (copying.Who m uuid) low high (answer.Identity x) es more r = copy_begin_is m uuid x (λ p. (u : Option (List ℕ)) → copy_who_in p u → SawUuid (es ++ more) u) low high (λ e u z. absurd z) (λ e u z. absurd z) (λ e u z. absurd z) (λ e u z. absurd z)
copy_saw_who token (copying.Who m uuid) low high (answer.Latest x) es more r = λ u z. absurd z
copy_saw_who token (copying.Who m uuid) low high (answer.Revision x y) es more r = λ u z. absurd z
copy_saw_who token (copying.Who m uuid) low high (answer.Map x) es more r = λ u z. absurd z
copy_saw_who token (copying.Who m uuid) low high (answer.Refused x) es more r = λ u z. absurd z
copy_saw_who token (copying.Who m uuid) low high (answer.Failed x) es more r = λ u z. absurd z
copy_saw_who token (copying.FetchProps n) low high answer.Done es more r = λ u z. absurd z
copy_saw_who token (copying.FetchProps n) low high (answer.Seen x) es more r = λ u z. absurd z
copy_saw_who token (copying.FetchProps n) low high (answer.Identity x) es more r = λ u z. absurd z
copy_saw_who token (copying.FetchProps n) low high (answer.Latest x) es more r = λ u z. absurd z
copy_saw_who token (copying.FetchProps n) low high (answer.Revision x y) es more r = λ u z. absurd z
copy_saw_who token (copying.FetchProps n) low high (answer.Map x) es more r = λ u z. absurd z
copy_saw_who token (copying.FetchProps n) low high (answer.Refused x) es more r = λ u z. absurd z
copy_saw_who token (copying.FetchProps n) low high (answer.Failed x) es more r = λ u z. absurd z
copy_saw_who token (copying.Put n props) low high answer.Done es more r = copy_next_is (λ p. (u : Option (List ℕ)) → copy_who_in p u → SawUuid (es ++ more) u) high n (λ e u z. absurd z) (λ e u z. absurd z)
copy_saw_who token (copying.Put n props) low high (answer.Seen x) es more r = λ u z. absurd z
copy_saw_who token (copying.Put n props) low high (answer.Identity x) es more r = λ u z. absurd z
copy_saw_who token (copying.Put n props) low high (answer.Latest x) es more r = λ u z. absurd z
copy_saw_who token (copying.Put n props) low high (answer.Revision x y) es more r = λ u z. absurd z
copy_saw_who token (copying.Put n props) low high (answer.Map x) es more r = λ u z. absurd z
copy_saw_who token (copying.Put n props) low high (answer.Refused x) es more r = λ u z. absurd z
copy_saw_who token (copying.Put n props) low high (answer.Failed x) es more r = λ u z. absurd z
copy_saw_who token (copying.Release e) low high a es more r = λ u z. absurd z
copy_saw_who token (copying.End e) low high a es more r = λ u z. absurd z

copy_saw_merged : (token : List ℕ) (p : CopyPhase) (low high : ℕ) (a : Answer) (es more : List Spoken) → IsRound (copy_table.deed_in token p) a more → (u : Number) → merged_in (copy_table.after_in p low high a) u → SawMerged (es ++ more) u
copy_saw_merged token copying.Lock low high answer.Done es more r = λ u z. absurd z
copy_saw_merged token copying.Lock low high (answer.Seen x) es more r = λ u z. absurd z
copy_saw_merged token copying.Lock low high (answer.Identity x) es more r = λ u z. absurd z
copy_saw_merged token copying.Lock low high (answer.Latest x) es more r = λ u z. absurd z
copy_saw_merged token copying.Lock low high (answer.Revision x y) es more r = λ u z. absurd z
copy_saw_merged token copying.Lock low high (answer.Map x) es more r = λ u z. absurd z
copy_saw_merged token copying.Lock low high (answer.Refused x) es more r = λ u z. absurd z
copy_saw_merged token copying.Lock low high (answer.Failed x) es more r = λ u z. absurd z
copy_saw_merged token copying.Look low high answer.Done es more r = λ u z. absurd z
copy_saw_merged token copying.Look low high (answer.Seen x) es more r = copy_looked_is x (λ p. (u : Number) → merged_in p u → SawMerged (es ++ more) u) (λ u e. record { standing = x; looked = seen_made x es more r; same = e }) (λ y t u z. absurd z)
copy_saw_merged token copying.Look low high (answer.Identity x) es more r = λ u z. absurd z
copy_saw_merged token copying.Look low high (answer.Latest x) es more r = λ u z. absurd z
copy_saw_merged token copying.Look low high (answer.Revision x y) es more r = λ u z. absurd z
copy_saw_merged token copying.Look low high (answer.Map x) es more r = λ u z. absurd z
copy_saw_merged token copying.Look low high (answer.Refused x) es more r = λ u z. absurd z
copy_saw_merged token copying.Look low high (answer.Failed x) es more r = λ u z. absurd z
copy_saw_merged token (copying.Who m uuid) low high answer.Done es more r = λ u z. absurd z
copy_saw_merged token (copying.Who m uuid) low high (answer.Seen x) es more r = λ u z. absurd z
copy_saw_merged token (copying.Who m uuid) low high (answer.Identity x) es more r = copy_begin_is m uuid x (λ p. (u : Number) → merged_in p u → SawMerged (es ++ more) u) low high (λ e u z. absurd z) (λ e u z. absurd z) (λ e u z. absurd z) (λ e u z. absurd z)
copy_saw_merged token (copying.Who m uuid) low high (answer.Latest x) es more r = λ u z. absurd z
copy_saw_merged token (copying.Who m uuid) low high (answer.Revision x y) es more r = λ u z. absurd z
copy_saw_merged token (copying.Who m uuid) low high (answer.Map x) es more r = λ u z. absurd z
copy_saw_merged token (copying.Who m uuid) low high (answer.Refused x) es more r = λ u z. absurd z
copy_saw_merged token (copying.Who m uuid) low high (answer.Failed x) es more r = λ u z. absurd z
copy_saw_merged token (copying.FetchProps n) low high answer.Done es more r = λ u z. absurd z
copy_saw_merged token (copying.FetchProps n) low high (answer.Seen x) es more r = λ u z. absurd z
copy_saw_merged token (copying.FetchProps n) low high (answer.Identity x) es more r = λ u z. absurd z
copy_saw_merged token (copying.FetchProps n) low high (answer.Latest x) es more r = λ u z. absurd z
copy_saw_merged token (copying.FetchProps n) low high (answer.Revision x y) es more r = λ u z. absurd z
copy_saw_merged token (copying.FetchProps n) low high (answer.Map x) es more r = λ u z. absurd z
copy_saw_merged token (copying.FetchProps n) low high (answer.Refused x) es more r = λ u z. absurd z
copy_saw_merged token (copying.FetchProps n) low high (answer.Failed x) es more r = λ u z. absurd z
copy_saw_merged token (copying.Put n props) low high answer.Done es more r = copy_next_is (λ p. (u : Number) → merged_in p u → SawMerged (es ++ more) u) high n (λ e u z. absurd z) (λ e u z. absurd z)
copy_saw_merged token (copying.Put n props) low high (answer.Seen x) es more r = λ u z. absurd z
copy_saw_merged token (copying.Put n props) low high (answer.Identity x) es more r = λ u z. absurd z
copy_saw_merged token (copying.Put n props) low high (answer.Latest x) es more r = λ u z. absurd z
copy_saw_merged token (copying.Put n props) low high (answer.Revision x y) es more r = λ u z. absurd z
copy_saw_merged token (copying.Put n props) low high (answer.Map x) es more r = λ u z. absurd z
copy_saw_merged token (copying.Put n props) low high (answer.Refused x) es more r = λ u z. absurd z
copy_saw_merged token (copying.Put n props) low high (answer.Failed x) es more r = λ u z. absurd z
copy_saw_merged token (copying.Release e) low high a es more r = λ u z. absurd z
copy_saw_merged token (copying.End e) low high a es more r = λ u z. absurd z

saw_who : (s : JobState) (a : Answer) (es more : List Spoken) → IsRound (deed_in s) a more → (u : Option (List ℕ)) → who_of (after s a) u → SawUuid (es ++ more) u
saw_who (state.Init s) a es more r = λ u z. absurd z
saw_who (state.Sync s) a es more r = sync_saw s.phase s.known a es more r
saw_who (state.Copy s) a es more r = copy_saw_who s.token s.phase s.low s.high a es more r

saw_merged : (s : JobState) (a : Answer) (es more : List Spoken) → IsRound (deed_in s) a more → (n : Number) → merged_of (after s a) n → SawMerged (es ++ more) n
saw_merged (state.Init s) a es more r = λ u z. absurd z
saw_merged (state.Sync s) a es more r = λ u z. absurd z
saw_merged (state.Copy s) a es more r = copy_saw_merged s.token s.phase s.low s.high a es more r

-- what a state refuses came from somewhere, what it has from its look was seen, and its highest number is the order's
pub record IsFrom (IsHigh : ℕ → Type 0) (job : Job) (s : JobState) (es : List Spoken) : Type 0 where
  pub refusals : (f : SyncFault) → refused_in s f → ComesFrom IsHigh job es f
  pub who : (u : Option (List ℕ)) → who_of s u → SawUuid es u
  pub merged : (n : Number) → merged_of s n → SawMerged es n
  pub highest : (n : ℕ) → high_of s n → IsHigh n

foreign_by : (es more : List Spoken) (u : Option (List ℕ)) (found : List ℕ) (f : SyncFault) → SawUuid es u → is_identity u found ≡ false → fault.WrongMaster ≡ f → IsForeign (es ++ more) found f
foreign_by es more u found f w o e = record { standing = w.standing; looked = said_left (Says (Calls Look) (told.Seen w.standing)) es more w.looked; other = ap (λ x. is_identity x found) w.same ∙ o; fault = sym e }

beyond_by : (IsHigh : ℕ → Type 0) (es more : List Spoken) (m : Number) (high : ℕ) (f : SyncFault) → SawMerged es m → IsHigh high → reaches m high ≡ false → fault.NotYetCopied high ≡ f → IsBeyond IsHigh (es ++ more) f
beyond_by IsHigh es more m high f w top o e = record { standing = w.standing; looked = said_left (Says (Calls Look) (told.Seen w.standing)) es more w.looked; high = high; highest = top; unmerged = ap (λ x. reaches x high) w.same ∙ o; fault = sym e }

-- the numbers of a state that asks for the newest revision are those that its job knows
stuck_by : (job : Job) (s : JobState) (es more : List Spoken) (n : ℕ) (f : SyncFault) → Follows (hears_all job es) s → stuck_of s f → more ≡ made (deed_in s) (answer.Latest n) → IsStuck (hears_all job (es ++ more)) f
stuck_by job (state.Init s) es more n f h w m = absurd w
stuck_by job (state.Copy s) es more n f h w m = absurd w
stuck_by job (state.Sync s) es more n f h w m = by s.phase h w m
  where
    by : (p : SyncPhase) → sync_follows.FollowsIn p (hears_all job es) s.known → stuck_in p s.known f → more ≡ made (sync_table.deed_in p) (answer.Latest n) → IsStuck (hears_all job (es ++ more)) f
    by phase.Latest h w m =
        subst (λ j. IsStuck j f) (sym (ap (λ xs. hears_all job (es ++ xs)) m ∙ hears_append job es (made AsksLatest (answer.Latest n))))
        (record {
          noted = ap is_absent h.0.copying ∙ w.noted;
          full = ap (λ k. nat_lt k 65535) h.0.head ∙ w.full;
          fault =
              w.fault
              ∙ ap (λ x. fault.Inconsistent (numbers.told_of x None) (numbers.told_of s.known.copying None) s.known.head) (sym h.0.merged)
              ∙ ap (λ x. fault.Inconsistent (numbers.told_of (hears_all job es).merged None) (numbers.told_of x None) s.known.head) (sym h.0.copying)
              ∙ ap (λ x. fault.Inconsistent (numbers.told_of (hears_all job es).merged None) (numbers.told_of (hears_all job es).copying None) x) (sym h.0.head);
        })
    by (phase.Lock token steal) h w m = absurd w
    by phase.Look h w m = absurd w
    by (phase.Who shape uuid) h w m = absurd w
    by (phase.SetCopying k) h w m = absurd w
    by (phase.Fetch k) h w m = absurd w
    by (phase.Commit k set props) h w m = absurd w
    by (phase.FetchProps k) h w m = absurd w
    by (phase.Put k props) h w m = absurd w
    by (phase.Merge k) h w m = absurd w
    by phase.Clear h w m = absurd w
    by (phase.Release e) h w m = absurd w
    by (phase.End e) h w m = absurd w

-- an answer that was heard shows it
shown_by : (IsHigh : ℕ → Type 0) (job : Job) (s : JobState) (es more : List Spoken) (a b : Answer) (f : SyncFault) → more ≡ made (deed_in s) a → a ≡ b → IsShown IsHigh job (es ++ more) (outcome_of b) f → ComesFrom IsHigh job (es ++ more) f
shown_by IsHigh job s es more a b f m e h =
    Tables (deed_in s) (outcome_of a) (es ++ more) [] (sym (append-nil (es ++ more))) (said_right (Says (deed_in s) (outcome_of a)) es more (subst (λ xs. IsSaid (Says (deed_in s) (outcome_of a)) xs) (sym m) (inl refl)))
    (subst (λ x. IsShown IsHigh job (es ++ more) (outcome_of x) f) (sym e) h)

done_from : (IsHigh : ℕ → Type 0) (job : Job) (s : JobState) (es : List Spoken) (a : Answer) (more : List Spoken) (f : SyncFault) → Follows (hears_all job es) s → IsFrom IsHigh job s es → more ≡ made (deed_in s) a → From a (who_of s) (merged_of s) (high_of s) (stuck_of s) (refused_in s f) f → ComesFrom IsHigh job (es ++ more) f
done_from IsHigh job s es a more f follows p m (Before b) = comes_more IsHigh job es more f (p.refusals f b)
done_from IsHigh job s es a more f follows p m (Bad b e) = subst (λ xs. ComesFrom IsHigh job (es ++ xs) f) (sym m) (answered_bad IsHigh job (deed_in s) a es f b e)
done_from IsHigh job s es a more f follows p m (Looked x e b) = shown_by IsHigh job s es more a (answer.Seen x) f m e b
done_from IsHigh job s es a more f follows p m (Foreign u found w e o q) = shown_by IsHigh job s es more a (answer.Identity found) f m e (inl (foreign_by es more u found f (p.who u w) o q))
done_from IsHigh job s es a more f follows p m (Beyond n high found w top e o q) = shown_by IsHigh job s es more a (answer.Identity found) f m e (inr (beyond_by IsHigh es more n high f (p.merged n w) (p.highest high top) o q))
done_from IsHigh job s es a more f follows p m (Newest n e t) = shown_by IsHigh job s es more a (answer.Latest n) f m e (stuck_by job s es more n f follows t (m ∙ ap (λ x. made (deed_in s) x) e))

-- a refusal that is answered is no other answer
refused_from : (IsHigh : ℕ → Type 0) (job : Job) (es more : List Spoken) (g f : SyncFault) (who : Option (List ℕ) → Type 0) (merged : Number → Type 0) (top : ℕ → Type 0) (stuck : SyncFault → Type 0) (before : Type 0)
    → (before → ComesFrom IsHigh job (es ++ more) f) → (g ≡ f → ComesFrom IsHigh job (es ++ more) f) → From (answer.Refused g) who merged top stuck before f → ComesFrom IsHigh job (es ++ more) f
refused_from IsHigh job es more g f who merged top stuck before b q (Before x) = b x
refused_from IsHigh job es more g f who merged top stuck before b q (Bad x e) = q e
refused_from IsHigh job es more g f who merged top stuck before b q (Looked x e t) = absurd (cc)
refused_from IsHigh job es more g f who merged top stuck before b q (Foreign u found w e o t) = absurd (cc)
refused_from IsHigh job es more g f who merged top stuck before b q (Beyond n high found w h e o t) = absurd (cc)
refused_from IsHigh job es more g f who merged top stuck before b q (Newest n e t) = absurd (cc)

comes_on : (IsHigh : ℕ → Type 0) (job : Job) (s : JobState) (es : List Spoken) (a : Answer) (more : List Spoken) → Follows (hears_all job es) s → IsFrom IsHigh job s es → IsRound (deed_in s) a more → (f : SyncFault) → refused_in (after s a) f → ComesFrom IsHigh job (es ++ more) f
comes_on IsHigh job s es a more follows p (Done fits m) f r = done_from IsHigh job s es a more f follows p m (comes_from s a f (inr fits) r)
comes_on IsHigh job s es a more follows p (Lacking e m due) f r =
    refused_from IsHigh job es more fault.OutOfMemory f (who_of s) (merged_of s) (high_of s) (stuck_of s) (refused_in s f) (λ b. comes_more IsHigh job es more f (p.refusals f b)) (λ x. Memory (sym x))
    (comes_from s (answer.Refused fault.OutOfMemory) f (inl tt) (subst (λ x. refused_in (after s x) f) e r))
comes_on IsHigh job s es a more follows p (Treeless of n g d e m) f r =
    refused_from IsHigh job es more g f (who_of s) (merged_of s) (high_of s) (stuck_of s) (refused_in s f) (λ b. comes_more IsHigh job es more f (p.refusals f b))
    (λ x. Trees n (said_right (NoTree n (refused_as f)) es more (subst (λ xs. IsSaid (NoTree n (refused_as f)) xs) (sym m) (inl (ap (λ y. NoTree n (refused_as y)) x)))))
    (comes_from s (answer.Refused g) f (inl tt) (subst (λ x. refused_in (after s x) f) e r))

-- the highest number stays
high_on : (s : JobState) (a : Answer) (n : ℕ) → high_of (after s a) n → high_of s n
high_on (state.Init s) a n h = absurd h
high_on (state.Sync s) a n h = absurd h
high_on (state.Copy s) a n h = h

from_on : Laws → (N : Job → ℕ → Type 0) (IsHigh : ℕ → Type 0) (job : Job) (s : JobState) (es : List Spoken) (a : Answer) (more : List Spoken) → IsRightly N job s es → IsFrom IsHigh job s es → IsRound (deed_in s) a more → IsFrom IsHigh job (after s a) (es ++ more)
from_on laws N IsHigh job s es a more rightly p r = by rightly.follows
  where
    by : Follows (hears_all job es) s ⊎ EndsRefused s → IsFrom IsHigh job (after s a) (es ++ more)
    by (inl h) = record { refusals = comes_on IsHigh job s es a more h p r; who = saw_who s a es more r; merged = saw_merged s a es more r; highest = λ n h. p.highest n (high_on s a n h) }
    by (inr h) = record {
      refusals = λ f x. comes_more IsHigh job es more f (p.refusals f (subst (λ y. refused_in y f) (laws.ended s a (ending.Refused h.0) h.1).1 x));
      who = saw_who s a es more r;
      merged = saw_merged s a es more r;
      highest = λ n h. p.highest n (high_on s a n h);
    }

pub record IsFromRightly (N : Job → ℕ → Type 0) (IsHigh : ℕ → Type 0) (job : Job) (s : JobState) (es : List Spoken) : Type 0 where
  pub rightly : IsRightly N job s es
  pub from : IsFrom IsHigh job s es

-- each refusal of a run comes from somewhere
pub run_from : Laws → (N : Job → ℕ → Type 0) (IsHigh : ℕ → Type 0) (job : Job) (s t : JobState) (rs : List Round) → Goes s rs t → IsFromRightly N IsHigh job s [] → (f : SyncFault) → refused_in t f → ComesFrom IsHigh job (said_by rs) f
run_from laws N IsHigh job s t rs g p =
    (carry (IsFromRightly N IsHigh job) (λ x es a more q r. record { rightly = rightly_on laws N job x es a more q.rightly r; from = from_on laws N IsHigh job x es a more q.rightly q.from r }) s t rs [] g p).from.refusals

same_ending : (e x : Ending) → ◌≡◌ {A = Option Ending} (Some e) (Some x) → e ≡ x
same_ending e x h = cc

is_of_refused : (e : Ending) (f : SyncFault) → ◌≡◌ {A = Option Ending} (Some e) (Some (ending.Refused f)) → IsOf e f
is_of_refused e f h = subst (λ x. IsOf x f) (sym (same_ending e (ending.Refused f) h)) refl

pub ended_refused : (s : JobState) (f : SyncFault) → ending_of s ≡ Some (ending.Refused f) → refused_in s f
ended_refused (state.Init s) f h = by s.phase h
  where
    by : (p : InitPhase) → init_table.ending_in p ≡ Some (ending.Refused f) → init_refused p f
    by (initial.End e) h = is_of_refused e f h
    by initial.Who h = absurd (cc)
    by (initial.FetchProps u) h = absurd (cc)
    by (initial.Init u props) h = absurd (cc)
ended_refused (state.Sync s) f h = by s.phase h
  where
    by : (p : SyncPhase) → sync_table.ending_in p ≡ Some (ending.Refused f) → sync_refused p f
    by (phase.End e) h = is_of_refused e f h
    by (phase.Lock token steal) h = absurd (cc)
    by phase.Look h = absurd (cc)
    by (phase.Who shape uuid) h = absurd (cc)
    by phase.Latest h = absurd (cc)
    by (phase.SetCopying n) h = absurd (cc)
    by (phase.Fetch n) h = absurd (cc)
    by (phase.Commit n set props) h = absurd (cc)
    by (phase.FetchProps n) h = absurd (cc)
    by (phase.Put n props) h = absurd (cc)
    by (phase.Merge n) h = absurd (cc)
    by phase.Clear h = absurd (cc)
    by (phase.Release e) h = absurd (cc)
ended_refused (state.Copy s) f h = by s.phase h
  where
    by : (p : CopyPhase) → copy_table.ending_in p ≡ Some (ending.Refused f) → copy_refused p f
    by (copying.End e) h = is_of_refused e f h
    by copying.Lock h = absurd (cc)
    by copying.Look h = absurd (cc)
    by (copying.Who m uuid) h = absurd (cc)
    by (copying.FetchProps n) h = absurd (cc)
    by (copying.Put n props) h = absurd (cc)
    by (copying.Release e) h = absurd (cc)
