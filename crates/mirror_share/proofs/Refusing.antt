-- Why a call of a shared mirror is refused.
use Rattle.std.proofs.Common.{◌≡◌, ◌⊎◌, inl, inr, ◌<◌, ◌+◌, ℕ, Bool, true, false, List, [], ◌∷◌, length, Option, Some, None, Result, refl, sym, subst, arith}
use Rattle.std.proofs.lemmas.Bool.Decides.{nat_tests}
use Rattle.std.specs.Prelude.{IfErr, ◌==◌, ◌&&◌, ◌||◌, not, nat_le, nat_lt, is_some, is_none}
use Rattle.std.specs.Option.{option_map, option_and_then}
use Rattle.std.specs.FinMap as finite
use Rattle.std.specs.Fmt as fmt
use Rattle.node_base.specs.Props.{PropMap, without_sync, copied_beside}
use Rattle.dump_load.specs.Faults.{fault_if, first_of, fault, refused}
use Rattle.node_base.specs.declared.fault.TreeFault.{TreeFault}
use Rattle.dump_load.specs.declared.fault.ChangeFault.{ChangeFault}
use Rattle.repo_core.specs.Repository.{Revision, props_at, trees_of}
use Rattle.repo_core.specs.Refusals.{by_repository, within_limits}
use Rattle.repo_core.specs.declared.entry.Entry.{Entry}
use Rattle.repo_core.specs.declared.fault.RepoFault.{RepoFault}
use Rattle.repo_core.specs.declared.fault.RepoFault.TheVariants as repo
use Rattle.sync_core.specs.Names.{copying_name, lock_name, merged_name, is_absent, is_number, precedes, reaches}
use Rattle.sync_core.specs.Mirror.{Mirror, Call, Init, TakeLock, StealLock, ReleaseLock, SetCopying, Commit, PutProps, SetMerged, ClearCopying, Look, Refusal, OfRepository, refusal, unmet, holds, standing_of, entry_of, first_map}
use Rattle.sync_core.specs.Mirror as mirror
use Rattle.sync_core.specs.Plain.{AnswersErr, IsRefused, IsTold}
use Rattle.sync_core.specs.Plans.{IsPlanned}
use Rattle.sync_core.specs.declared.need.Need.{Need}
use Rattle.sync_core.specs.declared.need.Need.TheVariants as need
use Rattle.sync_core.specs.declared.planning.Planned.{Planned}
use Rattle.sync_core.specs.declared.planning.Planned.TheVariants.{Write}
use Rattle.sync_core.specs.declared.fault.SyncFault.{SyncFault}
use Rattle.sync_core.specs.declared.fault.SyncFault.TheVariants as fault
use Rattle.sync_core.specs.declared.reply.Reply.{Reply as Given}
use Rattle.sync_core.specs.declared.standing.Standing.{Standing}
use Rattle.sync_job.specs.Kept.{IsWrite}
use Rattle.sync_job.specs.Mirrors.{MirrorNow, mirror_in, ByTable, IsCause, Due, Broken, Accepted, Doubted, Unchanged}
use Rattle.sync_job.specs.Mirrors as cause
use Rattle.store_share.proofs.Showing.{some_is}
use Rattle.mirror_share.specs.Refused.{MayMiss, MayForbid, IsRefusalOf, Missed, Forbidden, NoMemory, NoRoom, DeviceFails, Failed}
use Rattle.mirror_share.specs.Steps.{StepsShown, Shown, Hides, Stuck}
use Rattle.sync_job.proofs.Stores.{refused_why}

one : {F : Type 0} (a : Bool) (x n : F) → first_of (fault_if a x ∷ []) ≡ Some n → n ≡ x
one true x n e = sym (some_is x n e)
one false x n e = absurd (cc)

two : {F : Type 0} (a b : Bool) (x y n : F) → first_of (fault_if a x ∷ fault_if b y ∷ []) ≡ Some n → (n ≡ x) ⊎ (n ≡ y)
two true b x y n e = inl (sym (some_is x n e))
two false true x y n e = inr (sym (some_is y n e))
two false false x y n e = absurd (cc)

second : {F : Type 0} (a b : Bool) (x y n : F) → a ≡ false → first_of (fault_if a x ∷ fault_if b y ∷ []) ≡ Some n → n ≡ y
second true b x y n f e = absurd (cc)
second false b x y n f e = one b y n e

turn_of : (a b : Bool) (n : Need) → first_of (fault_if (not a) need.NotHolder ∷ fault_if (not b) need.OutOfTurn ∷ []) ≡ Some n → (n ≡ need.NotHolder) ⊎ (n ≡ need.OutOfTurn)
turn_of a b n e = two (not a) (not b) need.NotHolder need.OutOfTurn n e

missed : (r : Standing) (holder : Option ℕ) (seat : ℕ) (call : Call) (n : Need) → unmet r holder seat call ≡ Some n → MayMiss call n
missed r holder seat (Init url uuid props) n e = two (is_some r.url) (not (r.head == 0)) need.AlreadyInitialised need.NotEmpty n e
missed r holder seat (TakeLock token) n e = two (is_none r.url) (is_some r.lock) need.NotInitialised need.LockHeld n e
missed r holder seat (StealLock token) n e = two (is_none r.url) (is_some holder) need.NotInitialised need.HolderRunning n e
missed r holder seat ReleaseLock n e = one (not (holds holder seat)) need.NotHolder n e
missed r holder seat (SetCopying k) n e = turn_of (holds holder seat) (is_absent r.copying && is_number r.merged r.head && (k == r.head + 1)) n e
missed r holder seat (Commit k set props) n e = turn_of (holds holder seat) (is_number r.copying k && is_number r.merged r.head && (k == r.head + 1)) n e
missed r holder seat (PutProps k props) n e = turn_of (holds holder seat) (reaches r.merged k || (is_number r.copying k && (k == r.head))) n e
missed r holder seat (SetMerged k) n e = turn_of (holds holder seat) (is_number r.copying k && (k == r.head) && precedes r.merged k) n e
missed r holder seat ClearCopying n e = turn_of (holds holder seat) (is_number r.copying r.head && is_number r.merged r.head) n e
missed r holder seat Look n e = absurd (cc)

-- revision 0 is there
zero_there : (x : List Revision) → 0 < length x → nat_le (length x) 0 ≡ false
zero_there x some = grind (arith, nat_tests)

at_zero : (x : List Revision) (p : PropMap) (e : RepoFault) → 0 < length x → first_of (fault_if (nat_le (length x) 0) repo.NoSuchRevision ∷ fault_if (not (within_limits p)) repo.TooLong ∷ []) ≡ Some e → e ≡ repo.TooLong
at_zero x p e some h = second (nat_le (length x) 0) (not (within_limits p)) repo.NoSuchRevision repo.TooLong e (zero_there x some) h

of_commit : (a : Bool) (o : Option TreeFault) (p : Bool) (e : RepoFault) → first_of (fault_if a repo.Full ∷ option_map (λ f. repo.Change (refused f)) o ∷ fault_if p repo.TooLong ∷ []) ≡ Some e
    → (e ≡ repo.Full) ⊎ ((f : ChangeFault) × (e ≡ repo.Change f)) ⊎ (e ≡ repo.TooLong)
of_commit true o p e h = inl (sym (some_is repo.Full e h))
of_commit false (Some f) p e h = inr (inl (refused f, sym (some_is (repo.Change (refused f)) e h)))
of_commit false None p e h = inr (inr (one p repo.TooLong e h))

forbidden : (x : List Revision) (call : Call) (e : RepoFault) → 0 < length x → option_and_then (by_repository x) (entry_of x call) ≡ Some e → MayForbid call e
forbidden x (Init url uuid props) e some h = at_zero x (first_map url uuid props) e some h
forbidden x (TakeLock token) e some h = at_zero x (finite.insert (props_at x 0) lock_name token) e some h
forbidden x (StealLock token) e some h = at_zero x (finite.insert (props_at x 0) lock_name token) e some h
forbidden x ReleaseLock e some h = at_zero x (finite.remove (props_at x 0) lock_name) e some h
forbidden x (SetCopying n) e some h = at_zero x (finite.insert (props_at x 0) copying_name (fmt.decimal n)) e some h
forbidden x (Commit n set props) e some h = of_commit (nat_lt 65535 (length x)) (fault (trees_of x) set) (not (within_limits (without_sync props))) e h
forbidden x (PutProps n props) e some h = two (nat_le (length x) n) (not (within_limits (copied_beside (props_at x n) props))) repo.NoSuchRevision repo.TooLong e h
forbidden x (SetMerged n) e some h = at_zero x (finite.insert (props_at x 0) merged_name (fmt.decimal n)) e some h
forbidden x ClearCopying e some h = at_zero x (finite.remove (props_at x 0) copying_name) e some h
forbidden x Look e some h = absurd (cc)

-- a refusal by the table misses a need, or is the repository's
split : (n : Option Need) (d : Option RepoFault) (why : Refusal) → first_of (option_map mirror.Missed n ∷ option_map OfRepository d ∷ []) ≡ Some why
    → ((k : Need) × (n ≡ Some k) × (why ≡ mirror.Missed k)) ⊎ ((e : RepoFault) × (d ≡ Some e) × (why ≡ OfRepository e))
split (Some k) d why h = inl (k, refl, sym (some_is (mirror.Missed k) why h))
split None (Some e) why h = inr (e, refl, sym (some_is (OfRepository e) why h))
split None None why h = absurd (cc)

of_why : (m : Mirror) (seat : ℕ) (call : Call) (why : Refusal) (f : SyncFault) → 0 < length m.revisions → refusal m seat call ≡ Some why → IsTold (finite.get (props_at m.revisions 0) lock_name) why f → IsRefusalOf call f
of_why m seat call why f some is told = by_kind (split (unmet (standing_of m.revisions) m.holder seat call) (option_and_then (by_repository m.revisions) (entry_of m.revisions call)) why is)
  where
    by_kind : ((k : Need) × (unmet (standing_of m.revisions) m.holder seat call ≡ Some k) × (why ≡ mirror.Missed k))
        ⊎ ((e : RepoFault) × (option_and_then (by_repository m.revisions) (entry_of m.revisions call) ≡ Some e) × (why ≡ OfRepository e)) → IsRefusalOf call f
    by_kind (inl k) = Missed k.0 (finite.get (props_at m.revisions 0) lock_name) (missed (standing_of m.revisions) m.holder seat call k.0 k.1) (subst (λ y. IsTold (finite.get (props_at m.revisions 0) lock_name) y f) k.2 told)
    by_kind (inr e) = Forbidden e.0 (forbidden m.revisions call e.0 some e.1) (subst (λ y. IsTold (finite.get (props_at m.revisions 0) lock_name) y f) e.2 told)

refused_of : (m : Mirror) (seat : ℕ) (call : Call) (f : SyncFault) → 0 < length m.revisions → IsRefused m seat call f m → IsRefusalOf call f
refused_of m seat call f some r = of_why m seat call r.why f some (refused_why m call r.why (refusal m seat call) r.step.replied) r.told

-- a call isn't planned
pub of_answer : (m : Mirror) (seat : ℕ) (call : Call) (f : SyncFault) → 0 < length m.revisions → AnswersErr m seat call f m → IsRefusalOf call f
of_answer m seat call fault.NotInitialised some r = refused_of m seat call fault.NotInitialised some r
of_answer m seat call fault.AlreadyInitialised some r = refused_of m seat call fault.AlreadyInitialised some r
of_answer m seat call fault.NotEmpty some r = refused_of m seat call fault.NotEmpty some r
of_answer m seat call (fault.LockHeld t) some r = refused_of m seat call (fault.LockHeld t) some r
of_answer m seat call (fault.HolderRunning t) some r = refused_of m seat call (fault.HolderRunning t) some r
of_answer m seat call fault.WrongMaster some r = refused_of m seat call fault.WrongMaster some r
of_answer m seat call (fault.Inconsistent a b c) some r = refused_of m seat call (fault.Inconsistent a b c) some r
of_answer m seat call (fault.NotYetCopied k) some r = refused_of m seat call (fault.NotYetCopied k) some r
of_answer m seat call fault.NotHolder some r = refused_of m seat call fault.NotHolder some r
of_answer m seat call (fault.MasterFailed t) some r = refused_of m seat call (fault.MasterFailed t) some r
of_answer m seat call fault.OutOfTurn some r = refused_of m seat call fault.OutOfTurn some r
of_answer m seat call (fault.Other x) some r = refused_of m seat call (fault.Other x) some r
of_answer m seat call fault.OutOfMemory some r = NoMemory refl

-- a call that writes

pub writes : (m : Mirror) (seat : ℕ) (call : Call) (p : Planned) (e : Entry) → p ≡ Write e → IsPlanned m seat call p → IsWrite call
writes m seat call p e is planned = by_entry call (subst (λ q. IsPlanned m seat call q) is planned).entry
  where
    by_entry : (c : Call) → entry_of m.revisions c ≡ Some e → IsWrite c
    by_entry (Init url uuid props) h = tt
    by_entry (TakeLock token) h = tt
    by_entry (StealLock token) h = tt
    by_entry ReleaseLock h = tt
    by_entry (SetCopying n) h = tt
    by_entry (Commit n set props) h = tt
    by_entry (PutProps n props) h = tt
    by_entry (SetMerged n) h = tt
    by_entry ClearCopying h = tt
    by_entry Look h = absurd (cc)

of_cause : (m : MirrorNow) (seat : ℕ) (call : Call) (f : SyncFault) → 0 < length m.repository.revisions → IsWrite call → IsCause m seat call f → IsRefusalOf call f
of_cause m seat call f some w (Due (ByTable why is told)) = of_why (mirror_in m) seat call why f some is told
of_cause m seat call f some w (cause.NoMemory e) = NoMemory e
of_cause m seat call f some w (cause.NoRoom e) = NoRoom w e
of_cause m seat call f some w (Broken e b) = Failed e

abbrev Told : Call → Result Given SyncFault → Type 0
Told call result = IfErr result (λ (f : SyncFault). IsRefusalOf call f)

pub of_step : (before after : Bool) (m new : MirrorNow) (seat : ℕ) (call : Call) (result : Result Given SyncFault) → 0 < length m.repository.revisions → IsWrite call → StepsShown before m seat call result after new
    → IfErr result (λ (f : SyncFault). IsRefusalOf call f)
of_step before after m new seat call result some w (Shown b a (Accepted r is x)) = subst (Told call) (sym is) tt
of_step before after m new seat call result some w (Shown b a (Doubted is d)) = subst (Told call) (sym is) (DeviceFails w refl)
of_step before after m new seat call result some w (Shown b a (Unchanged f is why same)) = subst (Told call) (sym is) (of_cause m seat call f some w why)
of_step before after m new seat call result some w (Hides b a is i) = subst (Told call) (sym is) (Failed refl)
of_step before after m new seat call result some w (Stuck b a is same) = subst (Told call) (sym is) (Failed refl)
