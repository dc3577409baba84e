-- Refusals of a mirror in memory are steps.
use Rattle.std.proofs.Common.{◌≡◌, ℕ, true, [], ◌∷◌, Option, Some, None, is_some, if◌then◌else◌, refl, sym, ap, ◌∙◌, subst}
use Rattle.std.specs.Option.{option_map, option_map_or, option_and_then}
use Rattle.std.specs.FinMap as finite
use Rattle.node_base.specs.Props.{PropMap}
use Rattle.dump_load.specs.Faults.{first_of}
use Rattle.dump_load.specs.declared.fault.ChangeFault.TheVariants as change
use Rattle.repo_core.specs.declared.entry.Entry.{Entry}
use Rattle.repo_core.specs.declared.fault.RepoFault.{RepoFault}
use Rattle.repo_core.specs.declared.fault.RepoFault.TheVariants as repo
use Rattle.repo_core.specs.Repository.{head_of, props_at}
use Rattle.repo_core.specs.Refusals.{by_repository}
use Rattle.repo_core.specs.Refusals as repository
use Rattle.sync_core.specs.declared.fault.SyncFault.{SyncFault}
use Rattle.sync_core.specs.declared.fault.SyncFault.TheVariants as fault
use Rattle.sync_core.specs.Names.{lock_name}
use Rattle.sync_core.specs.Faults.{of_repository}
use Rattle.sync_core.specs.Dues.{IsDue, IsNeedAnswer, tells_lock}
use Rattle.sync_core.specs.Mirror.{Mirror, Call, Need, Refused, Refusal, Missed, OfRepository, standing_in, standing_of, unmet, entry_of, refusal, granted, accepted}
use Rattle.sync_core.specs.Plain.{IsTold, IsRefused, LacksMemory, AnswersErr}
use Rattle.sync_core.specs.Plans.{IsToWrite}

refuses : (old : Mirror) (seat : ℕ) (call : Call) (why : Refusal) (f : SyncFault) → refusal old seat call ≡ Some why → IsTold (finite.get (props_at old.revisions 0) lock_name) why f → IsRefused old seat call f old
refuses old seat call why f e t =
    record {
      why = why;
      told = t;
      step = record {
        replied = sym (ap (λ r. option_map_or Refused r (granted old call)) e);
        mirror = sym (ap (λ (r : Option Refusal). if is_some r then old else accepted old seat call) e);
      };
    }

abbrev by_entry : Mirror → Call → Option RepoFault
by_entry old call = option_and_then (by_repository old.revisions) (entry_of old.revisions call)

abbrev needs : Mirror → ℕ → Call → Option Need
needs old seat call = unmet (standing_of old.revisions) old.holder seat call

same_need : (a b : Need) (x : Option Need) → x ≡ Some a → x ≡ Some b → a ≡ b
same_need a b None p q = cc
same_need a b (Some c) p q = cc

-- what the answer to an unmet need says
missed_as : (old : Mirror) (seat : ℕ) (call : Call) (need : Need) (f : SyncFault) → needs old seat call ≡ Some need → refusal old seat call ≡ Some (Missed need) → IsNeedAnswer need (finite.get (props_at old.revisions 0) lock_name) f → AnswersErr old seat call f old
missed_as old seat call need fault.NotInitialised n e h = refuses old seat call (Missed need) fault.NotInitialised e h
missed_as old seat call need fault.AlreadyInitialised n e h = refuses old seat call (Missed need) fault.AlreadyInitialised e h
missed_as old seat call need fault.NotEmpty n e h = refuses old seat call (Missed need) fault.NotEmpty e h
missed_as old seat call need (fault.LockHeld t) n e h = refuses old seat call (Missed need) (fault.LockHeld t) e h
missed_as old seat call need (fault.HolderRunning t) n e h = refuses old seat call (Missed need) (fault.HolderRunning t) e h
missed_as old seat call need fault.WrongMaster n e h = refuses old seat call (Missed need) fault.WrongMaster e h
missed_as old seat call need (fault.Inconsistent a b c) n e h = refuses old seat call (Missed need) (fault.Inconsistent a b c) e h
missed_as old seat call need (fault.NotYetCopied k) n e h = refuses old seat call (Missed need) (fault.NotYetCopied k) e h
missed_as old seat call need fault.NotHolder n e h = refuses old seat call (Missed need) fault.NotHolder e h
missed_as old seat call need (fault.MasterFailed t) n e h = refuses old seat call (Missed need) (fault.MasterFailed t) e h
missed_as old seat call need fault.OutOfTurn n e h = refuses old seat call (Missed need) fault.OutOfTurn e h
missed_as old seat call need (fault.Other x) n e h = refuses old seat call (Missed need) (fault.Other x) e h
missed_as old seat call need fault.OutOfMemory n e h = record { kept = refl; told = λ other u. subst (λ k. tells_lock k ≡ true) (same_need need other (needs old seat call) n u) h }

missed : (old : Mirror) (seat : ℕ) (call : Call) (need : Need) (f : SyncFault) → needs old seat call ≡ Some need → IsNeedAnswer need (finite.get (props_at old.revisions 0) lock_name) f → AnswersErr old seat call f old
missed old seat call need f n h = missed_as old seat call need f n (ap (λ (x : Option Need). first_of (option_map Missed x ∷ option_map OfRepository (by_entry old call) ∷ [])) n) h

-- the needs by revision 0's map and the head, as the code has them
same_needs : (old : Mirror) (seat : ℕ) (call : Call) (own : PropMap) (head : ℕ) → own ≡ props_at old.revisions 0 → head ≡ head_of old.revisions → unmet (standing_in own head) old.holder seat call ≡ needs old seat call
same_needs old seat call own head o h =
    ap (λ p. unmet (standing_in p head) old.holder seat call) o ∙ ap (λ n. unmet (standing_in (props_at old.revisions 0) n) old.holder seat call) h

pub need_answer : (old : Mirror) (seat : ℕ) (call : Call) (own : PropMap) (head : ℕ) (need : Need) (f : SyncFault)
    → own ≡ props_at old.revisions 0 → head ≡ head_of old.revisions → Some need ≡ unmet (standing_in own head) old.holder seat call → IsNeedAnswer need (finite.get own lock_name) f → AnswersErr old seat call f old
need_answer old seat call own head need f o h u t =
    let n : needs old seat call ≡ Some need = sym (u ∙ same_needs old seat call own head o h) in
    missed old seat call need f n
    (subst (λ p. IsNeedAnswer need (finite.get p lock_name) f) o t)

told : (old : Mirror) (seat : ℕ) (call : Call) (f : SyncFault) (due : Option RepoFault) → needs old seat call ≡ None → by_entry old call ≡ due → option_map of_repository due ≡ Some f → IsRefused old seat call f old
told old seat call f None n d h = absurd (cc)
told old seat call f (Some e) n d h =
    let same : f ≡ of_repository e = cc in
    refuses old seat call (OfRepository e) f
    (ap (λ (x : Option Need). first_of (option_map Missed x ∷ option_map OfRepository (by_entry old call) ∷ [])) n
    ∙ ap (λ (x : Option RepoFault). first_of (None ∷ option_map OfRepository x ∷ [])) d)
    same

-- where no need is missed, memory may be short
lacks : (old : Mirror) (seat : ℕ) (call : Call) → needs old seat call ≡ None → LacksMemory old seat call old
lacks old seat call n = record { kept = refl; told = λ need u. absurd (cc) }

due_answer : (old : Mirror) (seat : ℕ) (call : Call) (f : SyncFault) → needs old seat call ≡ None → IsDue f (by_entry old call) → AnswersErr old seat call f old
due_answer old seat call fault.NotInitialised n h = told old seat call fault.NotInitialised (by_entry old call) n refl h
due_answer old seat call fault.AlreadyInitialised n h = told old seat call fault.AlreadyInitialised (by_entry old call) n refl h
due_answer old seat call fault.NotEmpty n h = told old seat call fault.NotEmpty (by_entry old call) n refl h
due_answer old seat call (fault.LockHeld t) n h = told old seat call (fault.LockHeld t) (by_entry old call) n refl h
due_answer old seat call (fault.HolderRunning t) n h = told old seat call (fault.HolderRunning t) (by_entry old call) n refl h
due_answer old seat call fault.WrongMaster n h = told old seat call fault.WrongMaster (by_entry old call) n refl h
due_answer old seat call (fault.Inconsistent a b c) n h = told old seat call (fault.Inconsistent a b c) (by_entry old call) n refl h
due_answer old seat call (fault.NotYetCopied k) n h = told old seat call (fault.NotYetCopied k) (by_entry old call) n refl h
due_answer old seat call fault.NotHolder n h = told old seat call fault.NotHolder (by_entry old call) n refl h
due_answer old seat call (fault.MasterFailed t) n h = told old seat call (fault.MasterFailed t) (by_entry old call) n refl h
due_answer old seat call fault.OutOfTurn n h = told old seat call fault.OutOfTurn (by_entry old call) n refl h
due_answer old seat call (fault.Other x) n h = told old seat call (fault.Other x) (by_entry old call) n refl h
due_answer old seat call fault.OutOfMemory n h = lacks old seat call n

pub entry_answer : (old : Mirror) (seat : ℕ) (call : Call) (own : PropMap) (head : ℕ) (f : SyncFault)
    → own ≡ props_at old.revisions 0 → head ≡ head_of old.revisions → None ≡ unmet (standing_in own head) old.holder seat call → IsDue f (by_entry old call) → AnswersErr old seat call f old
entry_answer old seat call own head f o h u d = due_answer old seat call f (sym (u ∙ same_needs old seat call own head o h)) d

due_up : (e : RepoFault) (due : Option RepoFault) → repository.IsDue e due → IsDue (of_repository e) due
due_up repo.NoSuchRevision due h = ap (option_map of_repository) h
due_up (repo.BaseMismatch v) due h = ap (option_map of_repository) h
due_up repo.Full due h = ap (option_map of_repository) h
due_up (repo.Behind n) due h = ap (option_map of_repository) h
due_up (repo.Change change.BadHeader) due h = ap (option_map of_repository) h
due_up (repo.Change change.TooLong) due h = ap (option_map of_repository) h
due_up (repo.Change change.BadPath) due h = ap (option_map of_repository) h
due_up (repo.Change change.NoSuchPath) due h = ap (option_map of_repository) h
due_up (repo.Change change.PathThere) due h = ap (option_map of_repository) h
due_up (repo.Change change.NotDir) due h = ap (option_map of_repository) h
due_up (repo.Change change.NoSource) due h = ap (option_map of_repository) h
due_up (repo.Change change.OutOfOrder) due h = ap (option_map of_repository) h
due_up (repo.Change change.WrongNumber) due h = ap (option_map of_repository) h
due_up (repo.Change change.KindMismatch) due h = ap (option_map of_repository) h
due_up (repo.Change change.OutOfMemory) due h = tt
due_up repo.TooLong due h = ap (option_map of_repository) h
due_up repo.OutOfMemory due h = tt

-- a planned entry that the repository refuses
pub staged_answer : (old : Mirror) (seat : ℕ) (call : Call) (entry : Entry) (e : RepoFault) → IsToWrite old seat call entry → repository.IsDue e (by_repository old.revisions entry) → AnswersErr old seat call (of_repository e) old
staged_answer old seat call entry e w d =
    due_answer old seat call (of_repository e) w.met (subst (λ x. IsDue (of_repository e) (option_and_then (by_repository old.revisions) x)) (sym w.entry) (due_up e (by_repository old.revisions entry) d))
