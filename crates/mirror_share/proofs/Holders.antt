-- A seat that holds the lock of a shared mirror.
use Rattle.std.proofs.Common.{◌≡◌, ◌≢◌, ℕ, List, [], ◌∷◌, Bool, true, false, Option, Some, None, IsSome, Result, Ok, Err, refl, sym, ap, subst, ◌∙◌}
use Rattle.std.specs.FinMap as finite
use Rattle.std.specs.Option.{option_map, option_and_then}
use Rattle.dump_load.specs.Faults.{first_of}
use Rattle.dump_load.specs.declared.fault.ChangeFault.TheVariants as change
use Rattle.node_base.specs.declared.refusal.Refusal.TheVariants as refusal_is
use Rattle.repo_core.specs.Repository.{Revision, props_at}
use Rattle.repo_core.specs.Refusals.{by_repository}
use Rattle.repo_core.specs.declared.entry.Entry.{Entry}
use Rattle.repo_core.specs.declared.fault.RepoFault.{RepoFault}
use Rattle.repo_core.specs.declared.fault.RepoFault.TheVariants as repo
use Rattle.sync_core.specs.Faults.{of_repository}
use Rattle.sync_core.specs.Names.{lock_name}
use Rattle.sync_core.specs.Holding.{HasLock}
use Rattle.sync_core.specs.Holding as core
use Rattle.sync_core.specs.Jobs.{Job, Lawful, answered, refused_to}
use Rattle.sync_core.specs.Mirror.{Mirror, Call, ReleaseLock, Look, Refusal, Missed, OfRepository, refusal, unmet, standing_of, entry_of, granted, accepted, revisions_by, holder_after}
use Rattle.sync_core.specs.Mirror as mirror_reply
use Rattle.sync_core.specs.Moves.{numbers_of}
use Rattle.sync_core.specs.Plain.{reply_of, IsTold}
use Rattle.sync_core.specs.declared.need.Need.{Need}
use Rattle.sync_core.specs.declared.fault.SyncFault.{SyncFault}
use Rattle.sync_core.specs.declared.fault.SyncFault.TheVariants as fault
use Rattle.sync_core.specs.declared.reply.Reply.{Reply as Given}
use Rattle.sync_core.specs.declared.reply.Reply.TheVariants as given
use Rattle.sync_job.specs.Mirrors.{MirrorNow, mirror_in, repository_by, IsCause, Due, NoMemory, NoRoom, Broken, IsDue, ByTable, Steps, Accepted, Doubted, Unchanged, IsAccepted}
use Rattle.sync_job.proofs.Worlds.{revisions_in}
use Rattle.mirror_share.specs.Steps.{Shown, Hides, Stuck}
use Rattle.mirror_share.specs.Holding.{OthersLeaveIt, HolderIsServed, IsServed, job_after}

-- a look writes nothing
no_entry : (x : Option Entry) (y : Option Entry) → x ≡ y → y ≡ None → IsSome x → ⊥
no_entry x y same none some = let e : IsSome {T = Entry} None = subst (λ (o : Option Entry). IsSome o) (same ∙ none) some in absurd (cc)

look_writes : (m : MirrorNow) (call : Call) → call ≡ Look → IsSome (entry_of m.repository.revisions call) → ⊥
look_writes m call l some = no_entry (entry_of m.repository.revisions call) (entry_of m.repository.revisions Look) (ap (entry_of m.repository.revisions) l) refl some

mirror_as : (x y : List Revision) (h : Option ℕ) → x ≡ y → ◌≡◌ {A = Mirror} (record { revisions = x; holder = h }) (record { revisions = y; holder = h })
mirror_as x y h e = ap (λ z. record { revisions = z; holder = h }) e

pub after_accepted : (m new : MirrorNow) (seat : ℕ) (call : Call) (r : Given) → IsAccepted m seat call r new → mirror_in new ≡ accepted (mirror_in m) seat call
after_accepted m new seat call r a =
    ap mirror_in a.mirror ∙ mirror_as (repository_by m.repository call).revisions (revisions_by m.repository.revisions call) (holder_after m.holder seat call) (revisions_in m.repository (entry_of m.repository.revisions call))

-- others

others_step : (m new : MirrorNow) (seat other : ℕ) (call : Call) (result : Result Given SyncFault) → (refusal (mirror_in m) other call ≡ None → call ≡ Look)
    → Steps m other call result new → (mirror_in new ≡ mirror_in m) × ((r : Given) → result ≡ Ok r → call ≡ Look)
others_step m new seat other call result alone (Accepted r is a) =
    let l = alone a.free in (
      after_accepted m new other call r a ∙ ap (accepted (mirror_in m) other) l,
      (λ q e. l),
    )
others_step m new seat other call result alone (Doubted is d) = absurd (look_writes m call (alone d.free) d.entry)
others_step m new seat other call result alone (Unchanged f is why same) = (ap mirror_in same, λ r e. (let n : ◌≡◌ {A = Result Given SyncFault} (Err f) (Ok r) = sym is ∙ e in absurd (cc)))

pub others-leave-it : core.HolderIsAlone → OthersLeaveIt
others-leave-it law before after m new seat other job call result h differs (Shown b a s) = others_step m new seat other call result (law (mirror_in m) seat other job call h differs) s
others-leave-it law before after m new seat other job call result h differs (Hides b a is i) = absurd (look_writes m call (law (mirror_in m) seat other job call h differs i.free) i.entry)
others-leave-it law before after m new seat other job call result h differs (Stuck b a is same) = (ap mirror_in same, λ r e. (let n : ◌≡◌ {A = Result Given SyncFault} (Err (fault.Other refusal_is.Failed)) (Ok r) = sym is ∙ e in absurd (cc)))

-- the holder

abbrev IsNoTurn : SyncFault → Type 0
IsNoTurn f = (f ≢ fault.NotHolder) × (f ≢ fault.OutOfTurn)

other_no : (f : SyncFault) (r : _) → f ≡ fault.Other r → IsNoTurn f
other_no f r e = (
  (λ n. (let x : fault.Other r ≡ fault.NotHolder = sym e ∙ n in absurd (cc))),
  (λ n. (let x : fault.Other r ≡ fault.OutOfTurn = sym e ∙ n in absurd (cc))),
)

memory_no : (f : SyncFault) → f ≡ fault.OutOfMemory → IsNoTurn f
memory_no f e = (
  (λ n. (let x : fault.OutOfMemory ≡ fault.NotHolder = sym e ∙ n in absurd (cc))),
  (λ n. (let x : fault.OutOfMemory ≡ fault.OutOfTurn = sym e ∙ n in absurd (cc))),
)

repository_no : (e : RepoFault) (f : SyncFault) → f ≡ of_repository e → IsNoTurn f
repository_no repo.NoSuchRevision f h = other_no f _ h
repository_no (repo.BaseMismatch v) f h = other_no f _ h
repository_no repo.Full f h = other_no f _ h
repository_no (repo.Behind n) f h = other_no f _ h
repository_no (repo.Change change.BadHeader) f h = other_no f _ h
repository_no (repo.Change change.TooLong) f h = other_no f _ h
repository_no (repo.Change change.BadPath) f h = other_no f _ h
repository_no (repo.Change change.NoSuchPath) f h = other_no f _ h
repository_no (repo.Change change.PathThere) f h = other_no f _ h
repository_no (repo.Change change.NotDir) f h = other_no f _ h
repository_no (repo.Change change.NoSource) f h = other_no f _ h
repository_no (repo.Change change.OutOfOrder) f h = other_no f _ h
repository_no (repo.Change change.WrongNumber) f h = other_no f _ h
repository_no (repo.Change change.KindMismatch) f h = other_no f _ h
repository_no (repo.Change change.OutOfMemory) f h = memory_no f h
repository_no repo.TooLong f h = other_no f _ h
repository_no repo.OutOfMemory f h = memory_no f h

-- where no need is missed a refusal is the repository's
why_repository : (need : Option Need) (due : Option RepoFault) (why : Refusal) → need ≡ None → first_of (option_map Missed need ∷ option_map OfRepository due ∷ []) ≡ Some why → (e : RepoFault) × (why ≡ OfRepository e)
why_repository need None why n h = let x : first_of (option_map Missed None ∷ option_map OfRepository None ∷ []) ≡ Some why = sym (ap (λ (o : Option Need). first_of (option_map Missed o ∷ option_map OfRepository None ∷ [])) n) ∙ h in absurd (cc)
why_repository need (Some e) why n h = let x : Some (OfRepository e) ≡ Some why = sym (ap (λ (o : Option Need). first_of (option_map Missed o ∷ option_map OfRepository (Some e) ∷ [])) n) ∙ h in (e, cc)

due_no : (m : MirrorNow) (seat : ℕ) (call : Call) (f : SyncFault) → unmet (standing_of m.repository.revisions) m.holder seat call ≡ None → IsDue m seat call f → IsNoTurn f
due_no m seat call f met (ByTable why is told) =
    let w = why_repository (unmet (standing_of m.repository.revisions) m.holder seat call) (option_and_then (by_repository m.repository.revisions) (entry_of m.repository.revisions call)) why met is in
    repository_no w.0 f (subst (λ y. IsTold (finite.get (props_at m.repository.revisions 0) lock_name) y f) w.1 told)

cause_no : (m : MirrorNow) (seat : ℕ) (call : Call) (f : SyncFault) → unmet (standing_of m.repository.revisions) m.holder seat call ≡ None → IsCause m seat call f → IsNoTurn f
cause_no m seat call f met (Due d) = due_no m seat call f met d
cause_no m seat call f met (NoMemory e) = memory_no f e
cause_no m seat call f met (NoRoom e) = other_no f _ e
cause_no m seat call f met (Broken e b) = other_no f _ e

tells : (m : MirrorNow) (seat : ℕ) (job : Job) (call : Call) (r : Given) → HasLock (mirror_in m) seat job → reply_of r ≡ granted (mirror_in m) call → IsServed job (Ok r)
tells m seat job call given.Done h e = tt
tells m seat job Look (given.Seen s) h e = λ seen. (let same : s ≡ standing_of m.repository.revisions = cc in ap numbers_of same ∙ sym (h.numbers seen))
tells m seat job (mirror_reply.Init url uuid props) (given.Seen s) h e = absurd (cc)
tells m seat job (mirror_reply.TakeLock t) (given.Seen s) h e = absurd (cc)
tells m seat job (mirror_reply.StealLock t) (given.Seen s) h e = absurd (cc)
tells m seat job ReleaseLock (given.Seen s) h e = absurd (cc)
tells m seat job (mirror_reply.SetCopying n) (given.Seen s) h e = absurd (cc)
tells m seat job (mirror_reply.Commit n set props) (given.Seen s) h e = absurd (cc)
tells m seat job (mirror_reply.PutProps n props) (given.Seen s) h e = absurd (cc)
tells m seat job (mirror_reply.SetMerged n) (given.Seen s) h e = absurd (cc)
tells m seat job mirror_reply.ClearCopying (given.Seen s) h e = absurd (cc)

abbrev Serves : MirrorNow → ℕ → Job → Call → Result Given SyncFault → Bool → MirrorNow → Type 0
Serves m seat job call result after new = IsServed job result × (call ≢ ReleaseLock → after ≡ false → HasLock (mirror_in new) seat (job_after job call result))

-- a refusal leaves the mirror
refused_serves : core.HolderStays → (m new : MirrorNow) (seat : ℕ) (job : Job) (call : Call) (result : Result Given SyncFault) (f : SyncFault) (after : Bool) → HasLock (mirror_in m) seat job → Lawful job call
    → result ≡ Err f → IsNoTurn f → mirror_in new ≡ mirror_in m → Serves m seat job call result after new
refused_serves stays m new seat job call result f after h lawful is fine same =
    subst (λ x. Serves m seat job call x after new) (sym is)
    (fine, λ goes works. subst (λ x. HasLock x seat (refused_to job call)) (sym same) (stays (mirror_in m) seat job call h lawful goes).1)

own_step : core.HolderIsServed → core.HolderStays → (m new : MirrorNow) (seat : ℕ) (job : Job) (call : Call) (result : Result Given SyncFault) (after : Bool) → HasLock (mirror_in m) seat job → Lawful job call
    → Steps m seat call result new → Serves m seat job call result after new
own_step served stays m new seat job call result after h lawful (Accepted r is a) =
    subst (λ x. Serves m seat job call x after new) (sym is) (
      tells m seat job call r h a.reply,
      λ goes works.
          subst (λ x. HasLock x seat (answered job call (reply_of r))) (sym (after_accepted m new seat call r a))
          (subst (λ y. HasLock (accepted (mirror_in m) seat call) seat (answered job call y)) (sym a.reply) ((stays (mirror_in m) seat job call h lawful goes).0 a.free)),
    )
own_step served stays m new seat job call result after h lawful (Doubted is d) =
    refused_serves stays m new seat job call result (fault.Other refusal_is.DeviceFailed) after h lawful is (other_no (fault.Other refusal_is.DeviceFailed) _ refl) (ap mirror_in d.mirror)
own_step served stays m new seat job call result after h lawful (Unchanged f is why same) =
    refused_serves stays m new seat job call result f after h lawful is (cause_no m seat call f (served (mirror_in m) seat job call h lawful) why) (ap mirror_in same)

pub holder-is-served : core.HolderIsServed → core.HolderStays → HolderIsServed
holder-is-served served stays before after m new seat job call result h lawful (Shown b a s) = own_step served stays m new seat job call result after h lawful s
holder-is-served served stays before after m new seat job call result h lawful (Hides b a is i) =
    subst (λ x. Serves m seat job call x after new) (sym is)
    (other_no (fault.Other refusal_is.Failed) _ refl, λ goes works. (let n : true ≡ false = sym a ∙ works in absurd (cc)))
holder-is-served served stays before after m new seat job call result h lawful (Stuck b a is same) =
    refused_serves stays m new seat job call result (fault.Other refusal_is.Failed) after h lawful is (other_no (fault.Other refusal_is.Failed) _ refl) (ap mirror_in same)
