-- What a call's entry is, and what is due of it, by the call's own name.
use Rattle.std.proofs.Common.{◌≡◌, ℕ, ◌<◌, nat_le, false, List, [], ◌∷◌, length, Option, Some, None, Result, Ok, Err, IfOk, IfErr, OnOk, IsOk, refl, sym, ap, ◌∙◌, subst, arith}
use Rattle.std.specs.Option.{option_and_then}
use Rattle.std.proofs.lemmas.Bool.Decides.{nat_tests}
use Rattle.node_base.specs.Props.{PropMap}
use Rattle.dump_load.specs.Faults.{fault_if, first_of}
use Rattle.repo_core.specs.declared.entry.Entry.{Entry}
use Rattle.repo_core.specs.declared.entry.Entry.TheVariants.{Mapped}
use Rattle.repo_core.specs.declared.fault.RepoFault.{RepoFault}
use Rattle.repo_core.specs.declared.fault.RepoFault.TheVariants as refusal
use Rattle.repo_core.specs.Repository.{Revision}
use Rattle.repo_core.specs.Refusals.{by_repository, limit_fault}
use Rattle.sync_core.specs.declared.call.MirrorCall.{MirrorCall}
use Rattle.sync_core.specs.declared.fault.SyncFault.{SyncFault}
use Rattle.sync_core.specs.declared.fault.SyncFault.TheVariants.{OutOfMemory}
use Rattle.sync_core.specs.Calls.{call_of}
use Rattle.sync_core.specs.Dues.{IsDue}
use Rattle.sync_core.specs.Mirror.{entry_of}
use Rattle.sync_core.specs.Plain.{IsThere}

-- what a repository refuses of a call's entry
abbrev pub due_by : List Revision → MirrorCall → Option RepoFault
due_by x call = option_and_then (by_repository x) (entry_of x (call_of call))

pub entry_so : (x : List Revision) (call k : MirrorCall) (r : Result (Option Entry) SyncFault) → call ≡ k → IfOk r (λ e. e ≡ entry_of x (call_of k)) → IfOk r (λ e. e ≡ entry_of x (call_of call))
entry_so x call k r e h = subst (λ c. IfOk r (λ e. e ≡ entry_of x (call_of c))) (sym e) h

pub due_so : (x : List Revision) (call k : MirrorCall) (r : Result Entry SyncFault) → call ≡ k → IfErr r (λ f. IsDue f (due_by x k)) → IfErr r (λ f. IsDue f (due_by x call))
due_so x call k r e h = subst (λ c. IfErr r (λ f. IsDue f (due_by x c))) (sym e) h

pub there_so : (x : List Revision) (call k : MirrorCall) (r : Result (Option Entry) SyncFault) → call ≡ k → OnOk r (IsThere x (call_of k)) → OnOk r (IsThere x (call_of call))
there_so x call k r e h = subst (λ c. OnOk r (IsThere x (call_of c))) (sym e) h

-- a call that puts no properties says of no revision that it is there
pub no_number : (x : List Revision) (call k : MirrorCall) (r : Result (Option Entry) SyncFault) → call ≡ k → IsThere x (call_of k) → OnOk r (IsThere x (call_of call))
no_number x call k (Ok e) p h = there_so x call k (Ok e) p h
no_number x call k (Err f) p h = tt

-- an entry that was written says what its answer said
pub ok_of : (r : Result (Option Entry) SyncFault) (e : Result Entry SyncFault) (n k : ℕ) → OnOk r (IsOk e) → OnOk e (n < k) → OnOk r (n < k)
ok_of (Ok o) (Ok e) n k h p = p
ok_of (Ok o) (Err f) n k h p = absurd (cc)
ok_of (Err f) e n k h p = tt

-- want of memory is always due
pub memory_due : (due : Option RepoFault) (r : Result Entry SyncFault) → IfErr r (λ f. f ≡ OutOfMemory) → IfErr r (λ f. IsDue f due)
memory_due due (Ok e) h = tt
memory_due due (Err f) h = subst (λ g. IsDue g due) (sym h) tt

alone : (o : Option RepoFault) → first_of (o ∷ []) ≡ o
alone None = refl
alone (Some f) = refl

-- of revision 0's map a repository refuses only that it is past the limits
pub zeroth_due : (x : List Revision) (m : PropMap) (f : SyncFault) → 0 < length x → IsDue f (limit_fault m) → IsDue f (by_repository x (Mapped 0 m))
zeroth_due x m f s h =
    let there : nat_le (length x) 0 ≡ false = grind (arith, nat_tests, s) in
    subst (λ d. IsDue f d) (sym (ap (λ b. first_of (fault_if b refusal.NoSuchRevision ∷ limit_fault m ∷ [])) there ∙ alone (limit_fault m))) h
