-- Refusals of a store as those of a port.
use Rattle.std.proofs.Common.{◌≡◌, inl, inr, ℕ, Bool, true, false, true≢false, Option, Err, ap}
use Rattle.std.specs.Option.{option_map}
use Rattle.fleet_disk.specs.Rules.{Rose}
use Rattle.fleet_disk.specs.declared.disk.Disk.{Ghosts}
use Rattle.gate_log.specs.declared.fault.LogFault.TheVariants as log
use Rattle.repo_core.specs.declared.entry.Entry.{Entry}
use Rattle.repo_core.specs.declared.fault.RepoFault.{RepoFault}
use Rattle.repo_core.specs.declared.fault.RepoFault.TheVariants as core
use Rattle.repo_store.specs.Changes.{Changes}
use Rattle.repo_store.specs.Refusals.{repo_refusal}
use Rattle.repo_store.specs.Words.{repository_of}
use Rattle.repo_store.specs.declared.fault.StoreFault.{StoreFault}
use Rattle.repo_store.specs.declared.fault.StoreFault.TheVariants.{Repo, Log}
use Rattle.repo_store.specs.declared.store.RepoStore.{RepoStore}
use Rattle.ra_serve.specs.Held.{port_fault}
use Rattle.ra_serve.specs.Ports.{IsOwn, MayRefuse}

abbrev of_repo : StoreFault → Bool
of_repo (Repo f) = true
of_repo (Log f) = false

not_broken : (f : RepoFault) → Repo f ≡ Log log.DeviceFailed → ⊥
not_broken f e = true≢false (ap of_repo e)

pub store_refuses : {D : Type 0} {G : Ghosts D} (old new : RepoStore D G) (entry : Entry) (due : Option RepoFault) (p n : ℕ) (e : StoreFault) → Changes {T = Unit {0}} entry due old new (Err e) → (IsOwn (port_fault e) → Rose p n) → MayRefuse p n (port_fault e) (option_map repo_refusal due)
store_refuses old new entry due p n (Repo core.TooLong) (inl b) own = absurd (not_broken core.TooLong b.1.fault)
store_refuses old new entry due p n (Repo core.TooLong) (inr r) own = ap (option_map repo_refusal) r.why.1
store_refuses old new entry due p n (Repo core.NoSuchRevision) (inl b) own = absurd (not_broken core.NoSuchRevision b.1.fault)
store_refuses old new entry due p n (Repo core.NoSuchRevision) (inr r) own = ap (option_map repo_refusal) r.why.1
store_refuses old new entry due p n (Repo (core.BaseMismatch found)) (inl b) own = absurd (not_broken (core.BaseMismatch found) b.1.fault)
store_refuses old new entry due p n (Repo (core.BaseMismatch found)) (inr r) own = ap (option_map repo_refusal) r.why.1
store_refuses old new entry due p n (Repo core.Full) h own = own tt
store_refuses old new entry due p n (Repo (core.Behind head)) h own = own tt
store_refuses old new entry due p n (Repo (core.Change f)) h own = own tt
store_refuses old new entry due p n (Repo core.OutOfMemory) h own = own tt
store_refuses old new entry due p n (Log log.DeviceFailed) h own = own tt
store_refuses old new entry due p n (Log log.Failed) h own = own tt
store_refuses old new entry due p n (Log (log.Damaged k)) h own = own tt
store_refuses old new entry due p n (Log log.NoRepository) h own = own tt
store_refuses old new entry due p n (Log log.ThereAlready) h own = own tt
store_refuses old new entry due p n (Log log.LogFull) h own = own tt
store_refuses old new entry due p n (Log log.OutOfMemory) h own = own tt

pub store_stays : {D : Type 0} {G : Ghosts D} (old new : RepoStore D G) (entry : Entry) (due : Option RepoFault) (e : StoreFault) → Changes {T = Unit {0}} entry due old new (Err e) → repository_of new ≡ repository_of old
store_stays old new entry due e (inl b) = b.1.same
store_stays old new entry due e (inr r) = r.stays.repository
