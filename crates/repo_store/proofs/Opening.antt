-- What an opening leaves.
use Rattle.std.proofs.Common.{◌≡◌, ◌⊎◌, ℕ, List, refl, ap, subst, inl, inr}
use Rattle.std.proofs.Math.Logic.{∥∥₁_map}
use Rattle.fleet_disk.specs.Image.{Image}
use Rattle.fleet_disk.specs.declared.disk.Disk.{Ghosts}
use Rattle.fleet_disk.proofs.Moments.{joined, weaker}
use Rattle.gate_log.specs.Device.{Leaves, LeavesOr}
use Rattle.gate_log.specs.Faults.{IsFindFault, IsLogFault}
use Rattle.gate_log.specs.Standing.{Stands, StandsAlike, HasNoEntry}
use Rattle.gate_log.specs.Version.{HaveOneVersion, IsOf}
use Rattle.gate_log.specs.declared.version.LogVersion.{LogVersion}
use Rattle.gate_log.proofs.Alike.{one_list}
use Rattle.repo_core.specs.Repository.{Repository, Revision}
use Rattle.gate_log.specs.declared.fault.LogFault.{LogFault}
use Rattle.gate_log.specs.declared.fault.LogFault.TheVariants.{DeviceFailed, Failed, Damaged, NoRepository, ThereAlready, LogFull, OutOfMemory}
use Rattle.repo_store.specs.declared.fault.StoreFault.{StoreFault}
use Rattle.repo_store.specs.declared.fault.StoreFault.TheVariants.{Repo, Log}
use Rattle.repo_store.specs.Journal.{Tell, ReopensTo, KeepsAlike, IsDamaged}
use Rattle.repo_store.specs.Openings.{KeepsThrough, VersionStays}
use Rattle.repo_store.specs.Refusals.{IsReplayFault, IsUpgradeFault}
use Rattle.repo_store.specs.Verdicts.{NotDamaged, NotMissing, OneDamage, DamageNotMissing}

moved : (first image : Image) (entries : List (List ℕ)) (r : Repository) → Stands first entries → Stands image entries
    → (others : List (List ℕ)) × Stands first others × Tell others r → (others : List (List ℕ)) × Stands image others × Tell others r
moved first image entries r old new (others, there, s) = (entries, new, subst (λ (l : List (List ℕ)). Tell l r) (one_list first others entries there old) s)

-- images of the same entries keep the same
pub alike : (first image : Image) (entries : List (List ℕ)) → Stands first entries → Stands image entries → KeepsAlike first image
alike first image entries old new = ((entries, old, new), λ r known. ∥∥₁_map known (moved first image entries r old new))

pub alike_or : {P : Type 0} (first image : Image) → P ⊎ StandsAlike first image → P ⊎ KeepsAlike first image
alike_or first image (inl p) = inl p
alike_or first image (inr (entries, old, new)) = inr (alike first image entries old new)

abbrev log_in : StoreFault → LogFault
log_in (Repo f) = OutOfMemory
log_in (Log f) = f

-- one fault of the log
pub same_fault : (f f' : LogFault) → Log f ≡ Log f' → f ≡ f'
same_fault f f' same = ap log_in same

-- where an image reopens, an opening is refused by the device or for memory alone
pub only_device : (law : NotDamaged) (entries : NotMissing) (image : Image) (identity : List ℕ) (x : List Revision) (f : LogFault) → ReopensTo identity x image → IsFindFault f
    → ((n : ℕ) → f ≡ Damaged n → IsDamaged n image) → (f ≡ NoRepository → HasNoEntry image) → (Log f ≡ Log DeviceFailed) ⊎ (Log f ≡ Log OutOfMemory)
only_device law entries image identity x DeviceFailed known is damaged missing = inl refl
only_device law entries image identity x OutOfMemory known is damaged missing = inr refl
only_device law entries image identity x (Damaged n) known is damaged missing = absurd (law image identity x n known (damaged n refl))
only_device law entries image identity x NoRepository known is damaged missing = absurd (entries image identity x known (missing refl))
only_device law entries image identity x Failed known is damaged missing = absurd is
only_device law entries image identity x ThereAlready known is damaged missing = absurd is
only_device law entries image identity x LogFull known is damaged missing = absurd is

-- what the reading of entries answers is what an opening may answer, but that there is none
pub replayed_fault : (f : LogFault) → IsReplayFault f → IsFindFault f
replayed_fault DeviceFailed is = tt
replayed_fault OutOfMemory is = tt
replayed_fault (Damaged n) is = tt
replayed_fault NoRepository is = absurd is
replayed_fault Failed is = absurd is
replayed_fault ThereAlready is = absurd is
replayed_fault LogFull is = absurd is

pub never_missing : (f : LogFault) → IsReplayFault f → f ≡ NoRepository → ⊥
never_missing f is same = subst (λ (g : LogFault). IsReplayFault g) same is

-- where an entry is the first that is damaged, an opening tells that one, or is refused by the device or for memory
pub only_first : (one : OneDamage) (law : DamageNotMissing) (image : Image) (entry : ℕ) (f : LogFault) → IsDamaged entry image → IsFindFault f
    → ((n : ℕ) → f ≡ Damaged n → IsDamaged n image) → (f ≡ NoRepository → HasNoEntry image) → (Log f ≡ Log (Damaged entry)) ⊎ (Log f ≡ Log DeviceFailed) ⊎ (Log f ≡ Log OutOfMemory)
only_first one law image entry DeviceFailed known is damaged missing = inr (inl refl)
only_first one law image entry OutOfMemory known is damaged missing = inr (inr refl)
only_first one law image entry (Damaged n) known is damaged missing = inl (ap (λ (m : ℕ). Log (Damaged m)) (one image n entry (damaged n refl) known))
only_first one law image entry NoRepository known is damaged missing = absurd (law image entry known (missing refl))
only_first one law image entry Failed known is damaged missing = absurd is
only_first one law image entry ThereAlready known is damaged missing = absurd is
only_first one law image entry LogFull known is damaged missing = absurd is

-- where the log is refused its disk comes back as it says
pub handed_back : {P Q : Type 0} (f : LogFault) → (P → Q) → (f ≡ DeviceFailed) ⊎ P → (Log f ≡ Log DeviceFailed) ⊎ Q
handed_back f so (inl is) = inl (ap Log is)
handed_back f so (inr p) = inr (so p)

pub looked_on : {P : Type 0} (f : LogFault) → (f ≡ DeviceFailed) ⊎ (f ≡ Failed) ⊎ P → (Log f ≡ Log DeviceFailed) ⊎ (Log f ≡ Log Failed) ⊎ P
looked_on f (inl is) = inl (ap Log is)
looked_on f (inr (inl is)) = inr (inl (ap Log is))
looked_on f (inr (inr p)) = inr (inr p)

pub upgrade_fault : (f : LogFault) → IsLogFault f → IsUpgradeFault (Log f)
upgrade_fault f (inl is) = inl (ap Log is)
upgrade_fault f (inr (inl is)) = inr (inl (ap Log is))
upgrade_fault f (inr (inr is)) = inr (inr (ap Log is))

-- a log is opened, and its entries are read
module _ {D : Type 0} (G : Ghosts D) (old opened new : D) (looked : Leaves G opened new (G.may_leave opened)) where
  pub keeps_through : (entries : List (List ℕ)) → LeavesOr G old opened (StandsAlike (G.reads old)) → Stands (G.reads old) entries → ((image : Image) → G.may_leave opened image → Stands image entries) → KeepsThrough G old new
  keeps_through entries run stands left =
      joined G.clock G.left_since old opened new (λ i. G.may_leave old i ⊎ KeepsAlike (G.reads old) i) (G.may_leave opened)
      (weaker G.clock G.left_since old opened (λ i. G.may_leave old i ⊎ StandsAlike (G.reads old) i) (λ i. G.may_leave old i ⊎ KeepsAlike (G.reads old) i) run (λ i p. alike_or (G.reads old) i p))
      looked (λ i may. inr (alike (G.reads old) i entries stands (left i may)))

  pub version_through : (v : LogVersion) → LeavesOr G old opened (HaveOneVersion (G.reads old)) → IsOf v (G.reads old) → ((image : Image) → G.may_leave opened image → IsOf v image) → VersionStays G old new
  version_through v run is left =
      joined G.clock G.left_since old opened new (λ i. G.may_leave old i ⊎ HaveOneVersion (G.reads old) i) (G.may_leave opened) run looked (λ i may. inr (v, is, left i may))
