-- A disk whose calls fail after a number of them.
use Rattle.std.specs.Prelude.{◌≡◌, ◌≢◌, ◌≤◌, ◌+◌, ◌-◌, ℕ, Bool, Result, Err, IsFalse, IsTrue}
use Rattle.fleet_disk.specs.declared.disk.Disk.{Ghosts}
use Rattle.fleet_disk.specs.declared.disk.DiskFault.{DiskFault}
use Rattle.fleet_disk.specs.declared.fuse.Fuse.TheVariants.{Once, ForGood, Spent}
use Rattle.fleet_disk.specs.Rules.{Goes, HasCause, Rose, Stays}
use Rattle.fleet_disk.specs.declared.fuse.Fuse.{Fuse}
use Rattle.fleet_disk.specs.declared.fuse.FuseDisk.{FuseDisk}

-- the disk that takes the calls that pass
abbrev pub inner_of : {D : Type 0} → FuseDisk D → D
inner_of disk = disk.inner

-- how many calls pass before one fails
abbrev pub passing_of : {D : Type 0} → FuseDisk D → ℕ
passing_of disk = disk.left

-- how often they fail then
abbrev pub fuse_of : {D : Type 0} → FuseDisk D → Fuse
fuse_of disk = disk.fuse

-- how often a call failed that wasn't handed to the disk inside
abbrev failures_of : {D : Type 0} → FuseDisk D → ℕ
failures_of disk = disk.failures

-- the next call fails
abbrev pub FailsNext : {D : Type 0} → FuseDisk D → Type 0
FailsNext disk = (passing_of disk ≡ 0) × (fuse_of disk ≢ Spent)

-- how often calls fail after one that did
abbrev pub blown : Fuse → Fuse
blown Once = Spent
blown ForGood = ForGood
blown Spent = Spent

-- a call failed, and the disk inside wasn't called
pub record HasBlown {D T : Type 0} (old new : FuseDisk D) (result : Result T DiskFault) : Type 0 where
  pub refused : result ≡ Err DiskFault.DeviceFailed
  pub inner : inner_of new ≡ inner_of old
  pub passing : passing_of new ≡ passing_of old
  pub fuse : fuse_of new ≡ blown (fuse_of old)

-- a call was handed to the disk inside, and is refused only where that failed
pub record HasPassed {D T : Type 0} (failures : D → ℕ) (old new : FuseDisk D) (result : Result T DiskFault) : Type 0 where
  pub passing : passing_of new ≡ passing_of old - 1
  pub fuse : fuse_of new ≡ fuse_of old
  pub cause : HasCause (failures (inner_of old)) (failures (inner_of new)) result

-- a call of the disk does the one or the other
pub record Burns {D T : Type 0} (failures : D → ℕ) (old new : FuseDisk D) (result : Result T DiskFault) : Type 0 where
  pub blows : FailsNext old → HasBlown old new result
  pub passes : (FailsNext old → ⊥) → HasPassed failures old new result

-- whether the next call passes; the calls that are left then, and the failures that are counted
pub record Passes {D : Type 0} (old new : FuseDisk D) (passed : Bool) : Type 0 where
  pub inner : inner_of new ≡ inner_of old
  pub later : old.failures ≤ new.failures
  pub rose : IsFalse passed → Rose old.failures new.failures
  pub same : IsTrue passed → new.failures ≡ old.failures
  pub fails : IsFalse passed → FailsNext old
  pub passes : IsTrue passed → FailsNext old → ⊥
  pub blows : IsFalse passed → (passing_of new ≡ passing_of old) × (fuse_of new ≡ blown (fuse_of old))
  pub burns : IsTrue passed → (passing_of new ≡ passing_of old - 1) × (fuse_of new ≡ fuse_of old)

-- by the ghosts of the disk inside a call changes nothing; the failures of both are counted together
abbrev pub StaysIn : {D T : Type 0} → Ghosts D → FuseDisk D → FuseDisk D → Result T DiskFault → Type 0
StaysIn G old new result =
    Stays (λ d. G.honest (inner_of d)) (λ d. G.reads (inner_of d)) (λ d. G.may_leave (inner_of d)) (λ d. G.clock (inner_of d)) (λ d. G.left_since (inner_of d)) (λ d. G.failures (inner_of d) + failures_of d) old new result

-- and a call changes a file
abbrev pub GoesIn : {D T : Type 0} → Ghosts D → FuseDisk D → FuseDisk D → Result T DiskFault → Type 0
GoesIn G old new result =
    Goes (λ d. G.honest (inner_of d)) (λ d. G.may_leave (inner_of d)) (λ d. G.clock (inner_of d)) (λ d. G.left_since (inner_of d)) (λ d. G.failures (inner_of d) + failures_of d) old new result
