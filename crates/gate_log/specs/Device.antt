-- What a call does to the disk that it is made on: the rules of a disk, said of a disk and the one that it becomes.
use Rattle.std.specs.Prelude.{◌⊎◌, ◌≤◌, ◌↔◌, Result, IfOk, OnOk, IsErrOf}
use Rattle.fleet_disk.specs.Image.{Image}
use Rattle.fleet_disk.specs.Rules.{Elapses, HasCause, LeavesOnly, Only, Rose, Settles}
use Rattle.fleet_disk.specs.declared.disk.Disk.{Ghosts}
use Rattle.fleet_disk.specs.declared.disk.DiskFault.{DiskFault}
use Rattle.gate_log.specs.declared.fault.LogFault.{LogFault}
use Rattle.gate_log.specs.declared.fault.LogFault.TheVariants.{DeviceFailed}

-- a stop leaves what a read gives, and nothing else
abbrev pub IsSafe : {D : Type 0} → Ghosts D → D → Type 0
IsSafe G disk = Only (G.reads disk) (G.may_leave disk)

-- each image that a stop may leave now has P
abbrev pub LeavesNow : {D : Type 0} → Ghosts D → D → (Image → Type 0) → Type 0
LeavesNow G disk P = (image : Image) → G.may_leave disk image → P image

-- time goes on
abbrev pub Passes : {D : Type 0} → Ghosts D → D → D → Type 0
Passes G old new = Elapses (G.clock old) (G.clock new) (G.left_since old) (G.left_since new) (G.may_leave new)

-- a stop at any moment leaves an image that has P
abbrev pub Leaves : {D : Type 0} → Ghosts D → D → D → (Image → Type 0) → Type 0
Leaves G old new P = LeavesOnly G.clock G.left_since old new P

-- from some moment on a stop leaves an image that has P, and up to there what it could leave at first
abbrev pub SettlesAs : {D : Type 0} → Ghosts D → D → D → (Image → Type 0) → Type 0
SettlesAs G old new P = Settles G.may_leave G.clock G.left_since old new P

-- the count of failures doesn't fall, and a refusal comes only where it rose
abbrev pub IsCaused : {D T : Type 0} → Ghosts D → D → D → Result T DiskFault → Type 0
IsCaused G old new result = HasCause (G.failures old) (G.failures new) result

-- 31 comes only where the count of failures rose
abbrev pub IsFailure : {D T : Type 0} → Ghosts D → D → D → Result T LogFault → Type 0
IsFailure G old new result = IsErrOf result DeviceFailed → Rose (G.failures old) (G.failures new)

-- an honest disk is safe
abbrev pub IsSound : {D : Type 0} → Ghosts D → D → Type 0
IsSound G disk = G.honest disk → IsSafe G disk

-- behind Ok an honest disk is safe
abbrev pub EndsSafe : {D T E : Type 0} → Ghosts D → D → D → Result T E → Type 0
EndsSafe G old new result = G.honest old → OnOk result (IsSafe G new)

-- Ok takes what an honest disk gives to what P says
abbrev pub Turns : {D T E : Type 0} → Ghosts D → D → D → Result T E → (Image → Image → Type 0) → Type 0
Turns G old new result P = G.honest old → OnOk result (P (G.reads old) (G.reads new))

-- at each moment of a call of an honest disk a stop leaves an image that has P
abbrev pub AtEachMoment : {D : Type 0} → Ghosts D → D → D → (Image → Type 0) → Type 0
AtEachMoment G old new P = G.honest old → Leaves G old new P

-- a stop at any moment leaves an image that has P, or what it could leave at first
abbrev pub LeavesOr : {D : Type 0} → Ghosts D → D → D → (Image → Type 0) → Type 0
LeavesOr G old new P = Leaves G old new (λ c. G.may_leave old c ⊎ P c)

-- a stop at any moment leaves what it could leave at first, or it settles as P
abbrev pub MaySettleAs : {D : Type 0} → Ghosts D → D → D → (Image → Type 0) → Type 0
MaySettleAs G old new P = Leaves G old new (G.may_leave old) ⊎ SettlesAs G old new P

-- a call keeps the rules where the disk kept them, and is refused only where the device fails
pub record Acts {D T : Type 0} (G : Ghosts D) (old new : D) (result : Result T DiskFault) : Type 0 where
  pub honest : G.honest old ↔ G.honest new
  pub cause : IsCaused G old new result

-- the same, and behind Ok an honest disk is safe
pub record ActsSafely {D T : Type 0} (G : Ghosts D) (old new : D) (result : Result T DiskFault) : Type 0 where
  pub honest : G.honest old ↔ G.honest new
  pub cause : IsCaused G old new result
  pub durable : EndsSafe G old new result

-- a call keeps the rules where the disk kept them, the count of failures doesn't fall, and 31 comes only where it rose
pub record ActsFor {D T : Type 0} (G : Ghosts D) (old new : D) (result : Result T LogFault) : Type 0 where
  pub honest : G.honest old ↔ G.honest new
  pub later : G.failures old ≤ G.failures new
  pub device : IsFailure G old new result

-- Ok tells what P says of what an honest disk gives
abbrev pub Tells : {D T E : Type 0} → Ghosts D → D → Result T E → (T → Image → Type 0) → Type 0
Tells G disk result P = G.honest disk → IfOk result (λ told. P told (G.reads disk))
