-- What a folder has for a disk, what it lends, and what a call of a host leaves of that.
use Rattle.std.specs.Prelude.{◌≡◌, ◌≢◌, ◌≤◌, ℕ, List, Result, IfErr, OnErr}
use Rattle.fleet_disk.specs.FolderFiles.{path_in}
use Rattle.fleet_disk.specs.Image.{no_bytes}
use Rattle.fleet_disk.specs.Lasting.{KeepsNames, KeepsOthers}
use Rattle.fleet_disk.specs.Rules.{LeavesOnly, Only, Rose, Within}
use Rattle.fleet_disk.specs.declared.disk.Disk.{Ghosts}
use Rattle.fleet_disk.specs.declared.disk.DiskFile.{DiskFile}
use Rattle.fleet_disk.specs.declared.folder_fault.FolderFault.{FolderFault}
use Rattle.fleet_disk.specs.declared.folder_fault.FolderFault.TheVariants.{DeviceFailed}

-- a folder has no disk yet, or one that is lent, or one that is there
pub data FolderDisk (D : Type 0) : Type 0 where
  Missing : FolderDisk D
  Lent : FolderDisk D
  There : D → FolderDisk D

-- the disk is the one that was kept: it reads the same, and a stop leaves, and at each moment since has left, what it could leave then
pub record IsStill {D : Type 0} (G : Ghosts D) (kept disk : D) : Type 0 where
  pub reads : G.reads disk ≡ G.reads kept
  pub inside : Within (G.may_leave disk) (G.may_leave kept)
  pub moments : LeavesOnly G.clock G.left_since kept disk (G.may_leave kept)

-- the disk that a folder lends: the one that is there, or, where it has none yet, one of empty files; none is lent twice
abbrev pub IsGiven : {D : Type 0} → Ghosts D → FolderDisk D → D → Type 0
IsGiven G Missing disk = (G.reads disk ≡ no_bytes) × Only no_bytes (G.may_leave disk)
IsGiven G Lent disk = ⊥
IsGiven G (There kept) disk = IsStill G kept disk

-- what all other folders have stays
abbrev pub OthersStay : {D : Type 0} → List ℕ → (List ℕ → FolderDisk D) → (List ℕ → FolderDisk D) → Type 0
OthersStay folder old new = (other : List ℕ) → other ≢ folder → new other ≡ old other

-- what all of them have does
abbrev pub AllStay : {D : Type 0} → (List ℕ → FolderDisk D) → (List ℕ → FolderDisk D) → Type 0
AllStay old new = (other : List ℕ) → new other ≡ old other

-- a folder's disk is lent, and what the other folders have stays
pub record Lends {C D : Type 0} (G : Ghosts D) (honest : C → Type 0) (disk : C → List ℕ → FolderDisk D) (old new : C) (folder : List ℕ) (place : D) : Type 0 where
  pub given : honest old → IsGiven G (disk old folder) place
  pub rules : honest old → G.honest place
  pub lent : honest old → disk new folder ≡ Lent
  pub others : honest old → OthersStay folder (disk old) (disk new)
  pub sound : honest old → honest new

-- what all folders have stays
pub record Spares {C D : Type 0} (honest : C → Type 0) (disk : C → List ℕ → FolderDisk D) (failures : C → ℕ) (old new : C) : Type 0 where
  pub stay : honest old → AllStay (disk old) (disk new)
  pub sound : honest old → honest new
  pub later : failures old ≤ failures new

-- nothing is made: where nothing was, nothing is
abbrev pub MakesNothing : {C : Type 0} → (C → List ℕ → Type 0) → C → C → Type 0
MakesNothing lacks old new = (path : List ℕ) → lacks old path → lacks new path

-- nothing is made but what is at this path then
abbrev pub MakesOnly : {C : Type 0} → (C → List ℕ → Type 0) → List ℕ → C → C → Type 0
MakesOnly lacks path old new = (other : List ℕ) → other ≢ path → lacks old other → lacks new other

-- nothing is made but a folder and its files
abbrev pub MakesIn : {C : Type 0} → (C → List ℕ → Type 0) → List ℕ → C → C → Type 0
MakesIn lacks folder old new = (other : List ℕ) → other ≢ folder → ((file : DiskFile) → other ≢ path_in folder file) → lacks old other → lacks new other

-- the device is told as failed only where the count of failures rose
abbrev pub IsCounted : ℕ → ℕ → FolderFault → Type 0
IsCounted before now e = e ≡ DeviceFailed → Rose before now

-- and a call tells so of itself
abbrev pub Counts : {C T : Type 0} → (C → ℕ) → C → C → Result T FolderFault → Type 0
Counts failures old new result = IfErr result (IsCounted (failures old) (failures new))

-- a call makes nothing: what isn't there stays away, a stop leaves what it left, what folders have for disks stays, and a failure is counted
pub record MakesNone {C D T : Type 0} (honest : C → Type 0) (disk : C → List ℕ → FolderDisk D) (lacks lasts : C → List ℕ → Type 0) (failures : C → ℕ) (old new : C) (result : Result T FolderFault) : Type 0 where
  pub nothing : MakesNothing lacks old new
  pub names : KeepsNames lasts old new
  pub spares : Spares honest disk failures old new
  pub cause : Counts failures old new result

-- the same of all but what is at one path then
pub record MakesAt {C D T : Type 0} (honest : C → Type 0) (disk : C → List ℕ → FolderDisk D) (lacks lasts : C → List ℕ → Type 0) (failures : C → ℕ) (path : List ℕ) (old new : C) (result : Result T FolderFault) : Type 0 where
  pub nothing_else : MakesOnly lacks path old new
  pub names : KeepsOthers lasts path old new
  pub spares : Spares honest disk failures old new
  pub cause : Counts failures old new result

-- a call that may lend a disk makes nothing, and where it is refused what folders have for disks stays
pub record LendsOnly {C D T : Type 0} (honest : C → Type 0) (disk : C → List ℕ → FolderDisk D) (lacks lasts : C → List ℕ → Type 0) (failures : C → ℕ) (old new : C) (result : Result T FolderFault) : Type 0 where
  pub nothing : MakesNothing lacks old new
  pub names : KeepsNames lasts old new
  pub same : OnErr result (Spares honest disk failures old new)
  pub later : failures old ≤ failures new
  pub cause : Counts failures old new result

-- the disk of a folder that was lent is back, and what the other folders have stays
pub record TakesBack {C D : Type 0} (rules : D → Type 0) (honest : C → Type 0) (disk : C → List ℕ → FolderDisk D) (failures : C → ℕ) (old new : C) (folder : List ℕ) (place : D) : Type 0 where
  pub back : honest old → disk old folder ≡ Lent → disk new folder ≡ There place
  pub others : honest old → disk old folder ≡ Lent → OthersStay folder (disk old) (disk new)
  pub sound : honest old → rules place → honest new
  pub later : failures old ≤ failures new
