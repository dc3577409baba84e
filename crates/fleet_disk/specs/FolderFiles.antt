-- The files of a folder that are open.
use Rattle.std.specs.Prelude.{◌≡◌, ◌≢◌, ◌⊎◌, ◌++◌, ℕ, List, [], Option, Some, None, codes, IsSome, IsNone, IfSome, IsSomeAnd}
use Rattle.fleet_disk.specs.Image.{Image, no_bytes}
use Rattle.fleet_disk.specs.declared.disk.DiskFile.{DiskFile}
use Rattle.fleet_disk.specs.declared.disk.DiskFile.TheVariants.{Journal, Gate, Slots}
use Rattle.fleet_disk.specs.declared.folder_files.FolderFiles.{FolderFiles}

-- where a folder has a file
abbrev pub path_in : List ℕ → DiskFile → List ℕ
path_in folder Journal = folder ++ codes "/journal"
path_in folder Gate = folder ++ codes "/gate"
path_in folder Slots = folder ++ codes "/slots"

-- it is the file at a path, or none where nothing is there
abbrev pub IsFound : {F : Type 0} → (F → List ℕ → Type 0) → (List ℕ → Type 0) → List ℕ → Option F → Type 0
IsFound is_at lacks path (Some file) = is_at file path
IsFound is_at lacks path None = lacks path

-- they are the files of a folder, or those of them that are there
pub record AreIn {F : Type 0} (is_at : F → List ℕ → Type 0) (lacks : List ℕ → Type 0) (folder : List ℕ) (files : FolderFiles F) : Type 0 where
  pub journal : IsFound is_at lacks (path_in folder Journal) files.journal
  pub gate : IsFound is_at lacks (path_in folder Gate) files.gate
  pub slots : IsFound is_at lacks (path_in folder Slots) files.slots

-- all files are open
abbrev pub HasFiles : {F : Type 0} → FolderFiles F → Type 0
HasFiles files = IsSome files.journal × IsSome files.gate × IsSome files.slots

-- a file that the entries of a log without sums are in isn't there
abbrev pub LacksEntries : {F : Type 0} → FolderFiles F → Type 0
LacksEntries files = IsNone files.journal ⊎ IsNone files.gate

-- p holds of the journal, where it is there
abbrev pub IsHeld : {F : Type 0} → (F → Type 0) → FolderFiles F → Type 0
IsHeld p files = IfSome files.journal p

-- p holds of one of the files
abbrev pub HasBytes : {F : Type 0} → (F → Type 0) → FolderFiles F → Type 0
HasBytes p files = IsSomeAnd files.journal p ⊎ IsSomeAnd files.gate p ⊎ IsSomeAnd files.slots p

-- p holds of all files that are there
pub record AreAll {F : Type 0} (p : F → Type 0) (files : FolderFiles F) : Type 0 where
  pub journal : IfSome files.journal p
  pub gate : IfSome files.gate p
  pub slots : IfSome files.slots p

-- a disk over these files reads as they are: it isn't empty where one of them has bytes, and has an empty journal or gate where one of these two isn't there
pub record Shows {F : Type 0} (has_bytes : F → Type 0) (files : FolderFiles F) (image : Image) : Type 0 where
  pub full : HasBytes has_bytes files → image ≢ no_bytes
  pub lacking : LacksEntries files → (image.journal ≡ []) ⊎ (image.gate ≡ [])
