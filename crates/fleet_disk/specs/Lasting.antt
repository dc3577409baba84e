-- Names that a stop leaves.
use Rattle.std.specs.Prelude.{◌≡◌, ◌≢◌, ◌⊎◌, List, [], ℕ}
use Rattle.fleet_disk.specs.Above.{IsAbove}
use Rattle.fleet_disk.specs.FolderFiles.{path_in}
use Rattle.fleet_disk.specs.Image.{Image, no_bytes}
use Rattle.fleet_disk.specs.declared.disk.DiskFile.{DiskFile}

-- what stands in a folder is left by a stop: the files of a repository, and any folder
pub record IsSynced (lasts : List ℕ → Type 0) (folder : List ℕ) : Type 0 where
  pub files : (file : DiskFile) → lasts (path_in folder file)
  pub folders : (path : List ℕ) → IsAbove path folder → lasts path

-- what a stop left, it leaves
abbrev pub KeepsNames : {C : Type 0} → (C → List ℕ → Type 0) → C → C → Type 0
KeepsNames lasts old new = (path : List ℕ) → lasts old path → lasts new path

-- the same of all but what is at this path
abbrev pub KeepsOthers : {C : Type 0} → (C → List ℕ → Type 0) → List ℕ → C → C → Type 0
KeepsOthers lasts path old new = (other : List ℕ) → other ≢ path → lasts old other → lasts new other

-- the same of a folder, whatever is made in it
abbrev pub KeepsName : {C : Type 0} → (C → List ℕ → Type 0) → List ℕ → C → C → Type 0
KeepsName lasts folder old new = lasts old folder → lasts new folder

-- a stop leaves a folder's files, and the folder, where it wasn't there
pub record IsMadeToLast {C : Type 0} (honest : C → Type 0) (lacks lasts : C → List ℕ → Type 0) (old new : C) (folder : List ℕ) : Type 0 where
  pub files : (file : DiskFile) → lasts new (path_in folder file)
  pub above : honest old → lacks old folder → lasts new folder

-- of a folder whose disk is lent: a stop leaves its files, and the folder where it wasn't there, or the disk has bytes
abbrev pub LastsUnlessFull : {C D : Type 0} → (C → Type 0) → (C → List ℕ → Type 0) → (C → List ℕ → Type 0) → (D → Image) → C → C → List ℕ → D → Type 0
LastsUnlessFull honest lacks lasts reads old new folder place = IsMadeToLast honest lacks lasts old new folder ⊎ (honest old → reads place ≢ no_bytes)

-- a stop leaves its files, or the disk has an empty journal or an empty gate
abbrev pub LastsUnlessLacking : {C D : Type 0} → (C → Type 0) → (C → List ℕ → Type 0) → (D → Image) → C → C → List ℕ → D → Type 0
LastsUnlessLacking honest lasts reads old new folder place =
    ((file : DiskFile) → lasts new (path_in folder file)) ⊎ (honest old → ((reads place).journal ≡ []) ⊎ ((reads place).gate ≡ []))
