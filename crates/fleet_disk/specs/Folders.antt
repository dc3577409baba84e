-- The functions that open, make and complete folders, by the ghosts of a host's calls.
use Rattle.std.specs.Prelude.{◌≡◌, ◌≤◌, ◌⊎◌, ℕ, List, Result, OnErr}
use Rattle.fleet_disk.specs.FolderFiles.{path_in, AreAll, AreIn, HasBytes, HasFiles, IsHeld, LacksEntries}
use Rattle.fleet_disk.specs.Lasting.{IsMadeToLast, KeepsName}
use Rattle.fleet_disk.specs.Lending.{Counts, LendsOnly, MakesAt, MakesIn, MakesNone, MakesNothing, Spares}
use Rattle.fleet_disk.specs.declared.disk.Disk.{Ghosts as DiskGhosts}
use Rattle.fleet_disk.specs.declared.disk.DiskFile.{DiskFile}
use Rattle.fleet_disk.specs.declared.folder_calls.FolderCalls.{Ghosts}
use Rattle.fleet_disk.specs.declared.folder_fault.FolderFault.{FolderFault}
use Rattle.fleet_disk.specs.declared.folder_files.FolderFiles.{FolderFiles}

-- nothing is made
abbrev pub MakesNoneIn : {C F D T : Type 0} → Ghosts C F D → C → C → Result T FolderFault → Type 0
MakesNoneIn G old new result = MakesNone G.honest G.disk G.lacks G.lasts G.failures old new result

-- nothing is made but what is at one path
abbrev pub MakesAtIn : {C F D T : Type 0} → Ghosts C F D → List ℕ → C → C → Result T FolderFault → Type 0
MakesAtIn G path old new result = MakesAt G.honest G.disk G.lacks G.lasts G.failures path old new result

-- nothing is made but a folder and its files; a stop leaves the folder where it left it, what folders have for disks stays, and a failure is counted
pub record MakesFiles {C F D T : Type 0} (G : Ghosts C F D) (folder : List ℕ) (old new : C) (result : Result T FolderFault) : Type 0 where
  pub nothing_else : MakesIn G.lacks folder old new
  pub name : KeepsName G.lasts folder old new
  pub spares : Spares G.honest G.disk G.failures old new
  pub cause : Counts G.failures old new result

-- nothing is made, and a disk may be lent
abbrev pub LendsOnlyIn : {C F D T : Type 0} → Ghosts C F D → C → C → Result T FolderFault → Type 0
LendsOnlyIn G old new result = LendsOnly G.honest G.disk G.lacks G.lasts G.failures old new result

-- a disk may be lent, and nothing is made but a folder and its files; where it is refused what folders have for disks stays
pub record LendsAndMakes {C F D T : Type 0} (G : Ghosts C F D) (folder : List ℕ) (old new : C) (result : Result T FolderFault) : Type 0 where
  pub nothing_else : MakesIn G.lacks folder old new
  pub same : OnErr result (Spares G.honest G.disk G.failures old new)
  pub later : G.failures old ≤ G.failures new
  pub cause : Counts G.failures old new result

-- they are a folder's files that are there, and the journal is held
pub record AreFound {C F D : Type 0} (G : Ghosts C F D) (calls : C) (folder : List ℕ) (files : FolderFiles F) : Type 0 where
  pub inside : AreIn G.is_at (G.lacks calls) folder files
  pub held : IsHeld G.is_held files

-- a disk is over these, and no failure of it is counted
pub record IsOver {C F D : Type 0} (G : Ghosts C F D) (P : DiskGhosts D) (calls : C) (folder : List ℕ) (place : D) : Type 0 where
  pub inside : AreIn G.is_at (G.lacks calls) folder (G.files place)
  pub held : IsHeld G.is_held (G.files place)
  pub uncounted : P.failures place ≡ 0

-- all of a folder's files, of which the journal is held; they are new where those were that stood there before
pub record AreMade {C F D : Type 0} (G : Ghosts C F D) (calls : C) (folder : List ℕ) (before files : FolderFiles F) : Type 0 where
  pub inside : AreIn G.is_at (G.lacks calls) folder files
  pub held : IsHeld G.is_held files
  pub whole : HasFiles files
  pub new : AreAll G.is_new before → AreAll G.is_new files

-- a disk is over new files, which a stop leaves, or over some with bytes, and then nothing was made
abbrev pub IsCreated : {C F D : Type 0} → Ghosts C F D → C → C → List ℕ → D → Type 0
IsCreated G old new folder place =
    (HasFiles (G.files place) × AreAll G.is_new (G.files place) × IsMadeToLast G.honest G.lacks G.lasts old new folder) ⊎ (HasBytes G.has_bytes (G.files place) × MakesNothing G.lacks old new)

-- a disk is over all files, which a stop leaves, or those that entries are in aren't there, and then nothing was made
abbrev pub IsCompleted : {C F D : Type 0} → Ghosts C F D → C → C → List ℕ → D → Type 0
IsCompleted G old new folder place =
    (HasFiles (G.files place) × ((file : DiskFile) → G.lasts new (path_in folder file))) ⊎ (LacksEntries (G.files place) × MakesNothing G.lacks old new)
