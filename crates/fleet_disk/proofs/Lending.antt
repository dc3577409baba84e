-- The files of a folder that is made.
use Rattle.std.proofs.Common.{◌≡◌, ◌≢◌, ◌<◌, ◌++◌, ℕ, List, length, Option, Some, None, ap, codes, ◌∙◌, arith, length-append}
use Rattle.fleet_disk.specs.FolderFiles.{AreIn, IsFound, path_in}
use Rattle.fleet_disk.specs.Lending.{MakesIn, MakesOnly}
use Rattle.fleet_disk.specs.declared.disk.DiskFile.{DiskFile}
use Rattle.fleet_disk.specs.declared.disk.DiskFile.TheVariants.{Journal, Gate, Slots}
use Rattle.fleet_disk.specs.declared.folder_files.FolderFiles.{FolderFiles}

-- a longer path is another one
longer : (folder more : List ℕ) → 0 < length more → folder ++ more ≢ folder
longer folder more some same = omega (arith, length-append folder more, ap length same, some)

other_path : (folder : List ℕ) (file : DiskFile) → path_in folder file ≢ folder
other_path folder Journal = longer folder (codes "/journal") (omega arith)
other_path folder Gate = longer folder (codes "/gate") (omega arith)
other_path folder Slots = longer folder (codes "/slots") (omega arith)

module _ {C F : Type 0} (is_at : F → List ℕ → Type 0) (lacks : C → List ℕ → Type 0) where
  still_found : (old new : C) (folder : List ℕ) (file : DiskFile) (found : Option F) → MakesOnly lacks folder old new → IsFound is_at (lacks old) (path_in folder file) found → IsFound is_at (lacks new) (path_in folder file) found
  still_found old new folder file (Some file-there) nothing at = at
  still_found old new folder file None nothing none = nothing (path_in folder file) (other_path folder file) none

  -- where a folder is made, its files are those that it had
  pub in_made : (old new : C) (folder : List ℕ) (files : FolderFiles F) → MakesOnly lacks folder old new → AreIn is_at (lacks old) folder files → AreIn is_at (lacks new) folder files
  in_made old new folder files nothing are = record {
    journal = still_found old new folder Journal files.journal nothing are.journal;
    gate = still_found old new folder Gate files.gate nothing are.gate;
    slots = still_found old new folder Slots files.slots nothing are.slots;
  }

module _ {C : Type 0} (lacks : C → List ℕ → Type 0) where
  -- a file of a folder is made
  pub file_made : (old new : C) (folder path : List ℕ) (file : DiskFile) → path ≡ path_in folder file → MakesOnly lacks path old new → MakesIn lacks folder old new
  file_made old new folder path file is nothing other apart others lack = nothing other (λ same. others file (same ∙ is)) lack

  pub in_then : (a b c : C) (folder : List ℕ) → MakesIn lacks folder a b → MakesIn lacks folder b c → MakesIn lacks folder a c
  in_then a b c folder first then other apart others lack = then other apart others (first other apart others lack)
