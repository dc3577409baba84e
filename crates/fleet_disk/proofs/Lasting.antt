-- Names that a stop leaves.
use Rattle.std.proofs.Common.{List, ℕ, Result, Ok, Err, OnOk, IfOk, inr}
use Rattle.fleet_disk.specs.Above.{IsAbove}
use Rattle.fleet_disk.specs.FolderFiles.{HasBytes, Shows}
use Rattle.fleet_disk.specs.Image.{Image}
use Rattle.fleet_disk.specs.Lasting.{IsSynced, LastsUnlessFull}
use Rattle.fleet_disk.specs.declared.folder_files.FolderFiles.{FolderFiles}

-- a folder that was made lasts once what it is in is synced
pub folder_lasts : {T E : Type 0} (r : Result T E) (lasts : List ℕ → Type 0) (folder above : List ℕ) (Lacks : Type 0) → IsAbove folder above → OnOk r (IsSynced lasts above) → OnOk r (Lacks → lasts folder)
folder_lasts (Ok t) lasts folder above Lacks stands synced = λ lack. synced.folders folder stands
folder_lasts (Err e) lasts folder above Lacks stands synced = tt

module _ {C D F E : Type 0} (honest : C → Type 0) (lacks lasts : C → List ℕ → Type 0) (reads : D → Image) (has_bytes : F → Type 0) where
  -- the disk of files with bytes isn't empty
  pub lasts_or_full : (old mid new : C) (folder : List ℕ) (files : FolderFiles F) (lent : Result D E) → (honest old → honest mid) → HasBytes has_bytes files
      → (honest mid → IfOk lent (λ place. Shows has_bytes files (reads place))) → IfOk lent (LastsUnlessFull honest lacks lasts reads old new folder)
  lasts_or_full old mid new folder files (Ok place) sound some shown = inr (λ h. (shown (sound h)).full some)
  lasts_or_full old mid new folder files (Err e) sound some shown = tt
