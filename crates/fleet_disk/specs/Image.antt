-- What the files of a disk hold.
use Rattle.std.specs.Prelude.{ℕ, List, []}
use Rattle.fleet_disk.specs.declared.disk.DiskFile.{DiskFile}
use Rattle.fleet_disk.specs.declared.disk.DiskFile.TheVariants.{Journal, Gate, Slots}

-- the bytes of each file
pub record Image : Type 0 where
  pub journal : List ℕ
  pub gate : List ℕ
  pub slots : List ℕ

-- the bytes of one file
abbrev pub bytes_of : DiskFile → Image → List ℕ
bytes_of Journal image = image.journal
bytes_of Gate image = image.gate
bytes_of Slots image = image.slots

-- three empty files
abbrev pub no_bytes : Image
no_bytes = record { journal = []; gate = []; slots = [] }
