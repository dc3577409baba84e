-- A file in which nothing changed since it was synced.
use Rattle.std.specs.Prelude.{◌≡◌}
use Rattle.fleet_disk.specs.Image.{Image, bytes_of}
use Rattle.fleet_disk.specs.declared.disk.DiskFile.{DiskFile}

-- a stop leaves of the file what a read gives
abbrev pub Rests : DiskFile → Image → (Image → Type 0) → Type 0
Rests file image left = (c : Image) → left c → bytes_of file c ≡ bytes_of file image
