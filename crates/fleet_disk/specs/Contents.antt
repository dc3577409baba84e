-- The image that is held in memory.
use Rattle.fleet_disk.specs.declared.contents.Contents.{Contents}
use Rattle.fleet_disk.specs.Image.{Image}

-- the bytes of the three files
abbrev pub image_of : Contents → Image
image_of contents = record { journal = contents.journal.items; gate = contents.gate.items; slots = contents.slots.items }
