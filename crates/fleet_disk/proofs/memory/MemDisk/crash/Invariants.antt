use Rattle.std.proofs.Common.{◌≡◌, drop}
use Rattle.fleet_disk.specs.Contents.{image_of}
use Rattle.fleet_disk.specs.Memory.{picked}
use Rattle.fleet_disk.specs.Stopped.{picked_of}
use Rattle.fleet_disk.proofs.memory.MemDisk.crash.Given as goal

abbrev pub invariant-loop-call : goal.invariant-loop-call
invariant-loop-call l = picked l.pick (image_of l.left) (image_of l.read) (drop l.call-index l.call-items) ≡ picked_of l.pick l.self
