use Rattle.std.proofs.Common.{◌≡◌, ◌≤◌, ◌-◌, ◌++◌, length, take, drop}
use Rattle.fleet_disk.specs.Image.{bytes_of}
use Rattle.gate_log.specs.Looks.{Looks}
use Rattle.gate_log.proofs.reads.fill.Given as goal

abbrev pub invariant-loop-done : goal.invariant-loop-done
invariant-loop-done g l = record {
  within : l.done ≤ length l.buf;
  same_length : length l.buf ≡ length l.fn.buf;
  looks : Looks g.D.Disk l.fn.disk l.disk;
  inside : g.D.Disk.honest l.fn.disk → l.done ≤ length (bytes_of l.file (g.D.Disk.reads l.fn.disk)) - l.at;
  bytes : g.D.Disk.honest l.fn.disk → l.buf ≡ take l.done (drop l.at (bytes_of l.file (g.D.Disk.reads l.fn.disk))) ++ drop l.done l.fn.buf;
}

abbrev pub decreases-loop-done : goal.decreases-loop-done
decreases-loop-done g l = length l.fn.buf - l.done
