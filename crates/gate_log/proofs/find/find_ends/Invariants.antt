use Rattle.std.proofs.Common.{◌≡◌, ◌<◌, ◌≤◌, ◌-◌, ◌++◌, length, drop}
use Rattle.gate_log.specs.Looks.{Looks}
use Rattle.gate_log.specs.Slots.{slots}
use Rattle.gate_log.specs.Standing.{IsRising, last_end}
use Rattle.gate_log.specs.Version.{gates_of, gate_place}
use Rattle.gate_log.proofs.find.find_ends.Given as goal

abbrev pub invariant-loop-at : goal.invariant-loop-at
invariant-loop-at g l = record {
  looks : Looks g.D.Disk l.fn.disk l.disk;
  place : l.at ≡ gate_place l.lengths.version (length l.ends.items);
  next : 0 < length l.ends.items → l.at < l.lengths.gates;
  last : l.last ≡ last_end 0 l.ends.items;
  rising : IsRising 0 l.ends.items;
  within : l.last ≤ l.lengths.journal;
  slots : g.D.Disk.honest l.fn.disk → gates_of l.lengths.version (g.D.Disk.reads l.fn.disk) ≡ slots l.lengths.version 0 l.ends.items (g.D.Disk.reads l.fn.disk).journal ++ drop l.at (gates_of l.lengths.version (g.D.Disk.reads l.fn.disk));
}

abbrev pub decreases-loop-at : goal.decreases-loop-at
decreases-loop-at g l = l.lengths.journal - l.last
