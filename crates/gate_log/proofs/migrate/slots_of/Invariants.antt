use Rattle.std.proofs.Common.{◌≡◌, ◌≤◌, length, take}
use Rattle.gate_log.specs.declared.version.LogVersion.TheVariants.{Second}
use Rattle.gate_log.specs.Looks.{Looks}
use Rattle.gate_log.specs.Slots.{slots}
use Rattle.gate_log.specs.Standing.{last_end}
use Rattle.gate_log.proofs.migrate.slots_of.Given as goal

abbrev pub invariant-loop-entry : goal.invariant-loop-entry
invariant-loop-entry g l = record {
  looks : Looks g.D.Disk l.fn.disk l.disk;
  start : l.start ≡ last_end 0 (take l.entry l.ends);
  bytes : g.D.Disk.honest l.fn.disk → last_end 0 l.ends ≤ length (g.D.Disk.reads l.fn.disk).journal → l.bytes.items ≡ slots Second 0 (take l.entry l.ends) (g.D.Disk.reads l.fn.disk).journal;
}
