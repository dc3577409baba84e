use Rattle.std.proofs.Common.{◌≡◌, ◌≤◌, length, take}
use Rattle.gate_log.specs.Log.{disk_of, ends_of, entries_of, HasFailed, LooksIn}
use Rattle.repo_store.specs.Journal.{Tell}
use Rattle.repo_store.proofs.replay.replay.Given as goal

abbrev pub invariant-loop-entry : goal.invariant-loop-entry
invariant-loop-entry g l = record {
  begun : 1 ≤ l.entry;
  inside : l.entry ≤ l.entry-end;
  few : l.entry-end ≡ length (ends_of l.fn.log);
  working : ¬ HasFailed l.log;
  told : g.D.Disk.honest (disk_of l.fn.log) → Tell (take l.entry (entries_of l.fn.log)) l.repo;
  looks : LooksIn l.fn.log l.log;
}
