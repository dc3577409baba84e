use Rattle.std.proofs.Common.{◌≡◌, drop}
use Rattle.std.specs.List.{list_any}
use Rattle.dump_load.specs.Records.{is_unsaid}
use Rattle.dump_load.proofs.fill.leaves_unsaid.Given as goal

abbrev pub invariant-loop-change : goal.invariant-loop-change
invariant-loop-change l = list_any is_unsaid (drop l.change-index l.changes) ≡ list_any is_unsaid l.changes
