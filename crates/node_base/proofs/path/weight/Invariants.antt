use Rattle.std.proofs.Common.{◌≡◌, ◌≤◌, ◌*◌, take}
use Rattle.node_base.specs.Limits.{weight}
use Rattle.node_base.proofs.path.weight.Given as goal

abbrev pub invariant-loop-name : goal.invariant-loop-name
invariant-loop-name l = record {
  sum : l.sum ≡ weight (take l.name-index l.names);
  small : l.sum ≤ 256 * l.name-index;
}
