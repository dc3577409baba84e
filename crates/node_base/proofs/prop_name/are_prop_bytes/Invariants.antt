use Rattle.std.proofs.Common.{◌≡◌, drop}
use Rattle.node_base.specs.Numbers.{all_bytes}
use Rattle.node_base.specs.Props.{is_prop_byte}
use Rattle.node_base.proofs.prop_name.are_prop_bytes.Given as goal

abbrev pub invariant-loop-b : goal.invariant-loop-b
invariant-loop-b l = all_bytes is_prop_byte (drop l.b-index l.bytes) ≡ all_bytes is_prop_byte l.bytes
