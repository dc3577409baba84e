use Rattle.std.proofs.Common.{◌≡◌, drop}
use Rattle.node_base.specs.Numbers.{all_bytes, is_digit}
use Rattle.sync_core.proofs.properties.are_digits.Given as goal

abbrev pub invariant-loop-b : goal.invariant-loop-b
invariant-loop-b l = all_bytes is_digit (drop l.b-index l.value) ≡ all_bytes is_digit l.value
