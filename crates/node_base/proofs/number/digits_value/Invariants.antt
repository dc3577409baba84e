use Rattle.std.proofs.Common.{◌≡◌, ◌<◌, ◌^◌, drop}
use Rattle.node_base.specs.Numbers.{decimal}
use Rattle.node_base.proofs.NumberLemmas.{decimal_after}
use Rattle.node_base.proofs.number.digits_value.Given as goal

abbrev pub invariant-loop-byte : goal.invariant-loop-byte
invariant-loop-byte l = record {
  read : decimal_after l.number (drop l.byte-index l.bytes) ≡ decimal l.bytes;
  small : l.number < 2 ^ 64;
}
