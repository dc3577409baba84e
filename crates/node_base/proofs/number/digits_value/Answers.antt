use Rattle.std.proofs.Common.{◌∙◌, sym}
use Rattle.node_base.proofs.NumberLemmas.{stops, ends}
use Rattle.node_base.proofs.number.digits_value.Goals as goal

pub returns-in_err-number : goal.returns-in_err-number
returns-in_err-number c =
    c.from_residual.ensures ∙ sym (stops c.args.bytes.now c.loop-byte.byte-index c.loop-byte.number c.loop-byte-test.true (sym c.in_err-number.ensures.number)) ∙ c.loop-byte.invariant.read

pub returns : goal.returns
returns c = sym (ends c.args.bytes.now c.loop-byte.byte-index c.loop-byte.number c.loop-byte-test.false c.loop-byte.invariant.small) ∙ c.loop-byte.invariant.read
