-- Counts that rise.
use Rattle.std.proofs.Common.{◌+◌, ℕ, inl, inr, arith}
use Rattle.byte_streams.specs.Causes.{RoseBy, CountsOne}

-- one read more
pub counts_on : (n first before now : ℕ) → RoseBy n first before → CountsOne before now → RoseBy (n + 1) first now
counts_on n first before now (inl rose) step = elim step.rose [
  | inl one ↦ inl (omega (arith, rose, one))
  | inr most ↦ inr most
]
counts_on n first before now (inr most) step = inr (omega (arith, most, step.later))
