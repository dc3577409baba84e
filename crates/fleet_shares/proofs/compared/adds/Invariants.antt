use Rattle.std.proofs.Common.{ℕ, ◌<◌}
use Rattle.fleet_shares.specs.Agreed.{HaveSet}
use Rattle.fleet_shares.proofs.compared.adds.Given as goal

abbrev pub invariant-loop-number : goal.invariant-loop-number
invariant-loop-number l = (n : ℕ) → l.fn.above < n → n < l.number → HaveSet l.mirror l.master n
