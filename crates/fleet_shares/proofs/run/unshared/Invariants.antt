use Rattle.std.proofs.Common.{◌≡◌}
use Rattle.fleet_shares.proofs.run.unshared.Given as goal

abbrev pub invariant-loop : goal.invariant-loop
invariant-loop g l = l.kept ≡ l.initial.kept
