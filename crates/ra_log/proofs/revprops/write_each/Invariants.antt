use Rattle.std.proofs.Common.{◌∷◌, [], take}
use Rattle.std.specs.List.{flat_map}
use Rattle.std.specs.Io.KnownBytes.{Appends}
use Rattle.browse_wire.specs.Asks.{revprops_as}
use Rattle.ra_log.proofs.Listed.{others_bytes}
use Rattle.ra_log.proofs.revprops.write_each.Given as goal

abbrev pub invariant-loop-name : goal.invariant-loop-name
invariant-loop-name g l = Appends (g.W.Write.contents l.fn.out) (g.W.Write.contents l.out) (flat_map (λ e. others_bytes (revprops_as l.wanted) (e ∷ [])) (take l.name-index l.entries))
