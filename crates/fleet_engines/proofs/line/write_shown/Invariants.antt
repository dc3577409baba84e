use Rattle.std.proofs.Common.{◌≡◌, take}
use Rattle.std.specs.Io.KnownBytes.{Appends}
use Rattle.node_base.specs.Refusals.{shown_token}
use Rattle.fleet_engines.proofs.line.write_shown.Given as goal

abbrev pub invariant-loop-byte : goal.invariant-loop-byte
invariant-loop-byte g l =
    Appends (g.O.Output.contents l.fn.output) (g.O.Output.contents l.output) (shown_token (take l.byte-index l.token))
    × (g.O.Output.failures l.output ≡ g.O.Output.failures l.fn.output)
