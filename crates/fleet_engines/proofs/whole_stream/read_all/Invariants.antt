use Rattle.std.proofs.Common.{◌≡◌, ℕ, List}
use Rattle.std.specs.Io.KnownBytes.{Consumes}
use Rattle.byte_streams.specs.Causes.{RoseBy}
use Rattle.fleet_engines.specs.Takers.{place, Reached}
use Rattle.fleet_engines.proofs.whole_stream.read_all.Given as goal

abbrev pub invariant-loop-turn : goal.invariant-loop-turn
invariant-loop-turn g l =
    (bytes : List ℕ)
    × Consumes (g.I.Input.remaining l.fn.input) (g.I.Input.remaining l.input) bytes
    × Reached l.fn.reader.head.deltas g.K.Taker.takes bytes l.reader (place l.fn.taker l.fn.store l.fn.output) (place l.taker l.store l.output)
    × (g.I.Input.failures l.input ≡ g.I.Input.failures l.fn.input)
    × RoseBy l._turn (g.I.Input.reads l.fn.input) (g.I.Input.reads l.input)
    × (g.K.Taker.failures l.output ≡ g.K.Taker.failures l.fn.output)
