use Rattle.std.proofs.Common.{refl, inr}
use Rattle.std.proofs.KnownBytes.{Appends-nil}
use Rattle.fleet_engines.specs.Histories.{revs_of}
use Rattle.fleet_engines.proofs.engine.list_record.Goals as goal

pub returns-in-Ok-clause-ok : goal.returns-in-Ok-clause-ok
returns-in-Ok-clause-ok g c = (revs_of c.in-Ok._closed, c.in-Ok.ensures.taken, Appends-nil (g.O.Output.contents c.args.output.now), refl)

pub returns-in-Err-clause-refused : goal.returns-in-Err-clause-refused
returns-in-Err-clause-refused g c = inr (refl, c.in-Err.ensures.refused)

pub returns-in-Err-clause-peer : goal.returns-in-Err-clause-peer
returns-in-Err-clause-peer g c = inr (c.in-Err.ensures.no_peer, refl)
