use Rattle.std.proofs.Common.{rules, refl}
use Rattle.ra_client.specs.Ports.{Asked, Over, ends_of}
use Rattle.ra_client.proofs.Fair.{deltas_tells}
use Rattle.ra_client.proofs.port.ClientPort.fetch_deltas.Goals as goal

pub returns-in-Some-clause-call : goal.returns-in-Some-clause-call
returns-in-Some-clause-call g c = Over c.in-Some.fault c.in-Some.is refl refl

pub returns-clause-call : goal.returns-clause-call
returns-clause-call g c = Asked (search rules) c.ask_deltas-answer.ensures.asked c.over_after-self.ensures refl

pub returns-clause-peer : goal.returns-clause-peer
returns-clause-peer g c = λ _. deltas_tells {g = g.I.Input} {h = g.O.Output} c.args.number c.args.trees.now (ends_of c.args.self.now) (c.ask_deltas-answer.new.items, c.ask_deltas-answer.new.out) c.ask_deltas-answer.result c.ask_deltas-answer.ensures.asked
