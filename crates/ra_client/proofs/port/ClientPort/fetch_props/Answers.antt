use Rattle.std.proofs.Common.{rules, refl}
use Rattle.ra_client.specs.Ports.{Asked, Over, ends_of}
use Rattle.ra_client.proofs.Carried.{props_told}
use Rattle.ra_client.proofs.Fair.{props_tells}
use Rattle.ra_client.proofs.port.ClientPort.fetch_props.Goals as goal

pub returns-in-Some-clause-call : goal.returns-in-Some-clause-call
returns-in-Some-clause-call g c = Over c.in-Some.fault c.in-Some.is refl refl

pub returns-clause-call : goal.returns-clause-call
returns-clause-call g c = Asked (search rules) c.ask_props-answer.ensures.asked c.over_after-self.ensures refl

pub returns-clause-peer : goal.returns-clause-peer
returns-clause-peer g c = λ _. props_tells {g = g.I.Input} {h = g.O.Output} c.args.number (ends_of c.args.self.now) (c.ask_props-answer.new.items, c.ask_props-answer.new.out) c.ask_props-answer.result c.ask_props-answer.ensures.asked

pub returns-in-Some-clause-told : goal.returns-in-Some-clause-told
returns-in-Some-clause-told g c = λ m t e. let d = c.in-Some.is in cc

pub returns-clause-told : goal.returns-clause-told
returns-clause-told g c = λ m t _. props_told {g = g.I.Input} {h = g.O.Output} c.written_is_taken.ensures c.written_comes.ensures c.args.number m t (ends_of c.args.self.now) (c.ask_props-answer.new.items, c.ask_props-answer.new.out) c.ask_props-answer.result c.ask_props-answer.ensures.asked
