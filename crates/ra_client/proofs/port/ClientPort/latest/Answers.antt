use Rattle.std.proofs.Common.{rules, refl}
use Rattle.ra_client.specs.Ports.{Asked, Over, ends_of}
use Rattle.ra_client.proofs.Carried.{latest_told}
use Rattle.ra_client.proofs.Fair.{latest_tells}
use Rattle.ra_client.proofs.port.ClientPort.latest.Goals as goal

pub returns-in-Some-clause-call : goal.returns-in-Some-clause-call
returns-in-Some-clause-call g c = Over c.in-Some.fault c.in-Some.is refl refl

pub returns-clause-call : goal.returns-clause-call
returns-clause-call g c = Asked (search rules) c.ask_latest-answer.ensures.asked c.over_after-self.ensures refl

pub returns-clause-peer : goal.returns-clause-peer
returns-clause-peer g c = λ _. latest_tells {g = g.I.Input} {h = g.O.Output} (ends_of c.args.self.now) (c.ask_latest-answer.new.items, c.ask_latest-answer.new.out) c.ask_latest-answer.result c.ask_latest-answer.ensures.asked

pub returns-in-Some-clause-told : goal.returns-in-Some-clause-told
returns-in-Some-clause-told g c = λ n l e. let d = c.in-Some.is in cc

pub returns-clause-told : goal.returns-clause-told
returns-clause-told g c = λ n l _. latest_told {g = g.I.Input} {h = g.O.Output} c.written_is_taken.ensures c.written_comes.ensures n l (ends_of c.args.self.now) (c.ask_latest-answer.new.items, c.ask_latest-answer.new.out) c.ask_latest-answer.result c.ask_latest-answer.ensures.asked
