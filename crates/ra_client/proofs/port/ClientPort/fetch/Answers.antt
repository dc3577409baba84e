use Rattle.std.proofs.Common.{rules, refl}
use Rattle.ra_client.specs.Ports.{Asked, Over, ends_of}
use Rattle.ra_client.proofs.Carried.{revision_told_so}
use Rattle.ra_client.proofs.Fair.{revision_tells}
use Rattle.ra_client.proofs.port.ClientPort.fetch.Goals as goal

pub returns-in-Some-clause-call : goal.returns-in-Some-clause-call
returns-in-Some-clause-call g c = Over c.in-Some.fault c.in-Some.is refl refl

pub returns-clause-call : goal.returns-clause-call
returns-clause-call g c = Asked (search rules) c.ask_revision-answer.ensures.asked c.over_after-self.ensures refl

pub returns-clause-peer : goal.returns-clause-peer
returns-clause-peer g c = λ _. revision_tells {g = g.I.Input} {h = g.O.Output} c.args.number c.args.trees.now (ends_of c.args.self.now) (c.ask_revision-answer.new.items, c.ask_revision-answer.new.out) c.ask_revision-answer.result c.ask_revision-answer.ensures.asked

pub returns-in-Some-clause-told : goal.returns-in-Some-clause-told
returns-in-Some-clause-told g c = λ s m may t e. let d = c.in-Some.is in cc

pub returns-clause-told : goal.returns-clause-told
returns-clause-told g c = λ s m may t _. revision_told_so {g = g.I.Input} {h = g.O.Output} c.written_is_taken.ensures c.written_comes.ensures c.args.number c.args.trees.now s m may t (ends_of c.args.self.now) (c.ask_revision-answer.new.items, c.ask_revision-answer.new.out) c.ask_revision-answer.result c.ask_revision-answer.ensures.asked
