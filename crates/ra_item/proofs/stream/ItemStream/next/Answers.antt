use Rattle.std.proofs.Common.{◌∙◌, ◌++◌, ap}
use Rattle.std.specs.Option.{option_to_list}
use Rattle.ra_item.specs.ItemStreams.{reader_of, ahead}
use Rattle.ra_item.proofs.Streaming.{popped}
use Rattle.ra_item.proofs.stream.ItemStream.next.Goals as goal

pub returns-in-Ok-true-clause-answer : goal.returns-in-Ok-true-clause-answer
returns-in-Ok-true-clause-answer g c =
    let now = c.fill.new.self in
    popped now.rest (g.I.Input.remaining (reader_of c.args.self.now)) (g.I.Input.remaining (reader_of now)) (ahead c.args.self.now) now.items now.ready.items c.pop.new.self.items c.unwrap.result now.sound c.in-Ok-true.ensures.goes_on
    (c.pop.ensures.items ∙ ap (λ o. c.pop.new.self.items ++ option_to_list o) c.unwrap.ensures)
    (rw c.in-Ok-true.field-0-test at c.in-Ok-true.ensures.fills)
