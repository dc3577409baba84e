use Rattle.std.proofs.Common.{map, ap, ◌∙◌}
use Rattle.std.proofs.lemmas.List.{take_all}
use Rattle.dump_load.specs.Records.{record_of}
use Rattle.dump_load.proofs.Again.{records_again}
use Rattle.dump_load.proofs.set.ChangeSet.to_records.Goals as goal

pub returns-clause-again : goal.returns-clause-again
returns-clause-again c = λ trees rs h.
    records_again trees rs c.loop-change.records.items c.args.self.now
    (c.loop-change.invariant ∙ ap (map record_of) (take_all c.loop-change.change-index c.deref-change-items.result.now c.loop-change-test.false ∙ c.deref-change-items.ensures.value ∙ c.self.view_is)) h
