use Rattle.std.proofs.Common.{ap, ◌∙◌, rules}
use Rattle.std.proofs.lemmas.List.Sorted.{answers_always}
use Rattle.dump_load.specs.Deltas.{delta_at}
use Rattle.dump_load.proofs.DeltaOrder.{before, by_path, alike_sorted}
use Rattle.dump_load.proofs.delta.deltas_in_order.Goals as goal

pub returns-clause-sorted : goal.returns-clause-sorted
returns-clause-sorted c = c.in_ok-sort_by.ensures.sorted before by_path (answers_always _ _ _ (λ f a r g called. search rules))

pub returns-clause-alike : goal.returns-clause-alike
returns-clause-alike c = λ p.
    alike_sorted _ _ (c.sort_by.ensures.stable before by_path (answers_always _ _ _ (λ f a r g called. search rules))) p
    ∙ ap (λ ds. delta_at ds p) c.in_ok-deltas.ensures
