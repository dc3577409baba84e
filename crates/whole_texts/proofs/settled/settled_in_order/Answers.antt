use Rattle.std.proofs.Common.{reverse, ap, ◌∙◌, rules}
use Rattle.std.proofs.lemmas.List.Sorted.{answers_always}
use Rattle.whole_texts.specs.Settled.{copied_at}
use Rattle.whole_texts.proofs.Order.{before, by_path, alike_sorted}
use Rattle.whole_texts.proofs.Reversed.{last_settled}
use Rattle.whole_texts.proofs.settled.settled_in_order.Goals as goal

pub returns-clause-sorted : goal.returns-clause-sorted
returns-clause-sorted c = c.in_ok-sort_by.ensures.sorted before by_path (answers_always _ _ _ (λ f a r g called. search rules))

pub returns-clause-known : goal.returns-clause-known
returns-clause-known c = λ p.
    alike_sorted _ _ (c.sort_by.ensures.stable before by_path (answers_always _ _ _ (λ f a r g called. search rules))) p
    ∙ ap (λ ss. copied_at ss p) (c.reverse.ensures.items ∙ ap reverse c.in_ok-settled.ensures)
    ∙ last_settled c.args.nodes.now p
