use Rattle.std.proofs.Common.{sym, ap, subst, ◌∙◌}
use Rattle.std.specs.List.{list_any}
use Rattle.whole_texts.specs.Whole.{is_given, records_of, AreWhole}
use Rattle.whole_texts.proofs.Own.{own_are_whole}
use Rattle.whole_texts.proofs.make.make_whole.Goals as goal

pub returns-then-not-has_delta-clause-whole : goal.returns-then-not-has_delta-clause-whole
returns-then-not-has_delta-clause-whole c =
    let t = c.args.trees.now in
    let ns = c.args.nodes.items in
    subst (AreWhole t (records_of ns) ns) (sym c.in_ok-own_records.ensures)
    (own_are_whole t (records_of ns) ns (ap (list_any is_given) (sym c.as_slice.ensures.value) ∙ sym c.has_delta.ensures ∙ c.if-not-has_delta.true))
