use Rattle.std.proofs.Common.{sym, ap, ◌∙◌}
use Rattle.whole_texts.specs.Bases.{text_found}
use Rattle.whole_texts.specs.declared.refusal.TextRefusal.TheVariants.{NoSuchPath}
use Rattle.whole_texts.proofs.Bases.{said, left_is, base_left}
use Rattle.whole_texts.proofs.base.base_of.Goals as goal

pub returns-then-not-brings : goal.returns-then-not-brings
returns-then-not-brings c = λ rs known.
    let t = c.args.trees.now in
    let r = c.args.stated.now in
    said c.text_left.result _ _ (ap (text_found NoSuchPath) (left_is t c.args.settled.now rs r.path known) ∙ sym (base_left t rs r (sym c.brings.ensures ∙ c.if-not-brings.true))) c.text_left.ensures
