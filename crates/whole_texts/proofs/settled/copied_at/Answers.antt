use Rattle.std.proofs.Common.{sym, ap, ◌∙◌, arith}
use Rattle.whole_texts.specs.Settled.{comes_before}
use Rattle.whole_texts.proofs.Order.{found_here, found_past, found_none}
use Rattle.whole_texts.proofs.settled.copied_at.Goals as goal

pub returns-then-place-settled : goal.returns-then-place-settled
returns-then-place-settled c = found_past c.args.settled.now c.args.path.now c.place_of-place.result c.place_of-place.ensures.before (omega arith)

pub returns-then-is_of : goal.returns-then-is_of
returns-then-is_of c =
    found_here c.args.settled.now c.args.path.now c.place_of-place.result c.place_of-place.ensures.before c.index-settled-place.result (omega arith) c.index-settled-place.is (sym c.is_of.ensures ∙ c.if-is_of.true)

pub returns-else-is_of : goal.returns-else-is_of
returns-else-is_of c =
    found_none c.args.settled.now c.args.path.now c.place_of-place.result c.place_of-place.ensures.before c.requires c.index-settled-place.result (omega arith) c.index-settled-place.is
    (ap (λ s. comes_before s.path c.args.path.now) c.index-settled-place.is ∙ c.place_of-place.ensures.behind c.place_of-place.result c.index-settled-place.result (omega arith) (omega arith))
    (sym c.is_of.ensures ∙ c.if-is_of.false)
