use Rattle.std.proofs.Common.{sym, ap, ◌∙◌, arith}
use Rattle.dump_load.specs.Deltas.{comes_before}
use Rattle.path_history.proofs.Lookups.{found_here, found_past, found_none}
use Rattle.path_history.proofs.lookup.change_at.Goals as goal

pub returns-then-place-set : goal.returns-then-place-set
returns-then-place-set c = found_past c.args.set.now c.args.path.now c.place_of-place.result c.place_of-place.ensures.before (omega arith)

pub returns-then-is_of : goal.returns-then-is_of
returns-then-is_of c =
    found_here c.args.set.now c.args.path.now c.place_of-place.result c.place_of-place.ensures.before c.index-set-place.result (omega arith) c.index-set-place.is (sym c.is_of.ensures ∙ c.if-is_of.true)

pub returns-else-is_of : goal.returns-else-is_of
returns-else-is_of c =
    found_none c.args.set.now c.args.path.now c.place_of-place.result c.place_of-place.ensures.before c.requires c.index-set-place.result (omega arith) c.index-set-place.is
    (ap (λ d. comes_before d.path c.args.path.now) c.index-set-place.is ∙ c.place_of-place.ensures.behind c.place_of-place.result c.index-set-place.result (omega arith) (omega arith))
    (sym c.is_of.ensures ∙ c.if-is_of.false)
