use Rattle.std.proofs.Common.{sym, ap, ◌∙◌, arith}
use Rattle.dump_load.specs.Deltas.{comes_before}
use Rattle.dump_load.proofs.DeltaOrder.{found_here, found_past, found_none}
use Rattle.dump_load.proofs.delta.delta_at.Goals as goal

pub returns-then-place-deltas : goal.returns-then-place-deltas
returns-then-place-deltas c = found_past c.args.deltas.now c.args.path.now c.place_of-place.result c.place_of-place.ensures.before (omega arith)

pub returns-then-is_of : goal.returns-then-is_of
returns-then-is_of c =
    found_here c.args.deltas.now c.args.path.now c.place_of-place.result c.place_of-place.ensures.before c.index-deltas-place.result (omega arith) c.index-deltas-place.is (sym c.is_of.ensures ∙ c.if-is_of.true)

pub returns-else-is_of : goal.returns-else-is_of
returns-else-is_of c =
    found_none c.args.deltas.now c.args.path.now c.place_of-place.result c.place_of-place.ensures.before c.requires c.index-deltas-place.result (omega arith) c.index-deltas-place.is
    (ap (λ d. comes_before d.0 c.args.path.now) c.index-deltas-place.is ∙ c.place_of-place.ensures.behind c.place_of-place.result c.index-deltas-place.result (omega arith) (omega arith))
    (sym c.is_of.ensures ∙ c.if-is_of.false)
