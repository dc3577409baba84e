use Rattle.std.proofs.Common.{ap, ◌∙◌, arith}
use Rattle.dump_load.specs.Deltas.{comes_before}
use Rattle.path_history.proofs.Lookups.{below_past, below_is}
use Rattle.path_history.proofs.lookup.has_below.Goals as goal

pub returns-then-place-set : goal.returns-then-place-set
returns-then-place-set c = below_past c.args.set.now c.args.path.now c.place_of-place.result c.place_of-place.ensures.before (omega arith)

pub returns : goal.returns
returns c =
    c.is_below.ensures
    ∙ below_is c.args.set.now c.args.path.now c.place_of-place.result c.place_of-place.ensures.before c.requires c.index-set-place.result (omega arith) c.index-set-place.is
    (ap (λ d. comes_before d.path c.args.path.now) c.index-set-place.is ∙ c.place_of-place.ensures.behind c.place_of-place.result c.index-set-place.result (omega arith) (omega arith))
