use Rattle.dump_load.proofs.NormalSets.{not_rising, order_next}
use Rattle.dump_load.proofs.normal.rises.Goals as goal

pub returns-clause-holds : goal.returns-clause-holds
returns-clause-holds c = λ h n.
    order_next c.args.changes.now c.args.place c.index-changes-place.result c.requires.within c.index-changes-place.is c.index-changes-place-2.result c.if-place-eq0.false c.index-changes-place-2.is
    (c.precedes.ensures.holds h) n

pub returns-clause-fails : goal.returns-clause-fails
returns-clause-fails c = λ h.
    not_rising c.args.changes.now c.args.place c.index-changes-place.result c.requires.within c.index-changes-place.is c.index-changes-place-2.result c.if-place-eq0.false c.index-changes-place-2.is
    (c.precedes.ensures.fails h)
