use Rattle.dump_load.proofs.NormalSets.{not_whole, not_next, normal_next}
use Rattle.dump_load.proofs.normal.goes_on.Goals as goal

pub returns-then-not-is_whole-clause-fails : goal.returns-then-not-is_whole-clause-fails
returns-then-not-is_whole-clause-fails c = λ _.
    not_whole c.args.changes.now c.args.place c.index-changes-place.result c.requires.within c.index-changes-place.is (c.is_whole.ensures.fails c.if-not-is_whole.true)

pub returns-clause-holds : goal.returns-clause-holds
returns-clause-holds c = λ h n.
    normal_next c.args.changes.now c.args.place c.index-changes-place.result c.requires.within c.index-changes-place.is c.index-changes-place-2.result c.if-place-eq0.false c.index-changes-place-2.is
    (c.precedes.ensures.holds h) (c.is_whole.ensures.holds c.if-not-is_whole.false) n

pub returns-clause-fails : goal.returns-clause-fails
returns-clause-fails c = λ h.
    not_next c.args.changes.now c.args.place c.index-changes-place.result c.requires.within c.index-changes-place.is c.index-changes-place-2.result c.if-place-eq0.false c.index-changes-place-2.is
    (c.precedes.ensures.fails h)
