use Rattle.std.proofs.Common.{ap, arith}
use Rattle.std.proofs.lemmas.List.{at_drop_more, drop_all}
use Rattle.ra_item.specs.Weights.{weigh, weigh_all}
use Rattle.ra_item.proofs.Weighing.{weigh_reverse}
use Rattle.ra_item.proofs.parts.Stack.written_size.Goals as goal

pub written_size-size-requires : goal.written_size-size-requires
written_size-size-requires c =
    let e = at_drop_more weigh_all c.deref-row-items.result.now c.loop-row.row-index c.row-item.result c.loop-row-test.true in
    omega (arith, e, c.loop-row.invariant, ap weigh c.row-item.is, ap weigh_all c.deref-row-items.ensures.value, weigh_reverse c.self.inside.rows.items, ap weigh_all c.self.view_is, c.requires)

pub overflow_add-size : goal.overflow_add-size
overflow_add-size c =
    let e = at_drop_more weigh_all c.deref-row-items.result.now c.loop-row.row-index c.row-item.result c.loop-row-test.true in
    omega (arith, e, c.loop-row.invariant, ap weigh c.row-item.is, ap weigh_all c.deref-row-items.ensures.value, weigh_reverse c.self.inside.rows.items, ap weigh_all c.self.view_is, c.requires, c.written_size-size.ensures)

pub returns : goal.returns
returns c =
    let e = drop_all c.loop-row.row-index c.deref-row-items.result.now c.loop-row-test.false in
    omega (arith, ap weigh_all e, c.loop-row.invariant, ap weigh_all c.deref-row-items.ensures.value, weigh_reverse c.self.inside.rows.items, ap weigh_all c.self.view_is)
