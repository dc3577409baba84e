use Rattle.std.proofs.lemmas.Result.{err_from_is_err_and}
use Rattle.node_base.proofs.DeltaLists.{all_put, put_refused}
use Rattle.node_base.proofs.prop_delta.PropDelta.put_over.Goals as goal

pub returns-clause-list : goal.returns-clause-list
returns-clause-list c = all_put c.args.self.now.sets c.entries-name-items.result.now _ c.args.list.now _ c.entries-name-items.ensures.entries c.loop-name-test.false c.loop-name.invariant

pub returns-in_err-set-clause-fault : goal.returns-in_err-set-clause-fault
returns-in_err-set-clause-fault c =
    let p = err_from_is_err_and c.from_residual-in_err-set.result c.from_residual-in_err-set.ensures.1 in
    rw (p.1, p.2) (put_refused c.args.self.now.sets c.entries-name-items.result.now c.loop-name.list c.args.list.now c.loop-name.name-index c.loop-name-item.result c.in_ok-copy.field-0 c.in_ok-copy-2.field-0 _ c.entries-name-items.ensures.entries c.loop-name-test.true c.loop-name-item.is c.in_ok-copy.ensures c.in_ok-copy-2.ensures c.loop-name.invariant c.in_err-set.ensures.fault)
