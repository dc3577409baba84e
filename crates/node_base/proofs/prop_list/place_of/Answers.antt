use Rattle.std.proofs.Common.{refl, sym, ap, ◌∙◌, arith}
use Rattle.node_base.specs.Path.{name_cmp}
use Rattle.node_base.proofs.EntryLemmas.{searched_none, searched_less, searched_more, searched_here, searched_end, is_some_of}
use Rattle.node_base.proofs.prop_list.place_of.Goals as goal

pub loop-low-init : goal.loop-low-init
loop-low-init c = searched_none c.args.entries.now c.args.name.now _ refl

pub loop-low-preserved-in-Less : goal.loop-low-preserved-in-Less
loop-low-preserved-in-Less c =
    let e = ap (name_cmp c.args.name.now) (sym c.as_bytes.ensures) ∙ sym c.in-Less.ensures in
    searched_less c.args.entries.now c.args.name.now _ c.requires c.index-entries-middle.result (omega arith) c.index-entries-middle.is _ _ c.loop-low.invariant e

pub loop-low-preserved : goal.loop-low-preserved
loop-low-preserved c =
    let e = ap (name_cmp c.args.name.now) (sym c.as_bytes.ensures) ∙ sym c.in-Greater.ensures in
    searched_more c.args.entries.now c.args.name.now _ c.requires c.index-entries-middle.result (omega arith) c.index-entries-middle.is _ _ c.loop-low.invariant e

pub returns-in-Equal-clause-at : goal.returns-in-Equal-clause-at
returns-in-Equal-clause-at c =
    let e = ap (name_cmp c.args.name.now) (sym c.as_bytes.ensures) ∙ sym c.in-Equal.ensures in
    (searched_here c.args.entries.now c.args.name.now _ c.requires c.index-entries-middle.result (omega arith) c.index-entries-middle.is e).0

pub returns-in-Equal-clause-present : goal.returns-in-Equal-clause-present
returns-in-Equal-clause-present c =
    let e = ap (name_cmp c.args.name.now) (sym c.as_bytes.ensures) ∙ sym c.in-Equal.ensures in
    is_some_of _ _ (searched_here c.args.entries.now c.args.name.now _ c.requires c.index-entries-middle.result (omega arith) c.index-entries-middle.is e).1

pub returns-clause-absent : goal.returns-clause-absent
returns-clause-absent c = (searched_end c.args.entries.now c.args.name.now _ _ c.loop-low.invariant c.loop-low-test.false).1
