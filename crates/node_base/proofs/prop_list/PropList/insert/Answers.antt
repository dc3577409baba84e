use Rattle.std.proofs.Common.{ap, ◌∙◌, sym, subst}
use Rattle.std.specs.FinMap as map
use Rattle.node_base.specs.Entries.{IsRising}
use Rattle.node_base.proofs.PropLemmas.{listed, lists_set, lists_insert}
use Rattle.node_base.proofs.prop_list.PropList.insert.Goals as goal

pub invariant_of-self : goal.invariant_of-self
invariant_of-self c =
    (lists_set c.self.inside.entries.items _ c.args.name c.as_slice.ensures.value c.self.invariant c.in-Ok.i c.index_mut-entry.result.now c.args.value (rw c.as_bytes.ensures at c.in-Ok.ensures.at) (rw c.as_bytes.ensures at c.in-Ok.ensures.present) c.index_mut-entry.ensures.value).rising

pub returns-in-Ok-clause-ok : goal.returns-in-Ok-clause-ok
returns-in-Ok-clause-ok c =
    (lists_set c.self.inside.entries.items _ c.args.name c.as_slice.ensures.value c.self.invariant c.in-Ok.i c.index_mut-entry.result.now c.args.value (rw c.as_bytes.ensures at c.in-Ok.ensures.at) (rw c.as_bytes.ensures at c.in-Ok.ensures.present) c.index_mut-entry.ensures.value).is
    ∙ ap (λ m. map.insert m c.args.name c.args.value) c.self.view_is

pub invariant_of-self-in-Continue-1 : goal.invariant_of-self-in-Continue-1
invariant_of-self-in-Continue-1 c =
    let l = lists_insert c.self.inside.entries.items _ c.args.name c.as_slice.ensures.value c.self.invariant c.in-Err.i c.args.value (rw c.as_bytes.ensures at c.in-Err.ensures.gap) (rw c.as_bytes.ensures at c.in-Err.ensures.absent) in
    subst IsRising (sym c.in_ok-insert-in-Err.ensures.items) l.rising

pub returns-in_ok-insert-in-Err-clause-ok : goal.returns-in_ok-insert-in-Err-clause-ok
returns-in_ok-insert-in-Err-clause-ok c =
    let l = lists_insert c.self.inside.entries.items _ c.args.name c.as_slice.ensures.value c.self.invariant c.in-Err.i c.args.value (rw c.as_bytes.ensures at c.in-Err.ensures.gap) (rw c.as_bytes.ensures at c.in-Err.ensures.absent) in
    ap listed c.in_ok-insert-in-Err.ensures.items ∙ l.is ∙ ap (λ m. map.insert m c.args.name c.args.value) c.self.view_is
