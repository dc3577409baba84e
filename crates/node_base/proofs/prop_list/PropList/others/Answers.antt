use Rattle.std.proofs.Common.{not, ap, sym, subst, ◌∙◌}
use Rattle.node_base.specs.Entries.{IsRising}
use Rattle.node_base.specs.Props.{is_sync, without_sync}
use Rattle.node_base.proofs.PropLemmas.{lists_kept, kept_all}
use Rattle.node_base.proofs.prop_list.PropList.others.Goals as goal

pub invariant_of-result : goal.invariant_of-result
invariant_of-result c =
    let rising = subst IsRising (sym c.deref-entry-items.ensures.value) c.self.invariant in
    (lists_kept c.deref-entry-items.result.now _ (λ n. not (is_sync n)) rising (kept_all _ _ _ c.loop-entry.entry-index c.loop-entry-test.false c.loop-entry.invariant)).rising

pub returns : goal.returns
returns c =
    let rising = subst IsRising (sym c.deref-entry-items.ensures.value) c.self.invariant in
    (lists_kept c.deref-entry-items.result.now _ (λ n. not (is_sync n)) rising (kept_all _ _ _ c.loop-entry.entry-index c.loop-entry-test.false c.loop-entry.invariant)).is
    ∙ ap without_sync (rw (← c.deref-entry-items.ensures.value) at c.self.view_is)
