use Rattle.std.proofs.Common.{◌∙◌, sym, subst}
use Rattle.std.proofs.lemmas.List.{take_all}
use Rattle.node_base.specs.Entries.{IsRising}
use Rattle.node_base.proofs.prop_list.PropList.copy.Goals as goal

pub invariant_of-result : goal.invariant_of-result
invariant_of-result c =
    let whole = c.loop-entry.invariant ∙ take_all _ _ c.loop-entry-test.false ∙ c.deref-entry-items.ensures.value in
    subst IsRising (sym whole) c.self.invariant
