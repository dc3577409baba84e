use Rattle.std.proofs.Common.{ap, sym, subst, ◌∙◌}
use Rattle.std.specs.FinMap as map
use Rattle.std.specs.FinMap.{get-empty}
use Rattle.node_base.specs.Path.{name_cmp}
use Rattle.node_base.specs.Props.{IsProps}
use Rattle.node_base.proofs.PropLemmas.{props_without, remove_none}
use Rattle.node_base.proofs.props.Props.remove.Goals as goal

pub invariant_of-self : goal.invariant_of-self
invariant_of-self c =
    let same = c.in-Some-get_mut.ensures.value ∙ (rw c.in-Some.is at c.self.view_is) in
    let old = subst IsProps c.self.view_is c.self.invariant in
    rw (c.remove.ensures.removed, same) (props_without c.args.self.now c.args.name.now old)

pub returns-in-None-clause-ok : goal.returns-in-None-clause-ok
returns-in-None-clause-ok c =
    c.self.view_is ∙ remove_none c.args.self.now c.args.name.now (sym (get-empty name_cmp c.args.name.now) ∙ ap (λ m. map.get m c.args.name.now) (rw c.in-None.is at c.self.view_is))
