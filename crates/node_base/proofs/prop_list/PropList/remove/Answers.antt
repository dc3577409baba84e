use Rattle.std.proofs.Common.{ap, ◌∙◌, sym, subst}
use Rattle.std.specs.Option.{is_some}
use Rattle.std.specs.FinMap as map
use Rattle.node_base.specs.Entries.{IsRising}
use Rattle.node_base.proofs.PropLemmas.{lists_remove, there, missed, remove_none}
use Rattle.node_base.proofs.prop_list.PropList.remove.Goals as goal

pub invariant_of-self : goal.invariant_of-self
invariant_of-self c =
    let l = lists_remove c.self.inside.entries.items _ c.args.name.now c.as_slice.ensures.value c.self.invariant c.in-Ok.i c.in-Ok.ensures.at c.in-Ok.ensures.present in
    subst IsRising (sym c.remove.ensures.items) l.rising

pub returns-in-Ok-clause-there : goal.returns-in-Ok-clause-there
returns-in-Ok-clause-there c =
    there c.self.inside.entries.items _ c.args.name.now c.as_slice.ensures.value c.self.invariant c.in-Ok.ensures.present
    ∙ ap (λ m. map.contains_key m c.args.name.now) c.self.view_is

pub returns-in-Ok-clause-removed : goal.returns-in-Ok-clause-removed
returns-in-Ok-clause-removed c =
    let l = lists_remove c.self.inside.entries.items _ c.args.name.now c.as_slice.ensures.value c.self.invariant c.in-Ok.i c.in-Ok.ensures.at c.in-Ok.ensures.present in
    ap map.from_sorted c.remove.ensures.items ∙ l.is ∙ ap (λ m. map.remove m c.args.name.now) c.self.view_is

pub returns-in-Err-clause-there : goal.returns-in-Err-clause-there
returns-in-Err-clause-there c =
    ap is_some (missed c.self.inside.entries.items _ c.args.name.now c.as_slice.ensures.value c.self.invariant c.in-Err.ensures.absent ∙ ap (λ m. map.get m c.args.name.now) c.self.view_is)

pub returns-in-Err-clause-removed : goal.returns-in-Err-clause-removed
returns-in-Err-clause-removed c =
    remove_none _ c.args.name.now (missed c.self.inside.entries.items _ c.args.name.now c.as_slice.ensures.value c.self.invariant c.in-Err.ensures.absent ∙ ap (λ m. map.get m c.args.name.now) c.self.view_is)
