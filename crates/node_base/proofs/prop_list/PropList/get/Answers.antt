use Rattle.std.proofs.Common.{ap, ◌∙◌, Some}
use Rattle.std.specs.FinMap as map
use Rattle.node_base.proofs.PropLemmas.{got, missed}
use Rattle.node_base.proofs.prop_list.PropList.get.Goals as goal

pub returns-in-Ok : goal.returns-in-Ok
returns-in-Ok c =
    ap Some c.as_slice-in-Ok.ensures
    ∙ got c.self.inside.entries.items _ c.args.name.now c.as_slice.ensures.value c.self.invariant c.in-Ok.i c.index-entry.result.now c.in-Ok.ensures.at c.in-Ok.ensures.present c.index-entry.ensures
    ∙ ap (λ m. map.get m c.args.name.now) c.self.view_is

pub returns-in-Err : goal.returns-in-Err
returns-in-Err c = missed c.self.inside.entries.items _ c.args.name.now c.as_slice.ensures.value c.self.invariant c.in-Err.ensures.absent ∙ ap (λ m. map.get m c.args.name.now) c.self.view_is
