use Rattle.std.proofs.Common.{ap, sym, ◌∙◌}
use Rattle.std.specs.FinMap as map
use Rattle.std.specs.FinMap.{entries-from_sorted}
use Rattle.node_base.specs.Path.{name_cmp}
use Rattle.node_base.proofs.prop_list.PropList.entries.Goals as goal

pub returns : goal.returns
returns c = c.as_slice.ensures.value ∙ sym (entries-from_sorted name_cmp _ c.self.invariant) ∙ ap map.entries c.self.view_is
