use Rattle.std.proofs.Common.{ap, ◌∙◌}
use Rattle.std.specs.FinMap as map
use Rattle.node_base.proofs.PropLemmas.{map_none}
use Rattle.node_base.proofs.prop_list.PropList.new.Goals as goal

pub returns : goal.returns
returns c = ap map.from_sorted c.new.ensures.items ∙ map_none
