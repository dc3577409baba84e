use Rattle.std.proofs.Common.{ap, ◌∙◌, sym}
use Rattle.std.specs.FinMap as map
use Rattle.std.specs.FinMap.{get-empty}
use Rattle.node_base.specs.Path.{name_cmp}
use Rattle.node_base.proofs.props.Props.get.Goals as goal

pub returns-in-None : goal.returns-in-None
returns-in-None c = sym (get-empty name_cmp c.args.name.now) ∙ ap (λ m. map.get m c.args.name.now) (rw c.in-None.is at c.self.view_is)
