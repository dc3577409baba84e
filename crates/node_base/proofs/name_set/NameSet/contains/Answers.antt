use Rattle.std.proofs.Common.{◌∙◌, ap}
use Rattle.std.specs.FinMap as map
use Rattle.node_base.proofs.NameSets.{contains_blank}
use Rattle.node_base.proofs.name_set.NameSet.contains.Goals as goal

pub returns : goal.returns
returns c = c.contains.ensures ∙ contains_blank c.self.inside.names.keys c.args.name.now ∙ ap (λ m. map.contains_key m c.args.name.now) c.self.view_is
