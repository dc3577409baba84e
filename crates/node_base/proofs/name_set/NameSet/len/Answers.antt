use Rattle.std.proofs.Common.{◌∙◌, ap}
use Rattle.std.specs.FinMap as map
use Rattle.node_base.proofs.NameSets.{len_blanks}
use Rattle.node_base.proofs.name_set.NameSet.len.Goals as goal

pub returns : goal.returns
returns c = c.len.ensures.len ∙ len_blanks c.self.inside.names.keys c.len.ensures.ordered ∙ ap map.len c.self.view_is
