use Rattle.std.proofs.Common.{◌∙◌, [], ap}
use Rattle.std.specs.FinMap as map
use Rattle.node_base.proofs.NameSets.{one_named}
use Rattle.node_base.proofs.name_set.NameSet.insert.Goals as goal

pub returns-clause-ok : goal.returns-clause-ok
returns-clause-ok c = one_named c.self.inside.names.keys c.insert.new.self.keys c.args.name c.in_ok-insert.ensures.updates.0 ∙ ap (λ m. map.insert m c.args.name []) c.self.view_is
