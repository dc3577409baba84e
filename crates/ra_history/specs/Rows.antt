-- What revisions have, in their order.
use Rattle.std.specs.Prelude.{List, map}
use Rattle.node_base.specs.Props.{PropMap}
use Rattle.repo_core.specs.Repository.{Revision}

-- their properties
abbrev pub props_of : List Revision → List PropMap
props_of = map (λ x. x.props)
