use Rattle.std.proofs.Common.{ap, ◌∙◌, sym, subst}
use Rattle.std.specs.FinMap as map
use Rattle.node_base.specs.Props.{IsProps}
use Rattle.node_base.proofs.PropLemmas.{entries_none}
use Rattle.node_base.proofs.props.Props.entries.Goals as goal

pub returns-in-None-clause-entries : goal.returns-in-None-clause-entries
returns-in-None-clause-entries c = sym entries_none ∙ ap map.entries (rw c.in-None.is at c.self.view_is)

pub returns-in-None-clause-rules : goal.returns-in-None-clause-rules
returns-in-None-clause-rules c = subst IsProps c.self.view_is c.self.invariant

pub returns-in-Some-clause-rules : goal.returns-in-Some-clause-rules
returns-in-Some-clause-rules c = subst IsProps c.self.view_is c.self.invariant
