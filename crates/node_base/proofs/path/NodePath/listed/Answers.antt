use Rattle.std.proofs.Common.{◌≡◌, true, subst}
use Rattle.node_base.specs.PathText.{is_path}
use Rattle.node_base.proofs.path.NodePath.listed.Goals as goal

pub returns-in-None-clause-names : goal.returns-in-None-clause-names
returns-in-None-clause-names c = rw c.in-None.is at c.self.view_is

pub returns-in-None-clause-path : goal.returns-in-None-clause-path
returns-in-None-clause-path c = subst (λ p. is_path p ≡ true) c.self.view_is c.self.invariant

pub returns-in-Some-clause-path : goal.returns-in-Some-clause-path
returns-in-Some-clause-path c = subst (λ p. is_path p ≡ true) c.self.view_is c.self.invariant
