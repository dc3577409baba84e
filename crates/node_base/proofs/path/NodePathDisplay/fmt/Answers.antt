use Rattle.std.proofs.Common.{arith, ◌≡◌, ◌++◌, ◌∷◌, ◌∙◌, ap}
use Rattle.std.proofs.lemmas.Grind.{common_steps}
use Rattle.node_base.specs.PathText.{path_text, slashed}
use Rattle.node_base.proofs.TextLemmas.{text_of_first}
use Rattle.node_base.proofs.path.NodePathDisplay.fmt.Goals as goal

pub returns-clause-writes : goal.returns-clause-writes
returns-clause-writes g c =
    let split : c.args.self.now ≡ c.in-Some.first.now ∷ c.in-Some.others.now = cc (c.in-Some.ensures.cases.0, c.listed.ensures.names) in
    let text : path_text c.args.self.now ≡ c.in-Some.first.now ++ slashed c.in-Some.others.now = ap path_text split ∙ text_of_first c.in-Some.first.now c.in-Some.others.now in
    rw text (grind (arith, common_steps))
