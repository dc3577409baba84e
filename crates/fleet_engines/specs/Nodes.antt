-- What the nodes of a revision that is read are seen as.
use Rattle.std.specs.Prelude.{◌≡◌, ◌++◌, ◌∷◌, [], List, map}
use Rattle.whole_texts.specs.declared.read_node.ReadNode.{ReadNode}
use Rattle.fleet_engines.specs.declared.revision_nodes.RevisionNodes.{RevisionNodes}

-- all that came, in order
abbrev pub nodes_of : RevisionNodes → List ReadNode
nodes_of n = map (λ s. s.value) n.came.items

-- one more came
abbrev pub HaveOneMore : RevisionNodes → ReadNode → RevisionNodes → Type 0
HaveOneMore old node new = nodes_of new ≡ nodes_of old ++ node ∷ []
