-- The text of an open file is the one to which the calls come.
use Rattle.std.proofs.Common.{◌≡◌, ℕ, List, [], Option, ap, ◌∙◌}
use Rattle.std.specs.Option.{option_map_or, option_and_then}
use Rattle.std.specs.FinMap as finite
use Rattle.node_base.specs.Path.{Path}
use Rattle.node_base.specs.Tree.{PathMap}
use Rattle.node_base.specs.declared.node.Node.{Node}
use Rattle.dump_load.specs.declared.change.Change.{Change}
use Rattle.delta_editor.specs.declared.call.Call.{Call}
use Rattle.delta_editor.specs.Nesting.{Within}
use Rattle.editor_ends.specs.Built.{BuildsWithin}
use Rattle.editor_ends.specs.Builders.{HasText, text_at}

-- the text of a node; the empty one where there is no file
abbrev text_in : Option Node → List ℕ
text_in o = option_map_or (λ t. t) (option_and_then (λ x. x.text) o) []

pub has_text : (trees : List PathMap) (tree : PathMap) (s : List Change) (calls : List Call) (p : Path) (t : List ℕ) → BuildsWithin trees tree s calls → t ≡ text_at (finite.get tree) p → HasText trees calls p t
has_text trees tree s calls p t builds is os here = is ∙ ap text_in ((builds (Within os) here).called p)

pub text_found : (f : Path → Option Node) (p : Path) (o : Option Node) (t : List ℕ) → o ≡ f p → t ≡ text_in o → t ≡ text_at f p
text_found f p o t found is = is ∙ ap text_in found
