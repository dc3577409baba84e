-- What an editor that builds a set was shown, and over which trees, and what it made of that.
use Rattle.std.specs.Prelude.{◌≡◌, ℕ, List, [], Option, Some, Result, OnOk, IfErr}
use Rattle.std.specs.Option.{option_map_or, option_and_then}
use Rattle.std.specs.FinMap as finite
use Rattle.node_base.specs.Path.{Path}
use Rattle.node_base.specs.Tree.{PathMap}
use Rattle.node_base.specs.declared.node.Node.{Node}
use Rattle.delta_editor.specs.CallEffect.{call_effect}
use Rattle.delta_editor.specs.Nesting.{Opened, Before, Within, IsNested, run}
use Rattle.delta_editor.specs.declared.call.Call.{Call}
use Rattle.delta_editor.specs.declared.fault.EditorFault.{EditorFault}
use Rattle.dump_load.specs.declared.change.Change.{Change}
use Rattle.dump_load.specs.Trees.{Makes}
use Rattle.editor_ends.specs.declared.build.BuildEditor.{BuildEditor}
use Rattle.editor_ends.specs.declared.build.Built.{Built}
use Rattle.editor_ends.specs.BuildFaults.{begin_fault}
use Rattle.editor_ends.specs.Built.{Begins, BuildsWithin, IsBuiltOf, IsFaultOr, IsSetOf, Made, is_late_in}

abbrev pub has_shown : BuildEditor → List Call → Type 0
has_shown e calls = BuildsWithin e.trees.now e.tree e.changes.items calls

abbrev pub trees_of : BuildEditor → List PathMap
trees_of e = e.trees.now

-- the set within
abbrev pub set_within : Built → List Change
set_within d = d.set

-- the trees that it was built over
abbrev pub built_over : Built → List PathMap
built_over d = d.trees.now

-- it was made of these calls
abbrev pub is_made_of : Built → List Call → Type 0
is_made_of d calls = IsBuiltOf d.trees.now d.set d.tree calls

-- the text at a path; the empty one where no file is there
abbrev pub text_at : (Path → Option Node) → Path → List ℕ
text_at f p = option_map_or (λ t. t) (option_and_then (λ x. x.text) (f p)) []

-- the text at a path is the one to which the calls come there, where they keep the nesting and the root is open
abbrev pub HasText : List PathMap → List Call → Path → List ℕ → Type 0
HasText trees calls p t = (os : List Opened) → run Before calls ≡ Some (Within os) → t ≡ text_at (call_effect trees calls) p

-- a change was begun, where the editor held changes beside the tree that they make
abbrev pub BeginsToBuild : {T : Type 0} → BuildEditor → BuildEditor → Change → Result T EditorFault → Type 0
BeginsToBuild old new x result =
    OnOk result (Made old.trees.now old.tree old.changes.items → Begins old.trees.now old.tree old.changes.items new.tree new.changes.items x)

-- why it wasn't
abbrev pub RefusesToBuild : {T : Type 0} → BuildEditor → Change → Result T EditorFault → Type 0
RefusesToBuild old x result =
    IfErr result (λ e. Made old.trees.now old.tree old.changes.items → IsFaultOr (begin_fault old.trees.now (finite.get old.tree) (is_late_in old.changes.items x) x) e)

-- a set is what nested calls come to, of which the editor made it
abbrev pub IsSetFrom : Built → List Change → Type 0
IsSetFrom d set = (calls : List Call) → is_made_of d calls → IsNested calls → IsSetOf (built_over d) set calls

-- and it makes the tree
abbrev pub MakesFrom : Built → List Change → PathMap → Type 0
MakesFrom d set tree = (calls : List Call) → is_made_of d calls → IsNested calls → Makes (built_over d) set tree
