-- What a call makes of a tree.
use Rattle.std.specs.Prelude.{◌≡◌, ◌∷◌, IfOk, [], None, OnOk, Option, Result, if◌then◌else◌}
use Rattle.std.specs.FinMap as finite
use Rattle.node_base.specs.Path.{Name, Path}
use Rattle.node_base.specs.Tree.{PathMap, grafted}
use Rattle.node_base.specs.declared.node.Node.{Node}
use Rattle.path_tree.specs.Calls.{added}
use Rattle.tree_reports.specs.Applied.{Content}
use Rattle.tree_reports.specs.Copied.{marked_back}
use Rattle.tree_reports.specs.Depths.{takes_child}
use Rattle.tree_reports.specs.Reports.{content_at, placed}
use Rattle.tree_reports.specs.declared.depth.Depth.{Depth}

-- what stands at each path of a tree
abbrev pub HasNodes : PathMap → (Path → Option Node) → Type 0
HasNodes m f = (q : Path) → finite.get m q ≡ f q

-- at most the root stands there
abbrev pub HasNoEntries : PathMap → Type 0
HasNoEntries m = (n : Name) (q : Path) → finite.get m (n ∷ q) ≡ None

-- at Ok it is a tree of these nodes
abbrev pub Makes : {E : Type 0} → (Path → Option Node) → Result PathMap E → Type 0
Makes f result = IfOk result (λ t. HasNodes t f)

-- at Ok a tree got these nodes at a path and below it
abbrev pub Grafts : {T E : Type 0} → PathMap → PathMap → Path → (Path → Option Node) → Result T E → Type 0
Grafts old new p f result = OnOk result (HasNodes new (grafted (finite.get old) p f))

-- the same once what is above the path has the numbers that it had before
abbrev pub GraftsMarked : {T E : Type 0} → PathMap → PathMap → Path → (Path → Option Node) → Result T E → Type 0
GraftsMarked old new p f result = OnOk result ((q : Path) → marked_back (finite.get old) p (finite.get new) q ≡ grafted (finite.get old) p f q)

-- a tree with a child of its root, where that is looked at
abbrev pub with_child : Depth → (Path → Option Node) → Name → Node → Path → Option Node
with_child d f n x q = if takes_child d x then added f (n ∷ []) x q else f q

-- at Ok a report has this at a path and below it
abbrev pub Reports : {T E : Type 0} → PathMap → PathMap → Path → (Path → Option Content) → Result T E → Type 0
Reports old new p given result = OnOk result ((q : Path) → content_at new q ≡ placed (content_at old) p given q)
