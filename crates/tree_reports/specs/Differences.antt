-- What makes one tree of another, path by path. The nodes' numbers don't count.
use Rattle.std.specs.Prelude.{◌≡◌, Bool, true, false, T, not, ◌&&◌, ◌||◌, List, [], ◌∷◌, map, Option, Some, None, is_some, is_none, if◌then◌else◌, nat_eq}
use Rattle.std.specs.Cmp.Lexicographic.{pointwise}
use Rattle.std.specs.FinMap as finite
use Rattle.std.specs.FinMap.{is_sorted, find}
use Rattle.node_base.specs.Path.{Name, Path, path_cmp, same_name}
use Rattle.node_base.specs.Props.{PropMap}
use Rattle.node_base.specs.Tree.{blocked}
use Rattle.node_base.specs.declared.node.Node.{Node}
use Rattle.path_tree.specs.Listed.{shown_names}
use Rattle.tree_reports.specs.declared.difference.Parts.{Parts}
use Rattle.tree_reports.specs.declared.difference.Change.{Change}
use Rattle.tree_reports.specs.declared.difference.Change.TheVariants as change
use Rattle.tree_reports.specs.declared.difference.Difference.{Difference}

-- what is told of a path: its node goes, with all below it; it comes; it comes in the place of one of the other kind;
-- it has other parts
pub data Told : Type 0 where
  Removed : Told
  Added : Node → Told
  Replaced : Node → Told
  Changed : Node → Parts → Told

abbrev pub is_same_text : Option Name → Option Name → Bool
is_same_text None None = true
is_same_text None (Some t) = false
is_same_text (Some s) None = false
is_same_text (Some s) (Some t) = pointwise nat_eq s t

abbrev pub are_same_entries : List (Name × Name) → List (Name × Name) → Bool
are_same_entries [] [] = true
are_same_entries [] (e ∷ es) = false
are_same_entries (d ∷ ds) [] = false
are_same_entries (d ∷ ds) (e ∷ es) = same_name d.0 e.0 && same_name d.1 e.1 && are_same_entries ds es

abbrev pub are_same_props : PropMap → PropMap → Bool
are_same_props a b = are_same_entries (finite.entries a) (finite.entries b)

-- which parts of two nodes differ
abbrev pub parts_of : Node → Node → Parts
parts_of x y = record { props = not (are_same_props x.props y.props); text = not (is_same_text x.text y.text) }

-- a node in the place of one of the same kind, by whether folders are told though nothing differs in them
abbrev pub told_same_kind : Bool → Node → Parts → Option Told
told_same_kind opens y parts = if parts.props || parts.text || (opens && is_none y.text) then Some (Changed y parts) else None

-- whether the one is a file and the other a directory
abbrev pub are_other_kinds : Bool → Bool → Bool
are_other_kinds true b = not b
are_other_kinds false b = b

abbrev pub told_both : Bool → Node → Node → Option Told
told_both opens x y = if are_other_kinds (is_some x.text) (is_some y.text) then Some (Replaced y) else told_same_kind opens y (parts_of x y)

-- what is told of a path at which nothing is any more, by what stood there and whether what is above it goes too
abbrev pub told_gone : Option Node → Bool → Option Told
told_gone None above = None
told_gone (Some x) above = if above then None else Some Removed

-- what is told of a path by what stood there, what stands there, and whether what is above it goes too
abbrev pub told : Bool → Option Node → Option Node → Bool → Option Told
told opens x None above = told_gone x above
told opens None (Some y) above = Some (Added y)
told opens (Some x) (Some y) above = told_both opens x y

-- the same in two trees: what is above a path goes where it is no directory any more
abbrev pub told_at : Bool → (Path → Option Node) → (Path → Option Node) → Path → Option Told
told_at opens f g p = told opens (f p) (g p) (is_some (blocked g p))

-- the paths of which something is told, each once, in path order
pub record AreDifferences (opens : Bool) (f g : Path → Option Node) (es : List (Path × Told)) : Type 0 where
  pub in_order : T (is_sorted path_cmp es)
  pub each : (p : Path) → find path_cmp p es ≡ told_at opens f g p

-- changes without where their nodes lie in memory
abbrev pub told_of : Change → Told
told_of change.Removed = Removed
told_of (change.Added x) = Added x.now
told_of (change.Replaced x) = Replaced x.now
told_of (change.Changed x parts) = Changed x.now parts

abbrev pub shown : List Difference → List (Path × Told)
shown = map (λ d. (shown_names d.path.items, told_of d.change))
