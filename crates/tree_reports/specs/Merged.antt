-- Two listings in path order, merged.
use Rattle.std.specs.Prelude.{◌≡◌, ◌+◌, ◌<◌, List, [], ◌∷◌, ◌++◌, length, map, Bool, Option, Some, None, is_some}
use Rattle.std.specs.Option.{option_copied}
use Rattle.std.specs.FinMap as finite
use Rattle.std.specs.FinMap.Entries.{by_order}
use Rattle.node_base.specs.Path.{Path, path_cmp}
use Rattle.node_base.specs.Tree.{PathMap, blocked}
use Rattle.node_base.specs.declared.node.Node.{Node}
use Rattle.path_tree.specs.Listed.{shown, shown_names}
use Rattle.path_tree.specs.declared.listing.Entry.{Entry}
use Rattle.tree_reports.specs.declared.merge.Merge.{Merge}
use Rattle.tree_reports.specs.declared.merge.Pair.{Pair}
use Rattle.tree_reports.specs.declared.difference.Difference.{Difference}
use Rattle.tree_reports.specs.Differences.{Told, told, told_of}

-- what stands at a path in the old tree, and what stands there in the new one
pub record Both : Type 0 where
  pub old : Option Node
  pub new : Option Node

abbrev pub only_old : Path × Node → Path × Both
only_old x = (x.0, record { old = Some x.1; new = None })

abbrev pub only_new : Path × Node → Path × Both
only_new y = (y.0, record { old = None; new = Some y.1 })

abbrev pub in_both : Path × Node → Path × Node → Path × Both
in_both x y = (x.0, record { old = Some x.1; new = Some y.1 })

-- an old entry among the new ones, and what comes behind it
abbrev pub among : Path × Node → (List (Path × Node) → List (Path × Both)) → List (Path × Node) → List (Path × Both)
among x behind [] = only_old x ∷ behind []
among x behind (y ∷ ys) = by_order (path_cmp x.0 y.0) (only_old x ∷ behind (y ∷ ys)) (in_both x y ∷ behind ys) (only_new y ∷ among x behind ys)

abbrev pub merged : List (Path × Node) → List (Path × Node) → List (Path × Both)
merged [] ys = map only_new ys
merged (x ∷ xs) ys = among x (merged xs) ys

abbrev pub if_told : Path → Option Told → List (Path × Told)
if_told p None = []
if_told p (Some t) = (p, t) ∷ []

-- what is told of each, by whether what is above it goes
abbrev pub telling : Bool → (Path → Bool) → List (Path × Both) → List (Path × Told)
telling opens above [] = []
telling opens above (e ∷ es) = if_told e.0 (told opens e.1.old e.1.new (above e.0)) ++ telling opens above es

-- a pair without where its nodes lie in memory
abbrev pub both_of : Pair → Both
both_of p = record { old = option_copied p.old; new = option_copied p.new }

-- a pair's path
abbrev pub path_of : Pair → Path
path_of p = shown_names p.path.now

-- both of these
abbrev pub pair_of : Pair → Path × Both
pair_of p = (path_of p, both_of p)

-- an entry without where its path and its node lie in memory
abbrev pub entry_of : Entry → Path × Node
entry_of e = (shown_names e.path.items, e.node.now)

-- whether what is above a path is no directory in a tree
abbrev pub is_below_gone : PathMap → Path → Bool
is_below_gone m p = is_some (blocked (finite.get m) p)

-- what is told of a pair, by the new tree
abbrev pub pair_told : Bool → PathMap → Pair → Option Told
pair_told opens new p = told opens (both_of p).old (both_of p).new (is_below_gone new (path_of p))

-- what is to come of both listings
abbrev pub to_come : Merge → List (Path × Both)
to_come m = merged (shown m.before.now) (shown m.after.now)

-- the pair is the first of what is to come, and what is left is shorter
pub record IsNext (old new : Merge) (p : Pair) : Type 0 where
  pub first : to_come old ≡ (shown_names p.path.now, both_of p) ∷ to_come new
  pub shorter : length new.before.now + length new.after.now < length old.before.now + length old.after.now

abbrev pub shown_option : Option Difference → List (Path × Told)
shown_option None = []
shown_option (Some d) = (shown_names d.path.items, told_of d.change) ∷ []
