-- A node and its children, joined into one map.
use Rattle.std.specs.Prelude.{ℕ, suc, T, List, [], ◌∷◌, ◌++◌, map, Option}
use Rattle.std.specs.Option.{option_and_then}
use Rattle.std.specs.FinMap as finite
use Rattle.std.specs.FinMap.{is_sorted}
use Rattle.std.specs.FinMap.Entries.{by_order}
use Rattle.node_base.specs.Path.{Name, Path, name_cmp}
use Rattle.node_base.specs.declared.node.Node.{Node}
use Rattle.node_base.specs.Tree.{PathMap}

-- the entries of a child, each behind its name
abbrev pub behind : Name → List (Path × Node) → List (Path × Node)
behind n es = map (λ e. (n ∷ e.0, e.1)) es

abbrev pub below : List (Name × PathMap) → List (Path × Node)
below [] = []
below (c ∷ cs) = behind c.0 (finite.entries c.1) ++ below cs

-- a node and what is below it
abbrev pub joined : Node → List (Name × PathMap) → PathMap
joined n cs = finite.from_entries (([], n) ∷ below cs)

-- the children's names rise
abbrev pub AreChildren : {X : Type 0} → List (Name × X) → Type 0
AreChildren cs = T (is_sorted name_cmp cs)

-- what stands at a path below the child of that name
abbrev pub child_at : List (Name × PathMap) → Name → Path → Option Node
child_at cs x q = option_and_then (λ m. finite.get m q) (finite.find name_cmp x cs)

-- how many names at the front are smaller
abbrev pub place : {X : Type 0} → Name → List (Name × X) → ℕ
place x [] = 0
place x (c ∷ cs) = by_order (name_cmp x c.0) 0 0 (suc (place x cs))

-- the entries, each behind a path
abbrev pub under : Path → List (Path × Node) → List (Path × Node)
under p es = map (λ e. (p ++ e.0, e.1)) es
