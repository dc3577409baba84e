-- Trees as maps from paths to nodes.
use Rattle.std.specs.Prelude.{◌≡◌, ℕ, Bool, true, List, [], ◌∷◌, ◌++◌, Option, Some, None, IsSome, IsNone, is_some, IsSomeAnd, unwrap_or, if◌then◌else◌, refl, ◌-◌, length}
use Rattle.std.specs.Option.{option_map_or, option_map, option_or, option_and_then}
use Rattle.std.specs.List.{slice_get}
use Rattle.std.specs.FinMap as map
use Rattle.std.specs.FinMap.{FinMap}
use Rattle.std.specs.Coded.{Coded, coded×, coded_ℕ, coded_option, code_by}
use Rattle.node_base.specs.Path.{Name, Path, path_cmp, coded_name, coded_path, rest_after, is_front, same_path}
use Rattle.node_base.specs.Limits.{fits}
use Rattle.node_base.specs.Props.{PropMap, coded_props}
use Rattle.node_base.specs.declared.node.Node.{Node}
use Rattle.node_base.specs.declared.node.NodeKind.{NodeKind}
use Rattle.node_base.specs.declared.node.NodeKind.TheVariants.{File, Dir}
use Rattle.node_base.specs.declared.node.Source.{Source}
use Rattle.node_base.specs.declared.fault.TreeFault.{TreeFault}
use Rattle.node_base.specs.declared.fault.TreeFault.TheVariants.{NoSuchPath, NotDir}

abbrev pub coded_node : Coded Node
coded_node =
    code_by (Option (List ℕ) × (PropMap × ℕ)) (coded× (coded_option coded_name) (coded× coded_props coded_ℕ)) (λ n. (n.text, (n.props, n.changed))) (λ p. record { text = p.0; props = p.1.0; changed = p.1.1 }) (λ _. refl)

-- a node for each path that is there
abbrev pub PathMap : Type 0
PathMap = FinMap path_cmp Node

abbrev pub coded_tree : Coded PathMap
coded_tree = map.code coded_path coded_node

abbrev pub node_at : PathMap → Path → Option Node
node_at = map.get

-- a directory has no text
abbrev pub IsDirAt : (Path → Option Node) → Path → Type 0
IsDirAt f p = IsSomeAnd (f p) (λ x. IsNone x.text)

-- what is right above each path that is there is a directory, and so is each proper front
abbrev pub HasFronts : (Path → Option Node) → Type 0
HasFronts f = (p : Path) (n : Name) → IsSome (f (p ++ n ∷ [])) → IsDirAt f p

-- the root is a directory, and so is each proper front of a path that is there; each path is within the limits
pub record IsTree (m : PathMap) : Type 0 where
  pub root : IsDirAt (map.get m) []
  pub fronts : HasFronts (map.get m)
  pub small : (p : Path) → IsSome (map.get m p) → fits p ≡ true

-- what stands at p and below it is new, and the rest is as before
abbrev pub grafted : (Path → Option Node) → Path → (Path → Option Node) → Path → Option Node
grafted old p new q = option_map_or new (rest_after p q) (old q)

-- the nodes at the paths that the test picks are edited
abbrev pub edited : (Path → Option Node) → (Path → Bool) → (Node → Node) → Path → Option Node
edited f t g q = option_map (λ x. if t q then g x else x) (f q)

abbrev pub with_number : ℕ → Node → Node
with_number n x = record { text = x.text; props = x.props; changed = n }

-- the number n, where the test holds
abbrev pub numbered : ℕ → Bool → Node → Node
numbered n b x = if b then with_number n x else x

-- each front of the path that is there gets the number
abbrev pub marked : (Path → Option Node) → Path → ℕ → Path → Option Node
marked f p n = edited f (λ q. is_front q p) (with_number n)

-- a text and properties where they are given
abbrev pub with_given : Option (List ℕ) → Option PropMap → Node → Node
with_given text props x = record { text = option_or text x.text; props = unwrap_or props x.props; changed = x.changed }

-- the node at the path gets what is given
abbrev pub changed_at : (Path → Option Node) → Path → (Node → Node) → Path → Option Node
changed_at f p = edited f (same_path p)

-- the first proper front of the path, from the root down, that is no directory
abbrev pub blocked : (Path → Option Node) → Path → Option TreeFault
blocked f [] = None
blocked f (n ∷ p) = option_map_or (λ x. if is_some x.text then Some NotDir else blocked (λ q. f (n ∷ q)) p) (f []) (Some NoSuchPath)

-- a directory has no text
abbrev pub kind_of : Node → NodeKind
kind_of x = if is_some x.text then File else Dir

-- a directory without properties that nothing has changed
abbrev pub new_dir : Node
new_dir = record { text = None; props = map.empty; changed = 0 }

-- one node, at the root
abbrev pub alone : Node → Path → Option Node
alone x [] = Some x
alone x (n ∷ q) = None

-- a node as an add without a source begins it
abbrev pub blank : Option NodeKind → Node
blank None = record { text = None; props = map.empty; changed = 0 }
blank (Some Dir) = record { text = None; props = map.empty; changed = 0 }
blank (Some File) = record { text = Some []; props = map.empty; changed = 0 }

-- the newest tree, and before the first the root alone
abbrev pub base : List PathMap → Path → Option Node
base trees = option_map_or map.get (slice_get trees (length trees - 1)) (alone new_dir)

-- what stands at a source, and below it
abbrev pub source_at : List PathMap → Source → Path → Option Node
source_at trees s q = option_and_then (λ m. map.get m (s.path ++ q)) (slice_get trees s.revision)
