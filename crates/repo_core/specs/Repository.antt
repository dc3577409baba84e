-- A repository: an identity, and revisions.
use Rattle.std.specs.Prelude.{◌≡◌, ℕ, ◌-◌, ◌<◌, ◌≤◌, List, [], ◌∷◌, ◌++◌, map, length, slice_get, Option, refl}
use Rattle.std.specs.Option.{option_map, option_map_or}
use Rattle.std.specs.FinMap as finite
use Rattle.std.specs.Coded.{Coded, coded×, coded_list, code_by}
use Rattle.node_base.specs.Path.{coded_name}
use Rattle.node_base.specs.Props.{PropMap, coded_props}
use Rattle.node_base.specs.Tree.{PathMap, coded_tree, new_dir}
use Rattle.dump_load.specs.declared.change.Change.{Change}
use Rattle.dump_load.specs.Coded.{coded_set}
use Rattle.dump_load.specs.Trees.{Makes}

-- the tree and the properties of a revision
pub record Revision : Type 0 where
  pub tree : PathMap
  pub props : PropMap

-- the revisions from 0 on, and beside each the set of changes that made its tree
pub record Repository : Type 0 where
  pub identity : List ℕ
  pub revisions : List Revision
  pub sets : List (List Change)

abbrev pub coded_revision : Coded Revision
coded_revision = code_by (PathMap × PropMap) (coded× coded_tree coded_props) (λ x. (x.tree, x.props)) (λ p. record { tree = p.0; props = p.1 }) (λ _. refl)

abbrev pub coded_repository : Coded Repository
coded_repository =
    code_by (List ℕ × (List Revision × List (List Change)))
    (coded× coded_name (coded× (coded_list coded_revision) (coded_list coded_set)))
    (λ r. (r.identity, (r.revisions, r.sets)))
    (λ p. record { identity = p.0; revisions = p.1.0; sets = p.1.1 })
    (λ _. refl)

-- the root alone, which nothing has changed
abbrev pub root_alone : PathMap
root_alone = finite.insert finite.empty [] new_dir

abbrev pub trees_of : List Revision → List PathMap
trees_of = map (λ x. x.tree)

-- the number of the newest revision
abbrev pub head_of : List Revision → ℕ
head_of x = length x - 1

abbrev pub tree_at : List Revision → ℕ → Option PathMap
tree_at x n = option_map (λ y. y.tree) (slice_get x n)

-- the properties of a revision, and none where it isn't there
abbrev pub props_at : List Revision → ℕ → PropMap
props_at x n = option_map_or (λ y. y.props) (slice_get x n) finite.empty

-- a repository as it begins: revision 0 without properties, which an empty set makes
abbrev pub fresh : List ℕ → Repository
fresh identity = record { identity = identity; revisions = record { tree = root_alone; props = finite.empty } ∷ []; sets = [] ∷ [] }

-- after the trees before them, each set makes its tree
abbrev pub AllMade : List PathMap → List (List Change) → List PathMap → Type 0
AllMade before [] [] = Unit {0}
AllMade before [] (t ∷ ts) = ⊥
AllMade before (s ∷ ss) [] = ⊥
AllMade before (s ∷ ss) (t ∷ ts) = Makes before s t × AllMade (before ++ t ∷ []) ss ts

-- 1 to 65,536 revisions, each with the set that makes its tree from those before it
pub record IsRepository (r : Repository) : Type 0 where
  pub begun : 0 < length r.revisions
  pub few : length r.revisions ≤ 65536
  pub made : AllMade [] r.sets (trees_of r.revisions)
