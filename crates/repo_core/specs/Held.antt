-- How a repository is held in memory.
use Rattle.std.specs.Prelude.{◌≡◌, ◌<◌, ◌≤◌, List, [], ◌∷◌, length, vec_capacity}
use Rattle.node_base.specs.Props.{PropMap}
use Rattle.node_base.specs.Tree.{PathMap}
use Rattle.repo_core.specs.Repository.{Revision, Repository, AllMade}
use Rattle.repo_core.specs.declared.repo.Repo.TheInside.{Inside}

-- trees beside their maps
abbrev pub revisions_of : List PathMap → List PropMap → List Revision
revisions_of [] maps = []
revisions_of (t ∷ ts) [] = []
revisions_of (t ∷ ts) (p ∷ ps) = record { tree = t; props = p } ∷ revisions_of ts ps

abbrev pub repository_of : Inside → Repository
repository_of a = record { identity = a.identity; revisions = revisions_of a.trees.items a.maps.items; sets = a.sets.items }

-- as many maps and sets as trees, 1 to 65,536, which the sets make, and room for all that can be
pub record IsHeld (a : Inside) : Type 0 where
  pub begun : 0 < length a.trees.items
  pub few : length a.trees.items ≤ 65536
  pub maps : length a.maps.items ≡ length a.trees.items
  pub made : AllMade [] a.sets.items a.trees.items
  pub tree_room : 65536 ≤ vec_capacity a.trees
  pub map_room : 65536 ≤ vec_capacity a.maps
  pub set_room : 65536 ≤ vec_capacity a.sets
