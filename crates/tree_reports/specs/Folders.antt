-- Folders that become trees of their own, child by child.
use Rattle.std.specs.Prelude.{◌≡◌, T, List, [], ◌∷◌, ◌++◌, Option, Some, None, is_some, if◌then◌else◌}
use Rattle.std.specs.Option.{option_map}
use Rattle.std.specs.FinMap as finite
use Rattle.std.specs.FinMap.{find, is_sorted}
use Rattle.node_base.specs.Path.{Name, Path, name_cmp}
use Rattle.node_base.specs.Tree.{PathMap}
use Rattle.node_base.specs.declared.node.Node.{Node}
use Rattle.tree_reports.specs.Applied.{content}

-- of a root that had no entries: of each child of a folder that isn't still to come there stands what is given of it
pub record IsGrafted (m : PathMap) (folder : Path) (given : Path → Option Node) (old new : PathMap) (rest : List (Name × Node)) : Type 0 where
  pub root : option_map content (finite.get new []) ≡ option_map content (finite.get old [])
  pub done : (n : Name) (q : Path) → finite.get new (n ∷ q) ≡ (if is_some (find name_cmp n rest) then None else given (n ∷ q))
  pub in_order : T (is_sorted name_cmp rest)
  pub known : (n : Name) (x : Node) → find name_cmp n rest ≡ Some x → finite.get m (folder ++ n ∷ []) ≡ Some x

-- what stands at a folder and below it
abbrev pub in_folder : PathMap → Path → Path → Option Node
in_folder m folder q = finite.get m (folder ++ q)
