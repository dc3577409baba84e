-- Nothing blocks a path that is there.
use Rattle.std.proofs.Common.{◌≡◌, ◌++◌, ◌∷◌, [], ℕ, List, true, cond, Option, Some, None, IsSome, refl}
use Rattle.std.specs.Prelude.{IsSomeAnd, IsNone, is_some}
use Rattle.std.specs.Option.{option_map_or}
use Rattle.std.specs.FinMap.{get}
use Rattle.node_base.specs.Path.{Name, Path}
use Rattle.node_base.specs.declared.node.Node.{Node}
use Rattle.node_base.specs.declared.fault.TreeFault.{TreeFault}
use Rattle.node_base.specs.declared.fault.TreeFault.TheVariants.{NoSuchPath, NotDir}
use Rattle.node_base.specs.Tree.{PathMap, IsDirAt, IsTree, blocked}
use Rattle.path_tree.proofs.Fronts.{fronts_all}

-- each proper front of what is there is a directory
abbrev AllFronts : (Path → Option Node) → Type 0
AllFronts f = (p : Path) (n : Name) (q : Path) → IsSome (f (p ++ n ∷ q)) → IsDirAt f p

clear : (f : Path → Option Node) → AllFronts f → (p : Path) → IsSome (f p) → blocked f p ≡ None
clear f h [] some = refl
clear f h (n ∷ p) some = at (f []) (h [] n p some) (clear (λ q. f (n ∷ q)) (λ r m q t. h (n ∷ r) m q t) p some)
  where
    is_dir : (t : Option (List ℕ)) (rest : Option TreeFault) → IsNone t → rest ≡ None → cond (is_some t) (Some NotDir) rest ≡ None
    is_dir None rest d e = e
    is_dir (Some t) rest d e = cc

    at : (o : Option Node) → IsSomeAnd o (λ x. IsNone x.text) → blocked (λ q. f (n ∷ q)) p ≡ None → option_map_or (λ x. cond (is_some x.text) (Some NotDir) (blocked (λ q. f (n ∷ q)) p)) o (Some NoSuchPath) ≡ None
    at None d e = absurd d
    at (Some x) d e = is_dir x.text (blocked (λ q. f (n ∷ q)) p) d e

pub unblocked : (m : PathMap) (p : Path) → IsTree m → is_some (get m p) ≡ true → blocked (get m) p ≡ None
unblocked m p tree some = clear (get m) (fronts_all (get m) tree.fronts) p some
