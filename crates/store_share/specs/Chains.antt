-- Each revision that is seen is made by its changes from those before it.
use Rattle.std.specs.Prelude.{◌≤◌, ◌++◌, ℕ, zero, suc, List, [], ◌∷◌, Option, Some, None}
use Rattle.node_base.specs.Tree.{PathMap}
use Rattle.dump_load.specs.Trees.{Makes}
use Rattle.store_share.specs.declared.rev.Rev.{Rev}

abbrev pub tree_in : Option Rev → List PathMap
tree_in None = []
tree_in (Some x) = x.tree ∷ []

-- the trees of the revisions below a number, as they are known
abbrev pub trees_known : (ℕ → Option Rev) → ℕ → List PathMap
trees_known known zero = []
trees_known known (suc n) = trees_known known n ++ tree_in (known n)

-- there is a revision: its changes have no fault over these trees, and make its tree
abbrev pub IsMade : List PathMap → Option Rev → Type 0
IsMade trees None = ⊥
IsMade trees (Some x) = Makes trees x.set x.tree

-- each revision up to the last is made from those before it
abbrev pub IsChain : (ℕ → Option Rev) → ℕ → Type 0
IsChain known last = (r : ℕ) → r ≤ last → IsMade (trees_known known r) (known r)
