-- Sets beside the trees that they make.
use Rattle.std.proofs.Common.{◌≡◌, suc, List, [], ◌∷◌, ◌++◌, length, refl, sym, ap, subst, append-nil, append_assoc}
use Rattle.node_base.specs.Tree.{PathMap}
use Rattle.dump_load.specs.declared.change.Change.{Change}
use Rattle.dump_load.specs.Trees.{Makes}
use Rattle.repo_core.specs.Repository.{Revision, AllMade, trees_of}

pub length-made : (before : List PathMap) (ss : List (List Change)) (ts : List PathMap) → AllMade before ss ts → length ss ≡ length ts
length-made before [] [] m = refl
length-made before [] (t ∷ ts) m = absurd m
length-made before (s ∷ ss) [] m = absurd m
length-made before (s ∷ ss) (t ∷ ts) m = ap suc (length-made (before ++ t ∷ []) ss ts m.1)

pub made-push : (before : List PathMap) (ss : List (List Change)) (ts : List PathMap) (s : List Change) (t : PathMap) → AllMade before ss ts → Makes (before ++ ts) s t → AllMade before (ss ++ s ∷ []) (ts ++ t ∷ [])
made-push before [] [] s t m n = (subst (λ b. Makes b s t) (append-nil before) n, tt)
made-push before [] (u ∷ ts) s t m n = absurd m
made-push before (r ∷ ss) [] s t m n = absurd m
made-push before (r ∷ ss) (u ∷ ts) s t m n = (m.0, made-push (before ++ u ∷ []) ss ts s t m.1 (subst (λ b. Makes b s t) (sym (append_assoc before (u ∷ []) ts)) n))

pub length-trees : (x : List Revision) → length (trees_of x) ≡ length x
length-trees [] = refl
length-trees (y ∷ x) = ap suc (length-trees x)
