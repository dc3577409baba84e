-- The set of each revision.
use Rattle.std.proofs.Common.{◌≡◌, ℕ, zero, suc, ◌<◌, true, false, List, [], ◌∷◌, length, take, Option, Some, None, IsSome, IfSome, IsSomeAnd, refl, sym, ap, subst, ◌∙◌, arith}
use Rattle.std.specs.Prelude.{slice_get}
use Rattle.std.specs.Option.{option_copied, option_map}
use Rattle.std.specs.Borrow.{Bor}
use Rattle.std.proofs.lemmas.Option.{slice_get-map}
use Rattle.node_base.specs.Tree.{PathMap}
use Rattle.dump_load.specs.declared.change.Change.{Change}
use Rattle.dump_load.specs.Trees.{Makes}
use Rattle.repo_core.specs.Repository.{Revision, Repository, trees_of, tree_at, IsRepository}
use Rattle.repo_core.proofs.LawsOf.{sets_make_trees}
use Rattle.repo_core.proofs.MadeTrees.{length-made, length-trees}

found : {X : Type 0} (xs : List X) (n : ℕ) → n < length xs → IsSome (slice_get xs n)
found [] n h = absurd (omega (arith, h))
found (x ∷ xs) zero h = refl
found (x ∷ xs) (suc n) h = found xs n (omega (arith, h))

within : {X : Type 0} (xs : List X) (n : ℕ) (x : X) → slice_get xs n ≡ Some x → n < length xs
within [] n x e = cc
within (y ∷ xs) zero x e = omega arith
within (y ∷ xs) (suc n) x e = let below = within xs n x e in omega (arith, below)

lent : {X : Type 0} (r : Option (Bor X)) → IsSome (option_copied r) → IsSome r
lent None h = h
lent (Some b) h = refl

-- as many sets as revisions
pub sets_count : (r : Repository) → IsRepository r → length r.sets ≡ length r.revisions
sets_count r is = length-made [] r.sets (trees_of r.revisions) is.made ∙ length-trees r.revisions

-- there is one for each revision
pub set_there : (r : Repository) (n : ℕ) (o : Option (Bor (List Change))) → IsRepository r → option_copied o ≡ slice_get r.sets n → n < length r.revisions → IsSome o
set_there r n o is e h = lent o (subst IsSome (sym e) (found r.sets n (omega (arith, h, sets_count r is))))

-- which makes the revision's tree
pub set_makes : (r : Repository) (n : ℕ) (o : Option (Bor (List Change))) → IsRepository r → option_copied o ≡ slice_get r.sets n → IfSome o (λ s. IsSomeAnd (tree_at r.revisions n) (Makes (take n (trees_of r.revisions)) s.now))
set_makes r n None is e = tt
set_makes r n (Some b) is e =
    let below : n < length r.revisions = omega (arith, within r.sets n b.now (sym e), sets_count r is) in
    elim (tree_at r.revisions n) as (λ t. tree_at r.revisions n ≡ t → IsSome t → IsSomeAnd t (Makes (take n (trees_of r.revisions)) b.now)) [
      | None ↦ λ f some. absurd (no_tree some)
      | Some t ↦ λ f some. sets_make_trees r n b.now t is (sym e) f
    ] refl (tree_there r.revisions n below)
  where
    no_tree : false ≡ true → ⊥
    no_tree e = cc e

    tree_there : (x : List Revision) (n : ℕ) → n < length x → IsSome (tree_at x n)
    tree_there [] n h = absurd (omega (arith, h))
    tree_there (y ∷ x) zero h = refl
    tree_there (y ∷ x) (suc n) h = tree_there x n (omega (arith, h))
