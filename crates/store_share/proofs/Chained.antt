-- Chains of revisions: of a repository, of what was learned, and of what is kept.
use Rattle.std.proofs.Common.{zero, suc, ◌≡◌, ◌⊎◌, inl, inr, ◌<◌, ◌≤◌, ◌+◌, ℕ, List, [], ◌∷◌, ◌++◌, length, take, Option, Some, None, refl, sym, ap, ◌∙◌, subst, arith}
use Rattle.std.specs.Prelude.{slice_get}
use Rattle.std.specs.Option.{option_map}
use Rattle.node_base.specs.Tree.{PathMap}
use Rattle.dump_load.specs.Trees.{Makes}
use Rattle.repo_core.specs.Repository.{Repository, Revision, IsRepository, trees_of}
use Rattle.repo_core.specs.Laws.{SetsMakeTrees}
use Rattle.store_share.specs.declared.rev.Rev.{Rev}
use Rattle.store_share.specs.Row.{rev_at}
use Rattle.store_share.specs.Chains.{tree_in, trees_known, IsMade, IsChain}
use Rattle.store_share.proofs.Seen.{split}
use Rattle.store_share.proofs.Showing.{rev_parts}

same_below : (k l : ℕ → Option Rev) (n : ℕ) → ((r : ℕ) → r < n → k r ≡ l r) → trees_known k n ≡ trees_known l n
same_below k l zero h = refl
same_below k l (suc n) h =
    ap (λ ts. ts ++ tree_in (k n)) (same_below k l n (λ r q. h r (omega (arith, q))))
    ∙ ap (λ o. trees_known l n ++ tree_in o) (h n (omega arith))

pub chain_same : (k l : ℕ → Option Rev) (last : ℕ) → ((r : ℕ) → r ≤ last → k r ≡ l r) → IsChain l last → IsChain k last
chain_same k l last h c r le =
    subst (IsMade (trees_known k r)) (sym (h r le))
    (subst (λ ts. IsMade ts (l r)) (sym (same_below k l r (λ i q. h i (omega (arith, q, le))))) (c r le))

made_some : (ts : List PathMap) (o : Option Rev) → IsMade ts o → (x : Rev) × (o ≡ Some x)
made_some ts None m = absurd m
made_some ts (Some x) m = (x, refl)

-- what is kept keeps its chain
pub chain_kept : (k k2 : ℕ → Option Rev) (seen : ℕ) → ((r : ℕ) (x : Rev) → k r ≡ Some x → k2 r ≡ Some x) → IsChain k seen → IsChain k2 seen
chain_kept k k2 seen kept c = chain_same k2 k seen (λ r le. let x = made_some (trees_known k r) (k r) (c r le) in kept r x.0 x.1 ∙ sym x.1) c

-- what was learned up to the head, where what both knew agreed
pub chain_learned : (k k2 from : ℕ → Option Rev) (head seen now : ℕ) → ((r : ℕ) → r ≤ head → k2 r ≡ from r) → ((r : ℕ) → head < r → k2 r ≡ k r)
    → ((r : ℕ) (x : Rev) → r ≤ head → k r ≡ Some x → from r ≡ Some x) → IsChain from head → IsChain k seen
    → ((r : ℕ) → r ≤ now → head < r → r ≤ seen)
    → IsChain k2 now
chain_learned k k2 from head seen now learned rest agreed theirs mine up r le = by_place (split r head)
  where
    same : (i : ℕ) → i ≤ seen → (i ≤ head) ⊎ (head < i) → k2 i ≡ k i
    same i q (inl h) = let x = made_some (trees_known k i) (k i) (mine i q) in learned i h ∙ agreed i x.0 h x.1 ∙ sym x.1
    same i q (inr h) = rest i h

    by_place : (r ≤ head) ⊎ (head < r) → IsMade (trees_known k2 r) (k2 r)
    by_place (inl h) = chain_same k2 from head learned theirs r h
    by_place (inr h) = chain_same k2 k seen (λ i q. same i q (split i head)) mine r (up r le h)

take_next : (ts : List PathMap) (n : ℕ) (t : PathMap) → slice_get ts n ≡ Some t → take (suc n) ts ≡ take n ts ++ t ∷ []
take_next [] n t e = absurd (cc)
take_next (u ∷ ts) zero t e = cc
take_next (u ∷ ts) (suc n) t e = ap (λ us. u ∷ us) (take_next ts n t e)

known_take : (k : ℕ → Option Rev) (ts : List PathMap) (n : ℕ) → ((i : ℕ) → i < n → (t : PathMap) × (tree_in (k i) ≡ t ∷ []) × (slice_get ts i ≡ Some t)) → trees_known k n ≡ take n ts
known_take k ts zero h = refl
known_take k ts (suc n) h =
    let t = h n (omega arith) in
    ap (λ us. us ++ tree_in (k n)) (known_take k ts n (λ i q. h i (omega (arith, q))))
    ∙ ap (λ us. take n ts ++ us) t.1
    ∙ sym (take_next ts n t.0 t.2)

get_tree : (xs : List Revision) (n : ℕ) (y : Revision) → slice_get xs n ≡ Some y → slice_get (trees_of xs) n ≡ Some y.tree
get_tree [] n y e = absurd (cc)
get_tree (x ∷ xs) zero y e = cc
get_tree (x ∷ xs) (suc n) y e = get_tree xs n y e

-- the revisions of a repository
pub chain_of : SetsMakeTrees → (r : Repository) (k : ℕ → Option Rev) (head : ℕ) → IsRepository r → length r.sets ≡ length r.revisions → head < length r.revisions → ((i : ℕ) → i < head + 1 → k i ≡ rev_at r i)
    → IsChain k head
chain_of law r k head is sets within all i le =
    let p = rev_parts r i sets (omega (arith, within, le)) in
    subst (IsMade (trees_known k i)) (sym (all i (omega (arith, le)) ∙ p.4))
    (subst (λ ts. Makes ts p.0 p.1.tree) (sym (known_take k (trees_of r.revisions) i shown)) (law r i p.0 p.1.tree is p.2 (ap (option_map (λ (y : Revision). y.tree)) p.3)))
  where
    shown : (j : ℕ) → j < i → (t : PathMap) × (tree_in (k j) ≡ t ∷ []) × (slice_get (trees_of r.revisions) j ≡ Some t)
    shown j q =
        let p = rev_parts r j sets (omega (arith, within, le, q)) in
        (p.1.tree, ap tree_in (all j (omega (arith, le, q)) ∙ p.4), get_tree r.revisions j p.1 p.3)
