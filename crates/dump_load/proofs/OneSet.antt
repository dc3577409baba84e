-- Records give one set at most.
use Rattle.std.proofs.Common.{◌≡◌, cond, List, [], ◌∷◌, ◌++◌, Option, Some, None, refl, sym, ap, subst, ◌∙◌, append-nil, append_assoc}
use Rattle.std.specs.Option.{option_map, option_or}
use Rattle.std.specs.Ordering.{is_lt, ordering_reverse}
use Rattle.std.specs.declared.cmp.Ordering.TheVariants.{Less, Equal, Greater}
use Rattle.std.specs.List.{AllByRecursion}
use Rattle.std.proofs.lemmas.List.Elements.{filter-append}
use Rattle.std.proofs.lemmas.Cmp.{tied_itself}
use Rattle.node_base.specs.Path.{Path, path_cmp, paths_total, paths_exact}
use Rattle.node_base.specs.Tree.{PathMap}
use Rattle.dump_load.specs.declared.change.Change.{Change}
use Rattle.dump_load.specs.Changes.{change_at, Precedes, Follows, IsInOrder}
use Rattle.dump_load.specs.Deltas.{Deltas}
use Rattle.dump_load.specs.Records.{stated, earlier, filled_in, IsSetOf}
use Rattle.dump_load.proofs.PathOrder.{greater_differs}
use Rattle.dump_load.proofs.OneMore.{change_at-append, change_at-after}
use Rattle.dump_load.proofs.Combining.{order_follows}
use Rattle.dump_load.proofs.Moved.{at_own_path}
use Rattle.dump_load.proofs.Fillings.{before_all, not_before}
use Rattle.dump_load.proofs.Again.{order_of}

-- the changes behind the first some
order_rest : (done s : List Change) → IsInOrder (done ++ s) → IsInOrder s
order_rest [] s h = h
order_rest (d ∷ done) s h = order_rest done s h.1

none_of_path : (c : Change) (done : List Change) → Follows done c → change_at done c.path ≡ None
none_of_path c done h = ap (change_at done) (sym (append-nil c.path)) ∙ change_at-after c done h []

none_later : (c : Change) (s : List Change) (p : Path) → path_cmp p c.path ≡ Less → AllByRecursion (Precedes c) s → change_at s p ≡ None
none_later c [] p e h = refl
none_later c (d ∷ s) p e h =
    ap (λ b. cond b (Some d) (change_at s p)) (greater_differs p d.path (paths_total.trans p c.path d.path e h.0.rises))
    ∙ none_later c s p e h.1

earlier_none : (trees : List PathMap) (c : Change) (s : List Change) → AllByRecursion (Precedes c) s → earlier s c.path ≡ []
earlier_none trees c [] h = refl
earlier_none trees c (d ∷ s) h = ap (λ b. cond b (d ∷ earlier s c.path) (earlier s c.path)) (not_before trees [] c.path d.path h.0.rises) ∙ earlier_none trees c s h.1

-- before a change stand those done
earlier_done : (trees : List PathMap) (done s : List Change) (c : Change) → IsInOrder (done ++ c ∷ s) → earlier (done ++ c ∷ s) c.path ≡ done
earlier_done trees done s c h =
    filter-append (λ d. is_lt (path_cmp d.path c.path)) done (c ∷ s)
    ∙ (λ i. before_all trees [] done c (order_follows done s c h) i ++ cond (is_lt (tied_itself paths_total c.path i)) (c ∷ earlier s c.path) (earlier s c.path))
    ∙ ap (λ xs. done ++ xs) (earlier_none trees c s (order_rest done (c ∷ s) h).0)
    ∙ append-nil done

module _ (trees : List PathMap) (ds : Deltas) (cs : List Change) where
  none_stated : (s : List Change) (p : Path) → IsSetOf trees ds cs s → change_at s p ≡ None → stated cs p ≡ None
  none_stated s p h none = at (stated cs p) (sym (h.changes p) ∙ none)
    where
      at : (o : Option Change) → option_map (filled_in trees ds (earlier s p)) o ≡ None → o ≡ None
      at None e = refl
      at (Some x) e = cc

  -- what one set has, the other has too
  no_other : (s t front rest : List Change) (c : Change) → IsSetOf trees ds cs s → IsSetOf trees ds cs t → s ≡ front ++ c ∷ rest → change_at t c.path ≡ None → ⊥
  no_other s t front rest c hs ht e none =
      cc (ap (option_map (filled_in trees ds (earlier s c.path))) (none_stated t c.path ht none), hs.changes c.path, ap (λ s. change_at s c.path) e ∙ at_own_path front rest c (subst IsInOrder e (order_of s hs.normal)))

  none_after_done : (done s : List Change) (c : Change) → Follows done c → change_at s c.path ≡ None → change_at (done ++ s) c.path ≡ None
  none_after_done done s c h none = change_at-append done s c.path ∙ (λ i. option_or (none_of_path c done h i) (none i))

  -- a set whose next change comes later hasn't this one
  too_late : (done s t : List Change) (c d : Change) → IsSetOf trees ds cs (done ++ c ∷ s) → IsSetOf trees ds cs (done ++ d ∷ t) → path_cmp c.path d.path ≡ Less → ⊥
  too_late done s t c d hs ht e =
      no_other (done ++ c ∷ s) (done ++ d ∷ t) done s c hs ht refl
      (none_after_done done (d ∷ t) c (order_follows done s c (order_of _ hs.normal))
      (ap (λ b. cond b (Some d) (change_at t c.path)) (greater_differs c.path d.path e) ∙ none_later d t c.path e (order_rest done (d ∷ t) (order_of _ ht.normal)).0))

  filled_here : (done s : List Change) (c : Change) → IsSetOf trees ds cs (done ++ c ∷ s) → Some c ≡ option_map (filled_in trees ds done) (stated cs c.path)
  filled_here done s c h =
      sym (at_own_path done s c (order_of _ h.normal)) ∙ h.changes c.path
      ∙ ap (λ xs. option_map (filled_in trees ds xs) (stated cs c.path)) (earlier_done trees done s c (order_of _ h.normal))

  same_here : (done s t : List Change) (c d : Change) → IsSetOf trees ds cs (done ++ c ∷ s) → IsSetOf trees ds cs (done ++ d ∷ t) → path_cmp c.path d.path ≡ Equal → c ≡ d
  same_here done s t c d hs ht e =
      let both : Some c ≡ Some d = filled_here done s c hs ∙ ap (λ p. option_map (filled_in trees ds done) (stated cs p)) (paths_exact c.path d.path e) ∙ sym (filled_here done t d ht) in
      cc

  same_rest : (done s t : List Change) → IsSetOf trees ds cs (done ++ s) → IsSetOf trees ds cs (done ++ t) → s ≡ t
  same_rest done [] [] hs ht = refl
  same_rest done [] (d ∷ t) hs ht = absurd (no_other (done ++ d ∷ t) (done ++ []) done t d ht hs refl (none_after_done done [] d (order_follows done t d (order_of _ ht.normal)) refl))
  same_rest done (c ∷ s) [] hs ht = absurd (no_other (done ++ c ∷ s) (done ++ []) done s c hs ht refl (none_after_done done [] c (order_follows done s c (order_of _ hs.normal)) refl))
  same_rest done (c ∷ s) (d ∷ t) hs ht =
      elim (path_cmp c.path d.path) as (λ r. path_cmp c.path d.path ≡ r → c ∷ s ≡ d ∷ t) [
        | Less ↦ λ e. absurd (too_late done s t c d hs ht e)
        | Equal ↦ λ e.
            let same = same_here done s t c d hs ht e in
            let left = subst (IsSetOf trees ds cs) (sym (append_assoc done (c ∷ []) s)) hs in
            let right = subst (IsSetOf trees ds cs) (sym (append_assoc done (c ∷ []) t)) (subst (λ x. IsSetOf trees ds cs (done ++ x ∷ t)) (sym same) ht) in
            (λ i. same i ∷ same_rest (done ++ c ∷ []) s t left right i)
        | Greater ↦ λ e. absurd (too_late done t s d c ht hs (paths_total.antisymm d.path c.path ∙ ap ordering_reverse e))
      ] refl

pub one_set : (trees : List PathMap) (ds : Deltas) (cs s t : List Change) → IsSetOf trees ds cs s → IsSetOf trees ds cs t → s ≡ t
one_set trees ds cs s t hs ht = same_rest trees ds cs [] s t hs ht
