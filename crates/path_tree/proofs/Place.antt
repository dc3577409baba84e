-- A search for a name among children in order.
use Rattle.std.proofs.Common.{◌≡◌, ℕ, suc, ◌+◌, ◌<◌, Bool, true, false, cond, not, T, List, [], ◌∷◌, length, drop, set, get_or, Option, Some, None, IsSome, refl, sym, ap, subst, ◌∙◌, arith, add-one, drop-cons}
use Rattle.std.specs.declared.cmp.Ordering.TheVariants.{Less, Equal, Greater}
use Rattle.std.specs.Ordering.{is_eq, is_lt}
use Rattle.std.specs.FinMap.{find}
use Rattle.std.specs.List.{insert, remove}
use Rattle.std.specs.Cmp.{eq_by_cmp_equiv}
use Rattle.std.specs.FinMap.Entries.{below_all, by_order, put, where_key, find-put, is_sorted-put, find-where_key, is_sorted-where_key}
use Rattle.node_base.specs.Path.{Name, name_cmp, names_total, names_exact, same_name}
use Rattle.path_tree.specs.Joined.{AreChildren, place}
use Rattle.path_tree.specs.JoinedLemmas.{both_true, true_both, less_than, find_absent}
use Rattle.path_tree.specs.Rows.{differs}

absurd_some : {A : Type 0} (x : A) (G : Type 0) → Some x ≡ None → G
absurd_some x G e = cc

none_some : (X : Type 0) → IsSome {T = X} None → ⊥
none_some X e = cc

module _ {X : Type 0} where
  -- the first i names are smaller than x
  pub record Reached (cs : List (Name × X)) (x : Name) (i : ℕ) : Type 0 where
    pub placed : place x cs ≡ i + place x (drop i cs)
    pub found : find name_cmp x cs ≡ find name_cmp x (drop i cs)
    pub rising : AreChildren (drop i cs)

  pub reached_none : (cs : List (Name × X)) (x : Name) → AreChildren cs → Reached cs x 0
  reached_none cs x h = record { placed = omega arith; found = refl; rising = h }

  pub below_less : (x y : Name) (cs : List (Name × X)) → name_cmp x y ≡ Less → T (below_all name_cmp y cs) → T (below_all name_cmp x cs)
  below_less x y [] e h = tt
  below_less x y (c ∷ cs) e h =
      let b = both_true _ _ h in
      let first : T (is_lt (name_cmp x c.0)) = subst (λ o. T (is_lt o)) (sym (names_total.trans x y c.0 e (less_than (name_cmp y c.0) b.0))) tt in
      true_both _ _ first (below_less x y cs e b.1)

  place_here : (x : Name) (c : Name × X) (cs : List (Name × X)) → name_cmp x c.0 ≡ Less → place x (c ∷ cs) ≡ 0
  place_here x c cs e = rw e refl

  pub find_below : (x : Name) (c : Name × X) (cs : List (Name × X)) → name_cmp x c.0 ≡ Less → AreChildren (c ∷ cs) → find name_cmp x (c ∷ cs) ≡ None
  find_below x c cs e h = let b = both_true _ _ h in rw e (find_absent x cs (below_less x c.0 cs e b.0))

  module _ (cs : List (Name × X)) (x : Name) (i : ℕ) (r : Reached cs x i) (c : Name × X) (here : i < length cs) (is : c ≡ get_or cs i c) where
    split : drop i cs ≡ c ∷ drop (i + 1) cs
    split = rw (add-one i) (drop-cons cs i c here ∙ ap (λ y. y ∷ drop (suc i) cs) (sym is))

    pub reached_less : name_cmp x c.0 ≡ Less → (place x cs ≡ i) × (find name_cmp x cs ≡ None)
    reached_less e =
        let h = subst AreChildren split r.rising in (
          let p : place x (drop i cs) ≡ 0 = ap (place x) split ∙ place_here x c _ e in omega (arith, r.placed),
          r.found ∙ ap (find name_cmp x) split ∙ find_below x c _ e h,
        )

    pub reached_equal : name_cmp x c.0 ≡ Equal → (place x cs ≡ i) × (find name_cmp x cs ≡ Some c.1)
    reached_equal e = (
      let p : place x (drop i cs) ≡ 0 = ap (place x) split ∙ ap (λ o. by_order o 0 0 (suc (place x (drop (i + 1) cs)))) e in omega (arith, r.placed),
      r.found ∙ ap (find name_cmp x) split ∙ ap (λ o. cond (is_eq o) (Some c.1) (find name_cmp x (drop (i + 1) cs))) e,
    )

    pub reached_more : name_cmp x c.0 ≡ Greater → Reached cs x (i + 1)
    reached_more e = record {
      placed = (let p : place x (drop i cs) ≡ suc (place x (drop (i + 1) cs)) = ap (place x) split ∙ ap (λ o. by_order o 0 0 (suc (place x (drop (i + 1) cs)))) e in omega (arith, r.placed));
      found = r.found ∙ ap (find name_cmp x) split ∙ ap (λ o. cond (is_eq o) (Some c.1) (find name_cmp x (drop (i + 1) cs))) e;
      rising = (both_true _ _ (subst AreChildren split r.rising)).1;
    }

  drop_all : (cs : List (Name × X)) → drop (length cs) cs ≡ []
  drop_all [] = refl
  drop_all (c ∷ cs) = drop_all cs

  pub reached_end : (cs : List (Name × X)) (x : Name) (i : ℕ) → length cs ≡ i → Reached cs x i → (place x cs ≡ length cs) × (find name_cmp x cs ≡ None)
  reached_end cs x i e r =
      let none : drop i cs ≡ [] = ap (λ j. drop j cs) (sym e) ∙ drop_all cs in (
        let p : place x (drop i cs) ≡ 0 = ap (place x) none in omega (arith, r.placed, e),
        r.found ∙ ap (find name_cmp x) none,
      )

  -- ---- edits at the place of a name

  -- a child that is new, put in its place
  pub insert_at_place : (cs : List (Name × X)) (x : Name) (m : X) → find name_cmp x cs ≡ None → insert cs (place x cs) (x, m) ≡ put name_cmp x m cs
  insert_at_place [] x m none = refl
  insert_at_place (c ∷ cs) x m none =
      elim (name_cmp x c.0) as (λ r. cond (is_eq r) (Some c.1) (find name_cmp x cs) ≡ None → insert (c ∷ cs) (by_order r 0 0 (suc (place x cs))) (x, m) ≡ by_order r ((x, m) ∷ c ∷ cs) ((c.0, m) ∷ cs) (c ∷ put name_cmp x m cs)) [
        | Less ↦ λ h. refl
        | Equal ↦ λ h. absurd_some c.1 _ h
        | Greater ↦ λ h. ap (λ s. c ∷ s) (insert_at_place cs x m h)
      ] none

  -- a child that is there, overwritten
  pub set_at_place : (cs : List (Name × X)) (x : Name) (m : X) (d : Name × X) → AreChildren cs → IsSome (find name_cmp x cs) → set cs (place x cs) ((get_or cs (place x cs) d).0, m) ≡ put name_cmp x m cs
  set_at_place [] x m d s some = absurd (none_some X some)
  set_at_place (c ∷ cs) x m d s some =
      elim (name_cmp x c.0) as (λ r. name_cmp x c.0 ≡ r → IsSome (cond (is_eq r) (Some c.1) (find name_cmp x cs)) → set (c ∷ cs) (by_order r 0 0 (suc (place x cs))) ((get_or (c ∷ cs) (by_order r 0 0 (suc (place x cs))) d).0, m) ≡ by_order r ((x, m) ∷ c ∷ cs) ((c.0, m) ∷ cs) (c ∷ put name_cmp x m cs)) [
        | Less ↦ λ e h. absurd (none_some X (subst IsSome (find_below x c cs e s) some))
        | Equal ↦ λ e h. refl
        | Greater ↦ λ e h. ap (λ s. c ∷ s) (set_at_place cs x m d (both_true _ _ s).1 h)
      ] refl some

  -- a child that is there, replaced by one of its name
  pub replace_at_place : (cs : List (Name × X)) (x : Name) (m : X) → AreChildren cs → IsSome (find name_cmp x cs) → set cs (place x cs) (x, m) ≡ put name_cmp x m cs
  replace_at_place [] x m s some = absurd (none_some X some)
  replace_at_place (c ∷ cs) x m s some =
      elim (name_cmp x c.0) as (λ r. name_cmp x c.0 ≡ r → IsSome (cond (is_eq r) (Some c.1) (find name_cmp x cs)) → set (c ∷ cs) (by_order r 0 0 (suc (place x cs))) (x, m) ≡ by_order r ((x, m) ∷ c ∷ cs) ((c.0, m) ∷ cs) (c ∷ put name_cmp x m cs)) [
        | Less ↦ λ e h. absurd (none_some X (subst IsSome (find_below x c cs e s) some))
        | Equal ↦ λ e h. ap (λ y. (y, m) ∷ cs) (names_exact x c.0 e)
        | Greater ↦ λ e h. ap (λ s. c ∷ s) (replace_at_place cs x m (both_true _ _ s).1 h)
      ] refl some

  pub keep_larger : (x : Name) (cs : List (Name × X)) → T (below_all name_cmp x cs) → where_key name_cmp (differs x) cs ≡ cs
  keep_larger x [] h = refl
  keep_larger x (c ∷ cs) h =
      let b = both_true _ _ h in
      ap (λ o. cond (not (is_eq o)) (c ∷ where_key name_cmp (differs x) cs) (where_key name_cmp (differs x) cs)) (less_than (name_cmp x c.0) b.0) ∙ ap (λ s. c ∷ s) (keep_larger x cs b.1)

  pub equal_below : (x : Name) (c : Name × X) (cs : List (Name × X)) → name_cmp x c.0 ≡ Equal → AreChildren (c ∷ cs) → T (below_all name_cmp x cs)
  equal_below x c cs e s = subst (λ y. T (below_all name_cmp y cs)) (sym (names_exact x c.0 e)) (both_true _ _ s).0

  -- a child that is there, taken out
  pub remove_at_place : (cs : List (Name × X)) (x : Name) → AreChildren cs → IsSome (find name_cmp x cs) → remove cs (place x cs) ≡ where_key name_cmp (differs x) cs
  remove_at_place [] x s some = absurd (none_some X some)
  remove_at_place (c ∷ cs) x s some =
      elim (name_cmp x c.0) as (λ r. name_cmp x c.0 ≡ r → IsSome (cond (is_eq r) (Some c.1) (find name_cmp x cs)) → remove (c ∷ cs) (by_order r 0 0 (suc (place x cs))) ≡ cond (not (is_eq r)) (c ∷ where_key name_cmp (differs x) cs) (where_key name_cmp (differs x) cs)) [
        | Less ↦ λ e h. absurd (none_some X (subst IsSome (find_below x c cs e s) some))
        | Equal ↦ λ e h. sym (keep_larger x cs (equal_below x c cs e s))
        | Greater ↦ λ e h. ap (λ s. c ∷ s) (remove_at_place cs x (both_true _ _ s).1 h)
      ] refl some

  -- children that have m at the name x, and else what the old ones have
  pub record Swaps (old new : List (Name × X)) (x : Name) (m : Option X) : Type 0 where
    pub rising : AreChildren new
    pub found : (y : Name) → find name_cmp y new ≡ cond (same_name y x) m (find name_cmp y old)

  module _ (cs : List (Name × X)) (x : Name) (s : AreChildren cs) where
    pub swaps_put : (m : X) → Swaps cs (put name_cmp x m cs) x (Some m)
    swaps_put m = record { rising = is_sorted-put name_cmp names_total x m cs s; found = λ y. find-put name_cmp names_total y x m cs }

    pub swaps_insert : (m : X) → find name_cmp x cs ≡ None → Swaps cs (insert cs (place x cs) (x, m)) x (Some m)
    swaps_insert m none = subst (λ new. Swaps cs new x (Some m)) (sym (insert_at_place cs x m none)) (swaps_put m)

    pub swaps_set : (m : X) (d : Name × X) → IsSome (find name_cmp x cs) → Swaps cs (set cs (place x cs) ((get_or cs (place x cs) d).0, m)) x (Some m)
    swaps_set m d some = subst (λ new. Swaps cs new x (Some m)) (sym (set_at_place cs x m d s some)) (swaps_put m)

    turned : (b : Bool) (o : Option X) → cond (not b) o None ≡ cond b None o
    turned true o = refl
    turned false o = refl

    pub swaps_remove : IsSome (find name_cmp x cs) → Swaps cs (remove cs (place x cs)) x None
    swaps_remove some = subst (λ new. Swaps cs new x None) (sym (remove_at_place cs x s some)) (record {
      rising = is_sorted-where_key name_cmp (differs x) cs s;
      found = λ y. find-where_key name_cmp (differs x) y (λ z e. ap (λ w. differs x w) (sym (names_exact y z e))) cs ∙ turned (same_name x y) (find name_cmp y cs) ∙ ap (λ b. cond b None (find name_cmp y cs)) ((eq_by_cmp_equiv names_total).symm x y);
    })

  -- the child at the place of a name that is there
  child_at_place : (cs : List (Name × X)) (x : Name) → AreChildren cs → IsSome (find name_cmp x cs) → (y : Name × X) → y ≡ get_or cs (place x cs) y → find name_cmp x cs ≡ Some y.1
  child_at_place [] x s some y is = absurd (none_some X some)
  child_at_place (c ∷ cs) x s some y is =
      elim (name_cmp x c.0) as (λ r. name_cmp x c.0 ≡ r → IsSome (cond (is_eq r) (Some c.1) (find name_cmp x cs)) → y ≡ get_or (c ∷ cs) (by_order r 0 0 (suc (place x cs))) y → cond (is_eq r) (Some c.1) (find name_cmp x cs) ≡ Some y.1) [
        | Less ↦ λ e h is. absurd (none_some X (subst IsSome (find_below x c cs e s) some))
        | Equal ↦ λ e h is. ap (λ z. Some z.1) (sym is)
        | Greater ↦ λ e h is. child_at_place cs x (both_true _ _ s).1 h y is
      ] refl some is

  -- the same, of the slice that was searched
  pub child_found : (cs d : List (Name × X)) (x : Name) (i : ℕ) (y : Name × X) → d ≡ cs → AreChildren cs → i ≡ place x d → IsSome (find name_cmp x d) → y ≡ get_or cs i y → find name_cmp x cs ≡ Some y.1
  child_found cs d x i y e s at some is =
      child_at_place cs x s (subst (λ z. IsSome (find name_cmp x z)) e some) y (subst (λ j. y ≡ get_or cs j y) (at ∙ ap (place x) e) is)

  module _ (cs d : List (Name × X)) (x : Name) (i : ℕ) (e : d ≡ cs) (s : AreChildren cs) (at : i ≡ place x d) where
    place_in : i ≡ place x cs
    place_in = at ∙ ap (place x) e

    pub swaps_set_found : (y : Name × X) (m : X) → IsSome (find name_cmp x d) → y ≡ get_or cs i y → Swaps cs (set cs i (y.0, m)) x (Some m)
    swaps_set_found y m some is =
        subst (λ z. Swaps cs (set cs i (z.0, m)) x (Some m)) (sym is)
        (subst (λ j. Swaps cs (set cs j ((get_or cs j y).0, m)) x (Some m)) (sym place_in) (swaps_set cs x s m y (subst (λ z. IsSome (find name_cmp x z)) e some)))

    pub swaps_insert_absent : (m : X) → find name_cmp x d ≡ None → Swaps cs (insert cs i (x, m)) x (Some m)
    swaps_insert_absent m none = subst (λ j. Swaps cs (insert cs j (x, m)) x (Some m)) (sym place_in) (swaps_insert cs x s m (ap (find name_cmp x) (sym e) ∙ none))

    pub swaps_remove_found : IsSome (find name_cmp x d) → Swaps cs (remove cs i) x None
    swaps_remove_found some = subst (λ j. Swaps cs (remove cs j) x None) (sym place_in) (swaps_remove cs x s (subst (λ z. IsSome (find name_cmp x z)) e some))
