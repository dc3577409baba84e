-- A name among children, one of whom stands between those before it and those behind it.
use Rattle.std.proofs.Common.{◌≡◌, Bool, true, false, None, cond, not, T, List, [], ◌∷◌, ◌++◌, Option, Some, Result, IfOk, refl, sym, ap, subst, ◌∙◌}
use Rattle.std.specs.declared.cmp.Ordering.{Ordering}
use Rattle.std.specs.declared.cmp.Ordering.TheVariants.{Less, Equal, Greater}
use Rattle.std.specs.Ordering.{is_eq, is_lt, ordering_reverse}
use Rattle.std.specs.FinMap.{find}
use Rattle.std.specs.Cmp.{eq_by_cmp_equiv}
use Rattle.std.specs.FinMap.Entries.{below_all, by_order, put, where_key, find-put, is_sorted-put, find-where_key, is_sorted-where_key}
use Rattle.node_base.specs.Path.{Name, name_cmp, names_total, names_exact, same_name}
use Rattle.path_tree.specs.Joined.{AreChildren}
use Rattle.path_tree.specs.JoinedLemmas.{both_true, true_both, less_than}
use Rattle.path_tree.specs.Rows.{differs}
use Rattle.path_tree.proofs.Place.{Swaps, find_below, below_less, keep_larger, equal_below}

-- the order seen from the other side
turned : (x y : Name) (r : Ordering) → name_cmp y x ≡ r → name_cmp x y ≡ ordering_reverse r
turned x y r e = names_total.antisymm x y ∙ ap ordering_reverse e

-- a call's answer, known by a list, is known by an equal one
pub if_ok_same : {R E X : Type 0} (r : Result R E) (f : R → List X) (a b : List X) → a ≡ b → IfOk r (λ t. f t ≡ a) → IfOk r (λ t. f t ≡ b)
if_ok_same r f a b e h = subst (λ z. IfOk r (λ t. f t ≡ z)) e h

module _ {X : Type 0} where
  -- x is above each of these names
  pub Passed : Name → List (Name × X) → Type 0
  Passed x [] = Unit {0}
  Passed x (d ∷ l) = (name_cmp x d.0 ≡ Greater) × Passed x l

  below_front : (y : Name) (l r : List (Name × X)) → T (below_all name_cmp y (l ++ r)) → T (below_all name_cmp y l)
  below_front y [] r h = tt
  below_front y (d ∷ l) r h = let b = both_true _ _ h in true_both _ _ b.0 (below_front y l r b.1)

  pub rising_front : (l r : List (Name × X)) → AreChildren (l ++ r) → AreChildren l
  rising_front [] r s = tt
  rising_front (d ∷ l) r s = let b = both_true _ _ s in true_both _ _ (below_front d.0 l r b.0) (rising_front l r b.1)

  pub rising_back : (l r : List (Name × X)) → AreChildren (l ++ r) → AreChildren r
  rising_back [] r s = s
  rising_back (d ∷ l) r s = rising_back l r (both_true _ _ s).1

  put_passed : (x : Name) (m : X) (l r : List (Name × X)) → Passed x l → put name_cmp x m (l ++ r) ≡ l ++ put name_cmp x m r
  unfolding Passed
  put_passed x m [] r p = refl
  put_passed x m (d ∷ l) r p = ap (λ o. by_order o ((x, m) ∷ d ∷ (l ++ r)) ((d.0, m) ∷ (l ++ r)) (d ∷ put name_cmp x m (l ++ r))) p.0 ∙ ap (λ s. d ∷ s) (put_passed x m l r p.1)

  find_passed : (x : Name) (l r : List (Name × X)) → Passed x l → find name_cmp x (l ++ r) ≡ find name_cmp x r
  unfolding Passed
  find_passed x [] r p = refl
  find_passed x (d ∷ l) r p = ap (λ o. cond (is_eq o) (Some d.1) (find name_cmp x (l ++ r))) p.0 ∙ find_passed x l r p.1

  where_passed : (x : Name) (l r : List (Name × X)) → Passed x l → where_key name_cmp (differs x) (l ++ r) ≡ l ++ where_key name_cmp (differs x) r
  unfolding Passed
  where_passed x [] r p = refl
  where_passed x (d ∷ l) r p = ap (λ o. cond (not (is_eq o)) (d ∷ where_key name_cmp (differs x) (l ++ r)) (where_key name_cmp (differs x) (l ++ r))) p.0 ∙ ap (λ s. d ∷ s) (where_passed x l r p.1)

  module _ (x : Name) (c : Name × X) where
    below_child : (y : Name) (l r : List (Name × X)) → T (below_all name_cmp y (l ++ c ∷ r)) → name_cmp y c.0 ≡ Less
    below_child y [] r h = less_than _ (both_true _ _ h).0
    below_child y (d ∷ l) r h = below_child y l r (both_true _ _ h).1

    passed : ((y : Name) → name_cmp y c.0 ≡ Less → name_cmp x y ≡ Greater) → (l r : List (Name × X)) → AreChildren (l ++ c ∷ r) → Passed x l
    unfolding Passed
    passed h [] r s = tt
    passed h (d ∷ l) r s = let b = both_true _ _ s in (h d.0 (below_child d.0 l r b.0), passed h l r b.1)

    above_equal : name_cmp x c.0 ≡ Equal → (y : Name) → name_cmp y c.0 ≡ Less → name_cmp x y ≡ Greater
    above_equal e y lt = turned x y Less (subst (λ z. name_cmp y z ≡ Less) (sym (names_exact x c.0 e)) lt)

    above_greater : name_cmp x c.0 ≡ Greater → (y : Name) → name_cmp y c.0 ≡ Less → name_cmp x y ≡ Greater
    above_greater g y lt = turned x y Less (names_total.trans y c.0 x lt (turned c.0 x Greater g))

    -- ---- the name is smaller

    pub find_before : (l r : List (Name × X)) → AreChildren (l ++ c ∷ r) → name_cmp x c.0 ≡ Less → find name_cmp x (l ++ c ∷ r) ≡ find name_cmp x l
    find_before [] r s e = find_below x c r e s
    find_before (d ∷ l) r s e = ap (λ o. cond (same_name x d.0) (Some d.1) o) (find_before l r (both_true _ _ s).1 e)

    pub put_before : (m : X) (l r : List (Name × X)) → name_cmp x c.0 ≡ Less → put name_cmp x m (l ++ c ∷ r) ≡ put name_cmp x m l ++ c ∷ r
    put_before m [] r e = ap (λ o. by_order o ((x, m) ∷ c ∷ r) ((c.0, m) ∷ r) (c ∷ put name_cmp x m r)) e
    put_before m (d ∷ l) r e =
        elim (name_cmp x d.0) as (λ o. by_order o ((x, m) ∷ d ∷ (l ++ c ∷ r)) ((d.0, m) ∷ (l ++ c ∷ r)) (d ∷ put name_cmp x m (l ++ c ∷ r)) ≡ by_order o ((x, m) ∷ d ∷ l) ((d.0, m) ∷ l) (d ∷ put name_cmp x m l) ++ c ∷ r) [
          | Less ↦ refl
          | Equal ↦ refl
          | Greater ↦ ap (λ s. d ∷ s) (put_before m l r e)
        ]

    pub where_before : (l r : List (Name × X)) → AreChildren (l ++ c ∷ r) → name_cmp x c.0 ≡ Less → where_key name_cmp (differs x) (l ++ c ∷ r) ≡ where_key name_cmp (differs x) l ++ c ∷ r
    where_before [] r s e = keep_larger x (c ∷ r) (true_both _ _ (subst (λ o. T (is_lt o)) (sym e) tt) (below_less x c.0 r e (both_true _ _ s).0))
    where_before (d ∷ l) r s e =
        elim (differs x d.0) as (λ b. cond b (d ∷ where_key name_cmp (differs x) (l ++ c ∷ r)) (where_key name_cmp (differs x) (l ++ c ∷ r)) ≡ cond b (d ∷ where_key name_cmp (differs x) l) (where_key name_cmp (differs x) l) ++ c ∷ r) [
          | true ↦ ap (λ z. d ∷ z) (where_before l r (both_true _ _ s).1 e)
          | false ↦ where_before l r (both_true _ _ s).1 e
        ]

    -- ---- the name is the child's

    pub find_here : (l r : List (Name × X)) → AreChildren (l ++ c ∷ r) → name_cmp x c.0 ≡ Equal → find name_cmp x (l ++ c ∷ r) ≡ Some c.1
    find_here l r s e = find_passed x l (c ∷ r) (passed (above_equal e) l r s) ∙ ap (λ o. cond (is_eq o) (Some c.1) (find name_cmp x r)) e

    pub put_here : (m : X) (l r : List (Name × X)) → AreChildren (l ++ c ∷ r) → name_cmp x c.0 ≡ Equal → put name_cmp x m (l ++ c ∷ r) ≡ l ++ (x, m) ∷ r
    put_here m l r s e =
        put_passed x m l (c ∷ r) (passed (above_equal e) l r s)
        ∙ ap (λ z. l ++ z) (ap (λ o. by_order o ((x, m) ∷ c ∷ r) ((c.0, m) ∷ r) (c ∷ put name_cmp x m r)) e ∙ ap (λ y. (y, m) ∷ r) (sym (names_exact x c.0 e)))

    pub where_here : (l r : List (Name × X)) → AreChildren (l ++ c ∷ r) → name_cmp x c.0 ≡ Equal → where_key name_cmp (differs x) (l ++ c ∷ r) ≡ l ++ r
    where_here l r s e =
        where_passed x l (c ∷ r) (passed (above_equal e) l r s)
        ∙ ap (λ z. l ++ z) (ap (λ o. cond (not (is_eq o)) (c ∷ where_key name_cmp (differs x) r) (where_key name_cmp (differs x) r)) e ∙ keep_larger x r (equal_below x c r e (rising_back l (c ∷ r) s)))

    -- ---- the name is greater

    pub find_behind : (l r : List (Name × X)) → AreChildren (l ++ c ∷ r) → name_cmp x c.0 ≡ Greater → find name_cmp x (l ++ c ∷ r) ≡ find name_cmp x r
    find_behind l r s e = find_passed x l (c ∷ r) (passed (above_greater e) l r s) ∙ ap (λ o. cond (is_eq o) (Some c.1) (find name_cmp x r)) e

    pub put_behind : (m : X) (l r : List (Name × X)) → AreChildren (l ++ c ∷ r) → name_cmp x c.0 ≡ Greater → put name_cmp x m (l ++ c ∷ r) ≡ l ++ c ∷ put name_cmp x m r
    put_behind m l r s e =
        put_passed x m l (c ∷ r) (passed (above_greater e) l r s)
        ∙ ap (λ z. l ++ z) (ap (λ o. by_order o ((x, m) ∷ c ∷ r) ((c.0, m) ∷ r) (c ∷ put name_cmp x m r)) e)

    pub where_behind : (l r : List (Name × X)) → AreChildren (l ++ c ∷ r) → name_cmp x c.0 ≡ Greater → where_key name_cmp (differs x) (l ++ c ∷ r) ≡ l ++ c ∷ where_key name_cmp (differs x) r
    where_behind l r s e =
        where_passed x l (c ∷ r) (passed (above_greater e) l r s)
        ∙ ap (λ z. l ++ z) (ap (λ o. cond (not (is_eq o)) (c ∷ where_key name_cmp (differs x) r) (where_key name_cmp (differs x) r)) e)

    -- ---- the rows beside the child

    pub rises_before : (l r : List (Name × X)) → AreChildren (l ++ c ∷ r) → AreChildren l
    rises_before l r s = rising_front l (c ∷ r) s

    pub rises_behind : (l r : List (Name × X)) → AreChildren (l ++ c ∷ r) → AreChildren r
    rises_behind l r s = (both_true _ _ (rising_back l (c ∷ r) s)).1

-- ---- what becomes of children where one is put or taken away

module _ {X : Type 0} (cs new : List (Name × X)) (x : Name) (s : AreChildren cs) where
  pub swaps_with : (m : X) → new ≡ put name_cmp x m cs → Swaps cs new x (Some m)
  swaps_with m is = subst (λ z. Swaps cs z x (Some m)) (sym is) (record { rising = is_sorted-put name_cmp names_total x m cs s; found = λ y. find-put name_cmp names_total y x m cs })

  other_or_none : (b : Bool) (o : Option X) → cond (not b) o None ≡ cond b None o
  other_or_none true o = refl
  other_or_none false o = refl

  pub swaps_without : new ≡ where_key name_cmp (differs x) cs → Swaps cs new x None
  swaps_without is = subst (λ z. Swaps cs z x None) (sym is) (record {
    rising = is_sorted-where_key name_cmp (differs x) cs s;
    found = λ y. find-where_key name_cmp (differs x) y (λ z e. ap (λ w. differs x w) (sym (names_exact y z e))) cs ∙ other_or_none (same_name x y) (find name_cmp y cs) ∙ ap (λ b. cond b None (find name_cmp y cs)) ((eq_by_cmp_equiv names_total).symm x y);
  })

-- ---- what is made of the parts of a row, where `is` tells that they are the row

module _ {X : Type 0} (cs l : List (Name × X)) (c : Name × X) (r : List (Name × X)) (is : l ++ c ∷ r ≡ cs) (s : AreChildren cs) where
  rises : AreChildren (l ++ c ∷ r)
  rises = subst AreChildren (sym is) s

  pub row_rises_before : AreChildren l
  row_rises_before = rising_front l (c ∷ r) rises

  pub row_rises_behind : AreChildren r
  row_rises_behind = (both_true _ _ (rising_back l (c ∷ r) rises)).1

  module _ (x : Name) where
    pub row_find_before : name_cmp x c.0 ≡ Less → find name_cmp x l ≡ find name_cmp x cs
    row_find_before e = sym (find_before x c l r rises e) ∙ ap (find name_cmp x) is

    pub row_find_here : name_cmp x c.0 ≡ Equal → find name_cmp x cs ≡ Some c.1
    row_find_here e = ap (find name_cmp x) (sym is) ∙ find_here x c l r rises e

    pub row_find_behind : name_cmp x c.0 ≡ Greater → find name_cmp x r ≡ find name_cmp x cs
    row_find_behind e = sym (find_behind x c l r rises e) ∙ ap (find name_cmp x) is

    module _ (l' r' : List (Name × X)) (h : Name × X) where
      pub row_put_before : (m : X) → name_cmp x c.0 ≡ Less → l' ≡ put name_cmp x m l → h ≡ c → r' ≡ r → l' ++ h ∷ r' ≡ put name_cmp x m cs
      row_put_before m e el eh er = (λ i. el i ++ eh i ∷ er i) ∙ sym (put_before x c m l r e) ∙ ap (put name_cmp x m) is

      pub row_put_here : (m : X) → name_cmp x c.0 ≡ Equal → l' ≡ l → h ≡ (x, m) → r' ≡ r → l' ++ h ∷ r' ≡ put name_cmp x m cs
      row_put_here m e el eh er = (λ i. el i ++ eh i ∷ er i) ∙ sym (put_here x c m l r rises e) ∙ ap (put name_cmp x m) is

      pub row_put_behind : (m : X) → name_cmp x c.0 ≡ Greater → l' ≡ l → h ≡ c → r' ≡ put name_cmp x m r → l' ++ h ∷ r' ≡ put name_cmp x m cs
      row_put_behind m e el eh er = (λ i. el i ++ eh i ∷ er i) ∙ sym (put_behind x c m l r rises e) ∙ ap (put name_cmp x m) is

      pub row_without_before : name_cmp x c.0 ≡ Less → l' ≡ where_key name_cmp (differs x) l → h ≡ c → r' ≡ r → l' ++ h ∷ r' ≡ where_key name_cmp (differs x) cs
      row_without_before e el eh er = (λ i. el i ++ eh i ∷ er i) ∙ sym (where_before x c l r rises e) ∙ ap (where_key name_cmp (differs x)) is

      pub row_without_behind : name_cmp x c.0 ≡ Greater → l' ≡ l → h ≡ c → r' ≡ where_key name_cmp (differs x) r → l' ++ h ∷ r' ≡ where_key name_cmp (differs x) cs
      row_without_behind e el eh er = (λ i. el i ++ eh i ∷ er i) ∙ sym (where_behind x c l r rises e) ∙ ap (where_key name_cmp (differs x)) is

    pub row_without_here : name_cmp x c.0 ≡ Equal → l ++ r ≡ where_key name_cmp (differs x) cs
    row_without_here e = sym (where_here x c l r rises e) ∙ ap (where_key name_cmp (differs x)) is
