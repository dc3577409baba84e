-- Searches and edits in entries in order.
use Rattle.std.proofs.Common.{◌≡◌, ℕ, zero, suc, ◌+◌, ◌<◌, ◌≤◌, Bool, true, false, cond, not, ◌&&◌, T, List, [], ◌∷◌, ◌++◌, length, take, drop, set, get_or, eqb, Option, Some, None, IsSome, refl, sym, ap, subst, ◌∙◌, arith, drop-cons}
use lib.Pointwise.{pointwise}
use Rattle.std.proofs.lemmas.Bool.{eqb-true}
use Rattle.std.proofs.lemmas.List.{take_more}
use Rattle.std.specs.declared.cmp.Ordering.{Ordering}
use Rattle.std.specs.declared.cmp.Ordering.TheVariants.{Less, Equal, Greater}
use Rattle.std.specs.Ordering.{is_eq, is_lt, ordering_reverse}
use Rattle.std.specs.FinMap.{find}
use Rattle.std.specs.List.{insert, remove}
use Rattle.std.specs.FinMap.Entries.{below_all, by_order, put, where_key}
use Rattle.node_base.specs.Path.{Name, name_cmp, names_total, names_exact, same_name}
use Rattle.node_base.specs.Entries.{Entries, IsRising, place}

abbrev Entry : Type 0
Entry = Name × List ℕ

pub both_true : (a b : Bool) → T (a && b) → T a × T b
both_true true b h = (tt, h)
both_true false b h = absurd h

less_than : (r : Ordering) → T (is_lt r) → r ≡ Less
less_than Less h = refl
less_than Equal h = absurd h
less_than Greater h = absurd h

absurd_some : {A : Type 0} (x : A) (G : Type 0) → Some x ≡ None → G
absurd_some x G e = cc

none_some : IsSome {T = List ℕ} None → ⊥
none_some e = cc

-- a name below all names is none of them
pub find_absent : (x : Name) (es : Entries) → T (below_all name_cmp x es) → find name_cmp x es ≡ None
find_absent x [] h = refl
find_absent x (e ∷ es) h = let b = both_true _ _ h in rw (less_than (name_cmp x e.0) b.0) (find_absent x es b.1)

below_at : (y : Name) (es : Entries) (i : ℕ) (c : Entry) (rest : Entries) → T (below_all name_cmp y es) → drop i es ≡ c ∷ rest → name_cmp y c.0 ≡ Less
below_at y [] zero c rest h d = cc
below_at y [] (suc i) c rest h d = cc
below_at y (e ∷ es) zero c rest h d =
    let same : e ≡ c = cc in
    subst (λ z. name_cmp y z.0 ≡ Less) same (less_than _ (both_true _ _ h).0)
below_at y (e ∷ es) (suc i) c rest h d = below_at y es i c rest (both_true _ _ h).1 d

below_less : (x y : Name) (es : Entries) → name_cmp x y ≡ Less → T (below_all name_cmp y es) → T (below_all name_cmp x es)
below_less x y [] e h = tt
below_less x y (c ∷ cs) e h =
    let b = both_true _ _ h in
    let first : T (is_lt (name_cmp x c.0)) = subst (λ o. T (is_lt o)) (sym (names_total.trans x y c.0 e (less_than (name_cmp y c.0) b.0))) tt in
    subst (λ t. T t) (sym (ap (λ o. is_lt o && below_all name_cmp x cs) (less_than (name_cmp x c.0) first))) (below_less x y cs e b.1)

rising_at : (es : Entries) (i : ℕ) → IsRising es → IsRising (drop i es)
rising_at es zero h = h
rising_at [] (suc i) h = tt
rising_at (e ∷ es) (suc i) h = rising_at es i (both_true _ _ h).1

-- the name that a larger one in the list tells
greater_than : (x : Name) (f c : Entry) → name_cmp f.0 c.0 ≡ Less → name_cmp c.0 x ≡ Less → name_cmp x f.0 ≡ Greater
greater_than x f c less more = names_total.antisymm x f.0 ∙ ap ordering_reverse (names_total.trans f.0 c.0 x less more)

place_before : (x : Name) (e : Entry) (es : Entries) → name_cmp x e.0 ≡ Less → place x (e ∷ es) ≡ 0
place_before x e es h = ap (λ o. by_order o 0 0 (suc (place x es))) h

place_here : (x : Name) (e : Entry) (es : Entries) → name_cmp x e.0 ≡ Equal → place x (e ∷ es) ≡ 0
place_here x e es h = ap (λ o. by_order o 0 0 (suc (place x es))) h

place_later : (x : Name) (e : Entry) (es : Entries) → name_cmp x e.0 ≡ Greater → place x (e ∷ es) ≡ suc (place x es)
place_later x e es h = ap (λ o. by_order o 0 0 (suc (place x es))) h

find_later : (x : Name) (e : Entry) (es : Entries) → name_cmp x e.0 ≡ Greater → find name_cmp x (e ∷ es) ≡ find name_cmp x es
find_later x e es h = ap (λ o. cond (is_eq o) (Some e.1) (find name_cmp x es)) h

place_le : (x : Name) (es : Entries) (i : ℕ) (c : Entry) (rest : Entries) → drop i es ≡ c ∷ rest → name_cmp x c.0 ≡ Less → place x es ≤ i
place_le x [] zero c rest d e = cc
place_le x [] (suc i) c rest d e = cc
place_le x (f ∷ es) zero c rest d e =
    let same : f ≡ c = cc in
    omega (arith, place_before x f es (subst (λ z. name_cmp x z.0 ≡ Less) (sym same) e))
place_le x (f ∷ es) (suc i) c rest d e =
    let r = place_le x es i c rest d e in
    elim (name_cmp x f.0) as (λ o. by_order o 0 0 (suc (place x es)) ≤ suc i) [ Less ↦ omega arith | Equal ↦ omega arith | Greater ↦ omega arith ]

place_gt : (x : Name) (es : Entries) (i : ℕ) (c : Entry) (rest : Entries) → IsRising es → drop i es ≡ c ∷ rest → name_cmp x c.0 ≡ Greater → i < place x es
place_gt x [] zero c rest s d e = cc
place_gt x [] (suc i) c rest s d e = cc
place_gt x (f ∷ es) zero c rest s d e =
    let same : f ≡ c = cc in
    omega (arith, place_later x f es (subst (λ z. name_cmp x z.0 ≡ Greater) (sym same) e))
place_gt x (f ∷ es) (suc i) c rest s d e =
    let b = both_true _ _ s in
    let more : name_cmp c.0 x ≡ Less = names_total.antisymm c.0 x ∙ ap ordering_reverse e in
    let later = place_later x f es (greater_than x f c (below_at f.0 es i c rest b.0 d) more) in
    omega (arith, later, place_gt x es i c rest b.1 d e)

place_at : (x : Name) (es : Entries) (i : ℕ) (c : Entry) (rest : Entries) → IsRising es → drop i es ≡ c ∷ rest → name_cmp x c.0 ≡ Equal → (i ≡ place x es) × (find name_cmp x es ≡ Some c.1)
place_at x [] zero c rest s d e = cc
place_at x [] (suc i) c rest s d e = cc
place_at x (f ∷ es) zero c rest s d e =
    let same : f ≡ c = cc in
    let here = subst (λ z. name_cmp x z.0 ≡ Equal) (sym same) e in
    (sym (place_here x f es here), ap (λ o. cond (is_eq o) (Some f.1) (find name_cmp x es)) here ∙ ap (λ z. Some z.1) same)
place_at x (f ∷ es) (suc i) c rest s d e =
    let b = both_true _ _ s in
    let less = below_at f.0 es i c rest b.0 d in
    let up : name_cmp f.0 x ≡ Less = subst (λ n. name_cmp f.0 n ≡ Less) (sym (names_exact x c.0 e)) less in
    let down : name_cmp x f.0 ≡ Greater = names_total.antisymm x f.0 ∙ ap ordering_reverse up in
    let r = place_at x es i c rest b.1 d e in
    (ap suc r.0 ∙ sym (place_later x f es down), find_later x f es down ∙ r.1)

find_from : (x : Name) (es : Entries) (i : ℕ) → i ≤ place x es → find name_cmp x es ≡ find name_cmp x (drop i es)
find_from x es zero h = refl
find_from x [] (suc i) h = refl
find_from x (e ∷ es) (suc i) h =
    elim (name_cmp x e.0) as (λ o. suc i ≤ by_order o 0 0 (suc (place x es)) → cond (is_eq o) (Some e.1) (find name_cmp x es) ≡ find name_cmp x (drop i es)) [
      | Less ↦ λ h. absurd (omega arith)
      | Equal ↦ λ h. absurd (omega arith)
      | Greater ↦ λ h. find_from x es i (omega arith)
    ] h

drop_all : (es : Entries) → drop (length es) es ≡ []
drop_all [] = refl
drop_all (e ∷ es) = drop_all es

-- the place is known to lie in a range, and what stands from its end on is larger
pub record Searched (es : Entries) (x : Name) (low high : ℕ) : Type 0 where
  pub from_low : low ≤ place x es
  pub to_high : place x es ≤ high
  pub high_in : high ≤ length es
  pub above : T (below_all name_cmp x (drop high es))

place_in : (x : Name) (es : Entries) → place x es ≤ length es
place_in x [] = omega arith
place_in x (e ∷ es) =
    let r = place_in x es in
    elim (name_cmp x e.0) as (λ o. by_order o 0 0 (suc (place x es)) ≤ suc (length es)) [ Less ↦ omega arith | Equal ↦ omega arith | Greater ↦ omega arith ]

pub searched_none : (es : Entries) (x : Name) (high : ℕ) → high ≡ length es → Searched es x 0 high
searched_none es x high e =
    record { from_low = omega arith; to_high = omega (arith, place_in x es); high_in = omega arith; above = subst (λ t. T (below_all name_cmp x t)) (sym (ap (λ i. drop i es) e ∙ drop_all es)) tt }

module _ (es : Entries) (x : Name) (i : ℕ) (s : IsRising es) (c : Entry) (here : i < length es) (is : c ≡ get_or es i c) where
  split : drop i es ≡ c ∷ drop (suc i) es
  split = drop-cons es i c here ∙ ap (λ y. y ∷ drop (suc i) es) (sym is)

  pub searched_less : (low high : ℕ) → Searched es x low high → name_cmp x c.0 ≡ Less → Searched es x low i
  searched_less low high r e =
      let rising : IsRising (c ∷ drop (suc i) es) = subst IsRising split (rising_at es i s) in
      let all : T (is_lt (name_cmp x c.0) && below_all name_cmp x (drop (suc i) es)) = subst (λ o. T (is_lt o && below_all name_cmp x (drop (suc i) es))) (sym e) (below_less x c.0 (drop (suc i) es) e (both_true _ _ rising).0) in
      record { from_low = r.from_low; to_high = place_le x es i c _ split e; high_in = omega arith; above = subst (λ t. T (below_all name_cmp x t)) (sym split) all }

  pub searched_more : (low high : ℕ) → Searched es x low high → name_cmp x c.0 ≡ Greater → Searched es x (i + 1) high
  searched_more low high r e = record { from_low = omega (arith, place_gt x es i c _ s split e); to_high = r.to_high; high_in = r.high_in; above = r.above }

  pub searched_here : name_cmp x c.0 ≡ Equal → (i ≡ place x es) × (find name_cmp x es ≡ Some c.1)
  searched_here e = place_at x es i c _ s split e

pub searched_end : (es : Entries) (x : Name) (low high : ℕ) → Searched es x low high → high ≤ low → (low ≡ place x es) × (find name_cmp x es ≡ None)
searched_end es x low high r e =
    let at : high ≡ place x es = omega (arith, r.from_low, r.to_high) in
    (omega (arith, r.from_low, r.to_high), find_from x es high (omega arith) ∙ find_absent x (drop high es) r.above)

-- ---- edits at the place of a name

-- an entry that is new, put in its place
pub insert_at_place : (es : Entries) (x : Name) (v : List ℕ) → find name_cmp x es ≡ None → insert es (place x es) (x, v) ≡ put name_cmp x v es
insert_at_place [] x v none = refl
insert_at_place (e ∷ es) x v none =
    elim (name_cmp x e.0) as (λ r. cond (is_eq r) (Some e.1) (find name_cmp x es) ≡ None → insert (e ∷ es) (by_order r 0 0 (suc (place x es))) (x, v) ≡ by_order r ((x, v) ∷ e ∷ es) ((e.0, v) ∷ es) (e ∷ put name_cmp x v es)) [
      | Less ↦ λ h. refl
      | Equal ↦ λ h. absurd_some e.1 _ h
      | Greater ↦ λ h. ap (λ s. e ∷ s) (insert_at_place es x v h)
    ] none

find_less : (x : Name) (c : Entry) (cs : Entries) → name_cmp x c.0 ≡ Less → IsRising (c ∷ cs) → find name_cmp x (c ∷ cs) ≡ None
find_less x c cs e h = let b = both_true _ _ h in rw e (find_absent x cs (below_less x c.0 cs e b.0))

-- an entry that is there, overwritten
pub set_at_place : (es : Entries) (x : Name) (v : List ℕ) (d : Entry) → IsRising es → IsSome (find name_cmp x es) → set es (place x es) ((get_or es (place x es) d).0, v) ≡ put name_cmp x v es
set_at_place [] x v d s some = absurd (none_some some)
set_at_place (c ∷ cs) x v d s some =
    elim (name_cmp x c.0) as (λ r. name_cmp x c.0 ≡ r → IsSome (cond (is_eq r) (Some c.1) (find name_cmp x cs)) → set (c ∷ cs) (by_order r 0 0 (suc (place x cs))) ((get_or (c ∷ cs) (by_order r 0 0 (suc (place x cs))) d).0, v) ≡ by_order r ((x, v) ∷ c ∷ cs) ((c.0, v) ∷ cs) (c ∷ put name_cmp x v cs)) [
      | Less ↦ λ e h. absurd (none_some (subst IsSome (find_less x c cs e s) some))
      | Equal ↦ λ e h. refl
      | Greater ↦ λ e h. ap (λ s. c ∷ s) (set_at_place cs x v d (both_true _ _ s).1 h)
    ] refl some

abbrev pub differs : Name → Name → Bool
differs x k = not (same_name x k)

keep_larger : (x : Name) (cs : Entries) → T (below_all name_cmp x cs) → where_key name_cmp (differs x) cs ≡ cs
keep_larger x [] h = refl
keep_larger x (c ∷ cs) h =
    let b = both_true _ _ h in
    ap (λ o. cond (not (is_eq o)) (c ∷ where_key name_cmp (differs x) cs) (where_key name_cmp (differs x) cs)) (less_than (name_cmp x c.0) b.0) ∙ ap (λ s. c ∷ s) (keep_larger x cs b.1)

equal_below : (x : Name) (c : Entry) (cs : Entries) → name_cmp x c.0 ≡ Equal → IsRising (c ∷ cs) → T (below_all name_cmp x cs)
equal_below x c cs e s = subst (λ y. T (below_all name_cmp y cs)) (sym (names_exact x c.0 e)) (both_true _ _ s).0

-- an entry that is there, taken out
pub remove_at_place : (es : Entries) (x : Name) → IsRising es → IsSome (find name_cmp x es) → remove es (place x es) ≡ where_key name_cmp (differs x) es
remove_at_place [] x s some = absurd (none_some some)
remove_at_place (c ∷ cs) x s some =
    elim (name_cmp x c.0) as (λ r. name_cmp x c.0 ≡ r → IsSome (cond (is_eq r) (Some c.1) (find name_cmp x cs)) → remove (c ∷ cs) (by_order r 0 0 (suc (place x cs))) ≡ cond (not (is_eq r)) (c ∷ where_key name_cmp (differs x) cs) (where_key name_cmp (differs x) cs)) [
      | Less ↦ λ e h. absurd (none_some (subst IsSome (find_less x c cs e s) some))
      | Equal ↦ λ e h. sym (keep_larger x cs (equal_below x c cs e s))
      | Greater ↦ λ e h. ap (λ s. c ∷ s) (remove_at_place cs x (both_true _ _ s).1 h)
    ] refl some

-- the value at the place of a name that is there
pub find_at_place : (es : Entries) (x : Name) → IsRising es → IsSome (find name_cmp x es) → (y : Entry) → y ≡ get_or es (place x es) y → find name_cmp x es ≡ Some y.1
find_at_place [] x s some y is = absurd (none_some some)
find_at_place (c ∷ cs) x s some y is =
    elim (name_cmp x c.0) as (λ r. name_cmp x c.0 ≡ r → IsSome (cond (is_eq r) (Some c.1) (find name_cmp x cs)) → y ≡ get_or (c ∷ cs) (by_order r 0 0 (suc (place x cs))) y → cond (is_eq r) (Some c.1) (find name_cmp x cs) ≡ Some y.1) [
      | Less ↦ λ e h is. absurd (none_some (subst IsSome (find_less x c cs e s) some))
      | Equal ↦ λ e h is. ap (λ z. Some z.1) (sym is)
      | Greater ↦ λ e h is. find_at_place cs x (both_true _ _ s).1 h y is
    ] refl some is

pub is_some_of : (o : Option (List ℕ)) (v : List ℕ) → o ≡ Some v → IsSome o
is_some_of o v e = cc

-- ---- lists that are the same so far

both_are : (a b : Bool) → (a && b) ≡ true → (a ≡ true) × (b ≡ true)
both_are true b e = (refl, e)
both_are false b e = cc

pointwise_same : (a b : List ℕ) → pointwise eqb a b ≡ true → a ≡ b
pointwise_same [] [] e = refl
pointwise_same [] (y ∷ b) e = cc
pointwise_same (x ∷ a) [] e = cc
pointwise_same (x ∷ a) (y ∷ b) e = let p = both_are (eqb x y) (pointwise eqb a b) e in cc (eqb-true x y p.0, pointwise_same a b p.1)

not_false : (b : Bool) → false ≡ not b → b ≡ true
not_false true e = refl
not_false false e = cc

pub not_different : (a b : List ℕ) → false ≡ not (pointwise eqb a b) → a ≡ b
not_different a b e = pointwise_same a b (not_false _ e)

pub same_so_far : (these those : Entries) (i : ℕ) (x y : Entry) → take i these ≡ take i those → i < length these → i < length those → x ≡ get_or these i x → y ≡ get_or those i y → x.0 ≡ y.0 → x.1 ≡ y.1 → take (i + 1) these ≡ take (i + 1) those
same_so_far these those i x y so_far h k at-x at-y names values =
    let entries : x ≡ y = λ j. (names j, values j) in
    take_more these i x h
    ∙ ap (λ t. t ++ get_or these i x ∷ []) so_far
    ∙ ap (λ e. take i those ++ e ∷ []) (sym at-x ∙ entries ∙ at-y)
    ∙ sym (take_more those i y k)
