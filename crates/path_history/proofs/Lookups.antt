-- What a search by halves finds in a set, and how the change that governs a path is found from the path up.
use Rattle.std.proofs.Common.{◌≡◌, ℕ, zero, suc, ◌<◌, ◌≤◌, Bool, true, false, cond, ◌||◌, [], ◌∷◌, ◌++◌, List, length, get_or, Option, Some, None, is_some, inl, inr, refl, sym, ap, subst, ◌∙◌, arith, append-nil}
use Rattle.std.specs.Option.{option_or, option_and_then}
use Rattle.std.specs.Ordering.{is_lt, is_eq, ordering_reverse}
use Rattle.std.specs.declared.cmp.Ordering.{Ordering}
use Rattle.std.specs.declared.cmp.Ordering.TheVariants.{Less, Equal, Greater}
use Rattle.std.specs.List.{AllByRecursion, AllWithin, list_any}
use Rattle.std.specs.List.Sorted.{IsPartitionedBy}
use Rattle.std.proofs.lemmas.Bool.{cases_lt, false≢true}
use Rattle.std.proofs.lemmas.List.{get_or_default}
use Rattle.node_base.specs.Path.{Name, Path, path_cmp, paths_total, same_path, is_front, rest_after}
use Rattle.node_base.proofs.PathLemmas.{path_of_same, same_path_back, rest_after-append, append_of_rest, below_stays_before, later_is_no_front}
use Rattle.dump_load.specs.declared.change.Change.{Change}
use Rattle.dump_load.specs.Changes.{IsNormal, Precedes, settles, change_at, settling, deepest}
use Rattle.dump_load.specs.Deltas.{comes_before}
use Rattle.dump_load.proofs.PathOrder.{greater_differs, less_of}

-- ---- the order of a set

each_at : (P : Change → Type 0) (s : List Change) → AllByRecursion P s → (j : ℕ) (d : Change) → j < length s → P (get_or s j d)
each_at P [] h j d lt = absurd (omega arith)
each_at P (c ∷ s) h zero d lt = h.0
each_at P (c ∷ s) h (suc j) d lt = each_at P s h.1 j d (omega arith)

-- an earlier change has an earlier path
pub rises : (s : List Change) → IsNormal s → (i j : ℕ) (d : Change) → i < j → j < length s → path_cmp (get_or s i d).path (get_or s j d).path ≡ Less
rises [] n i j d lt in' = absurd (omega arith)
rises (c ∷ s) n i zero d lt in' = absurd (omega arith)
rises (c ∷ s) n zero (suc j) d lt in' = (each_at (Precedes c) s n.1 j d (omega arith)).rises
rises (c ∷ s) n (suc i) (suc j) d lt in' = rises s n.2 i j d (omega arith) (omega arith)

lt_is : (r : Ordering) → is_lt r ≡ true → r ≡ Less
lt_is Less e = refl
lt_is Equal e = cc
lt_is Greater e = cc

pub parted : (s : List Change) (p : Path) → IsNormal s → IsPartitionedBy (λ (c : Change). comes_before c.path p) s
parted s p n i j d le lt e = at i j le lt e
  where
    at : (i j : ℕ) → i ≤ j → j < length s → comes_before (get_or s j d).path p ≡ true → comes_before (get_or s i d).path p ≡ true
    at i j le lt e = elim (cases_lt i j) [
      | inl less ↦ ap is_lt (paths_total.trans _ _ p (rises s n i j d less lt) (lt_is _ e))
      | inr back ↦ subst (λ k. comes_before (get_or s k d).path p ≡ true) (omega arith) e
    ]

differs : (r : Ordering) → is_lt r ≡ true → is_eq r ≡ false
differs Less e = refl
differs Equal e = cc
differs Greater e = cc

-- ---- the change of a path

none_at : (s : List Change) (p : Path) → ((k : ℕ) (d : Change) → k < length s → same_path (get_or s k d).path p ≡ false) → change_at s p ≡ None
none_at [] p h = refl
none_at (c ∷ s) p h = ap (λ b. cond b (Some c) (change_at s p)) (h 0 c (omega arith)) ∙ none_at s p (λ k d lt. h (suc k) d (omega arith))

one_at : (s : List Change) (p : Path) (i : ℕ) (x : Change) → i < length s → ((k : ℕ) (d : Change) → k < i → comes_before (get_or s k d).path p ≡ true) → same_path (get_or s i x).path p ≡ true → change_at s p ≡ Some (get_or s i x)
one_at [] p i x h less e = absurd (omega arith)
one_at (c ∷ s) p zero x h less e = ap (λ b. cond b (Some c) (change_at s p)) e
one_at (c ∷ s) p (suc i) x h less e =
    ap (λ b. cond b (Some c) (change_at s p)) (differs (path_cmp c.path p) (less 0 c (omega arith)))
    ∙ one_at s p i x (omega arith) (λ k f lt. less (suc k) f (omega arith)) e

-- ---- what is below a path

no_below : (s : List Change) (p : Path) → ((k : ℕ) (d : Change) → k < length s → is_front p (get_or s k d).path ≡ false) → list_any (λ c. is_front p c.path) s ≡ false
no_below [] p h = refl
no_below (c ∷ s) p h = ap (λ b. b || list_any (λ c. is_front p c.path) s) (h 0 c (omega arith)) ∙ no_below s p (λ k d lt. h (suc k) d (omega arith))

some_below : (s : List Change) (p : Path) (i : ℕ) (d : Change) → i < length s → is_front p (get_or s i d).path ≡ true → list_any (λ c. is_front p c.path) s ≡ true
some_below [] p i d lt e = absurd (omega arith)
some_below (c ∷ s) p zero d lt e = ap (λ b. b || list_any (λ c. is_front p c.path) s) e
some_below (c ∷ s) p (suc i) d lt e = ap (λ b. is_front p c.path || b) (some_below s p i d (omega arith) e) ∙ or_true (is_front p c.path)
  where
    or_true : (b : Bool) → (b || true) ≡ true
    or_true true = refl
    or_true false = refl

front_none : (p q : Path) → rest_after p q ≡ None → is_front p q ≡ false
front_none p q e = ap is_some e

-- what comes before a path isn't below it
before_is_out : (p q : Path) → comes_before q p ≡ true → is_front p q ≡ false
before_is_out p q e = front_none p q (later_is_no_front p q (lt_is _ e))

pub is_front-self : (p : Path) → is_front p p ≡ true
is_front-self p = ap is_some (ap (rest_after p) (sym (append-nil p)) ∙ rest_after-append p [])

never_both : (p q : Path) → path_cmp p q ≡ Less → path_cmp q p ≡ Less → ⊥
never_both p q e f = at (path_cmp p q) (paths_total.antisymm q p) e f
  where
    at : (r : Ordering) → path_cmp q p ≡ ordering_reverse r → r ≡ Less → path_cmp q p ≡ Less → ⊥
    at Less h e f = cc
    at Equal h e f = cc
    at Greater h e f = cc

-- where the first path that doesn't come before p isn't below p, no later one is
later_is_out : (p q r : Path) → comes_before q p ≡ false → is_front p q ≡ false → path_cmp q r ≡ Less → is_front p r ≡ false
later_is_out p q r before out later = at (rest_after p r) refl
  where
    differ : (b : Bool) → same_path p q ≡ b → same_path p q ≡ false
    differ false e = e
    differ true e = absurd (false≢true (sym out ∙ ap (is_front p) (sym (path_of_same p q e)) ∙ is_front-self p))

    at : (o : Option Path) → rest_after p r ≡ o → is_front p r ≡ false
    at None e = ap is_some e
    at (Some t) e =
        let less : path_cmp p q ≡ Less = less_of p q before (differ _ refl) in
        let below : path_cmp r q ≡ Less = ap (λ x. path_cmp x q) (append_of_rest p r t e) ∙ below_stays_before p q t less out in
        absurd (never_both q r later below)

module _ (s : List Change) (p : Path) (i : ℕ) (less : AllWithin (λ (c : Change). comes_before c.path p ≡ true) s 0 i) where
  pub found_here : (x : Change) → i < length s → x ≡ get_or s i x → same_path x.path p ≡ true → Some x ≡ change_at s p
  found_here x here is e = sym (one_at s p i x here (λ k d lt. less k d (omega arith) lt) (ap (λ (y : Change). same_path y.path p) (sym is) ∙ e) ∙ ap Some (sym is))

  pub found_past : length s ≤ i → None ≡ change_at s p
  found_past past = sym (none_at s p (λ k d lt. differs (path_cmp (get_or s k d).path p) (less k d (omega arith) (omega arith))))

  pub below_past : length s ≤ i → false ≡ list_any (λ c. is_front p c.path) s
  below_past past = sym (no_below s p (λ k d lt. before_is_out p (get_or s k d).path (less k d (omega arith) (omega arith))))

  module _ (n : IsNormal s) (x : Change) (here : i < length s) (is : x ≡ get_or s i x) (later : comes_before x.path p ≡ false) where
    at_place : (d : Change) → get_or s i d ≡ x
    at_place d = get_or_default s i d x here ∙ sym is

    -- what stands behind the place comes after it
    after : (k : ℕ) (d : Change) → i < k → k < length s → path_cmp x.path (get_or s k d).path ≡ Less
    after k d lt in' = ap (λ (y : Change). path_cmp y.path (get_or s k d).path) (sym (at_place d)) ∙ rises s n i k d lt in'

    -- each change comes before the path, or is the one at the place, or comes after that one
    each : (P : Change → Type 0) → ((c : Change) → comes_before c.path p ≡ true → P c) → P x → ((c : Change) → path_cmp x.path c.path ≡ Less → P c) → (k : ℕ) (d : Change) → k < length s → P (get_or s k d)
    each P before own behind k d lt = elim (cases_lt k i) [
      | inl front ↦ before _ (less k d (omega arith) front)
      | inr back ↦ elim (cases_lt i k) [
        | inl far ↦ behind _ (after k d far lt)
        | inr same ↦ subst P (sym (at_place d) ∙ ap (λ m. get_or s m d) (omega arith)) own
      ]
    ]

    pub found_none : same_path x.path p ≡ false → None ≡ change_at s p
    found_none other = sym (none_at s p (each (λ (c : Change). same_path c.path p ≡ false) (λ c b. differs _ b) other (λ c later'. behind c later')))
      where
        before_p : path_cmp p x.path ≡ Less
        before_p = less_of p x.path later (same_path_back p x.path ∙ other)

        behind : (c : Change) → path_cmp x.path c.path ≡ Less → same_path c.path p ≡ false
        behind c e = greater_differs p c.path (paths_total.trans p x.path c.path before_p e)

    pub below_is : is_front p x.path ≡ list_any (λ c. is_front p c.path) s
    below_is = at (is_front p x.path) refl
      where
        at : (b : Bool) → is_front p x.path ≡ b → is_front p x.path ≡ list_any (λ c. is_front p c.path) s
        at true e = e ∙ sym (some_below s p i x here (ap (λ (y : Change). is_front p y.path) (sym is) ∙ e))
        at false e = e ∙ sym (no_below s p (each (λ (c : Change). is_front p c.path ≡ false) (λ c b. before_is_out p c.path b) e (λ c l. later_is_out p x.path c.path later e l)))

-- ---- the change that governs a path

-- no later change settles the path of an earlier one
settled_once : (c : Change) (s : List Change) (p : Path) → same_path c.path p ≡ true → AllByRecursion (Precedes c) s → change_at (settling s) p ≡ None
settled_once c [] p e h = refl
settled_once c (d ∷ s) p e h =
    elim (settles d.action) as (λ b. change_at (cond b (d ∷ settling s) (settling s)) p ≡ None) [
      | true ↦ ap (λ b. cond b (Some d) (change_at (settling s) p)) (ap (same_path d.path) (sym (path_of_same c.path p e)) ∙ greater_differs c.path d.path h.0.rises) ∙ settled_once c s p e h.1
      | false ↦ settled_once c s p e h.1
    ]

abbrev pub if_settles : Change → Option Change
if_settles c = cond (settles c.action) (Some c) None

-- in a set, the change that settles a path is the change of the path, if that settles it
pub settling_is : (s : List Change) → IsNormal s → (p : Path) → change_at (settling s) p ≡ option_and_then if_settles (change_at s p)
settling_is [] n p = refl
settling_is (c ∷ s) n p = at (settling_is s n.2 p) (same_path c.path p) refl
  where
    at : change_at (settling s) p ≡ option_and_then if_settles (change_at s p) → (b : Bool) → same_path c.path p ≡ b → change_at (settling (c ∷ s)) p ≡ option_and_then if_settles (change_at (c ∷ s) p)
    at below true e =
        elim (settles c.action) as (λ b. change_at (cond b (c ∷ settling s) (settling s)) p ≡ cond b (Some c) None) [
          | true ↦ ap (λ b. cond b (Some c) (change_at (settling s) p)) e
          | false ↦ settled_once c s p e n.1
        ]
        ∙ ap (λ b. option_and_then if_settles (cond b (Some c) (change_at s p))) (sym e)
    at below false e =
        elim (settles c.action) as (λ b. change_at (cond b (c ∷ settling s) (settling s)) p ≡ change_at (settling s) p) [
          | true ↦ ap (λ b. cond b (Some c) (change_at (settling s) p)) e
          | false ↦ refl
        ]
        ∙ below
        ∙ ap (λ b. option_and_then if_settles (cond b (Some c) (change_at s p))) (sym e)

pub settle_read : (s : List Change) → IsNormal s → (p : Path) (o : Option Change) → o ≡ change_at s p → option_and_then if_settles o ≡ change_at (settling s) p
settle_read s n p o e = ap (option_and_then if_settles) e ∙ sym (settling_is s n p)

or_assoc : {A : Type 0} (a b c : Option A) → option_or (option_or a b) c ≡ option_or a (option_or b c)
or_assoc None b c = refl
or_assoc (Some x) b c = refl

-- what is found at the deepest front is what is found at the path, and else at the deepest front of what is above it
pub deepest_end : {A : Type 0} (f : Path → Option A) (p : Path) (n : Name) → deepest f (p ++ n ∷ []) ≡ option_or (f (p ++ n ∷ [])) (deepest f p)
deepest_end f [] n = refl
deepest_end f (m ∷ p) n =
    ap (λ o. option_or o (f [])) (deepest_end (λ q. f (m ∷ q)) p n)
    ∙ or_assoc (f (m ∷ (p ++ n ∷ []))) (deepest (λ q. f (m ∷ q)) p) (f [])

pub found_first : {A : Type 0} (f : Path → Option A) (p : Path) (x : A) → Some x ≡ f p → Some x ≡ deepest f p
found_first f [] x e = e
found_first f (n ∷ p) x e = ap (λ o. option_or o (f [])) (found_first (λ q. f (n ∷ q)) p x e)

pub found_above : {A : Type 0} (f : Path → Option A) (p q : Path) (n : Name) (o : Option A) → p ≡ q ++ n ∷ [] → None ≡ f p → o ≡ deepest f q → o ≡ deepest f p
found_above f p q n o is none e =
    e
    ∙ ap (λ x. option_or x (deepest f q)) (none ∙ ap f is)
    ∙ sym (deepest_end f q n)
    ∙ ap (deepest f) (sym is)
