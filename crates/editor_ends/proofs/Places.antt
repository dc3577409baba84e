-- What a search by halves finds among changes in path order.
use Rattle.std.proofs.Common.{◌≡◌, ℕ, zero, suc, ◌<◌, ◌≤◌, List, [], ◌∷◌, ◌++◌, length, take, drop, get_or, Result, Ok, Err, ◌⊎◌, inl, inr, refl, sym, ap, subst, ◌∙◌, ◌+◌, arith, not, false}
use Rattle.std.specs.Option.{option_map_or}
use Rattle.std.specs.List.{AllByRecursion}
use Rattle.std.specs.declared.cmp.Ordering.{Ordering}
use Rattle.std.specs.declared.cmp.Ordering.TheVariants.{Less, Equal, Greater}
use Rattle.std.specs.Ordering.{ordering_reverse, ordering_index}
use Rattle.std.specs.List.Sorted.{IsSearchInRange, IsBinarySearchResult, IsNonDecreasingBy}
use Rattle.std.proofs.lemmas.Bool.{cases_lt}
use Rattle.std.proofs.lemmas.Option.{get_or_from_slice_get}
use Rattle.std.proofs.lemmas.List.{take-append-drop, take-set, drop-set}
use Rattle.std.proofs.Common.{add-one, drop-cons}
use Rattle.node_base.specs.Path.{Path, path_cmp, paths_total, paths_exact}
use Rattle.dump_load.specs.declared.change.Change.{Change}
use Rattle.dump_load.specs.Changes.{IsNormal, Precedes, is_delete}
use Rattle.dump_load.proofs.Again.{order_of}
use Rattle.dump_load.proofs.Moved.{at_own_path}
use Rattle.editor_ends.specs.Built.{Placed, is_taken}

turned : (x y : Path) (r : Ordering) → path_cmp y x ≡ r → path_cmp x y ≡ ordering_reverse r
turned x y r e = paths_total.antisymm x y ∙ ap ordering_reverse e

less_or_same : (i j : ℕ) → i ≤ j → (i < j) ⊎ (i ≡ j)
less_or_same i j h = elim (cases_lt i j) [ inl lt ↦ inl lt | inr ge ↦ inr (omega arith) ]

no_index : (G : Type 0) (i : ℕ) → i < 0 → G
no_index G i h = absurd (omega arith)

index_rises : (a b x : Path) → path_cmp a b ≡ Less → ordering_index (path_cmp a x) ≤ ordering_index (path_cmp b x)
index_rises a b x lt =
    elim (path_cmp b x) as (λ r. path_cmp b x ≡ r → ordering_index (path_cmp a x) ≤ ordering_index r) [
      | Less ↦ λ e. subst (λ r. ordering_index r ≤ 0) (sym (paths_total.trans a b x lt e)) (omega arith)
      | Equal ↦ λ e. subst (λ y. ordering_index (path_cmp a y) ≤ 1) (paths_exact b x e) (subst (λ r. ordering_index r ≤ 1) (sym lt) (omega arith))
      | Greater ↦ λ e. at_most (path_cmp a x)
    ] refl
  where
    at_most : (r : Ordering) → ordering_index r ≤ 2
    at_most Less = omega arith
    at_most Equal = omega arith
    at_most Greater = omega arith

below_at : (c : Change) (s : List Change) (d : Change) → AllByRecursion (Precedes c) s → (j : ℕ) → j < length s → path_cmp c.path (get_or s j d).path ≡ Less
below_at c [] d h j lt = no_index _ j lt
below_at c (e ∷ s) d h zero lt = h.0.rises
below_at c (e ∷ s) d h (suc j) lt = below_at c s d h.1 j (omega arith)

rises_at : (s : List Change) (d : Change) → IsNormal s → (i j : ℕ) → i < j → j < length s → path_cmp (get_or s i d).path (get_or s j d).path ≡ Less
rises_at [] d n i j lt in_range = no_index _ j in_range
rises_at (c ∷ s) d n i zero lt in_range = no_index _ i lt
rises_at (c ∷ s) d n zero (suc j) lt in_range = below_at c s d n.1 j (omega arith)
rises_at (c ∷ s) d n (suc i) (suc j) lt in_range = rises_at s d n.2 i j (omega arith) (omega arith)

rising : (s : List Change) (p : Path) → IsNormal s → IsNonDecreasingBy (λ (c : Change). ordering_index (path_cmp c.path p)) s
rising s p n i j d le in_range =
    elim (less_or_same i j le) [
      | inl lt ↦ index_rises (get_or s i d).path (get_or s j d).path p (rises_at s d n i j lt in_range)
      | inr e ↦ subst (λ k. ordering_index (path_cmp (get_or s i d).path p) ≤ ordering_index (path_cmp (get_or s k d).path p)) e (omega arith)
    ]

all_take : (P : Change → Type 0) (s : List Change) (d : Change) (i : ℕ) → i ≤ length s → ((j : ℕ) → j < i → P (get_or s j d)) → AllByRecursion P (take i s)
all_take P s d zero le h = tt
all_take P [] d (suc i) le h = tt
all_take P (c ∷ s) d (suc i) le h = (h 0 (omega arith), all_take P s d i (omega arith) (λ j lt. h (suc j) (omega arith)))

all_drop : (P : Change → Type 0) (s : List Change) (d : Change) (i : ℕ) → ((j : ℕ) → i ≤ j → j < length s → P (get_or s j d)) → AllByRecursion P (drop i s)
all_drop P [] d zero h = tt
all_drop P [] d (suc i) h = tt
all_drop P (c ∷ s) d zero h = (h 0 (omega arith) (omega arith), all_drop P s d zero (λ j le lt. h (suc j) (omega arith) (omega arith)))
all_drop P (c ∷ s) d (suc i) h = all_drop P s d i (λ j le lt. h (suc j) (omega arith) (omega arith))

pub placed : (s : List Change) (p : Path) (r : Result ℕ ℕ) → IsSearchInRange r (length s) → IsBinarySearchResult (λ (c : Change). path_cmp c.path p) s r → IsNormal s → Placed s p r
placed [] p (Ok i) range answer n = no_index _ i range
placed (c ∷ s) p (Ok i) range answer n = λ d e. paths_exact d.path p (ap (λ (x : Change). path_cmp x.path p) (sym (get_or_from_slice_get (c ∷ s) i d c e)) ∙ answer c)
placed [] p (Err i) range answer n = (let e : i ≡ 0 = omega (arith, range) in subst (λ k. AllByRecursion (λ (c : Change). path_cmp c.path p ≡ Less) (take k []) × AllByRecursion (λ (c : Change). path_cmp p c.path ≡ Less) (drop k [])) (sym e) (tt, tt))
placed (c ∷ s) p (Err i) range answer n =
    let parted = answer (rising (c ∷ s) p n) in (
      all_take (λ (x : Change). path_cmp x.path p ≡ Less) (c ∷ s) c i range (λ j lt. parted.0 j c (omega (arith, range)) lt),
      all_drop (λ (x : Change). path_cmp p x.path ≡ Less) (c ∷ s) c i (λ j ge lt. turned p (get_or (c ∷ s) j c).path Greater (parted.1 j c ge lt)),
    )

-- ---- the change at a place

pub split_at : (s : List Change) (i : ℕ) (c : Change) → i < length s → c ≡ get_or s i c → s ≡ take i s ++ c ∷ drop (i + 1) s
split_at s i c here is = sym (take-append-drop i s) ∙ ap (λ r. take i s ++ r) (rw (add-one i) (drop-cons s i c here ∙ ap (λ y. y ∷ drop (suc i) s) (sym is)))

pub set_at : (s : List Change) (i : ℕ) (c : Change) → i < length s → Rattle.std.specs.Prelude.slice_set s i c ≡ take i s ++ c ∷ drop (i + 1) s
set_at s i c here = sym (take-append-drop i (Rattle.std.specs.Prelude.slice_set s i c)) ∙ (λ k. take-set s i c k ++ drop-set s i c here k)

pub taken_at : (front rest : List Change) (c : Change) → IsNormal (front ++ c ∷ rest) → is_taken (front ++ c ∷ rest) c.path ≡ not (is_delete c.action)
taken_at front rest c n = ap (λ o. option_map_or (λ (x : Change). not (is_delete x.action)) o false) (at_own_path front rest c (order_of (front ++ c ∷ rest) n))
