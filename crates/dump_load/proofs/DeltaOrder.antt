-- Deltas in path order, and what a search by halves finds there.
use Rattle.std.proofs.Common.{◌≡◌, ℕ, zero, suc, ◌<◌, ◌≤◌, Bool, true, false, cond, not, ◌&&◌, [], ◌∷◌, length, get_or, Option, Some, None, inl, inr, refl, sym, ap, ◌∙◌, arith}
use Rattle.std.specs.Cmp.{IsStrictWeakOrder}
use Rattle.std.specs.Ordering.{is_lt, is_eq, ordering_reverse}
use Rattle.std.specs.declared.cmp.Ordering.{Ordering}
use Rattle.std.specs.declared.cmp.Ordering.TheVariants.{Less, Equal, Greater}
use Rattle.std.specs.FinMap as finite
use Rattle.std.specs.List.{filter, AllWithin}
use Rattle.std.specs.List.Sorted.{IsPartitionedBy, IsStableBy, ties}
use Rattle.std.proofs.lemmas.Bool.{cases_lt, false≢true}
use Rattle.std.proofs.lemmas.List.{get_or_default}
use Rattle.std.proofs.lemmas.List.Sorted.{ranks_by, sorted_far}
use Rattle.node_base.specs.Path.{Path, path_cmp, paths_total, paths_exact, same_path}
use Rattle.node_base.proofs.PathLemmas.{path_of_same}
use Rattle.node_base.specs.declared.prop_delta.PropDelta.{PropDelta}
use Rattle.dump_load.specs.Deltas.{Deltas, delta_at, comes_before, AreSorted}
use Rattle.dump_load.proofs.Sorting.{neither}

abbrev pub Entry : Type 0
Entry = Path × PropDelta

abbrev pub before : Entry → Entry → Bool
before d e = comes_before d.0 e.0

pub by_path : IsStrictWeakOrder before
by_path = ranks_by paths_total (λ (d : Entry). d.0)

-- ---- what a stable sort leaves at each path

-- some delta of a path
at_path : Path → Entry
at_path p = (p, record { sets = finite.empty; removed = finite.empty })

abbrev first_delta : Deltas → Option PropDelta
first_delta [] = None
first_delta (d ∷ ds) = Some d.1

-- the delta of a path is the first of those of that path
first_at : (ds : Deltas) (p : Path) → delta_at ds p ≡ first_delta (filter (λ (d : Entry). same_path d.0 p) ds)
first_at [] p = refl
first_at (d ∷ ds) p =
    elim (same_path d.0 p) as (λ b. cond b (Some d.1) (delta_at ds p) ≡ first_delta (cond b (d ∷ filter (λ (e : Entry). same_path e.0 p) ds) (filter (λ (e : Entry). same_path e.0 p) ds))) [ true ↦ refl | false ↦ first_at ds p ]

pub alike_sorted : (xs ys : Deltas) → IsStableBy before xs ys → (p : Path) → delta_at ys p ≡ delta_at xs p
unfolding at_path
alike_sorted xs ys h p =
    let same : ◌≡◌ {A = Entry → Bool} (ties before (at_path p)) (λ d. same_path d.0 p) = λ i d. neither (path_cmp d.0 p) (path_cmp p d.0) (paths_total.antisymm d.0 p) i in
    first_at ys p
    ∙ ap first_delta (ap (λ (t : Entry → Bool). filter t ys) (sym same) ∙ h (at_path p) ∙ ap (λ (t : Entry → Bool). filter t xs) same)
    ∙ sym (first_at xs p)

-- ---- a search by halves

lt_is : (r : Ordering) → is_lt r ≡ true → r ≡ Less
lt_is Less e = refl
lt_is Equal e = cc
lt_is Greater e = cc

-- what isn't behind what comes before a path comes before it
before_too : (a b p : Path) → comes_before b a ≡ false → comes_before b p ≡ true → comes_before a p ≡ true
before_too a b p h e = at (path_cmp a b) refl
  where
    at : (r : Ordering) → path_cmp a b ≡ r → comes_before a p ≡ true
    at Less f = ap is_lt (paths_total.trans a b p f (lt_is (path_cmp b p) e))
    at Equal f = ap (λ x. comes_before x p) (paths_exact a b f) ∙ e
    at Greater f = absurd (false≢true (sym h ∙ ap is_lt (paths_total.antisymm b a) ∙ ap (λ r. is_lt (ordering_reverse r)) f))

pub parted : (ds : Deltas) (p : Path) → AreSorted ds → IsPartitionedBy (λ (d : Entry). comes_before d.0 p) ds
parted ds p up i j d le lt e = before_too (get_or ds i d).0 (get_or ds j d).0 p (sorted_far before by_path ds up i j d le lt) e

differs : (r : Ordering) → is_lt r ≡ true → is_eq r ≡ false
differs Less e = refl
differs Equal e = cc
differs Greater e = cc

no_index : (G : Type 0) (i : ℕ) → i < 0 → G
no_index G i h = absurd (omega arith)

-- nothing of a path: none
none_at : (ds : Deltas) (p : Path) → ((k : ℕ) (d : Entry) → k < length ds → same_path (get_or ds k d).0 p ≡ false) → delta_at ds p ≡ None
none_at [] p h = refl
none_at (d ∷ ds) p h = ap (λ b. cond b (Some d.1) (delta_at ds p)) (h 0 d (omega arith)) ∙ none_at ds p (λ k e lt. h (suc k) e (omega arith))

-- the first that doesn't come before the path, where it is of the path
one_at : (ds : Deltas) (p : Path) (i : ℕ) (x : Entry) → i < length ds → ((k : ℕ) (d : Entry) → k < i → comes_before (get_or ds k d).0 p ≡ true) → same_path (get_or ds i x).0 p ≡ true → delta_at ds p ≡ Some (get_or ds i x).1
one_at [] p i x h less e = no_index _ i h
one_at (d ∷ ds) p zero x h less e = ap (λ b. cond b (Some d.1) (delta_at ds p)) e
one_at (d ∷ ds) p (suc i) x h less e =
    ap (λ b. cond b (Some d.1) (delta_at ds p)) (differs (path_cmp d.0 p) (less 0 d (omega arith)))
    ∙ one_at ds p i x (omega arith) (λ k f lt. less (suc k) f (omega arith)) e

module _ (ds : Deltas) (p : Path) (i : ℕ) (less : AllWithin (λ (d : Entry). comes_before d.0 p ≡ true) ds 0 i) where
  pub found_here : (x : Entry) → i < length ds → x ≡ get_or ds i x → same_path x.0 p ≡ true → Some x.1 ≡ delta_at ds p
  found_here x here is e =
      sym (one_at ds p i x here (λ k d lt. less k d (omega arith) lt) (ap (λ (y : Entry). same_path y.0 p) (sym is) ∙ e) ∙ ap (λ (y : Entry). Some y.1) (sym is))

  pub found_past : length ds ≤ i → None ≡ delta_at ds p
  found_past past = sym (none_at ds p (λ k d lt. differs (path_cmp (get_or ds k d).0 p) (less k d (omega arith) (omega arith))))

  module _ (up : AreSorted ds) (x : Entry) (here : i < length ds) (is : x ≡ get_or ds i x) (later : comes_before x.0 p ≡ false) (other : same_path x.0 p ≡ false) where
    -- what is behind it isn't of the path either
    behind : (k : ℕ) (d : Entry) → i ≤ k → k < length ds → same_path (get_or ds k d).0 p ≡ false
    behind k d le lt = at (same_path (get_or ds k d).0 p) refl
      where
        first : get_or ds i d ≡ x
        first = get_or_default ds i d x here ∙ sym is

        at : (b : Bool) → same_path (get_or ds k d).0 p ≡ b → same_path (get_or ds k d).0 p ≡ false
        at false e = e
        at true e =
            let not_before : comes_before p x.0 ≡ false =
            (λ j. comes_before (sym (path_of_same (get_or ds k d).0 p e) j) (sym first j).0)
            ∙ sorted_far before by_path ds up i k d le lt in
            absurd (false≢true (sym other ∙ sym (neither (path_cmp x.0 p) (path_cmp p x.0) (paths_total.antisymm x.0 p)) ∙ (λ j. not (not_before j) && not (later j))))

    pub found_none : None ≡ delta_at ds p
    found_none = sym (none_at ds p (λ k d lt. at k d lt))
      where
        at : (k : ℕ) (d : Entry) → k < length ds → same_path (get_or ds k d).0 p ≡ false
        at k d lt = elim (cases_lt k i) [
          | inl front ↦ differs (path_cmp (get_or ds k d).0 p) (less k d (omega arith) front)
          | inr back ↦ behind k d back lt
        ]
