-- Settled paths in path order, and what a search by halves finds there.
use Rattle.std.proofs.Common.{◌≡◌, ℕ, zero, suc, ◌<◌, ◌≤◌, Bool, true, false, cond, not, ◌&&◌, List, [], ◌∷◌, length, get_or, Option, Some, None, inl, inr, refl, sym, ap, ◌∙◌, arith}
use Rattle.std.specs.Cmp.{IsStrictWeakOrder}
use Rattle.std.specs.Ordering.{is_lt, is_eq, ordering_reverse}
use Rattle.std.specs.declared.cmp.Ordering.{Ordering}
use Rattle.std.specs.declared.cmp.Ordering.TheVariants.{Less, Equal, Greater}
use Rattle.std.specs.List.{filter, AllWithin}
use Rattle.std.specs.List.Sorted.{IsPartitionedBy, IsStableBy, ties}
use Rattle.std.proofs.lemmas.Bool.{cases_lt, false≢true}
use Rattle.std.proofs.lemmas.List.{get_or_default}
use Rattle.std.proofs.lemmas.List.Sorted.{ranks_by, sorted_far}
use Rattle.node_base.specs.Path.{Path, path_cmp, paths_total, paths_exact, same_path}
use Rattle.node_base.proofs.PathLemmas.{path_of_same}
use Rattle.node_base.specs.declared.node.Source.{Source}
use Rattle.whole_texts.specs.declared.settled.Settled.{Settled}
use Rattle.whole_texts.specs.Settled.{copied_at, comes_before, AreSorted}
use Rattle.dump_load.proofs.Sorting.{neither}

abbrev pub before : Settled → Settled → Bool
before d e = comes_before d.path e.path

pub by_path : IsStrictWeakOrder before
by_path = ranks_by paths_total (λ (d : Settled). d.path)

-- ---- what a stable sort leaves at each path

-- a settled path
at_path : Path → Settled
at_path p = record { path = p; copied = None }

abbrev first_copied : List Settled → Option (Option Source)
first_copied [] = None
first_copied (d ∷ ds) = Some d.copied

-- what is copied to a path is what the first of those of that path says
first_at : (ds : List Settled) (p : Path) → copied_at ds p ≡ first_copied (filter (λ (d : Settled). same_path d.path p) ds)
first_at [] p = refl
first_at (d ∷ ds) p =
    elim (same_path d.path p) as (λ b. cond b (Some d.copied) (copied_at ds p) ≡ first_copied (cond b (d ∷ filter (λ (e : Settled). same_path e.path p) ds) (filter (λ (e : Settled). same_path e.path p) ds))) [ true ↦ refl | false ↦ first_at ds p ]

pub alike_sorted : (xs ys : List Settled) → IsStableBy before xs ys → (p : Path) → copied_at ys p ≡ copied_at xs p
unfolding at_path
alike_sorted xs ys h p =
    let same : ◌≡◌ {A = Settled → Bool} (ties before (at_path p)) (λ d. same_path d.path p) = λ i d. neither (path_cmp d.path p) (path_cmp p d.path) (paths_total.antisymm d.path p) i in
    first_at ys p
    ∙ ap first_copied (ap (λ (t : Settled → Bool). filter t ys) (sym same) ∙ h (at_path p) ∙ ap (λ (t : Settled → Bool). filter t xs) same)
    ∙ sym (first_at xs p)

-- ---- a search by halves

lt_is : (r : Ordering) → is_lt r ≡ true → r ≡ Less
lt_is Less e = refl
lt_is Equal e = cc
lt_is Greater e = cc

-- what isn't behind what comes before a path comes before it
before_too : (a b p : Path) → comes_before b a ≡ false → comes_before b p ≡ true → comes_before a p ≡ true
before_too a b p h e = at (path_cmp a b) refl
  where
    at : (r : Ordering) → path_cmp a b ≡ r → comes_before a p ≡ true
    at Less f = ap is_lt (paths_total.trans a b p f (lt_is (path_cmp b p) e))
    at Equal f = ap (λ x. comes_before x p) (paths_exact a b f) ∙ e
    at Greater f = absurd (false≢true (sym h ∙ ap is_lt (paths_total.antisymm b a) ∙ ap (λ r. is_lt (ordering_reverse r)) f))

pub parted : (ds : List Settled) (p : Path) → AreSorted ds → IsPartitionedBy (λ (d : Settled). comes_before d.path p) ds
parted ds p up i j d le lt e = before_too (get_or ds i d).path (get_or ds j d).path p (sorted_far before by_path ds up i j d le lt) e

differs : (r : Ordering) → is_lt r ≡ true → is_eq r ≡ false
differs Less e = refl
differs Equal e = cc
differs Greater e = cc

no_index : (G : Type 0) (i : ℕ) → i < 0 → G
no_index G i h = absurd (omega arith)

-- nothing of a path: none
none_at : (ds : List Settled) (p : Path) → ((k : ℕ) (d : Settled) → k < length ds → same_path (get_or ds k d).path p ≡ false) → copied_at ds p ≡ None
none_at [] p h = refl
none_at (d ∷ ds) p h = ap (λ b. cond b (Some d.copied) (copied_at ds p)) (h 0 d (omega arith)) ∙ none_at ds p (λ k e lt. h (suc k) e (omega arith))

-- the first that doesn't come before the path, where it is of the path
one_at : (ds : List Settled) (p : Path) (i : ℕ) (x : Settled) → i < length ds → ((k : ℕ) (d : Settled) → k < i → comes_before (get_or ds k d).path p ≡ true) → same_path (get_or ds i x).path p ≡ true → copied_at ds p ≡ Some (get_or ds i x).copied
one_at [] p i x h less e = no_index _ i h
one_at (d ∷ ds) p zero x h less e = ap (λ b. cond b (Some d.copied) (copied_at ds p)) e
one_at (d ∷ ds) p (suc i) x h less e =
    ap (λ b. cond b (Some d.copied) (copied_at ds p)) (differs (path_cmp d.path p) (less 0 d (omega arith)))
    ∙ one_at ds p i x (omega arith) (λ k f lt. less (suc k) f (omega arith)) e

module _ (ds : List Settled) (p : Path) (i : ℕ) (less : AllWithin (λ (d : Settled). comes_before d.path p ≡ true) ds 0 i) where
  pub found_here : (x : Settled) → i < length ds → x ≡ get_or ds i x → same_path x.path p ≡ true → Some x.copied ≡ copied_at ds p
  found_here x here is e =
      sym (one_at ds p i x here (λ k d lt. less k d (omega arith) lt) (ap (λ (y : Settled). same_path y.path p) (sym is) ∙ e) ∙ ap (λ (y : Settled). Some y.copied) (sym is))

  pub found_past : length ds ≤ i → None ≡ copied_at ds p
  found_past past = sym (none_at ds p (λ k d lt. differs (path_cmp (get_or ds k d).path p) (less k d (omega arith) (omega arith))))

  module _ (up : AreSorted ds) (x : Settled) (here : i < length ds) (is : x ≡ get_or ds i x) (later : comes_before x.path p ≡ false) (other : same_path x.path p ≡ false) where
    -- what is behind it isn't of the path either
    behind : (k : ℕ) (d : Settled) → i ≤ k → k < length ds → same_path (get_or ds k d).path p ≡ false
    behind k d le lt = at (same_path (get_or ds k d).path p) refl
      where
        first : get_or ds i d ≡ x
        first = get_or_default ds i d x here ∙ sym is

        at : (b : Bool) → same_path (get_or ds k d).path p ≡ b → same_path (get_or ds k d).path p ≡ false
        at false e = e
        at true e =
            let not_before : comes_before p x.path ≡ false =
            (λ j. comes_before (sym (path_of_same (get_or ds k d).path p e) j) (sym first j).path)
            ∙ sorted_far before by_path ds up i k d le lt in
            absurd (false≢true (sym other ∙ sym (neither (path_cmp x.path p) (path_cmp p x.path) (paths_total.antisymm x.path p)) ∙ (λ j. not (not_before j) && not (later j))))

    pub found_none : None ≡ copied_at ds p
    found_none = sym (none_at ds p (λ k d lt. at k d lt))
      where
        at : (k : ℕ) (d : Settled) → k < length ds → same_path (get_or ds k d).path p ≡ false
        at k d lt = elim (cases_lt k i) [
          | inl front ↦ differs (path_cmp (get_or ds k d).path p) (less k d (omega arith) front)
          | inr back ↦ behind k d back lt
        ]
