-- What a stable sort by path gives.
use Rattle.std.proofs.Common.{◌≡◌, ℕ, suc, ◌<◌, ◌≤◌, Bool, false, not, ◌&&◌, List, [], ◌∷◌, length, get_or, None, sym, ap, ◌∙◌, arith}
use Rattle.std.specs.Cmp.{IsStrictWeakOrder}
use Rattle.std.specs.Ordering.{is_lt, is_eq, ordering_reverse}
use Rattle.std.specs.declared.cmp.Ordering.{Ordering}
use Rattle.std.specs.declared.cmp.Ordering.TheVariants.{Less, Equal, Greater}
use Rattle.std.specs.List.{filter, AllByRecursion}
use Rattle.std.specs.List.Sorted.{IsSortedBy, IsStableBy, ties}
use Rattle.std.proofs.lemmas.List.Sorted.{ranks_by, sorted_far}
use Rattle.node_base.specs.Path.{Path, path_cmp, paths_total, same_path}
use Rattle.node_base.specs.declared.node.Action.TheVariants.{Modify}
use Rattle.dump_load.specs.declared.change.Change.{Change}
use Rattle.dump_load.specs.Changes.{NoneFalls}
use Rattle.dump_load.specs.Records.{stated_at}

abbrev pub comes_before : Change → Change → Bool
comes_before c d = is_lt (path_cmp c.path d.path)

pub by_path : IsStrictWeakOrder comes_before
by_path = ranks_by paths_total (λ c. c.path)

none_before : (c : Change) (cs : List Change) → ((k : ℕ) → k < length cs → comes_before (get_or cs k c) c ≡ false) → AllByRecursion (λ d. comes_before d c ≡ false) cs
none_before c [] h = tt
none_before c (d ∷ cs) h = (h 0 (omega arith), none_before c cs (λ k p. h (suc k) (omega arith)))

none_falls_far : (cs : List Change) → ((i j : ℕ) (d : Change) → i ≤ j → j < length cs → comes_before (get_or cs j d) (get_or cs i d) ≡ false) → NoneFalls cs
none_falls_far [] h = tt
none_falls_far (c ∷ cs) h = (none_before c cs (λ k p. h 0 (suc k) c (omega arith) (omega arith)), none_falls_far cs (λ i j d p q. h (suc i) (suc j) d (omega arith) (omega arith)))

pub none_falls : (cs : List Change) → IsSortedBy comes_before cs → NoneFalls cs
none_falls cs up = none_falls_far cs (sorted_far comes_before by_path cs up)

pub neither : (r s : Ordering) → r ≡ ordering_reverse s → (not (is_lt s) && not (is_lt r)) ≡ is_eq r
neither r Less e = ap (λ r. not (is_lt Less) && not (is_lt r)) e ∙ sym (ap is_eq e)
neither r Equal e = ap (λ r. not (is_lt Equal) && not (is_lt r)) e ∙ sym (ap is_eq e)
neither r Greater e = ap (λ r. not (is_lt Greater) && not (is_lt r)) e ∙ sym (ap is_eq e)

-- some change of a path
at_path : Path → Change
at_path p = record { path = p; action = Modify; kind = None; source = None; props = None; text = None }

pub stated_stays : (xs ys : List Change) → IsStableBy comes_before xs ys → (p : Path) → stated_at ys p ≡ stated_at xs p
unfolding at_path
stated_stays xs ys h p =
    let same : ◌≡◌ {A = Change → Bool} (ties comes_before (at_path p)) (λ c. same_path c.path p) = λ i c. neither (path_cmp c.path p) (path_cmp p c.path) (paths_total.antisymm c.path p) i in
    ap (λ (t : Change → Bool). filter t ys) (sym same) ∙ h (at_path p) ∙ ap (λ (t : Change → Bool). filter t xs) same
