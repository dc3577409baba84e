-- The lists that deltas make.
use Rattle.std.proofs.Common.{◌≡◌, ℕ, ◌+◌, ◌<◌, ◌≤◌, Bool, true, false, cond, not, List, [], ◌∷◌, ◌++◌, length, drop, get_or, nat_le, Some, None, refl, sym, ap, subst, ◌∙◌, arith}
use Rattle.std.proofs.lemmas.List.{drop_more}
use Rattle.std.specs.Bool.{if◌then◌else◌}
use Rattle.std.specs.Option.{option_or, is_some}
use Rattle.std.specs.FinMap as map
use Rattle.std.specs.FinMap.{find, entries_sorted, get-entries, get-from_entries, get-insert, get-remove, same_map}
use Rattle.node_base.specs.Path.{Name, name_cmp, names_total, names_exact, same_name}
use Rattle.node_base.specs.Entries.{Entries, IsRising}
use Rattle.node_base.specs.Props.{PropMap, is_sync, sync_part, without_sync, props_fit}
use Rattle.node_base.specs.PropDeltas.{put_over, IsDeltaFault}
use Rattle.node_base.specs.declared.prop_fault.PropFault.{PropFault}
use Rattle.node_base.specs.declared.prop_fault.PropFault.TheVariants.{TooLong, OutOfMemory}
use Rattle.node_base.proofs.PathLemmas.{name_of_same}
use Rattle.node_base.proofs.EntryLemmas.{both_true, find_absent}
use Rattle.node_base.proofs.CopiedProps.{find-joined}
use Rattle.node_base.proofs.PropLemmas.{none_kept, len_with, both_of, le_still, dropped_all}

-- ---- names taken out, one after another

abbrev pub without : Entries → PropMap → PropMap
without [] m = m
without (e ∷ es) m = without es (map.remove m e.0)

pub get-without : (es : Entries) (m : PropMap) (q : Name) → map.get (without es m) q ≡ cond (is_some (find name_cmp q es)) None (map.get m q)
get-without [] m q = refl
get-without (e ∷ es) m q =
    get-without es (map.remove m e.0) q
    ∙ ap (cond (is_some (find name_cmp q es)) None) (get-remove names_total m e.0 q)
    ∙ elim (same_name q e.0) as (λ b. cond (is_some (find name_cmp q es)) None (cond b None (map.get m q)) ≡ cond (is_some (cond b (Some e.1) (find name_cmp q es))) None (map.get m q)) [
      | true ↦ none_kept (is_some (find name_cmp q es))
      | false ↦ refl
    ]

-- ---- properties put, one after another

abbrev pub put_list : Entries → PropMap → PropMap
put_list [] m = m
put_list (e ∷ es) m = put_list es (map.insert m e.0 e.1)

get-put_list : (es : Entries) (m : PropMap) (q : Name) → IsRising es → map.get (put_list es m) q ≡ option_or (find name_cmp q es) (map.get m q)
get-put_list [] m q s = refl
get-put_list (e ∷ es) m q s =
    let b = both_true _ _ s in
    get-put_list es (map.insert m e.0 e.1) q b.1
    ∙ ap (option_or (find name_cmp q es)) (get-insert names_total m e.0 e.1 q)
    ∙ elim (same_name q e.0) as (λ t. same_name q e.0 ≡ t → option_or (find name_cmp q es) (cond t (Some e.1) (map.get m q)) ≡ option_or (cond t (Some e.1) (find name_cmp q es)) (map.get m q)) [
      | true ↦ λ t.
          let absent : find name_cmp q es ≡ None = ap (λ n. find name_cmp n es) (name_of_same q e.0 t) ∙ find_absent e.0 es b.0 in
          ap (λ o. option_or o (Some e.1)) absent
      | false ↦ λ t. refl
    ] refl

put_list_is : (sets m : PropMap) → put_list (map.entries sets) m ≡ put_over sets m
put_list_is sets m =
    same_map names_total names_exact _ _ (λ q.
    get-put_list (map.entries sets) m q (entries_sorted sets)
    ∙ ap (option_or (find name_cmp q (map.entries sets))) (get-entries m q)
    ∙ sym (get-from_entries names_total (map.entries sets ++ map.entries m) q ∙ find-joined q (map.entries sets) (map.entries m)))

pub all_put : (sets : PropMap) (es : Entries) (list start : PropMap) (i : ℕ) → es ≡ map.entries sets → length es ≤ i → put_list (drop i es) list ≡ put_list es start → list ≡ put_over sets start
all_put sets es list start i is h e = ap (λ x. put_list x list) (sym (dropped_all es i h)) ∙ e ∙ ap (λ x. put_list x start) is ∙ put_list_is sets start

-- ---- the limits: what is put never makes a list shorter

no_fewer : (a b : Bool) (n r : ℕ) → r ≡ cond a (cond b n (n + 1)) n → n ≤ r
no_fewer true true n r e = omega arith
no_fewer true false n r e = omega arith
no_fewer false b n r e = omega arith

fits_before : (m : PropMap) (k : Name) (v : List ℕ) → props_fit (map.insert m k v) ≡ true → props_fit m ≡ true
fits_before m k v fit =
    let e = both_of _ _ fit in
    let others : nat_le (map.len (without_sync m)) 256 ≡ true = le_still _ _ 256 (no_fewer (not (is_sync k)) (map.contains_key m k) _ _ (len_with m (λ n. not (is_sync n)) k v)) e.0 in
    let syncs : nat_le (map.len (sync_part m)) 16 ≡ true = le_still _ _ 16 (no_fewer (is_sync k) (map.contains_key m k) _ _ (len_with m is_sync k v)) e.1 in
    rw (others, syncs) refl

all_fit_before : (es : Entries) (m : PropMap) → props_fit (put_list es m) ≡ true → props_fit m ≡ true
all_fit_before [] m fit = fit
all_fit_before (e ∷ es) m fit = fits_before m e.0 e.1 (all_fit_before es (map.insert m e.0 e.1) fit)

clash : (b : Bool) → b ≡ true → b ≡ false → ⊥
clash true t f = cc
clash false t f = cc

still_over : (es : Entries) (m : PropMap) → props_fit m ≡ false → props_fit (put_list es m) ≡ false
still_over es m over =
    elim (props_fit (put_list es m)) as (λ b. props_fit (put_list es m) ≡ b → b ≡ false) [
      | true ↦ λ t. absurd (clash _ (all_fit_before es m t) over)
      | false ↦ λ t. refl
    ] refl

-- why a property isn't put tells of the whole list
pub put_refused : (sets : PropMap) (es : Entries) (list start : PropMap) (i : ℕ) (x : Name × List ℕ) (name value : List ℕ) (e : PropFault) → es ≡ map.entries sets → i < length es → x ≡ get_or es i x → name ≡ x.0 → value ≡ x.1 → put_list (drop i es) list ≡ put_list es start → e ≡ (if props_fit (map.insert list name value) then OutOfMemory else TooLong) → IsDeltaFault e (put_over sets start)
put_refused sets es list start i x name value e is here at names values so_far fault =
    let rest : drop i es ≡ (name, value) ∷ drop (i + 1) es = drop_more es i x here ∙ ap (λ y. y ∷ drop (i + 1) es) (sym at ∙ (λ j. (sym names j, sym values j))) in
    let whole : put_over sets start ≡ put_list (drop (i + 1) es) (map.insert list name value) = sym (put_list_is sets start) ∙ ap (λ y. put_list y start) (sym is) ∙ sym so_far ∙ ap (λ y. put_list y list) rest in
    elim (props_fit (map.insert list name value)) as (λ b. props_fit (map.insert list name value) ≡ b → e ≡ (if b then OutOfMemory else TooLong) → IsDeltaFault e (put_over sets start)) [
      | true ↦ λ t f. subst (λ y. IsDeltaFault y (put_over sets start)) (sym f) tt
      | false ↦ λ t f. subst (λ y. IsDeltaFault y (put_over sets start)) (sym f) (ap props_fit whole ∙ still_over (drop (i + 1) es) (map.insert list name value) t)
    ] refl fault
