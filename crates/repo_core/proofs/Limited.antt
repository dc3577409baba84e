-- Maps within the limits, and past them.
use Rattle.std.proofs.Common.{◌≡◌, ℕ, ◌<◌, ◌≤◌, Bool, true, false, cond, not, ◌&&◌, T, nat_le, List, [], ◌∷◌, length, Option, Some, None, IfSome, refl, sym, ap, ap₂, subst, ◌∙◌, arith}
use Rattle.std.specs.List.{list_all}
use Rattle.std.specs.FinMap as map
use Rattle.std.specs.FinMap.{find, is_sorted, get-entries, get-insert, entries_sorted}
use Rattle.node_base.specs.Path.{Name, name_cmp, same_name, names_total}
use Rattle.node_base.specs.Entries.{Entries}
use Rattle.node_base.specs.Props.{PropMap, IsProps, is_prop_name, props_fit}
use Rattle.node_base.proofs.EntryLemmas.{both_true, find_absent}
use Rattle.node_base.proofs.PathLemmas.{name_of_same, same_name_itself}
use Rattle.dump_load.specs.Faults.{fault_if}
use Rattle.repo_core.specs.Refusals.{is_short, limit_fault}
use Rattle.repo_core.specs.declared.fault.RepoFault.TheVariants.{TooLong}

abbrev Short : Name → List ℕ → Type 0
Short q v = (length q ≤ 255) × (length v ≤ 65536)

short_one : (e : Name × List ℕ) → Short e.0 e.1 → is_short e ≡ true
short_one e h = grind (arith)

-- the first entry is found at its name
first_found : (e : Name × List ℕ) (es : Entries) → find name_cmp e.0 (e ∷ es) ≡ Some e.1
first_found e es = ap (λ b. cond b (Some e.1) (find name_cmp e.0 es)) (same_name_itself e.0)

each_short : (es : Entries) → T (is_sorted name_cmp es) → ((q : Name) → IfSome (find name_cmp q es) (Short q)) → list_all is_short es ≡ true
each_short [] s h = refl
each_short (e ∷ es) s h =
    let b = both_true _ _ s in
    let first = short_one e (subst (λ o. IfSome o (Short e.0)) (first_found e es) (h e.0)) in
    let rest = each_short es b.1 (λ q. elim (same_name q e.0) as (λ t. same_name q e.0 ≡ t → IfSome (cond t (Some e.1) (find name_cmp q es)) (Short q) → IfSome (find name_cmp q es) (Short q)) [
      | true ↦ λ t i. rw (ap (λ n. find name_cmp n es) (name_of_same q e.0 t), find_absent e.0 es b.0) tt
      | false ↦ λ t i. i
    ] refl (h q)) in
    ap₂ (λ x y. x && y) first rest

weaker : (q : Name) (o : Option (List ℕ)) → IfSome o (λ v. (is_prop_name q ≡ true) × (length q ≤ 255) × (length v ≤ 65536)) → IfSome o (Short q)
weaker q None h = tt
weaker q (Some v) h = (h.1, h.2)

pub props_within : (m : PropMap) → IsProps m → limit_fault m ≡ None
props_within m p =
    let short = each_short (map.entries m) (entries_sorted m) (λ q. subst (λ o. IfSome o (Short q)) (get-entries m q) (weaker q (map.get m q) (p.each q))) in
    ap₂ (λ x y. fault_if (not (x && y)) TooLong) p.fit short

and_false : (a b : Bool) → ((a && false) && b) ≡ false
and_false true b = refl
and_false false b = refl

false_after : (a : Bool) → (a && false) ≡ false
false_after true = refl
false_after false = refl

not_le : (n : ℕ) → 65536 < n → nat_le n 65536 ≡ false
not_le n h = grind (arith)

long_first : (e : Name × List ℕ) (es : Entries) → 65536 < length e.1 → (is_short e && list_all is_short es) ≡ false
long_first e es h = ap (λ b. (nat_le (length e.0) 255 && b) && list_all is_short es) (not_le (length e.1) h) ∙ and_false (nat_le (length e.0) 255) (list_all is_short es)

long_one : (es : Entries) (k : Name) (v : List ℕ) → find name_cmp k es ≡ Some v → 65536 < length v → list_all is_short es ≡ false
long_one [] k v f h = cc
long_one (e ∷ es) k v f h =
    elim (same_name k e.0) as (λ t. cond t (Some e.1) (find name_cmp k es) ≡ Some v → (is_short e && list_all is_short es) ≡ false) [
      | true ↦ λ g. let same : e.1 ≡ v = cc in long_first e es (subst (λ w. 65536 < length w) (sym same) h)
      | false ↦ λ g. ap (λ b. is_short e && b) (long_one es k v g h) ∙ false_after (is_short e)
    ] f

pub long_value : (m : PropMap) (k : Name) (v : List ℕ) → 65536 < length v → limit_fault (map.insert m k v) ≡ Some TooLong
long_value m k v h =
    let there : map.get (map.insert m k v) k ≡ Some v = get-insert names_total m k v k ∙ ap (λ b. cond b (Some v) (map.get m k)) (same_name_itself k) in
    let found : find name_cmp k (map.entries (map.insert m k v)) ≡ Some v = sym (get-entries (map.insert m k v) k) ∙ there in
    ap (λ b. fault_if (not (props_fit (map.insert m k v) && b)) TooLong) (long_one (map.entries (map.insert m k v)) k v found h)
    ∙ ap (λ b. fault_if (not b) TooLong) (false_after (props_fit (map.insert m k v)))

pub too_many : (m : PropMap) → props_fit m ≡ false → limit_fault m ≡ Some TooLong
too_many m h = ap (λ b. fault_if (not (b && list_all is_short (map.entries m))) TooLong) h
