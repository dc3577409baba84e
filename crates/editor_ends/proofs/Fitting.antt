-- Property maps whose names are all in another map.
use Rattle.std.proofs.Common.{◌≡◌, ℕ, ◌-◌, ◌≤◌, ◌<◌, ◌⊎◌, inl, inr, Bool, true, false, cond, not, ◌&&◌, List, [], ◌∷◌, length, Some, None, is_some, refl, sym, ap, subst, ◌∙◌, arith, nat_le}
use Rattle.std.proofs.lemmas.Bool.{cases_lt}
use Rattle.std.proofs.lemmas.Bool.Decides.{nat_tests}
use Rattle.std.specs.FinMap as finite
use Rattle.std.specs.FinMap.{get, get-entries, get-insert, get-remove, get-empty, entries, entries_sorted, contains_key, find, len, len-entries, len-remove, empty_of_len, retain_keys}
use Rattle.node_base.specs.Path.{Name, same_name, name_cmp, names_total}
use Rattle.node_base.specs.Entries.{Entries, IsRising}
use Rattle.node_base.specs.Props.{PropMap, props_fit, is_sync}
use Rattle.node_base.proofs.PathLemmas.{name_of_same}
use Rattle.node_base.proofs.EntryLemmas.{both_true, find_absent}
use Rattle.node_base.proofs.PropLemmas.{get-retained}

-- each name of a map is one of another
abbrev pub Among : PropMap → PropMap → Type 0
Among m n = (q : Name) → contains_key m q ≡ true → contains_key n q ≡ true

-- ---- how many there are

none_there : (n : PropMap) (k : Name) → contains_key n k ≡ true → 0 < len n
none_there n k h = by (cases_lt 0 (len n))
  where
    empty_has : is_some (get (finite.empty {X = List ℕ} {R = name_cmp}) k) ≡ true → ⊥
    empty_has e = cc (ap is_some (get-empty {X = List ℕ} name_cmp k), e)

    by : (0 < len n) ⊎ (len n ≤ 0) → 0 < len n
    by (inl more) = more
    by (inr none) = absurd (empty_has (ap (λ m. is_some (get m k)) (sym (empty_of_len n (omega (arith, none)))) ∙ h))

entries_among : (es : Entries) → IsRising es → (n : PropMap) → ((q : Name) → is_some (find name_cmp q es) ≡ true → contains_key n q ≡ true) → length es ≤ len n
entries_among [] r n h = omega arith
entries_among (e ∷ es) r n h =
    omega (arith, entries_among es (both_true _ _ r).1 (finite.remove n e.0) rest, some, less)
  where
    first : contains_key n e.0 ≡ true
    first = h e.0 (ap (λ b. is_some (cond b (Some e.1) (find name_cmp e.0 es))) (Rattle.node_base.proofs.PathLemmas.same_name_itself e.0))

    some : 0 < len n
    some = none_there n e.0 first

    less : len (finite.remove n e.0) ≡ len n - 1
    less = len-remove names_total n e.0 ∙ ap (λ b. cond b (len n - 1) (len n)) first

    rest : (q : Name) → is_some (find name_cmp q es) ≡ true → contains_key (finite.remove n e.0) q ≡ true
    rest q f =
        ap is_some (get-remove names_total n e.0 q)
        ∙ elim (same_name q e.0) as (λ b. same_name q e.0 ≡ b → is_some (cond b None (get n q)) ≡ true) [
          | true ↦ λ s. cc (ap is_some (find_absent e.0 es (both_true _ _ r).0), ap (λ z. is_some (find name_cmp z es)) (sym (name_of_same q e.0 s)), f)
          | false ↦ λ s. h q (ap (λ b. is_some (cond b (Some e.1) (find name_cmp q es))) s ∙ f)
        ] refl

len_among : (m n : PropMap) → Among m n → len m ≤ len n
len_among m n h = subst (λ k. k ≤ len n) (sym (len-entries m)) (entries_among (entries m) (entries_sorted m) n (λ q f. h q (ap is_some (get-entries m q) ∙ f)))

retained_among : (m n : PropMap) (p : Name → Bool) → Among m n → Among (retain_keys m p) (retain_keys n p)
retained_among m n p h q f =
    ap is_some (get-retained n p q)
    ∙ elim (p q) as (λ b. is_some (cond b (get m q) None) ≡ true → is_some (cond b (get n q) None) ≡ true) [
      | true ↦ λ g. h q g
      | false ↦ λ g. g
    ] (sym (ap is_some (get-retained m p q)) ∙ f)

-- ---- the limits

both_of : (a b : Bool) → (a && b) ≡ true → (a ≡ true) × (b ≡ true)
both_of true b e = (refl, e)
both_of false b e = cc

le_down : (a b k : ℕ) → a ≤ b → nat_le b k ≡ true → nat_le a k ≡ true
le_down a b k l e = grind (arith, nat_tests)

fits_among : (m n : PropMap) → Among m n → props_fit n ≡ true → props_fit m ≡ true
fits_among m n h f =
    let b = both_of _ _ f in
    (λ i. le_down (len (retain_keys m (λ k. not (is_sync k)))) (len (retain_keys n (λ k. not (is_sync k)))) 256 (len_among _ _ (retained_among m n (λ k. not (is_sync k)) h)) b.0 i && le_down (len (retain_keys m is_sync)) (len (retain_keys n is_sync)) 16 (len_among _ _ (retained_among m n is_sync h)) b.1 i)

-- ---- one name more

pub inserted_among : (m n : PropMap) (k : Name) (v : List ℕ) → Among m n → contains_key n k ≡ true → Among (finite.insert m k v) n
inserted_among m n k v h there q f =
    elim (same_name q k) as (λ b. same_name q k ≡ b → is_some (cond b (Some v) (get m q)) ≡ true → contains_key n q ≡ true) [
      | true ↦ λ s _. ap (contains_key n) (name_of_same q k s) ∙ there
      | false ↦ λ s g. h q g
    ] refl (sym (ap is_some (get-insert names_total m k v q)) ∙ f)

-- where a map is within the limits, so is one with some of its names and another of them
pub fits_with_one : (m n : PropMap) (k : Name) → Among m n → contains_key n k ≡ true → props_fit n ≡ true → props_fit (finite.insert m k []) ≡ true
fits_with_one m n k h there f = fits_among (finite.insert m k []) n (inserted_among m n k [] h there) f
