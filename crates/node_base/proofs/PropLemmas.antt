-- What follows from the definitions of property maps.
use Rattle.std.proofs.Common.{◌≡◌, ℕ, zero, suc, ◌+◌, ◌-◌, ◌<◌, ◌≤◌, Bool, true, false, cond, not, ◌&&◌, List, [], ◌∷◌, ◌++◌, length, drop, set, get_or, nat_le, nat_lt, Option, Some, None, IsSome, refl, sym, ap, subst, ◌∙◌, append-nil, arith}
use Rattle.std.proofs.lemmas.Bool.Decides.{nat_tests}
use Rattle.std.specs.declared.cmp.Ordering.TheVariants.{Equal}
use Rattle.std.specs.Option.{is_some, IfSome}
use Rattle.std.specs.List.{insert, remove}
use Rattle.std.specs.Bool.{if◌then◌else◌}
use Rattle.node_base.specs.declared.prop_fault.PropFault.TheVariants.{TooLong, OutOfMemory}
use Rattle.std.specs.Cmp.{eq_by_cmp_equiv}
use Rattle.std.specs.FinMap as map
use Rattle.std.specs.FinMap.{find, entries_sorted, entries-from_sorted, same_entries_map, entries-insert, get-entries, get-retain_keys, get-insert, get-remove, get-empty, get-from_sorted, len-empty, len-insert, len-remove, len-entries, same_map}
use Rattle.std.specs.FinMap.Entries.{put, where_key, is_sorted-put, is_sorted-where_key, find-where_key, same_entries}
use Rattle.node_base.specs.Path.{Name, name_cmp, names_total, names_exact, same_name}
use Rattle.node_base.specs.Entries.{Entries, IsRising, place, passing}
use Rattle.node_base.specs.Props.{PropMap, IsProps, is_prop_name, is_sync, sync_part, without_sync, props_fit, fits_with}
use Rattle.node_base.proofs.PathLemmas.{name_of_same}
use Rattle.node_base.proofs.EntryLemmas.{differs, find_at_place, set_at_place, insert_at_place, remove_at_place}

-- a test answers alike at names that tie
alike : (p : Name → Bool) (q x : Name) → name_cmp q x ≡ Equal → p x ≡ p q
alike p q x e = ap p (sym (names_exact q x e))

pub get-retained : (m : PropMap) (p : Name → Bool) (q : Name) → map.get (map.retain_keys m p) q ≡ cond (p q) (map.get m q) None
get-retained m p q = get-retain_keys m p q (alike p q)

pub turned : (b : Bool) (o : Option (List ℕ)) → cond (not b) o None ≡ cond b None o
turned true o = refl
turned false o = refl

-- ---- maps of entries

pub map_put : (es : Entries) (x : Name) (v : List ℕ) → IsRising es → map.from_sorted {R = name_cmp} (put name_cmp x v es) ≡ map.insert (map.from_sorted es) x v
map_put es x v s =
    same_entries_map _ _ (entries-from_sorted name_cmp (put name_cmp x v es) (is_sorted-put name_cmp names_total x v es s) ∙ ap (put name_cmp x v) (sym (entries-from_sorted name_cmp es s)) ∙ sym (entries-insert names_total (map.from_sorted es) x v))

pub map_without : (es : Entries) (x : Name) → IsRising es → map.from_sorted {R = name_cmp} (where_key name_cmp (differs x) es) ≡ map.remove (map.from_sorted es) x
map_without es x s =
    same_map names_total names_exact _ _ (λ q.
    get-from_sorted name_cmp (where_key name_cmp (differs x) es) q (is_sorted-where_key name_cmp (differs x) es s)
    ∙ find-where_key name_cmp (differs x) q (alike (differs x) q) es
    ∙ turned (same_name x q) (find name_cmp q es)
    ∙ ap (λ b. cond b None (find name_cmp q es)) ((eq_by_cmp_equiv names_total).symm x q)
    ∙ ap (cond (same_name q x) None) (sym (get-from_sorted name_cmp es q s))
    ∙ sym (get-remove names_total (map.from_sorted es) x q))

pub entries_retained : (m : PropMap) (p : Name → Bool) → map.entries (map.retain_keys m p) ≡ where_key name_cmp p (map.entries m)
entries_retained m p =
    same_entries name_cmp names_total names_exact _ _ (entries_sorted (map.retain_keys m p)) (is_sorted-where_key name_cmp p (map.entries m) (entries_sorted m)) (λ q.
    sym (get-entries (map.retain_keys m p) q)
    ∙ get-retained m p q
    ∙ ap (λ o. cond (p q) o None) (get-entries m q)
    ∙ sym (find-where_key name_cmp p q (alike p q) (map.entries m)))

-- ---- how many names pass a test

pub none_kept : (b : Bool) → ◌≡◌ {A = Option (List ℕ)} (cond b None None) None
none_kept true = refl
none_kept false = refl

retained_empty : (p : Name → Bool) → map.retain_keys {X = List ℕ} {R = name_cmp} map.empty p ≡ map.empty
retained_empty p = same_map names_total names_exact _ _ (λ q. get-retained map.empty p q ∙ ap (λ (o : Option (List ℕ)). cond (p q) o None) (get-empty name_cmp q) ∙ none_kept (p q) ∙ sym (get-empty name_cmp q))

len_retained_empty : (p : Name → Bool) → map.len (map.retain_keys {X = List ℕ} {R = name_cmp} map.empty p) ≡ 0
len_retained_empty p = ap map.len (retained_empty p) ∙ len-empty name_cmp (List ℕ)

pub empty_fits : props_fit map.empty ≡ true
empty_fits = rw (len_retained_empty is_sync, len_retained_empty (λ n. not (is_sync n))) refl

retained_in : (m : PropMap) (p : Name → Bool) (k : Name) (v : List ℕ) → p k ≡ true → map.retain_keys (map.insert m k v) p ≡ map.insert (map.retain_keys m p) k v
retained_in m p k v h =
    same_map names_total names_exact _ _ (λ q.
    get-retained (map.insert m k v) p q
    ∙ ap (λ o. cond (p q) o None) (get-insert names_total m k v q)
    ∙ elim (same_name q k) as (λ b. same_name q k ≡ b → cond (p q) (cond b (Some v) (map.get m q)) None ≡ cond b (Some v) (cond (p q) (map.get m q) None)) [
      | true ↦ λ s. ap (λ t. cond t (Some v) None) (ap p (name_of_same q k s) ∙ h)
      | false ↦ λ s. refl
    ] refl
    ∙ sym (get-insert names_total (map.retain_keys m p) k v q ∙ ap (cond (same_name q k) (Some v)) (get-retained m p q)))

retained_out : (m : PropMap) (p : Name → Bool) (k : Name) (v : List ℕ) → p k ≡ false → map.retain_keys (map.insert m k v) p ≡ map.retain_keys m p
retained_out m p k v h =
    same_map names_total names_exact _ _ (λ q.
    get-retained (map.insert m k v) p q
    ∙ ap (λ o. cond (p q) o None) (get-insert names_total m k v q)
    ∙ elim (same_name q k) as (λ b. same_name q k ≡ b → cond (p q) (cond b (Some v) (map.get m q)) None ≡ cond (p q) (map.get m q) None) [
      | true ↦ λ s. let n : p q ≡ false = ap p (name_of_same q k s) ∙ h in rw n refl
      | false ↦ λ s. refl
    ] refl
    ∙ sym (get-retained m p q))

abbrev kept_of : PropMap → (Name → Bool) → ℕ
kept_of m p = map.len (map.retain_keys m p)

-- how many names pass, with a value at one name more
pub len_with : (m : PropMap) (p : Name → Bool) (k : Name) (v : List ℕ) → map.len (map.retain_keys (map.insert m k v) p) ≡ cond (p k) (cond (map.contains_key m k) (map.len (map.retain_keys m p)) (map.len (map.retain_keys m p) + 1)) (map.len (map.retain_keys m p))
len_with m p k v =
    elim (p k) as (λ b. p k ≡ b → map.len (map.retain_keys (map.insert m k v) p) ≡ cond b (cond (map.contains_key m k) (kept_of m p) (kept_of m p + 1)) (kept_of m p)) [
      | true ↦ λ h.
          ap map.len (retained_in m p k v h)
          ∙ len-insert names_total (map.retain_keys m p) k v
          ∙ ap (λ o. cond (is_some o) (kept_of m p) (kept_of m p + 1)) (get-retained m p k ∙ ap (λ t. cond t (map.get m k) None) h)
      | false ↦ λ h. ap map.len (retained_out m p k v h)
    ] refl

-- the limits don't depend on the value
pub fits_any_value : (m : PropMap) (k : Name) (v w : List ℕ) → props_fit (map.insert m k v) ≡ props_fit (map.insert m k w)
fits_any_value m k v w = rw (len_with m is_sync k v, len_with m is_sync k w, len_with m (λ n. not (is_sync n)) k v, len_with m (λ n. not (is_sync n)) k w) refl

same_when_there : (b : Bool) (n : ℕ) → cond b n n ≡ n
same_when_there true n = refl
same_when_there false n = refl

-- a name that is there stays within the limits
pub fits_there : (m : PropMap) (k : Name) (v : List ℕ) → map.contains_key m k ≡ true → props_fit (map.insert m k v) ≡ props_fit m
fits_there m k v e =
    rw (len_with m is_sync k v, len_with m (λ n. not (is_sync n)) k v, e, same_when_there (is_sync k) (kept_of m is_sync), same_when_there (not (is_sync k)) (kept_of m (λ n. not (is_sync n)))) refl

-- ---- lists as maps

pub map_none : map.from_sorted {X = List ℕ} {R = name_cmp} [] ≡ map.empty
map_none = same_map names_total names_exact _ _ (λ q. get-from_sorted name_cmp [] q tt ∙ sym (get-empty name_cmp q))

-- the map of entries
abbrev pub listed : Entries → PropMap
listed es = map.from_sorted es

-- entries in order that are a map
pub record Lists (new : Entries) (m : PropMap) : Type 0 where
  pub rising : IsRising new
  pub is : listed new ≡ m

module _ (es d : Entries) (x : Name) (e : d ≡ es) (s : IsRising es) where
  -- the value at a place that was found
  pub got : (i : ℕ) (y : Name × List ℕ) → i ≡ place x d → IsSome (find name_cmp x d) → y ≡ get_or es i y → Some y.1 ≡ map.get (listed es) x
  got i y at some is =
      sym (get-from_sorted name_cmp es x s ∙ find_at_place es x s (subst (λ z. IsSome (find name_cmp x z)) e some) y (subst (λ j. y ≡ get_or es j y) (at ∙ ap (place x) e) is))

  pub missed : find name_cmp x d ≡ None → None ≡ map.get (listed es) x
  missed none = sym (get-from_sorted name_cmp es x s ∙ ap (find name_cmp x) (sym e) ∙ none)

  pub there : IsSome (find name_cmp x d) → true ≡ map.contains_key (listed es) x
  there some = sym (ap is_some (get-from_sorted name_cmp es x s) ∙ subst (λ z. IsSome (find name_cmp x z)) e some)

  lists_put : (v : List ℕ) → Lists (put name_cmp x v es) (map.insert (listed es) x v)
  lists_put v = record { rising = is_sorted-put name_cmp names_total x v es s; is = map_put es x v s }

  pub lists_set : (i : ℕ) (y : Name × List ℕ) (v : List ℕ) → i ≡ place x d → IsSome (find name_cmp x d) → y ≡ get_or es i y → Lists (set es i (y.0, v)) (map.insert (listed es) x v)
  lists_set i y v at some is =
      subst (λ z. Lists (set es i (z.0, v)) (map.insert (listed es) x v)) (sym is)
      (subst (λ j. Lists (set es j ((get_or es j y).0, v)) (map.insert (listed es) x v)) (sym (at ∙ ap (place x) e))
      (subst (λ new. Lists new (map.insert (listed es) x v)) (sym (set_at_place es x v y s (subst (λ z. IsSome (find name_cmp x z)) e some))) (lists_put v)))

  pub lists_insert : (i : ℕ) (v : List ℕ) → i ≡ place x d → find name_cmp x d ≡ None → Lists (insert es i (x, v)) (map.insert (listed es) x v)
  lists_insert i v at none =
      subst (λ j. Lists (insert es j (x, v)) (map.insert (listed es) x v)) (sym (at ∙ ap (place x) e))
      (subst (λ new. Lists new (map.insert (listed es) x v)) (sym (insert_at_place es x v (ap (find name_cmp x) (sym e) ∙ none))) (lists_put v))

  pub lists_remove : (i : ℕ) → i ≡ place x d → IsSome (find name_cmp x d) → Lists (remove es i) (map.remove (listed es) x)
  lists_remove i at some =
      subst (λ j. Lists (remove es j) (map.remove (listed es) x)) (sym (at ∙ ap (place x) e))
      (subst (λ new. Lists new (map.remove (listed es) x)) (sym (remove_at_place es x s (subst (λ z. IsSome (find name_cmp x z)) e some)))
      (record { rising = is_sorted-where_key name_cmp (differs x) es s; is = map_without es x s }))

-- to remove what isn't there changes nothing
pub remove_none : (m : PropMap) (x : Name) → None ≡ map.get m x → m ≡ map.remove m x
remove_none m x none =
    same_map names_total names_exact _ _ (λ q. sym (get-remove names_total m x q
    ∙ elim (same_name q x) as (λ b. same_name q x ≡ b → cond b None (map.get m q) ≡ map.get m q) [
      | true ↦ λ h. none ∙ ap (map.get m) (sym (name_of_same q x h))
      | false ↦ λ h. refl
    ] refl))

pub entries_none : map.entries {X = List ℕ} {R = name_cmp} map.empty ≡ []
entries_none = ap map.entries (sym map_none) ∙ entries-from_sorted name_cmp [] tt

passing_kept : (p : Name → Bool) (es : Entries) → passing p es ≡ length (where_key name_cmp p es)
passing_kept p [] = refl
passing_kept p (e ∷ es) =
    let r = passing_kept p es in
    elim (p e.0) as (λ b. cond b 1 0 + passing p es ≡ length (cond b (e ∷ where_key name_cmp p es) (where_key name_cmp p es))) [ true ↦ omega arith | false ↦ omega arith ]

-- how many names of a map pass
pub len_retained : (m : PropMap) (p : Name → Bool) → map.len (map.retain_keys m p) ≡ passing p (map.entries m)
len_retained m p = len-entries (map.retain_keys m p) ∙ ap length (entries_retained m p) ∙ sym (passing_kept p (map.entries m))

pub dropped_all : (es : Entries) (i : ℕ) → length es ≤ i → drop i es ≡ []
dropped_all [] zero h = refl
dropped_all [] (suc i) h = refl
dropped_all (e ∷ es) zero h = absurd (omega arith)
dropped_all (e ∷ es) (suc i) h = dropped_all es i (omega arith)

-- a count that has come to the end
pub counted : (p : Name → Bool) (m : PropMap) (es : Entries) (n i : ℕ) → es ≡ map.entries m → length es ≤ i → n + passing p (drop i es) ≡ passing p es → n ≡ map.len (map.retain_keys m p)
counted p m es n i e h so_far =
    omega (arith, so_far, ap (passing p) (dropped_all es i h), ap (passing p) e, len_retained m p)

pub both_of : (a b : Bool) → (a && b) ≡ true → (a ≡ true) × (b ≡ true)
both_of true b e = (refl, e)
both_of false b e = cc

and_true : (a b : Bool) → a ≡ b → a ≡ (b && true)
and_true a true e = e
and_true a false e = e

le_lt : (n k : ℕ) → nat_le (n + 1) k ≡ nat_lt n k
le_lt n k = grind (arith, nat_tests)

-- a new name stays within the limits where its count does
pub fits_sync : (m : PropMap) (k : Name) → props_fit m ≡ true → map.contains_key m k ≡ false → is_sync k ≡ true → nat_lt (map.len (sync_part m)) 16 ≡ fits_with m k
fits_sync m k fits new sync =
    let rest : nat_le (map.len (without_sync m)) 256 ≡ true = (both_of _ _ fits).0 in
    rw (len_with m is_sync k [], len_with m (λ n. not (is_sync n)) k [], new, sync, rest) (sym (le_lt (map.len (sync_part m)) 16))

pub fits_other : (m : PropMap) (k : Name) → props_fit m ≡ true → map.contains_key m k ≡ false → is_sync k ≡ false → nat_lt (map.len (without_sync m)) 256 ≡ fits_with m k
fits_other m k fits new other =
    let rest : nat_le (map.len (sync_part m)) 16 ≡ true = (both_of _ _ fits).1 in
    rw (len_with m is_sync k [], len_with m (λ n. not (is_sync n)) k [], new, other, rest) (and_true _ _ (sym (le_lt (map.len (without_sync m)) 256)))

passing_some : (p : Name → Bool) (es : Entries) → passing p es ≤ length es
passing_some p [] = omega arith
passing_some p (e ∷ es) =
    let r = passing_some p es in
    elim (p e.0) as (λ b. cond b 1 0 + passing p es ≤ suc (length es)) [ true ↦ omega (arith, r) | false ↦ omega (arith, r) ]

-- few names in all, and so few that don't begin with svn:sync-
pub few_others : (m : PropMap) (n k : ℕ) → n ≡ map.len m → n < k → nat_lt n k ≡ nat_lt (map.len (without_sync m)) k
few_others m n k e h =
    let le : map.len (without_sync m) ≤ map.len m = omega (arith, len_retained m (λ x. not (is_sync x)), passing_some (λ x. not (is_sync x)) (map.entries m), len-entries m) in
    grind (arith, nat_tests)

-- whether a call may put a value
pub may_put : (m : PropMap) (k n : Name) (v : List ℕ) (b : Bool) → b ≡ fits_with m n → n ≡ k → props_fit (map.insert m k v) ≡ b
may_put m k n v b e same = fits_any_value m k v [] ∙ ap (fits_with m) (sym same) ∙ sym e

-- the fault of a call that may not put a value, and of one that finds no memory
pub full : (m : PropMap) (k : Name) (v : List ℕ) → props_fit (map.insert m k v) ≡ false → TooLong ≡ (if props_fit (map.insert m k v) then OutOfMemory else TooLong)
full m k v e = ap (λ (b : Bool). if b then OutOfMemory else TooLong) (sym e)

pub no_memory : (m : PropMap) (k : Name) (v : List ℕ) → props_fit (map.insert m k v) ≡ true → OutOfMemory ≡ (if props_fit (map.insert m k v) then OutOfMemory else TooLong)
no_memory m k v e = ap (λ (b : Bool). if b then OutOfMemory else TooLong) (sym e)

-- ---- maps of properties

pub empty_is_props : IsProps map.empty
empty_is_props = record { each = λ q. rw (get-empty {X = List ℕ} name_cmp q) tt; fit = empty_fits }

-- a value at a name more
pub props_with : (m : PropMap) (k : Name) (v : List ℕ) → IsProps m → is_prop_name k ≡ true → length k ≤ 255 → length v ≤ 65536 → props_fit (map.insert m k v) ≡ true → IsProps (map.insert m k v)
props_with m k v p rule short small fit =
    record {
      each = λ q. rw (get-insert names_total m k v q) (elim (same_name q k) as (λ b. same_name q k ≡ b → IfSome (cond b (Some v) (map.get m q)) (λ w. (is_prop_name q ≡ true) × (length q ≤ 255) × (length w ≤ 65536))) [
        | true ↦ λ s. let e : q ≡ k = name_of_same q k s in (ap is_prop_name e ∙ rule, omega (arith, ap length e), small)
        | false ↦ λ s. p.each q
      ] refl);
      fit = fit;
    }

crossed : (a b : Bool) (o : Option (List ℕ)) → cond a (cond b None o) None ≡ cond b None (cond a o None)
crossed true b o = refl
crossed false true o = refl
crossed false false o = refl

out_le : (b : Bool) (n r : ℕ) → r ≡ cond b (n - 1) n → r ≤ n
out_le true n r e = omega arith
out_le false n r e = omega arith

retained_without : (m : PropMap) (p : Name → Bool) (k : Name) → map.retain_keys (map.remove m k) p ≡ map.remove (map.retain_keys m p) k
retained_without m p k =
    same_map names_total names_exact _ _ (λ q.
    get-retained (map.remove m k) p q
    ∙ ap (λ o. cond (p q) o None) (get-remove names_total m k q)
    ∙ crossed (p q) (same_name q k) (map.get m q)
    ∙ sym (get-remove names_total (map.retain_keys m p) k q ∙ ap (cond (same_name q k) None) (get-retained m p q)))

fewer : (m : PropMap) (p : Name → Bool) (k : Name) → map.len (map.retain_keys (map.remove m k) p) ≤ map.len (map.retain_keys m p)
fewer m p k = out_le (map.contains_key (map.retain_keys m p) k) (kept_of m p) (kept_of (map.remove m k) p) (ap map.len (retained_without m p k) ∙ len-remove names_total (map.retain_keys m p) k)

pub le_still : (a b n : ℕ) → a ≤ b → nat_le b n ≡ true → nat_le a n ≡ true
le_still a b n h e = grind (arith, nat_tests)

fewer_fit : (m : PropMap) (k : Name) → props_fit m ≡ true → props_fit (map.remove m k) ≡ true
fewer_fit m k fit =
    let e = both_of _ _ fit in
    let others : nat_le (map.len (without_sync (map.remove m k))) 256 ≡ true = le_still _ _ 256 (fewer m (λ n. not (is_sync n)) k) e.0 in
    let syncs : nat_le (map.len (sync_part (map.remove m k))) 16 ≡ true = le_still _ _ 16 (fewer m is_sync k) e.1 in
    rw (others, syncs) refl

-- a value at a name less
pub props_without : (m : PropMap) (k : Name) → IsProps m → IsProps (map.remove m k)
props_without m k p =
    record {
      each = λ q. rw (get-remove names_total m k q) (elim (same_name q k) as (λ b. IfSome (cond b None (map.get m q)) (λ w. (is_prop_name q ≡ true) × (length q ≤ 255) × (length w ≤ 65536))) [ true ↦ tt | false ↦ p.each q ]);
      fit = fewer_fit m k p.fit;
    }

-- ---- the properties that aren't sync properties

-- the other entries of a list are the list of the others
pub lists_kept : (es new : Entries) (p : Name → Bool) → IsRising es → new ≡ where_key name_cmp p es → Lists new (map.retain_keys (listed es) p)
lists_kept es new p s e =
    subst (λ l. Lists l (map.retain_keys (listed es) p)) (sym e) (record {
      rising = is_sorted-where_key name_cmp p es s;
      is = same_entries_map _ _ (entries-from_sorted name_cmp (where_key name_cmp p es) (is_sorted-where_key name_cmp p es s) ∙ sym (entries_retained (listed es) p ∙ ap (where_key name_cmp p) (entries-from_sorted name_cmp es s)));
    })

-- entries that were kept, when none is left to look at
pub kept_all : (p : Name → Bool) (es kept : Entries) (i : ℕ) → length es ≤ i → kept ++ where_key name_cmp p (drop i es) ≡ where_key name_cmp p es → kept ≡ where_key name_cmp p es
kept_all p es kept i h e = sym (append-nil kept) ∙ ap (λ r. kept ++ where_key name_cmp p r) (sym (dropped_all es i h)) ∙ e

pub without_empty : map.empty ≡ without_sync map.empty
without_empty = sym (retained_empty (λ n. not (is_sync n)))

same_twice : (b : Bool) (o : Option (List ℕ)) → cond b (cond b o None) None ≡ cond b o None
same_twice true o = refl
same_twice false o = refl

neither : (b : Bool) (o : Option (List ℕ)) → cond b (cond (not b) o None) None ≡ None
neither true o = refl
neither false o = refl

twice : (m : PropMap) (p : Name → Bool) → map.retain_keys (map.retain_keys m p) p ≡ map.retain_keys m p
twice m p = same_map names_total names_exact _ _ (λ q. get-retained (map.retain_keys m p) p q ∙ ap (λ o. cond (p q) o None) (get-retained m p q) ∙ same_twice (p q) (map.get m q) ∙ sym (get-retained m p q))

none_of_both : (m : PropMap) → map.len (sync_part (without_sync m)) ≡ 0
none_of_both m =
    ap map.len (same_map names_total names_exact (sync_part (without_sync m)) map.empty (λ q.
    get-retained (without_sync m) is_sync q ∙ ap (λ o. cond (is_sync q) o None) (get-retained m (λ n. not (is_sync n)) q) ∙ neither (is_sync q) (map.get m q) ∙ sym (get-empty name_cmp q)))
    ∙ len-empty name_cmp (List ℕ)

pub without_is_props : (m : PropMap) → IsProps m → IsProps (without_sync m)
without_is_props m p =
    let others : nat_le (map.len (without_sync (without_sync m))) 256 ≡ true = ap (λ x. nat_le (map.len x) 256) (twice m (λ n. not (is_sync n))) ∙ (both_of _ _ p.fit).0 in
    record {
      each = λ q. rw (get-retained m (λ n. not (is_sync n)) q) (elim (not (is_sync q)) as (λ b. IfSome (cond b (map.get m q) None) (λ w. (is_prop_name q ≡ true) × (length q ≤ 255) × (length w ≤ 65536))) [ true ↦ p.each q | false ↦ tt ]);
      fit = rw (others, none_of_both m) refl;
    }
