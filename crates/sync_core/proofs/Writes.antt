-- What a map of sync properties has after one of them was written, and after a copying.
use Rattle.std.proofs.Common.{rules, ◌≡◌, ℕ, ◌<◌, ◌^◌, ◌&&◌, Bool, true, false, cond, not, length, get_or, zero, suc, List, [], ◌∷◌, if◌then◌else◌, Some, None, refl, ap, ◌∙◌, arith}
use Rattle.std.specs.Option.{option_map_or}
use Rattle.std.specs.Fmt.{decimal}
use Rattle.std.specs.FinMap.{get, insert, remove, get-insert, get-remove}
use Rattle.std.proofs.lemmas.Fmt.{decimal_digit, decimal_nonempty, first_decimal, digits_decimal}
use Rattle.std.proofs.lemmas.Str.Parse.{IsNumeralModel, numerals_by_fold}
use Rattle.node_base.specs.Path.{Name, same_name, names_total}
use Rattle.node_base.specs.Props.{PropMap, is_sync, without_sync, copied_beside}
use Rattle.node_base.specs.Numbers.{is_digit, all_bytes, number_after}
use Rattle.node_base.specs.Numbers as numbers
use Rattle.node_base.proofs.PathLemmas.{same_name_itself, name_of_same}
use Rattle.node_base.proofs.PropLemmas.{get-retained}
use Rattle.node_base.proofs.CopiedProps.{get-copied}
use Rattle.node_base.proofs.NumbersRead.{read_of_spelled}
use Rattle.sync_core.specs.Names.{url_name, uuid_name, merged_name, copying_name, lock_name, Misspelt, Spelt, Huge, number_of, starts_right, is_spelt}
use Rattle.sync_core.specs.Mirror.{first_map}
use Rattle.sync_core.specs.Law.{IsCopy}
use Rattle.sync_core.proofs.Kept.{is_other}

starts-high : (ds : List ℕ) → 0 < length ds → 48 < get_or ds 0 0 → starts_right ds ≡ true
starts-high [] a b = absurd (omega arith)
starts-high (c ∷ []) a b = refl
starts-high (c ∷ d ∷ ds) a b = ap not (is_other c 48 (λ e. let h : 48 < c = b in omega arith))

starts-decimal : (n : ℕ) → n < 2 ^ 64 → starts_right (decimal n) ≡ true
starts-decimal zero h = ap starts_right (decimal_digit 0 (omega arith))
starts-decimal (suc n) h = starts-high (decimal (suc n)) (decimal_nonempty (suc n) h) (first_decimal (suc n) (omega arith) h)

own : IsNumeralModel (λ ds. all_bytes is_digit ds ≡ true) numbers.number_of
own = numerals_by_fold (λ ds. all_bytes is_digit ds ≡ true) (search rules) number_after (search rules)

all_right : (a b : Bool) → a ≡ true → b ≡ true → (a && b) ≡ true
all_right true b p q = q
all_right false b p q = absurd (cc)

-- a number as it is written is read as that number
pub number_of-decimal : (n : ℕ) → n < 2 ^ 64 → number_of (decimal n) ≡ Spelt n
unfolding number_of
number_of-decimal n h =
    let right : is_spelt (decimal n) ≡ true = all_right (starts_right (decimal n)) (all_bytes is_digit (decimal n)) (starts-decimal n h) (digits_decimal own n h) in
    let spelt : numbers.decimal (decimal n) ≡ Some n = read_of_spelled (decimal n) n h (record { zeros = 0; written = refl }) in
    ap (λ b. if b then option_map_or Spelt (numbers.decimal (decimal n)) Huge else Misspelt) right ∙ ap (λ s. option_map_or Spelt s Huge) spelt

pub is_sync-url : is_sync url_name ≡ true
unfolding url_name
is_sync-url = refl

pub is_sync-uuid : is_sync uuid_name ≡ true
unfolding uuid_name
is_sync-uuid = refl

pub is_sync-merged : is_sync merged_name ≡ true
unfolding merged_name
is_sync-merged = refl

pub is_sync-copying : is_sync copying_name ≡ true
unfolding copying_name
is_sync-copying = refl

pub is_sync-lock : is_sync lock_name ≡ true
unfolding lock_name
is_sync-lock = refl

-- the names differ
pub record Differ (n m : Name) : Type 0 where
  pub no : same_name n m ≡ false

pub url-lock : Differ url_name lock_name
unfolding url_name lock_name
url-lock = record { no = refl }

pub uuid-lock : Differ uuid_name lock_name
unfolding uuid_name lock_name
uuid-lock = record { no = refl }

pub merged-lock : Differ merged_name lock_name
unfolding merged_name lock_name
merged-lock = record { no = refl }

pub copying-lock : Differ copying_name lock_name
unfolding copying_name lock_name
copying-lock = record { no = refl }

pub url-copying : Differ url_name copying_name
unfolding url_name copying_name
url-copying = record { no = refl }

pub uuid-copying : Differ uuid_name copying_name
unfolding uuid_name copying_name
uuid-copying = record { no = refl }

pub merged-copying : Differ merged_name copying_name
unfolding merged_name copying_name
merged-copying = record { no = refl }

pub url-merged : Differ url_name merged_name
unfolding url_name merged_name
url-merged = record { no = refl }

pub uuid-merged : Differ uuid_name merged_name
unfolding uuid_name merged_name
uuid-merged = record { no = refl }

pub copying-merged : Differ copying_name merged_name
unfolding copying_name merged_name
copying-merged = record { no = refl }

pub url-uuid : Differ url_name uuid_name
unfolding url_name uuid_name
url-uuid = record { no = refl }

-- a name that is copied is no sync name
pub other : (n s : Name) → is_sync n ≡ false → is_sync s ≡ true → same_name n s ≡ false
other n s h g =
    elim (same_name n s) as (λ b. same_name n s ≡ b → b ≡ false) [
      | true ↦ λ e. let e2 : is_sync n ≡ is_sync s = ap is_sync (name_of_same n s e) in cc
      | false ↦ λ e. refl
    ] refl

pub get-put_there : (p : PropMap) (s v : Name) → get (insert p s v) s ≡ Some v
get-put_there p s v = get-insert names_total p s v s ∙ ap (λ b. cond b (Some v) (get p s)) (same_name_itself s)

pub get-put_other : (p : PropMap) (s v : Name) (n : Name) → Differ n s → get (insert p s v) n ≡ get p n
get-put_other p s v n d = get-insert names_total p s v n ∙ ap (λ b. cond b (Some v) (get p n)) d.no

pub get-drop_there : (p : PropMap) (s : Name) → get (remove p s) s ≡ None
get-drop_there p s = get-remove names_total p s s ∙ ap (λ b. cond b None (get p s)) (same_name_itself s)

pub get-drop_other : (p : PropMap) (s : Name) (n : Name) → Differ n s → get (remove p s) n ≡ get p n
get-drop_other p s n d = get-remove names_total p s n ∙ ap (λ b. cond b None (get p n)) d.no

pub put_is_copy : (p q : PropMap) (s v : Name) → is_sync s ≡ true → IsCopy p q → IsCopy (insert p s v) q
put_is_copy p q s v g c n h = get-put_other p s v n (record { no = other n s h g }) ∙ c n h

pub drop_is_copy : (p q : PropMap) (s : Name) → is_sync s ≡ true → IsCopy p q → IsCopy (remove p s) q
drop_is_copy p q s g c n h = get-drop_other p s n (record { no = other n s h g }) ∙ c n h

pub without_sync-is_copy : (p : PropMap) → IsCopy (without_sync p) p
without_sync-is_copy p n h = get-retained p (λ m. not (is_sync m)) n ∙ ap (λ b. cond (not b) (get p n) None) h

pub get-without_sync : (p : PropMap) (n : Name) → is_sync n ≡ true → get (without_sync p) n ≡ None
get-without_sync p n h = get-retained p (λ m. not (is_sync m)) n ∙ ap (λ b. cond (not b) (get p n) None) h

pub copied_beside-own : (own_map p : PropMap) (n : Name) → is_sync n ≡ true → get (copied_beside own_map p) n ≡ get own_map n
copied_beside-own own_map p n h = get-copied own_map p n ∙ ap (λ b. cond b (get own_map n) (get p n)) h

pub copied_beside-is_copy : (own_map p : PropMap) → IsCopy (copied_beside own_map p) p
copied_beside-is_copy own_map p n h = get-copied own_map p n ∙ ap (λ b. cond b (get own_map n) (get p n)) h

pub copying-url : Differ copying_name url_name
unfolding url_name copying_name
copying-url = record { no = refl }

pub copying-uuid : Differ copying_name uuid_name
unfolding uuid_name copying_name
copying-uuid = record { no = refl }

pub first_map-url : (url uuid : Name) (p : PropMap) → get (first_map url uuid p) url_name ≡ Some url
unfolding first_map
first_map-url url uuid p =
    get-put_other _ merged_name (decimal 0) url_name url-merged ∙ get-put_other _ uuid_name uuid url_name url-uuid ∙ get-put_there (without_sync p) url_name url

pub lock-copying : Differ lock_name copying_name
unfolding lock_name copying_name
lock-copying = record { no = refl }

pub lock-merged : Differ lock_name merged_name
unfolding lock_name merged_name
lock-merged = record { no = refl }
