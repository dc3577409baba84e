-- What follows from the rule of property names.
use Rattle.std.proofs.Common.{◌≡◌, ℕ, ◌≤◌, ◌<◌, Bool, true, false, ◌&&◌, List, [], ◌∷◌, length, nat_lt, Ok, Err, refl, arith}
use Rattle.std.proofs.lemmas.Bool.Decides.{nat_tests}
use Rattle.std.proofs.lemmas.Str.{IsUtf8-from_is_utf8, is_utf8-from_IsUtf8}
use Rattle.std.specs.Str.{IsUtf8, is_utf8}
use Rattle.node_base.specs.Numbers.{is_nil, all_bytes}
use Rattle.node_base.specs.declared.prop_fault.PropFault.TheVariants.{BadProps}
use Rattle.node_base.specs.Props.{is_prop_byte, is_prop_name, prop_name_read}

lt_true : (a b : ℕ) → a < b → nat_lt a b ≡ true
lt_true a b h = grind (arith, nat_tests)

lt_false : (a b : ℕ) → b ≤ a → nat_lt a b ≡ false
lt_false a b h = grind (arith, nat_tests)

some_bytes : (bs : List ℕ) → (length bs ≡ 0 → ⊥) → is_nil bs ≡ false
some_bytes [] h = absurd (h refl)
some_bytes (b ∷ bs) h = refl

pub rule_holds : (bs : List ℕ) → (length bs ≡ 0 → ⊥) → all_bytes is_prop_byte bs ≡ true → IsUtf8 bs → is_prop_name bs ≡ true
rule_holds bs some bytes utf8 = rw (some_bytes bs some, bytes, is_utf8-from_IsUtf8 bs utf8) refl

not_utf8 : (bs : List ℕ) → (IsUtf8 bs → ⊥) → is_utf8 bs ≡ false
not_utf8 bs h = elim (is_utf8 bs) as (λ b. is_utf8 bs ≡ b → b ≡ false) [ true ↦ λ e. absurd (h (IsUtf8-from_is_utf8 bs e)) | false ↦ λ e. refl ] refl

false_behind : (b : Bool) → (b && false) ≡ false
false_behind true = refl
false_behind false = refl

pub rule_fails : (bs : List ℕ) → (IsUtf8 bs → ⊥) → is_prop_name bs ≡ false
rule_fails bs h = rw (not_utf8 bs h) (false_behind _)

pub name_read : (bs : List ℕ) → length bs ≤ 255 → is_prop_name bs ≡ true → prop_name_read bs ≡ Ok bs
name_read bs le e = rw (lt_false 255 (length bs) le, e) refl

pub name_refused : (bs : List ℕ) → length bs ≤ 255 → is_prop_name bs ≡ false → prop_name_read bs ≡ Err BadProps
name_refused bs le e = rw (lt_false 255 (length bs) le, e) refl
