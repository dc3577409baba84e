-- A number from 2^64 on is told by its digits.
use Rattle.std.proofs.Common.{◌≡◌, ℕ, true, false, nat_le, List, [], ◌∷◌, map, Some, if◌then◌else◌, refl, ap, ◌∙◌, arith}
use Rattle.std.specs.Option.{option_map_or}
use Rattle.std.proofs.lemmas.Bool.Decides.{nat_tests}
use Rattle.node_base.specs.Numbers.{is_digit, all_bytes, decimal}
use Rattle.node_base.specs.Refusals.{shown_byte, shown_token, told_text}
use Rattle.sync_core.specs.Names.{Misspelt, Spelt, Huge, is_spelt, starts_right, number_of}
use Rattle.sync_core.specs.Faults.{told_of, DigitsAreTold}
use Rattle.sync_core.proofs.Kept.{both}

digit : (c : ℕ) → is_digit c ≡ true → shown_byte c ≡ c
digit c h =
    let t = both (nat_le 48 c) (nat_le c 57) h in
    let low : nat_le 32 c ≡ true = grind (arith, nat_tests, t.0) in
    let high : nat_le c 126 ≡ true = grind (arith, nat_tests, t.1) in
    rw (low, high) refl

shown : (b : List ℕ) → all_bytes is_digit b ≡ true → shown_token b ≡ b
shown [] h = refl
shown (c ∷ cs) h = let t = both (is_digit c) (all_bytes is_digit cs) h in ap (λ x. x ∷ map shown_byte cs) (digit c t.0) ∙ ap (λ xs. c ∷ xs) (shown cs t.1)

spelt : (b : List ℕ) → number_of b ≡ Huge → is_spelt b ≡ true
unfolding number_of
spelt b h = elim (is_spelt b) as (λ t. (if t then option_map_or Spelt (decimal b) Huge else Misspelt) ≡ Huge → t ≡ true) [ true ↦ λ e. refl | false ↦ λ e. absurd (cc) ] h

pub digits-are-told : DigitsAreTold
digits-are-told b h = ap (λ n. told_text (told_of n (Some b))) h ∙ shown b (both (starts_right b) (all_bytes is_digit b) (spelt b h)).1
