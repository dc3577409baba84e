-- Text as it is shown: what is shown of it, character by character, and that nothing shown controls a terminal.
use Rattle.std.proofs.Common.{◌≡◌, ◌<◌, ℕ, zero, suc, Bool, true, false, cond, not, ◌&&◌, List, [], ◌∷◌, ◌++◌, nat_lt, arith, refl, sym, ap, ◌∙◌, true≢false, chars, encode_utf8, encode_utf8_all, IsUtf8, length}
use Rattle.std.specs.Char.{is_control, is_newline}
use Rattle.std.specs.Char.Escape.{escape_default}
use Rattle.std.specs.List.{flat_map, list_all}
use Rattle.std.specs.Str.{all_scalars, NonePass}
use Rattle.std.proofs.lemmas.Str.{chars-encodes, chars-nil, encodes-chars, chars_past_char, encodes-append, scalars-chars}
use Rattle.std.proofs.lemmas.List.Folds.{list_all-append}
use Rattle.std.proofs.lemmas.Bool.Decides.{nat_tests}
use Rattle.command_words.specs.Lines.{HasNoLineFeed}
use Rattle.command_words.specs.Terminal.{HasNoControl, shown, shown_char}
use Rattle.command_words.proofs.Lines.{lacks_at}

-- one more character
pub shown_past : (bs rest : List ℕ) (c : ℕ) → IsUtf8 bs → bs ≡ encode_utf8 c ++ rest → shown bs ≡ encode_utf8_all (shown_char c) ++ shown rest
shown_past bs rest c utf8 is = ap (λ cs. encode_utf8_all (flat_map shown_char cs)) (chars_past_char bs rest c utf8 is) ∙ encodes-append (shown_char c) (flat_map shown_char (chars rest))

pub shown_nothing : (bs : List ℕ) → bs ≡ [] → shown bs ≡ []
shown_nothing bs is = ap (λ cs. encode_utf8_all (flat_map shown_char cs)) (ap chars is ∙ chars-nil)

abbrev free : ℕ → Bool
free c = not (is_control c)

-- a character's escape has neither a control nor a number that is no character
abbrev is_good : ℕ → Bool
is_good c = list_all free (shown_char c) && all_scalars (shown_char c)

abbrev all_below : ℕ → (ℕ → Bool) → Bool
all_below zero p = true
all_below (suc n) p = p n && all_below n p

both : (a b : Bool) → (a && b) ≡ true → (a ≡ true) × (b ≡ true)
both true true h = (refl, refl)
both true false h = (refl, h)
both false b h = absurd (true≢false (sym h))

at_or_below : (n c : ℕ) (p : ℕ → Bool) → p n ≡ true → (c < n → p c ≡ true) → c < suc n → (t : Bool) → nat_lt c n ≡ t → p c ≡ true
at_or_below n c p at before below true t = before (grind (arith, nat_tests))
at_or_below n c p at before below false t = let same : c ≡ n = grind (arith, nat_tests) in ap p same ∙ at

one_below : (n c : ℕ) (p : ℕ → Bool) → all_below n p ≡ true → c < n → p c ≡ true
one_below zero c p h below = absurd (omega (arith, below))
one_below (suc n) c p h below =
    let b = both (p n) (all_below n p) h in
    at_or_below n c p b.0 (λ less. one_below n c p b.1 less) below (nat_lt c n) refl

controls_are_good : all_below 160 is_good ≡ true
controls_are_good = refl

is_good_plain : (c : ℕ) → is_control c ≡ false → all_scalars (c ∷ []) ≡ true → is_good c ≡ true
is_good_plain c plain scalar =
    ap (λ cs. list_all free cs && all_scalars cs) (ap (λ b. cond b (escape_default c) (c ∷ [])) plain) ∙ ap (λ b. (not b && true) && all_scalars (c ∷ [])) plain ∙ scalar

control_below : (c : ℕ) → is_control c ≡ true → c < 160
control_below c h = grind (arith, nat_tests)

each_good : (c : ℕ) → all_scalars (c ∷ []) ≡ true → is_good c ≡ true
each_good c scalar = by_test (is_control c) refl
  where
    by_test : (t : Bool) → is_control c ≡ t → is_good c ≡ true
    by_test true t = one_below 160 c is_good controls_are_good (control_below c t)
    by_test false t = is_good_plain c t scalar

scalars_join : (xs ys : List ℕ) → all_scalars xs ≡ true → all_scalars ys ≡ true → all_scalars (xs ++ ys) ≡ true
scalars_join [] ys h k = k
scalars_join (x ∷ xs) ys h k =
    let b = both _ (all_scalars xs) h in
    ap (λ t. t && all_scalars (xs ++ ys)) b.0 ∙ scalars_join xs ys b.1 k

free_join : (xs ys : List ℕ) → list_all free xs ≡ true → list_all free ys ≡ true → list_all free (xs ++ ys) ≡ true
free_join xs ys h k = list_all-append free xs ys ∙ ap (λ t. t && list_all free ys) h ∙ k

head_scalar : (c : ℕ) (cs : List ℕ) → all_scalars (c ∷ cs) ≡ true → all_scalars (c ∷ []) ≡ true
head_scalar c cs h = ap (λ t. t && true) (both _ (all_scalars cs) h).0

all_good : (cs : List ℕ) → all_scalars cs ≡ true → (list_all free (flat_map shown_char cs) ≡ true) × (all_scalars (flat_map shown_char cs) ≡ true)
all_good [] h = (refl, refl)
all_good (c ∷ cs) h =
    let one = both (list_all free (shown_char c)) (all_scalars (shown_char c)) (each_good c (head_scalar c cs h)) in
    let rest = all_good cs (both _ (all_scalars cs) h).1 in
    (free_join (shown_char c) (flat_map shown_char cs) one.0 rest.0, scalars_join (shown_char c) (flat_map shown_char cs) one.1 rest.1)

-- nothing that is shown controls a terminal
pub shown_is_free : (text : List ℕ) → IsUtf8 text → HasNoControl (shown text)
shown_is_free text utf8 =
    let good = all_good (chars text) (scalars-chars text utf8) in
    ap (list_all free) (chars-encodes (flat_map shown_char (chars text)) good.1) ∙ good.0

pub no_more : (bs : List ℕ) → length bs ≡ 0 → bs ≡ []
no_more [] h = refl
no_more (b ∷ bs) h = absurd (omega arith)

none_newline : (cs : List ℕ) → list_all free cs ≡ true → NonePass is_newline cs
none_newline [] h = tt
none_newline (c ∷ cs) h =
    let b = both (free c) (list_all free cs) h in
    (not_newline c (is_newline c) refl b.0, none_newline cs b.1)
  where
    not_newline : (c : ℕ) (t : Bool) → is_newline c ≡ t → free c ≡ true → is_newline c ≡ false
    not_newline c true is h = let same : c ≡ 10 = grind (arith, nat_tests, is) in absurd (true≢false (sym h ∙ ap free same))
    not_newline c false is h = is

-- and so it is one line
pub free_is_one : (text : List ℕ) → IsUtf8 text → HasNoControl text → HasNoLineFeed text
free_is_one text utf8 h = lacks_at text (chars text, encodes-chars text utf8, none_newline (chars text) h)
