-- How many bytes blocks have.
use Rattle.std.proofs.Common.{◌≡◌, ℕ, suc, ◌+◌, ◌/◌, ◌%◌, ◌≤◌, ◌<◌, not, cond, true, false, List, [], ◌∷◌, ◌++◌, length, take, get_or, nat_le, refl, sym, ap, ◌∙◌, length-append, append_assoc, append-nil, arith}
use Rattle.std.proofs.lemmas.Bool.Decides.{nat_tests}
use Rattle.std.proofs.lemmas.Fmt.{decimal_digit, decimal_step, length-decimal-le}
use Rattle.std.proofs.lemmas.List.{take_more, take_all}
use Rattle.std.specs.Fmt.{decimal}
use Rattle.std.specs.List.{flat_map}
use Rattle.std.specs.FinMap as map
use Rattle.node_base.specs.Path.{Name}
use Rattle.node_base.specs.Entries.{Entries, passing}
use Rattle.node_base.specs.Props.{PropMap, IsProps, is_sync}
use Rattle.node_base.specs.BlockGrammar.{block_end}
use Rattle.node_base.specs.BlockCanon.{canon_property, canon_block}
use Rattle.node_base.proofs.PropLemmas.{len_retained}
use Rattle.node_base.proofs.BlockSpelled.{both}

pub one_digit : (n : ℕ) → n < 10 → length (decimal n) ≡ 1
one_digit n h = ap length (decimal_digit n h)

pub more_digits : (n : ℕ) → 10 ≤ n → n ≤ 65536 → length (decimal n) ≡ length (decimal (n / 10)) + 1
more_digits n h le = ap length (decimal_step n h (omega arith)) ∙ length-append (decimal (n / 10)) ((48 + n % 10) ∷ [])

pub few_digits : (n : ℕ) → n ≤ 65536 → length (decimal n) ≤ 5
few_digits n h = length-decimal-le 5 n (omega arith) (omega arith) (omega arith)

-- the names that are counted apart are all names
parts : (es : Entries) → passing is_sync es + passing (λ n. not (is_sync n)) es ≡ length es
parts [] = refl
parts (e ∷ es) =
    let r = parts es in
    elim (is_sync e.0) as (λ b. (cond b 1 0 + passing is_sync es) + (cond (not b) 1 0 + passing (λ n. not (is_sync n)) es) ≡ suc (length es)) [ true ↦ omega arith | false ↦ omega arith ]

le_is : (a b : ℕ) → nat_le a b ≡ true → a ≤ b
le_is a b e = grind (arith, nat_tests)

-- a map of properties has at most 272 entries
pub few_entries : (m : PropMap) → IsProps m → length (map.entries m) ≤ 272
few_entries m p =
    let e = both (nat_le (map.len (map.retain_keys m (λ n. not (is_sync n)))) 256) (nat_le (map.len (map.retain_keys m is_sync)) 16) p.fit in
    omega (arith, parts (map.entries m), len_retained m is_sync, len_retained m (λ n. not (is_sync n)), le_is _ _ e.0, le_is _ _ e.1)

-- the properties so far
abbrev pub so_far : Entries → ℕ → ℕ
so_far es i = length (flat_map canon_property (take i es))

flat-append : (es fs : Entries) → flat_map canon_property (es ++ fs) ≡ flat_map canon_property es ++ flat_map canon_property fs
flat-append [] fs = refl
flat-append (e ∷ es) fs = ap (λ x. canon_property e ++ x) (flat-append es fs) ∙ sym (append_assoc (canon_property e) (flat_map canon_property es) (flat_map canon_property fs))

pub one_more_property : (es : Entries) (i : ℕ) (e : Name × List ℕ) → i < length es → e ≡ get_or es i e → so_far es (i + 1) ≡ so_far es i + length (canon_property e)
one_more_property es i e h is =
    ap (λ t. length (flat_map canon_property t)) (take_more es i e h ∙ ap (λ x. take i es ++ x ∷ []) (sym is))
    ∙ ap length (flat-append (take i es) (e ∷ []))
    ∙ length-append (flat_map canon_property (take i es)) (canon_property e ++ [])
    ∙ ap (λ x. so_far es i + length x) (append-nil (canon_property e))

pub whole_block : (m : PropMap) (es : Entries) (i : ℕ) → es ≡ map.entries m → length es ≤ i → so_far es i + 10 ≡ length (canon_block m)
whole_block m es i e h =
    ap (λ t. length (flat_map canon_property t) + 10) (take_all i es h ∙ e) ∙ sym (length-append (flat_map canon_property (map.entries m)) block_end)
