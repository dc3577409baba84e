-- What a first entry has.
use Rattle.std.proofs.Common.{◌≡◌, ◌<◌, ◌≤◌, ◌+◌, ◌^◌, length-append, codes, length, ℕ, List, [], ◌∷◌, ◌++◌, Some, ap, arith}
use Rattle.std.specs.List.{flat_map}
use Rattle.std.specs.FinMap as finite
use Rattle.std.specs.Fmt.{decimal as printed}
use Rattle.std.proofs.lemmas.Fmt.{length-decimal-le}
use Rattle.uuid.specs.Text.{hyphenated_text, lower}
use Rattle.uuid.proofs.TextLemmas.{by_index_length}
use Rattle.node_base.specs.BlockCanon.{canon_block, canon_property}
use Rattle.node_base.specs.BlockGrammar.{block_end}
use Rattle.node_base.proofs.PropLemmas.{entries_none}
use Rattle.dump_text.specs.Canon.{canon_head, canon_entry, header_line}
use Rattle.repo_store.specs.Journal.{IsBeginning}

head_size : (id : List ℕ) → length (canon_head (Some id)) ≤ 200
head_size id = omega (arith, length-append (hyphenated_text lower id) (10 ∷ 10 ∷ []), id_size)
  where
    id_size : length (hyphenated_text lower id) ≡ 36
    id_size = by_index_length 36 _

line_size : (name value : List ℕ) → length (header_line name value) ≡ length name + (length value + 1)
line_size name value = omega (arith, length-append name (value ++ 10 ∷ []), length-append value (10 ∷ []))

four : (a b c d : List ℕ) → length (a ++ (b ++ (c ++ d))) ≡ length a + (length b + (length c + length d))
four a b c d = omega (arith, length-append a (b ++ (c ++ d)), length-append b (c ++ d), length-append c d)

block_size : length (canon_block finite.empty) ≡ 10
block_size = ap (λ (l : List (List ℕ × List ℕ)). length (flat_map canon_property l ++ block_end)) entries_none

short : (n : ℕ) → n < 100 → length (printed n) ≤ 2
short n h = length-decimal-le 2 n (omega arith) (omega (arith, h)) (omega (arith, h))

entry_size : length (canon_entry 0 finite.empty) ≤ 200
entry_size = sized (canon_block finite.empty) block_size
  where
    sized : (block : List ℕ) → length block ≡ 10
        → length
        (header_line (codes "Revision-number: ") (printed 0)
        ++ (header_line (codes "Prop-content-length: ") (printed (length block))
        ++ (header_line (codes "Content-length: ") (printed (length block)) ++ (10 ∷ [] ++ (block ++ 10 ∷ [])))))
        ≤ 200
    sized block h =
        let a = four (header_line (codes "Revision-number: ") (printed 0)) (header_line (codes "Prop-content-length: ") (printed (length block)))
        (header_line (codes "Content-length: ") (printed (length block))) (10 ∷ [] ++ (block ++ 10 ∷ [])) in
        let b = line_size (codes "Revision-number: ") (printed 0) in
        let c = line_size (codes "Prop-content-length: ") (printed (length block)) in
        let d = line_size (codes "Content-length: ") (printed (length block)) in
        let e = length-append block (10 ∷ []) in
        let small : length block < 100 = omega (arith, h) in
        omega (arith, a, b, c, d, e, h, short 0 (omega arith), short (length block) small)

-- it isn't empty, and has few bytes
pub beginning_size : (bytes id : List ℕ) → IsBeginning bytes id finite.empty → (0 < length bytes) × (length bytes ≤ 2 ^ 56)
beginning_size bytes id is =
    let whole = ap length is.canonical in
    let both = length-append (canon_head (Some id)) (canon_entry 0 finite.empty) in
    (omega (arith, whole, both), omega (arith, whole, both, head_size id, entry_size))
