-- A text in pieces.
use Rattle.std.proofs.Common.{◌≡◌, ◌⊎◌, inl, inr, ℕ, zero, suc, ◌≤◌, ◌<◌, List, [], ◌∷◌, ◌++◌, length, take, drop, map, min, Option, Result, Ok, Err, OnOk, refl, sym, ap, ◌∙◌, append_assoc, arith}
use Rattle.std.proofs.KnownBytes.{Appends-trans}
use Rattle.std.proofs.lemmas.List.{take_all, drop_all, length-drop}
use Rattle.std.specs.Io.KnownBytes.{Appends}
use Rattle.editor_ends.specs.Parts.{pieces, pieces_of}
use Rattle.ra_item.specs.Items.{spell, spell_all, row, Text}

-- room for more pieces changes nothing
enough : (j k : ℕ) (text : List ℕ) → length text ≤ j → length text ≤ k → pieces_of j text ≡ pieces_of k text
enough zero zero text h l = refl
enough zero (suc k) [] h l = refl
enough (suc j) zero [] h l = refl
enough zero (suc k) (b ∷ text) h l = absurd (omega (arith, h))
enough (suc j) zero (b ∷ text) h l = absurd (omega (arith, l))
enough (suc j) (suc k) [] h l = refl
enough (suc j) (suc k) (b ∷ text) h l =
    let d = length-drop 65536 (b ∷ text) in
    ap (λ t. take 65536 (b ∷ text) ∷ t) (enough j k (drop 65536 (b ∷ text)) (omega (arith, d, h)) (omega (arith, d, l)))

one_piece : (text : List ℕ) → 0 < length text → pieces text ≡ take 65536 text ∷ pieces (drop 65536 text)
one_piece [] h = absurd (omega (arith, h))
one_piece (b ∷ text) h =
    let d = length-drop 65536 (b ∷ text) in
    ap (λ t. take 65536 (b ∷ text) ∷ t) (enough (length text) (length (drop 65536 (b ∷ text))) (drop 65536 (b ∷ text)) (omega (arith, d)) (omega arith))

-- as much as may be, and the rest
next_piece : (text : List ℕ) (k : ℕ) → 0 < length text → (k ≡ 65536) ⊎ ((k ≡ length text) × (k ≤ 65536)) → pieces text ≡ take k text ∷ pieces (drop k text)
next_piece text k h (inl e) = rw e (one_piece text h)
next_piece text k h (inr e) =
    let s = rw e.0 at e.1 in
    let t : take k text ≡ take 65536 text = take_all k text (omega (arith, e.0)) ∙ sym (take_all 65536 text s) in
    let d : drop k text ≡ drop 65536 text = drop_all k text (omega (arith, e.0)) ∙ sym (drop_all 65536 text s) in
    rw (t, d) (one_piece text h)

shorter : (n k : ℕ) → k ≡ min n 65536 → (k ≡ 65536) ⊎ ((k ≡ n) × (k ≤ 65536))
shorter n k e = grind arith

-- one piece more is written
pub one_more_piece : (a b c : Option (List ℕ)) (text rest piece behind : List ℕ) (k : ℕ) → 0 < length rest → k ≡ min (length rest) 65536 → piece ≡ take k rest → behind ≡ drop k rest → (front : List ℕ) × Appends a b front × (spell_all (row (map Text (pieces text))) ≡ front ++ spell_all (row (map Text (pieces rest)))) → Appends b c (spell (Text piece)) → (front : List ℕ) × Appends a c front × (spell_all (row (map Text (pieces text))) ≡ front ++ spell_all (row (map Text (pieces behind))))
one_more_piece a b c text rest piece behind k some m p d (front, before, e) new =
    let next : pieces rest ≡ piece ∷ pieces behind = next_piece rest k some (shorter (length rest) k m) ∙ rw (p, d) refl in
    (front ++ spell (Text piece), Appends-trans a b c front (spell (Text piece)) before new, e ∙ ap (λ t. front ++ spell_all (row (map Text t))) next ∙ sym (append_assoc front (spell (Text piece)) (spell_all (row (map Text (pieces behind))))))

-- bytes, and then more
pub both_parts : {E : Type 0} (r : Result (Unit {0}) E) (a b c : Option (List ℕ)) (x y : List ℕ) → Appends a b x → OnOk r (Appends b c y) → OnOk r (Appends a c (x ++ y))
both_parts (Err e) a b c x y h k = tt
both_parts (Ok u) a b c x y h k = Appends-trans a b c x y h k
