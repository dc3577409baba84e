-- Parts of a text, one after another.
use Rattle.std.proofs.Common.{◌≡◌, ◌⊎◌, inl, inr, ℕ, zero, suc, ◌≤◌, ◌<◌, List, [], ◌∷◌, ◌++◌, length, take, drop, min, Option, Result, Ok, Err, OnOk, subst, refl, sym, ap, ◌∙◌, append_assoc, arith}
use Rattle.std.proofs.lemmas.List.{take_all, drop_all, length-drop}
use Rattle.std.specs.Fmt.{decimal}
use Rattle.std.specs.Io.KnownBytes.{Appends}
use Rattle.ra_item.specs.Items.{spell, Text}
use Rattle.ra_edit.specs.Commands.{parts, parts_within, chunk, token}
use Rattle.svndiff.specs.Spelling.{window}
use Rattle.ra_edit.specs.Written.{chunks}
use Rattle.svndiff.proofs.Written.{appends_join, shorter}

-- room for more parts changes nothing
enough_parts : (j k : ℕ) (text : List ℕ) → length text ≤ j → length text ≤ k → parts_within j text ≡ parts_within k text
enough_parts zero (suc k) (b ∷ text) h l = absurd (omega (arith, h))
enough_parts (suc j) zero (b ∷ text) h l = absurd (omega (arith, l))
enough_parts (suc j) (suc k) (b ∷ text) h l =
    let d = length-drop 65536 (b ∷ text) in
    ap (λ t. take 65536 (b ∷ text) ∷ t) (enough_parts j k (drop 65536 (b ∷ text)) (omega (arith, d, h)) (omega (arith, d, l)))
enough_parts j k text h l = refl

one_part : (text : List ℕ) → 0 < length text → parts text ≡ take 65536 text ∷ parts (drop 65536 text)
one_part [] h = absurd (omega (arith, h))
one_part (b ∷ text) h =
    let d = length-drop 65536 (b ∷ text) in
    ap (λ t. take 65536 (b ∷ text) ∷ t) (enough_parts (length text) (length (drop 65536 (b ∷ text))) (drop 65536 (b ∷ text)) (omega (arith, d)) (omega arith))

-- as much as may be, and the rest
pub next_part : (text : List ℕ) (k : ℕ) → 0 < length text → (k ≡ 65536) ⊎ ((k ≡ length text) × (k ≤ 65536)) → parts text ≡ take k text ∷ parts (drop k text)
next_part text k h (inl e) = rw e (one_part text h)
next_part text k h (inr e) =
    let s = rw e.0 at e.1 in
    let t : take k text ≡ take 65536 text = take_all k text (omega (arith, e.0)) ∙ sym (take_all 65536 text s) in
    let d : drop k text ≡ drop 65536 text = drop_all k text (omega (arith, e.0)) ∙ sym (drop_all 65536 text s) in
    rw (t, d) (one_part text h)

-- one chunk more is written
pub one_more_chunk : (a b c : Option (List ℕ)) (file : ℕ) (text rest piece behind : List ℕ) (k : ℕ) → 0 < length rest → k ≡ min (length rest) 65536 → piece ≡ take k rest → behind ≡ drop k rest → (front : List ℕ) × Appends a b front × (chunks file (parts text) ≡ front ++ chunks file (parts rest)) → Appends b c (spell (chunk (Text (token file)) (window piece))) → (front : List ℕ) × Appends a c front × (chunks file (parts text) ≡ front ++ chunks file (parts behind))
one_more_chunk a b c file text rest piece behind k some m p d (front, before, e) new =
    let next : parts rest ≡ piece ∷ parts behind = next_part rest k some (shorter (length rest) k m) ∙ rw (p, d) refl in
    (front ++ spell (chunk (Text (token file)) (window piece)), appends_join a b c front (spell (chunk (Text (token file)) (window piece))) before new, e ∙ ap (λ t. front ++ chunks file t) next ∙ sym (append_assoc front (spell (chunk (Text (token file)) (window piece))) (chunks file (parts behind))))

-- bytes behind their length and a colon, with a space behind them
pub sized : {E : Type 0} (r : Result (Unit {0}) E) (a b c d : Option (List ℕ)) (n : ℕ) (w : List ℕ) → n ≡ length w → Appends a b (decimal n ++ 58 ∷ []) → Appends b c w → OnOk r (Appends c d (32 ∷ [])) → OnOk r (Appends a d (decimal (length w) ++ 58 ∷ (w ++ 32 ∷ [])))
sized (Err e) a b c d n w i x y z = tt
sized (Ok u) a b c d n w i x y z =
    let t : Appends a d ((decimal n ++ 58 ∷ []) ++ (w ++ 32 ∷ [])) = appends_join a b d (decimal n ++ 58 ∷ []) (w ++ 32 ∷ []) x (appends_join b c d w (32 ∷ []) y z) in
    subst (λ bs. Appends a d bs) (append_assoc (decimal n) (58 ∷ []) (w ++ 32 ∷ []) ∙ ap (λ k. decimal k ++ 58 ∷ (w ++ 32 ∷ [])) i) t

-- bytes, and then more
pub both_parts : {E : Type 0} (r : Result (Unit {0}) E) (a b c : Option (List ℕ)) (x y : List ℕ) → Appends a b x → OnOk r (Appends b c y) → OnOk r (Appends a c (x ++ y))
both_parts (Err e) a b c x y h k = tt
both_parts (Ok u) a b c x y h k = appends_join a b c x y h k
