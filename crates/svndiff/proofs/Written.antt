-- Windows, one after another.
use Rattle.std.proofs.Common.{◌≡◌, ◌⊎◌, inl, inr, ℕ, zero, suc, ◌≤◌, ◌<◌, List, [], ◌∷◌, ◌++◌, length, take, drop, min, Option, Some, None, refl, sym, ap, ◌∙◌, append_assoc, arith}
use Rattle.std.proofs.lemmas.List.{take_all, drop_all, length-drop}
use Rattle.std.specs.Io.KnownBytes.{Appends}
use Rattle.svndiff.specs.Spelling.{window, windows, windows_within}

pub appends_join : (a b c : Option (List ℕ)) (x y : List ℕ) → Appends a b x → Appends b c y → Appends a c (x ++ y)
appends_join None b c x y h k = tt
appends_join (Some a) None c x y h k = absurd h
appends_join (Some a) (Some b) None x y h k = absurd k
appends_join (Some a) (Some b) (Some c) x y h k = k ∙ ap (λ t. t ++ y) h ∙ append_assoc a x y

-- room for more windows changes nothing
pub enough : (j k : ℕ) (text : List ℕ) → length text ≤ j → length text ≤ k → windows_within j text ≡ windows_within k text
enough zero (suc k) (b ∷ text) h l = absurd (omega (arith, h))
enough (suc j) zero (b ∷ text) h l = absurd (omega (arith, l))
enough (suc j) (suc k) (b ∷ text) h l =
    let d = length-drop 65536 (b ∷ text) in
    ap (λ t. window (take 65536 (b ∷ text)) ++ t) (enough j k (drop 65536 (b ∷ text)) (omega (arith, d, h)) (omega (arith, d, l)))
enough j k text h l = refl

one_window : (text : List ℕ) → 0 < length text → windows text ≡ window (take 65536 text) ++ windows (drop 65536 text)
one_window [] h = absurd (omega (arith, h))
one_window (b ∷ text) h =
    let d = length-drop 65536 (b ∷ text) in
    ap (λ t. window (take 65536 (b ∷ text)) ++ t) (enough (length text) (length (drop 65536 (b ∷ text))) (drop 65536 (b ∷ text)) (omega (arith, d)) (omega arith))

-- a window of as much as may be, and the rest
pub next_window : (text : List ℕ) (k : ℕ) → 0 < length text → (k ≡ 65536) ⊎ ((k ≡ length text) × (k ≤ 65536)) → windows text ≡ window (take k text) ++ windows (drop k text)
next_window text k h (inl e) = rw e (one_window text h)
next_window text k h (inr e) =
    let s = rw e.0 at e.1 in
    let t : take k text ≡ take 65536 text = take_all k text (omega (arith, e.0)) ∙ sym (take_all 65536 text s) in
    let d : drop k text ≡ drop 65536 text = drop_all k text (omega (arith, e.0)) ∙ sym (drop_all 65536 text s) in
    rw (t, d) (one_window text h)

pub shorter : (n k : ℕ) → k ≡ min n 65536 → (k ≡ 65536) ⊎ ((k ≡ n) × (k ≤ 65536))
shorter n k e = grind arith

-- one window more is written
pub one_more : (a b c : Option (List ℕ)) (text rest piece behind : List ℕ) (k : ℕ) → 0 < length rest → k ≡ min (length rest) 65536 → piece ≡ take k rest → behind ≡ drop k rest → (front : List ℕ) × Appends a b front × (windows text ≡ front ++ windows rest) → Appends b c (window piece) → (front : List ℕ) × Appends a c front × (windows text ≡ front ++ windows behind)
one_more a b c text rest piece behind k some m p d (front, before, e) new =
    let next = next_window rest k some (shorter (length rest) k m) in
    let both : window (take k rest) ++ windows (drop k rest) ≡ window piece ++ windows behind = rw (p, d) refl in
    (front ++ window piece, appends_join a b c front (window piece) before new, e ∙ ap (λ t. front ++ t) (next ∙ both) ∙ sym (append_assoc front (window piece) (windows behind)))
