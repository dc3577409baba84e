-- Splitting a line.
use Rattle.std.proofs.Common.{◌≡◌, ℕ, ◌+◌, ◌-◌, ◌≤◌, ◌<◌, true, false, ◌&&◌, ◌==◌, List, [], ◌∷◌, ◌++◌, length, take, drop, get_or, Option, Some, None, refl, sym, ap, append_assoc, append-nil, arith}
use Rattle.std.proofs.lemmas.List.{drop_more, take_more, drop_all}
use Rattle.std.specs.Option.{option_map}
use Rattle.dump_text.specs.Headers.{split_after, split_line, name_more, behind}

behind_more : (front : List ℕ) (b : ℕ) (o : Option (List ℕ × List ℕ)) → behind front (option_map (name_more b) o) ≡ behind (front ++ b ∷ []) o
behind_more front b None = refl
behind_more front b (Some p) = ap (λ x. Some (x, p.1)) (sym (append_assoc front (b ∷ []) p.0))

behind_nil : (o : Option (List ℕ × List ℕ)) → behind [] o ≡ o
behind_nil None = refl
behind_nil (Some p) = refl

pub split_begin : (line : List ℕ) → behind (take (1 - 1) line) (split_after (get_or line (1 - 1) 0) (drop 1 line)) ≡ split_line line
split_begin [] = refl
split_begin (b ∷ bs) = behind_nil (split_after b bs)

pub split_on : (line : List ℕ) (i : ℕ) → 1 ≤ i → i < length line → (get_or line (i - 1) 0 == 58 && get_or line i 0 == 32) ≡ false → behind (take (i - 1) line) (split_after (get_or line (i - 1) 0) (drop i line)) ≡ behind (take i line) (split_after (get_or line i 0) (drop (i + 1) line))
split_on line i one lt e =
    let d = drop_more line i 0 lt in
    let z : i - 1 + 1 ≡ i = omega arith in
    let t : take i line ≡ take (i - 1) line ++ get_or line (i - 1) 0 ∷ [] = rw z at (take_more line (i - 1) 0 (omega arith)) in
    rw (d, t, e) (behind_more (take (i - 1) line) (get_or line (i - 1) 0) (split_after (get_or line i 0) (drop (i + 1) line)))

pub split_here : (line : List ℕ) (i : ℕ) → 1 ≤ i → i < length line → (get_or line (i - 1) 0 == 58 && get_or line i 0 == 32) ≡ true → behind (take (i - 1) line) (split_after (get_or line (i - 1) 0) (drop i line)) ≡ Some (take (i - 1) line, drop (i + 1) line)
split_here line i one lt e =
    let d = drop_more line i 0 lt in
    rw (d, e, append-nil) refl

pub split_end : (line : List ℕ) (i : ℕ) → length line ≤ i → behind (take (i - 1) line) (split_after (get_or line (i - 1) 0) (drop i line)) ≡ None
split_end line i h = rw (drop_all i line h) refl
