-- Reads that are served from what was read ahead.
use Rattle.std.proofs.Common.{◌≡◌, ◌≤◌, ◌<◌, ◌+◌, ◌-◌, ◌++◌, ℕ, List, length, take, drop, sym, ◌∙◌, ap, arith}
use Rattle.std.proofs.lemmas.List.{drop-drop, drop-take, length-take-le, take-take}
use Rattle.fleet_disk.specs.Ahead.{IsAhead}
use Rattle.fleet_disk.specs.Rules.{IsRead}

-- a copy of what was read ahead is a read
pub read_from : (file : List ℕ) (from len : ℕ) (bytes : List ℕ) (at n : ℕ) (before after : List ℕ) → IsAhead file from len bytes → len ≤ length bytes → from ≤ at → at ≤ from + len
    → (at < length file → at < from + len) → IsRead (take len bytes) (at - from) n before after → IsRead file at n before after
read_from file from len bytes at n before after (inside, same) has le to there read = record {
  within = read.within;
  inside = omega (arith, inside, le, to, read.inside, size);
  bytes = read.bytes ∙ ap (λ (l : List ℕ). l ++ drop n before) parts;
  some = λ lt some. read.some (omega (arith, size, le, there lt)) some;
}
  where
    size : length (take len bytes) ≡ len
    size = length-take-le len bytes has

    k : ℕ
    k = at - from

    whole : k + (len - k) ≡ len
    whole = omega (arith, to, le)

    fits : n ≤ len - k
    fits = omega (arith, read.inside, size)

    parts : take n (drop (at - from) (take len bytes)) ≡ take n (drop at file)
    parts = ap (λ (l : List ℕ). take n (drop k l)) same
        ∙ ap (λ (m : ℕ). take n (drop k (take m (drop from file)))) (sym whole)
        ∙ ap (take n) (drop-take k (len - k) (drop from file))
        ∙ take-take n (len - k) (drop k (drop from file)) fits
        ∙ ap (take n) (drop-drop k from file)
        ∙ ap (λ (m : ℕ). take n (drop m file)) (omega (arith, le))
