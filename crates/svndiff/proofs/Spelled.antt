-- What is written is in the grammar.
use Rattle.std.proofs.Common.{◌≡◌, inl, inr, ℕ, zero, suc, ◌+◌, ◌-◌, ◌*◌, ◌/◌, ◌%◌, ◌≤◌, ◌<◌, ◌^◌, Bool, true, false, List, [], ◌∷◌, ◌++◌, length, take, drop, nat_lt, refl, sym, subst, append_assoc, append-nil, arith}
use Rattle.std.proofs.lemmas.List.{length-take, length-drop, take-append-drop}
use Rattle.std.specs.Bool.{if◌then◌else◌}
use Rattle.svndiff.specs.Groups.{is_last, group, Spells}
use Rattle.svndiff.specs.Grammar.{IsNew, AreNew, None, More, IsWindow, AreWindows, Empty, Then, IsText}
use Rattle.svndiff.specs.Spelling.{groups, new_data, window, windows, windows_within, spelled}
use Rattle.svndiff.specs.declared.limits.TheConstants.{TEXT_BYTES}
use Rattle.svndiff.proofs.Runs.{lt_true, lt_false, lt_from}

-- the seven bits of a byte with its high bit set, and of one without
high : (n : ℕ) → (is_last (128 + n) ≡ false) × (group (128 + n) ≡ n)
high n =
    let e : nat_lt (128 + n) 128 ≡ false = lt_false (128 + n) 128 (omega arith) in
    let s : 128 + n - 128 ≡ n = omega arith in
    (e, rw (e, s) refl)

low : (n : ℕ) → n < 128 → (is_last n ≡ true) × (group n ≡ n)
low n h =
    let e : nat_lt n 128 ≡ true = lt_true n 128 h in
    (e, rw e refl)

two_groups : (n : ℕ) → (0 * 128 + n / 128) * 128 + n % 128 ≡ n
two_groups n = omega arith

three_groups : (n : ℕ) → ((0 * 128 + n / 16384) * 128 + (n / 128) % 128) * 128 + n % 128 ≡ n
three_groups n = omega arith

remainder : (n : ℕ) → n % 128 < 128
remainder n = omega arith

groups_by : (n : ℕ) (s t : Bool) → nat_lt n 128 ≡ s → nat_lt n 16384 ≡ t → n < 2 ^ 64 → Spells (if s then n ∷ [] else if t then (128 + n / 128) ∷ (n % 128) ∷ [] else (128 + n / 16384) ∷ (128 + (n / 128) % 128) ∷ (n % 128) ∷ []) n
groups_by n true t e f h =
    let a = low n (lt_from n 128 e) in
    let z : 0 * 128 + n ≡ n = omega arith in
    record { ends = a.0; short = omega arith; number = rw (a.1, z) refl; small = h }
groups_by n false true e f h =
    let a = high (n / 128) in
    let b = low (n % 128) (remainder n) in
    record { ends = rw (a.0, b.0) refl; short = omega arith; number = rw (a.1, b.1) (two_groups n); small = h }
groups_by n false false e f h =
    let a = high (n / 16384) in
    let b = high ((n / 128) % 128) in
    let c = low (n % 128) (remainder n) in
    record { ends = rw (a.0, b.0, c.0) refl; short = omega arith; number = rw (a.1, b.1, c.1) (three_groups n); small = h }

pub groups_spell : (n : ℕ) → n < 2 ^ 64 → Spells (groups n) n
groups_spell n h = groups_by n (nat_lt n 128) (nat_lt n 16384) refl refl h

-- an instruction
new_by : (n : ℕ) (s : Bool) → nat_lt n 64 ≡ s → 0 < n → n < 2 ^ 64 → IsNew (if s then (128 + n) ∷ [] else 128 ∷ groups n) n
new_by n true e some small = (some, inl (lt_from n 64 e, refl))
new_by n false e some small = (some, inr (groups n, groups_spell n small, refl))

one_new : (n : ℕ) → 0 < n → n < 2 ^ 64 → AreNew (new_data n) n
one_new n some small = subst (AreNew (new_data n)) (omega arith) (More [] (new_data n) 0 n None (new_by n (nat_lt n 64) refl some small))

groups_short : (n : ℕ) (s t : Bool) → nat_lt n 128 ≡ s → nat_lt n 16384 ≡ t → length (if s then n ∷ [] else if t then (128 + n / 128) ∷ (n % 128) ∷ [] else (128 + n / 16384) ∷ (128 + (n / 128) % 128) ∷ (n % 128) ∷ []) ≤ 3
groups_short n true t e f = omega arith
groups_short n false true e f = omega arith
groups_short n false false e f = omega arith

new_short : (n : ℕ) (s : Bool) → nat_lt n 64 ≡ s → length (if s then (128 + n) ∷ [] else 128 ∷ groups n) ≤ 4
new_short n true e = omega arith
new_short n false e = omega (arith, groups_short n (nat_lt n 128) (nat_lt n 16384) refl refl)

zero_spelled : Spells (0 ∷ []) 0
zero_spelled = record { ends = refl; short = omega arith; number = refl; small = omega arith }

-- a window
pub window_is : (new : List ℕ) → 0 < length new → length new ≤ 65536 → IsWindow (window new) new
window_is new some h =
    let n = length new in
    let small : n < 2 ^ 64 = omega (arith, h) in
    let size : length (new_data n) < 2 ^ 64 = omega (arith, new_short n (nat_lt n 64) refl) in
    record {
      offset = 0 ∷ [];
      source = 0 ∷ [];
      target = groups n;
      size = groups (length (new_data n));
      news = groups n;
      instructions = new_data n;
      anywhere = 0;
      is_offset = zero_spelled;
      no_source = zero_spelled;
      is_target = groups_spell n small;
      is_size = groups_spell (length (new_data n)) size;
      is_news = groups_spell n small;
      make = one_new n some small;
      short = omega (arith, h);
      joined = refl;
    }

-- a window in front of others
in_front : (first new bytes text : List ℕ) → IsWindow first new → AreWindows bytes text → AreWindows (first ++ bytes) (new ++ text)
in_front first new [] [] w Empty = subst (λ b. AreWindows b (new ++ [])) (sym (append-nil first)) (subst (AreWindows first) (sym (append-nil new)) (Then [] [] first new Empty w))
in_front first new both_bytes both_texts w (Then bytes text last more before one) =
    subst (λ b. AreWindows b (new ++ (text ++ more))) (append_assoc first bytes last) (subst (AreWindows ((first ++ bytes) ++ last)) (append_assoc new text more) (Then (first ++ bytes) (new ++ text) last more (in_front first new bytes text w before) one))

-- the first piece of a text and what is left, for any size of a piece
piece_sizes : (n : ℕ) (t : List ℕ) → 0 < n → 0 < length t → (0 < length (take n t)) × (length (take n t) ≤ n) × (length (drop n t) < length t)
piece_sizes n t some more = (omega (arith, length-take n t, some, more), omega (arith, length-take n t), omega (arith, length-drop n t, some, more))

below : (a b k : ℕ) → a < b → b ≤ suc k → a ≤ k
below a b k l h = omega (arith, l, h)

one_more : (k : ℕ) (all first rest : List ℕ) → first ++ rest ≡ all → 0 < length first → length first ≤ 65536 → AreWindows (windows_within k rest) rest → AreWindows (window first ++ windows_within k rest) all
one_more k all first rest e some h more = subst (AreWindows (window first ++ windows_within k rest)) e (in_front (window first) first (windows_within k rest) rest (window_is first some h) more)

windows_are : (k : ℕ) (text : List ℕ) → length text ≤ k → AreWindows (windows_within k text) text
windows_are zero [] h = Empty
windows_are zero (b ∷ text) h = absurd (omega (arith, h))
windows_are (suc k) [] h = Empty
windows_are (suc k) (b ∷ text) h =
    let p = piece_sizes 65536 (b ∷ text) (omega arith) (omega arith) in
    one_more k (b ∷ text) (take 65536 (b ∷ text)) (drop 65536 (b ∷ text)) (take-append-drop 65536 (b ∷ text)) p.0 p.1 (windows_are k (drop 65536 (b ∷ text)) (below (length (drop 65536 (b ∷ text))) (length (b ∷ text)) k p.2 h))

pub written_is_text : (text : List ℕ) → length text ≤ TEXT_BYTES → IsText (spelled text) text
written_is_text text h = record { windows = windows text; are = windows_are (length text) text (omega arith); fits = h; joined = refl }
