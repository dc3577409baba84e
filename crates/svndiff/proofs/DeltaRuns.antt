-- Runs over the bytes of a delta.
use Rattle.std.proofs.Common.{◌≡◌, ◌⊎◌, inl, inr, ℕ, ◌+◌, ◌-◌, ◌≤◌, ◌<◌, ◌==◌, ◌||◌, Bool, true, false, List, [], ◌∷◌, ◌++◌, length, take, drop, nat_lt, refl, sym, ap, ◌∙◌, append_assoc, arith}
use Rattle.std.specs.Prelude.{Err, if◌then◌else◌}
use Rattle.std.proofs.lemmas.Bool.Decides.{nat_tests}
use Rattle.std.proofs.lemmas.List.{take-append-drop, length-take}
use Rattle.svndiff.specs.declared.delta.Delta.{Delta}
use Rattle.svndiff.specs.declared.delta_fault.DeltaFault.{DeltaFault}
use Rattle.svndiff.specs.declared.delta_fault.DeltaFault.TheVariants.{OutOfMemory}
use Rattle.svndiff.specs.declared.instructions.Instruction.{Instruction}
use Rattle.svndiff.specs.declared.instructions.Kind.{Kind}
use Rattle.svndiff.specs.declared.instructions.Kind.TheVariants as kind
use Rattle.svndiff.specs.declared.window.Awaited.{Awaited}
use Rattle.svndiff.specs.declared.window.Awaited.TheVariants as at
use Rattle.svndiff.specs.declared.window.Window.{Window}
use Rattle.svndiff.specs.DeltaReading.{is_wrong, takes_wrong, new_of}
use Rattle.svndiff.specs.DeltaStreams.{Stream, Reads, Refuses, Took, Now, TookIs, Tells, taken, held, settled, any_byte, one_byte, reading, and_texts, texts_in}
use Rattle.svndiff.proofs.Runs.{lt_true}

-- pieces don't matter
pub reading-append : (base : List ℕ) (s : Stream) (a b : List ℕ) → reading base s (a ++ b) ≡ reading base (reading base s a) b
reading-append base s [] b = refl
reading-append base s (x ∷ a) b = reading-append base (one_byte base s x) a b

-- a refusal stays
pub reading-refused : (base text : List ℕ) (f : DeltaFault) (bs : List ℕ) → reading base (Refuses text f) bs ≡ Refuses text f
reading-refused base text f [] = refl
reading-refused base text f (b ∷ bs) = reading-refused base text f bs

-- what is taken where an instruction isn't wrong
abbrev pub TakesRight : Kind → ℕ → ℕ → Window → Type 0
TakesRight kind.Source n m w = n + m ≤ w.source
TakesRight kind.Target n m w = n < w.sum
TakesRight kind.New n m w = w.news + m ≤ w.fresh

takes_right : (k : Kind) (n m : ℕ) (w : Window) → 0 < m → takes_wrong (record { kind = k; at = n; length = m }) w ≡ false → TakesRight k n m w
takes_right kind.Source n m w some e = grind (arith, nat_tests, some)
takes_right kind.Target n m w some e = by_test (nat_lt n w.sum) refl e
  where
    by_test : (t : Bool) → nat_lt n w.sum ≡ t → (if t then false else true) ≡ false → n < w.sum
    by_test true f e = grind (arith, nat_tests)
    by_test false f e = cc
takes_right kind.New n m w some e = grind (arith, nat_tests, some)

right_by : (k : Kind) (n m : ℕ) (w : Window) (s t : Bool) → (m == 0) ≡ s → nat_lt (w.target - w.sum) m ≡ t → (if s || t then true else takes_wrong (record { kind = k; at = n; length = m }) w) ≡ false → (0 < m) × (w.sum + m ≤ w.target) × TakesRight k n m w
right_by k n m w true t e f h = cc
right_by k n m w false true e f h = cc
right_by k n m w false false e f h =
    let some : 0 < m = grind (arith, nat_tests) in
    (some, grind (arith, nat_tests, some), takes_right k n m w some h)

pub is_right : (i : Instruction) (w : Window) → is_wrong i w ≡ false → (0 < i.length) × (w.sum + i.length ≤ w.target) × TakesRight i.kind i.at i.length w
is_right i w e = right_by i.kind i.at i.length w (i.length == 0) (nat_lt (w.target - w.sum) i.length) refl refl e

-- the sums of what is counted stay within the window's own numbers
news_within : (k : Kind) (n m : ℕ) (w : Window) → TakesRight k n m w → w.news + new_of k m ≤ w.news ⊎ w.news + new_of k m ≤ w.fresh
news_within kind.Source n m w h = inl (omega arith)
news_within kind.Target n m w h = inl (omega arith)
news_within kind.New n m w h = inr h

pub counts : (i : Instruction) (w : Window) → is_wrong i w ≡ false → w.target < 18446744073709551616 → w.fresh < 18446744073709551616 → w.news < 18446744073709551616 → (w.sum + i.length < 18446744073709551616) × (w.news + new_of i.kind i.length < 18446744073709551616)
counts i w e h k l =
    let r = is_right i w e in
    (omega (arith, r.1, h), elim (news_within i.kind i.at i.length w r.2) [ inl m ↦ omega (arith, m, l) | inr m ↦ omega (arith, m, k) ])

-- new data is kept
new_byte : (size : ℕ) (d : Delta) (b : ℕ) → d.window.place ≡ at.NewData → any_byte size d b ≡ Now (held (b ∷ []) d)
new_byte size d b e = rw e refl

-- any other byte is judged
other_at : (p : Awaited) (x y : Took) → (p ≡ at.NewData → ⊥) → (elim p as (λ _. Took) [ at.NewData ↦ x | _ ↦ y ]) ≡ y
other_at at.NewData x y h = absurd (h refl)
other_at p x y h = refl

pub other_byte : (size : ℕ) (d : Delta) (b : ℕ) → (d.window.place ≡ at.NewData → ⊥) → any_byte size d b ≡ taken size d b
other_byte size d b h = other_at d.window.place (Now (held (b ∷ []) d)) (taken size d b) h

pub data_run : (base text : List ℕ) (d : Delta) (s more : List ℕ) → d.window.place ≡ at.NewData → 0 < length s → (1 < length s → length s ≤ d.window.fresh) → reading base (Reads text d) (s ++ more) ≡ reading base (settled base text (Now (held s d))) more
data_run base text d [] more e some h = absurd (omega (arith, some))
data_run base text d (b ∷ []) more e some h = ap (λ t. reading base (settled base text t) more) (new_byte (length base) d b e)
data_run base text d (b ∷ c ∷ s) more e some h =
    let w = d.window in
    let l = h (omega arith) in
    let p : nat_lt 1 w.fresh ≡ true = lt_true 1 w.fresh (omega (arith, l)) in
    let one = held (b ∷ []) d in
    let next : one.window.place ≡ at.NewData = rw p refl in
    let stays : settled base text (Now one) ≡ Reads text one = rw p refl in
    let f : w.fresh - 1 - length (c ∷ s) ≡ w.fresh - length (b ∷ c ∷ s) = omega arith in
    let q : nat_lt (length (c ∷ s)) (w.fresh - 1) ≡ nat_lt (length (b ∷ c ∷ s)) w.fresh = grind (arith, nat_tests) in
    let twice : held (c ∷ s) one ≡ held (b ∷ c ∷ s) d = rw (f, q, append_assoc) refl in
    ap (λ t. reading base (settled base text t) (c ∷ s ++ more)) (new_byte (length base) d b e)
    ∙ ap (λ t. reading base t (c ∷ s ++ more)) stays
    ∙ data_run base text one (c ∷ s) more next (omega arith) (λ _. omega (arith, l))
    ∙ ap (λ t. reading base (settled base text (Now t)) more) twice

-- new data at the beginning of a piece, and the rest
pub stretch_at : (base text : List ℕ) (d : Delta) (piece : List ℕ) (k : ℕ) → d.window.place ≡ at.NewData → 0 < k → 0 < length piece → (1 < k → k ≤ d.window.fresh) → reading base (Reads text d) piece ≡ reading base (settled base text (Now (held (take k piece) d))) (drop k piece)
stretch_at base text d piece k e some any h =
    let l = length-take k piece in
    let run = data_run base text d (take k piece) (drop k piece) e (omega (arith, l, some, any)) (λ m. omega (arith, l, m, h (omega (arith, l, m)))) in
    ap (reading base (Reads text d)) (sym (take-append-drop k piece)) ∙ run

-- ---- texts of windows

data_texts : (base : List ℕ) (d : Delta) (s more : List ℕ) → d.window.place ≡ at.NewData → 0 < length s → (1 < length s → length s ≤ d.window.fresh) → texts_in base d (s ++ more) ≡ and_texts base (Now (held s d)) (λ z. texts_in base z more)
data_texts base d [] more e some h = absurd (omega (arith, some))
data_texts base d (b ∷ []) more e some h = ap (λ t. and_texts base t (λ z. texts_in base z more)) (new_byte (length base) d b e)
data_texts base d (b ∷ c ∷ s) more e some h =
    let w = d.window in
    let l = h (omega arith) in
    let p : nat_lt 1 w.fresh ≡ true = lt_true 1 w.fresh (omega (arith, l)) in
    let one = held (b ∷ []) d in
    let next : one.window.place ≡ at.NewData = rw p refl in
    let stays : and_texts base (Now one) (λ z. texts_in base z (c ∷ s ++ more)) ≡ texts_in base one (c ∷ s ++ more) = rw p refl in
    let f : w.fresh - 1 - length (c ∷ s) ≡ w.fresh - length (b ∷ c ∷ s) = omega arith in
    let q : nat_lt (length (c ∷ s)) (w.fresh - 1) ≡ nat_lt (length (b ∷ c ∷ s)) w.fresh = grind (arith, nat_tests) in
    let twice : held (c ∷ s) one ≡ held (b ∷ c ∷ s) d = rw (f, q, append_assoc) refl in
    ap (λ t. and_texts base t (λ z. texts_in base z (c ∷ s ++ more))) (new_byte (length base) d b e)
    ∙ stays
    ∙ data_texts base one (c ∷ s) more next (omega arith) (λ _. omega (arith, l))
    ∙ ap (λ t. and_texts base (Now t) (λ z. texts_in base z more)) twice

pub stretch_texts : (base : List ℕ) (d : Delta) (piece : List ℕ) (k : ℕ) → d.window.place ≡ at.NewData → 0 < k → 0 < length piece → (1 < k → k ≤ d.window.fresh) → texts_in base d piece ≡ and_texts base (Now (held (take k piece) d)) (λ z. texts_in base z (drop k piece))
stretch_texts base d piece k e some any h =
    let l = length-take k piece in
    let run = data_texts base d (take k piece) (drop k piece) e (omega (arith, l, some, any)) (λ m. omega (arith, l, m, h (omega (arith, l, m)))) in
    ap (texts_in base d) (sym (take-append-drop k piece)) ∙ run

-- a byte that is refused
pub refused_by : (f : DeltaFault) (base : List ℕ) (d new : Delta) (b : ℕ) (rest : List ℕ) → (d.window.place ≡ at.NewData → ⊥) → TookIs (Err f) new (taken (length base) d b) → Tells f base d (b ∷ rest)
refused_by OutOfMemory base d new b rest h e = tt
refused_by f base d new b rest h e = λ text.
    ap (λ t. reading base (settled base text t) rest) (other_byte (length base) d b h ∙ e) ∙ reading-refused base text f rest
