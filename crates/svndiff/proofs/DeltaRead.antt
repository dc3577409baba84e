-- What the grammar calls a delta is read.
use Rattle.std.proofs.Common.{◌≡◌, ◌⊎◌, inl, inr, ℕ, zero, ◌+◌, ◌-◌, ◌*◌, ◌≤◌, ◌<◌, ◌^◌, ◌==◌, not, Bool, true, false, List, [], ◌∷◌, ◌++◌, length, take, drop, refl, sym, ap, subst, ◌∙◌, append_assoc, append-nil, length-append, arith}
use Rattle.std.proofs.lemmas.Bool.Decides.{nat_tests}
use Rattle.std.proofs.lemmas.List.{nil_from_length, length-take, length-drop}
use Rattle.std.specs.Prelude.{Option, Some, None}
use Rattle.svndiff.specs.Groups.{is_last, group, number_after, ends_once, Spells}
use Rattle.svndiff.specs.DeltaGrammar.{top, Sized, Copies, Makes, Nothing, FromSource, FromTarget, FromNew, view_of, IsDeltaWindow, SlidesOn, last_of, AreDeltas, Empty, Then, IsDelta}
use Rattle.svndiff.specs.DeltaLaws.{IsDeltaRead}
use Rattle.svndiff.specs.DeltaReading.{Step, Next, Refused, is_between, go_on, summed, judged, filled, head_digit, takes_wrong, is_wrong, new_of, counted, instructed, within, sized, begun, instruction, length_digit, offset_digit, one_less, kept, over}
use Rattle.svndiff.specs.DeltaStreams.{Stream, Reads, Refuses, Now, and_one, took, held, made_of, ended, settled, one_byte, reading}
use Rattle.svndiff.specs.DeltaStreams as streams
use Rattle.svndiff.specs.Making.{Making, run}
use Rattle.svndiff.specs.declared.delta.Delta.{Delta}
use Rattle.svndiff.specs.declared.instructions.Instruction.{Instruction}
use Rattle.svndiff.specs.declared.instructions.Kind.{Kind}
use Rattle.svndiff.specs.declared.instructions.Kind.TheVariants as kind
use Rattle.svndiff.specs.declared.reading.Digit.{Digit}
use Rattle.svndiff.specs.declared.reading.Digit.TheVariants.{Whole, Goes, Wrong}
use Rattle.svndiff.specs.declared.reading.Field.{Field}
use Rattle.svndiff.specs.declared.reading.Field.TheVariants as field
use Rattle.svndiff.specs.declared.window.Awaited.{Awaited}
use Rattle.svndiff.specs.declared.window.Awaited.TheVariants as at
use Rattle.svndiff.specs.declared.window.Window.{Window}
use Rattle.svndiff.specs.Reading.{digit}
use Rattle.svndiff.specs.declared.limits.TheConstants.{TEXT_BYTES, WINDOW_BYTES}
use Rattle.svndiff.proofs.Runs.{lt_true, lt_false, both}
use Rattle.svndiff.proofs.Read.{negated, ends_some, number_after-ge, digit_whole, digit_goes, nonzero, same_number}
use Rattle.svndiff.proofs.DeltaRuns.{data_run}
use Rattle.svndiff.proofs.DeltaMade.{SpeltAs, Takes, one, Ready, More, is_repeated, run_more, take-front, drop-front, Made}
use Rattle.svndiff.proofs.DeltaMade as ready

-- ---- instructions of the grammar, as they are read

record Prepared (view bytes new made : List ℕ) : Type 0 where
  is : List Instruction
  ready : Ready (length view) bytes is (length made) (length new)
  runs : (later : List ℕ) → run view (record { made = []; new = new ++ later }) is ≡ record { made = made; new = later }

spelt_some : (k : Kind) (bytes : List ℕ) (at n : ℕ) → Copies k bytes at n → 0 < n
spelt_some k bytes at n (front, digits, s, d, e) = s.0

prepared : (view bytes new made : List ℕ) → Makes view bytes new made → Prepared view bytes new made
prepared view [] [] [] Nothing = record { is = []; ready = ready.None; runs = λ later. refl }
prepared view both_bytes both_new both_made (FromSource bytes new made first at n before copies inside) =
    let p = prepared view bytes new made before in
    let piece = take n (drop at view) in
    let l : length made + n ≡ length (made ++ piece) = omega (arith, length-append made piece, length-take n (drop at view), length-drop at view, inside) in
    let m : length new + 0 ≡ length new = omega arith in
    let done : Made view bytes new p.is (length made) = record { made = made; makes = before; long = refl; runs = p.runs } in
    record {
      is = p.is ++ one kind.Source at n ∷ [];
      ready = subst (λ x. Ready (length view) (bytes ++ first) (p.is ++ one kind.Source at n ∷ []) x (length new)) l (subst (Ready (length view) (bytes ++ first) (p.is ++ one kind.Source at n ∷ []) (length made + n)) m (More bytes first p.is kind.Source at n (length made) (length new) p.ready (spelt_some kind.Source first at n copies) copies inside));
      runs = λ later. run_more view bytes new p.is (length made) (one kind.Source at n) done later;
    }
prepared view both_bytes both_new both_made (FromTarget bytes new made first piece at before copies stands same) =
    let p = prepared view bytes new made before in
    let n = length piece in
    let l : length made + n ≡ length (made ++ piece) = omega (arith, length-append made piece) in
    let m : length new + 0 ≡ length new = omega arith in
    let done : Made view bytes new p.is (length made) = record { made = made; makes = before; long = refl; runs = p.runs } in
    record {
      is = p.is ++ one kind.Target at n ∷ [];
      ready = subst (λ x. Ready (length view) (bytes ++ first) (p.is ++ one kind.Target at n ∷ []) x (length new)) l (subst (Ready (length view) (bytes ++ first) (p.is ++ one kind.Target at n ∷ []) (length made + n)) m (More bytes first p.is kind.Target at n (length made) (length new) p.ready (spelt_some kind.Target first at n copies) copies stands));
      runs = λ later. run_more view bytes new p.is (length made) (one kind.Target at n) done later ∙ ap (λ x. record { made = x; new = later }) (is_repeated made piece at stands same);
    }
prepared view both_bytes both_new both_made (FromNew bytes new made first piece before spelt) =
    let p = prepared view bytes new made before in
    let n = length piece in
    let l : length made + n ≡ length (made ++ piece) = omega (arith, length-append made piece) in
    let m : length new + n ≡ length (new ++ piece) = omega (arith, length-append new piece) in
    let done : Made view bytes new p.is (length made) = record { made = made; makes = before; long = refl; runs = p.runs } in
    record {
      is = p.is ++ one kind.New 0 n ∷ [];
      ready = subst (λ x. Ready (length view) (bytes ++ first) (p.is ++ one kind.New 0 n ∷ []) x (length (new ++ piece))) l (subst (Ready (length view) (bytes ++ first) (p.is ++ one kind.New 0 n ∷ []) (length made + n)) m (More bytes first p.is kind.New 0 n (length made) (length new) p.ready spelt.0 (refl, spelt) tt));
      runs = λ later.
          ap (λ t. run view (record { made = []; new = t }) (p.is ++ one kind.New 0 n ∷ [])) (append_assoc new piece later)
          ∙ run_more view bytes new p.is (length made) (one kind.New 0 n) done (piece ++ later)
          ∙ ap (λ t. record { made = made ++ t; new = drop n (piece ++ later) }) (take-front piece later)
          ∙ ap (λ t. record { made = made ++ piece; new = t }) (drop-front piece later);
    }

-- ---- runs over the parts of a window

-- a window without its new data
abbrev bare : Window → List Instruction → Delta
bare w is = record { window = w; instructions = is; fresh = [] }

-- what a byte made of it
abbrev became : List ℕ → List ℕ → List Instruction → Step → Stream
became base text is (Next said w) = settled base text (Now (bare w (and_one said is)))
became base text is (Refused f) = Refuses text f

became_took : (base text : List ℕ) (w : Window) (is : List Instruction) (s : Step) → settled base text (took (bare w is) s) ≡ became base text is s
became_took base text w is (Next said v) = refl
became_took base text w is (Refused f) = refl

abbrev placed : Awaited → Window → Window
placed p w = record w { place = p }

abbrev less : ℕ → Window → Window
less k w = record w { instructions = w.instructions - k }

filled_placed : (size : ℕ) (f : Field) (p : Awaited) (w : Window) (n : ℕ) → filled size f (placed p w) n ≡ filled size f w n
filled_placed size field.NewLength p w n = refl
filled_placed size f p w n = refl

-- a number in front of a window
number_bytes : (base text : List ℕ) (w : Window) (f : Field) (count n : ℕ) (bytes more : List ℕ) → ends_once bytes ≡ true → count + length bytes ≤ 10 → number_after n bytes < 2 ^ 64 → reading base (Reads text (bare (placed (at.Head f count n) w) [])) (bytes ++ more) ≡ reading base (became base text [] (filled (length base) f w (number_after n bytes))) more
number_bytes base text w f count n [] more e h k = cc
number_bytes base text w f count n (b ∷ []) more e h k =
    ap (λ s. reading base s more) (became_took base text (placed (at.Head f count n) w) [] (head_digit (length base) f (placed (at.Head f count n) w) (digit count n b)))
    ∙ ap (λ d. reading base (became base text [] (head_digit (length base) f (placed (at.Head f count n) w) d)) more) (digit_whole count n b e k)
    ∙ ap (λ s. reading base (became base text [] s) more) (filled_placed (length base) f (at.Head f count n) w (n * 128 + group b))
number_bytes base text w f count n (b ∷ c ∷ bs) more e h k =
    let p = both (not (is_last b)) (ends_once (c ∷ bs)) e in
    let g = number_after-ge (n * 128 + group b) (c ∷ bs) in
    ap (λ s. reading base s (c ∷ bs ++ more)) (became_took base text (placed (at.Head f count n) w) [] (head_digit (length base) f (placed (at.Head f count n) w) (digit count n b)))
    ∙ ap (λ d. reading base (became base text [] (head_digit (length base) f (placed (at.Head f count n) w) d)) (c ∷ bs ++ more)) (digit_goes count n b (negated (is_last b) p.0) (omega (arith, g, k)) (omega (arith, h)))
    ∙ number_bytes base text w f (count + 1) (n * 128 + group b) (c ∷ bs) more p.1 (omega (arith, h)) k

number_read : (base text : List ℕ) (w : Window) (f : Field) (bytes more : List ℕ) (n : ℕ) → Spells bytes n → reading base (Reads text (bare (placed (at.Head f 0 0) w) [])) (bytes ++ more) ≡ reading base (became base text [] (filled (length base) f w n)) more
number_read base text w f bytes more n s =
    let small : number_after 0 bytes < 2 ^ 64 = omega (arith, s.number, s.small) in
    number_bytes base text w f 0 0 bytes more s.ends (omega (arith, s.short)) small ∙ ap (λ m. reading base (became base text [] (filled (length base) f w m)) more) s.number

-- the first number of a window
head_placed : (size : ℕ) (f : Field) (p q : Awaited) (w : Window) (d : Digit) → head_digit size f (placed p w) d ≡ head_digit size f (placed q w) d
head_placed size f p q w (Whole n) = filled_placed size f p w n ∙ sym (filled_placed size f q w n)
head_placed size f p q w (Goes count n) = refl
head_placed size f p q w Wrong = refl

first_at : (base text : List ℕ) (w : Window) (b : ℕ) (more : List ℕ) → reading base (Reads text (bare (placed at.Between w) [])) (b ∷ more) ≡ reading base (Reads text (bare (placed (at.Head field.SourceOffset 0 0) w) [])) (b ∷ more)
first_at base text w b more =
    let p = placed at.Between w in
    let q = placed (at.Head field.SourceOffset 0 0) w in
    ap (λ s. reading base s more) (became_took base text p [] (head_digit (length base) field.SourceOffset p (digit 0 0 b)))
    ∙ ap (λ s. reading base (became base text [] s) more) (head_placed (length base) field.SourceOffset at.Between (at.Head field.SourceOffset 0 0) w (digit 0 0 b))
    ∙ sym (ap (λ s. reading base s more) (became_took base text q [] (head_digit (length base) field.SourceOffset q (digit 0 0 b))))

first_read : (base text : List ℕ) (w : Window) (bytes more : List ℕ) (n : ℕ) → w.place ≡ at.Between → Spells bytes n → reading base (Reads text (bare w [])) (bytes ++ more) ≡ reading base (became base text [] (filled (length base) field.SourceOffset w n)) more
first_read base text w [] more n e s = let x = s.ends in cc
first_read base text w (b ∷ bs) more n e s =
    ap (λ p. reading base (Reads text (bare (placed p w) [])) (b ∷ bs ++ more)) e ∙ first_at base text w b (bs ++ more) ∙ number_read base text w field.SourceOffset (b ∷ bs) more n s

-- an instruction's length
sized_placed : (k : Kind) (n : ℕ) (p : Awaited) (w : Window) → sized k n (placed p w) ≡ sized k n w
sized_placed kind.New n p w = refl
sized_placed k n p w = refl

length_bytes : (base text : List ℕ) (w : Window) (is : List Instruction) (j : Kind) (count n : ℕ) (bytes more : List ℕ) → ends_once bytes ≡ true → count + length bytes ≤ 10 → number_after n bytes < 2 ^ 64 → length bytes ≤ w.instructions → reading base (Reads text (bare (placed (at.Length j count n) w) is)) (bytes ++ more) ≡ reading base (became base text is (sized j (number_after n bytes) (less (length bytes) w))) more
length_bytes base text w is j count n [] more e h k l = cc
length_bytes base text w is j count n (b ∷ []) more e h k l =
    let here = placed (at.Length j count n) w in
    ap (λ s. reading base s more) (became_took base text here is (length_digit j (one_less here) (digit count n b)))
    ∙ ap (λ d. reading base (became base text is (length_digit j (one_less here) d)) more) (digit_whole count n b e k)
    ∙ ap (λ s. reading base (became base text is s) more) (sized_placed j (n * 128 + group b) (at.Length j count n) (one_less w))
length_bytes base text w is j count n (b ∷ c ∷ bs) more e h k l =
    let here = placed (at.Length j count n) w in
    let p = both (not (is_last b)) (ends_once (c ∷ bs)) e in
    let g = number_after-ge (n * 128 + group b) (c ∷ bs) in
    let some : (w.instructions - 1 == 0) ≡ false = nonzero (w.instructions - 1) (omega (arith, l)) in
    let count_down : w.instructions - 1 - length (c ∷ bs) ≡ w.instructions - length (b ∷ c ∷ bs) = omega arith in
    let goes : within (placed (at.Length j (count + 1) (n * 128 + group b)) (one_less here)) ≡ Next None (placed (at.Length j (count + 1) (n * 128 + group b)) (one_less w)) = rw some refl in
    ap (λ s. reading base s (c ∷ bs ++ more)) (became_took base text here is (length_digit j (one_less here) (digit count n b)))
    ∙ ap (λ d. reading base (became base text is (length_digit j (one_less here) d)) (c ∷ bs ++ more)) (digit_goes count n b (negated (is_last b) p.0) (omega (arith, g, k)) (omega (arith, h)))
    ∙ ap (λ s. reading base (became base text is s) (c ∷ bs ++ more)) goes
    ∙ length_bytes base text (one_less w) is j (count + 1) (n * 128 + group b) (c ∷ bs) more p.1 (omega (arith, h)) k (omega (arith, l))
    ∙ ap (λ i. reading base (became base text is (sized j (number_after (n * 128 + group b) (c ∷ bs)) (record w { instructions = i }))) more) count_down

-- the place that an instruction copies from
offset_bytes : (base text : List ℕ) (w : Window) (is : List Instruction) (j : Kind) (m count n : ℕ) (bytes more : List ℕ) → ends_once bytes ≡ true → count + length bytes ≤ 10 → number_after n bytes < 2 ^ 64 → length bytes ≤ w.instructions → reading base (Reads text (bare (placed (at.Offset j m count n) w) is)) (bytes ++ more) ≡ reading base (became base text is (instructed (one j (number_after n bytes) m) (less (length bytes) w))) more
offset_bytes base text w is j m count n [] more e h k l = cc
offset_bytes base text w is j m count n (b ∷ []) more e h k l =
    let here = placed (at.Offset j m count n) w in
    ap (λ s. reading base s more) (became_took base text here is (offset_digit j m (one_less here) (digit count n b)))
    ∙ ap (λ d. reading base (became base text is (offset_digit j m (one_less here) d)) more) (digit_whole count n b e k)
offset_bytes base text w is j m count n (b ∷ c ∷ bs) more e h k l =
    let here = placed (at.Offset j m count n) w in
    let p = both (not (is_last b)) (ends_once (c ∷ bs)) e in
    let g = number_after-ge (n * 128 + group b) (c ∷ bs) in
    let some : (w.instructions - 1 == 0) ≡ false = nonzero (w.instructions - 1) (omega (arith, l)) in
    let count_down : w.instructions - 1 - length (c ∷ bs) ≡ w.instructions - length (b ∷ c ∷ bs) = omega arith in
    let goes : within (placed (at.Offset j m (count + 1) (n * 128 + group b)) (one_less here)) ≡ Next None (placed (at.Offset j m (count + 1) (n * 128 + group b)) (one_less w)) = rw some refl in
    ap (λ s. reading base s (c ∷ bs ++ more)) (became_took base text here is (offset_digit j m (one_less here) (digit count n b)))
    ∙ ap (λ d. reading base (became base text is (offset_digit j m (one_less here) d)) (c ∷ bs ++ more)) (digit_goes count n b (negated (is_last b) p.0) (omega (arith, g, k)) (omega (arith, h)))
    ∙ ap (λ s. reading base (became base text is s) (c ∷ bs ++ more)) goes
    ∙ offset_bytes base text (one_less w) is j m (count + 1) (n * 128 + group b) (c ∷ bs) more p.1 (omega (arith, h)) k (omega (arith, l))
    ∙ ap (λ i. reading base (became base text is (instructed (one j (number_after (n * 128 + group b) (c ∷ bs)) m) (record w { instructions = i }))) more) count_down

-- the first byte of an instruction
first_byte : (k : Kind) (w : Window) (b m : ℕ) → b ≡ top k + m → m < 64 → instruction w b ≡ begun k m w
first_byte kind.Source w b m e h =
    let v : b ≡ m = omega (arith, e) in
    ap (λ x. instruction w x) v ∙ rw (lt_true m 64 h) refl
first_byte kind.Target w b m e h =
    let v : b - 64 ≡ m = omega (arith, e) in
    rw (lt_false b 64 (omega (arith, e)), lt_true b 128 (omega (arith, e, h)), v) refl
first_byte kind.New w b m e h =
    let v : b - 128 ≡ m = omega (arith, e) in
    rw (lt_false b 64 (omega (arith, e)), lt_false b 128 (omega (arith, e)), lt_true b 192 (omega (arith, e, h)), v) refl

top_is : (k : Kind) → top k ≡ top k + 0
top_is k = omega arith

-- the front of an instruction
front_read : (base text : List ℕ) (w : Window) (is : List Instruction) (k : Kind) (front more : List ℕ) (m : ℕ) → Sized k front m → length front ≤ w.instructions → reading base (Reads text (bare (placed at.Instruction w) is)) (front ++ more) ≡ reading base (became base text is (sized k m (less (length front) w))) more
front_read base text w is k front more m (some, inl (small, e)) l =
    let here = placed at.Instruction w in
    let begins : begun k m (one_less here) ≡ sized k m (one_less w) = rw (nonzero m some) (sized_placed k m at.Instruction (one_less w)) in
    rw e (
    ap (λ s. reading base s more) (became_took base text here is (instruction (one_less here) (top k + m)))
    ∙ ap (λ s. reading base (became base text is s) more) (first_byte k (one_less here) (top k + m) m refl small ∙ begins)
    )
front_read base text w is k front more m (some, inr (digits, s, e)) l =
    let here = placed at.Instruction w in
    let q : length front ≡ 1 + length digits = omega (arith, ap length e) in
    let d : 0 < length digits = ends_some digits s.ends in
    let left : (w.instructions - 1 == 0) ≡ false = nonzero (w.instructions - 1) (omega (arith, l, q, d)) in
    let begins : begun k 0 (one_less here) ≡ Next None (placed (at.Length k 0 0) (one_less w)) = rw left refl in
    let small : number_after 0 digits < 2 ^ 64 = omega (arith, s.number, s.small) in
    let down : w.instructions - 1 - length digits ≡ w.instructions - length front = omega (arith, q) in
    rw e (
    ap (λ s. reading base s (digits ++ more)) (became_took base text here is (instruction (one_less here) (top k)))
    ∙ ap (λ s. reading base (became base text is s) (digits ++ more)) (first_byte k (one_less here) (top k) 0 (top_is k) (omega arith) ∙ begins)
    ∙ length_bytes base text (one_less w) is k 0 0 digits more s.ends (omega (arith, s.short)) small (omega (arith, l, q))
    ∙ ap (λ x. reading base (became base text is (sized k x (less (length digits) (one_less w)))) more) s.number
    ∙ ap (λ i. reading base (became base text is (sized k m (record w { instructions = i }))) more) (down ∙ ap (λ f. w.instructions - length f) e)
    )

-- an instruction that takes what is there isn't wrong
takes_there : (k : Kind) (from n : ℕ) (w : Window) → Takes k from n w.source w.sum → w.news + new_of k n ≤ w.fresh → takes_wrong (one k from n) w ≡ false
takes_there kind.Source from n w h l = lt_false (w.source - from) n (omega (arith, h))
takes_there kind.Target from n w h l = rw (lt_true from w.sum h) refl
takes_there kind.New from n w h l = lt_false (w.fresh - w.news) n (omega (arith, l))

is_there : (k : Kind) (from n : ℕ) (w : Window) → 0 < n → w.sum + n ≤ w.target → Takes k from n w.source w.sum → w.news + new_of k n ≤ w.fresh → is_wrong (one k from n) w ≡ false
is_there k from n w some h t l = rw (nonzero n some, lt_false (w.target - w.sum) n (omega (arith, h))) (takes_there k from n w t l)

right_on : (k : Kind) (from n : ℕ) (w : Window) → 0 < n → w.sum + n ≤ w.target → Takes k from n w.source w.sum → w.news + new_of k n ≤ w.fresh → instructed (one k from n) w ≡ go_on (Some (one k from n)) (counted k n w)
right_on k from n w some h t l = rw (is_there k from n w some h t l) refl

-- an instruction that copies
copy_read : (base text : List ℕ) (w : Window) (is : List Instruction) (k : Kind) (from n : ℕ) (first more : List ℕ) → ((v : Window) → sized k n v ≡ within (placed (at.Offset k n 0 0) v)) → Copies k first from n → Takes k from n w.source w.sum → w.sum + n ≤ w.target → w.news + new_of k n ≤ w.fresh → length first ≤ w.instructions → reading base (Reads text (bare (placed at.Instruction w) is)) (first ++ more) ≡ reading base (became base text is (go_on (Some (one k from n)) (counted k n (less (length first) w)))) more
copy_read base text w is k from n first more copies (front, digits, s, d, e) t h l z =
    let q : length first ≡ length front + length digits = omega (arith, ap length e, length-append front digits) in
    let some : 0 < length digits = ends_some digits d.ends in
    let v = less (length front) w in
    let left : (w.instructions - length front == 0) ≡ false = nonzero (w.instructions - length front) (omega (arith, z, q, some)) in
    let goes : sized k n v ≡ Next None (placed (at.Offset k n 0 0) v) = copies v ∙ within_on v left in
    let small : number_after 0 digits < 2 ^ 64 = omega (arith, d.number, d.small) in
    let down : w.instructions - length front - length digits ≡ w.instructions - length first = omega (arith, q) in
    ap (λ x. reading base (Reads text (bare (placed at.Instruction w) is)) (x ++ more)) e
    ∙ ap (reading base (Reads text (bare (placed at.Instruction w) is))) (append_assoc front digits more)
    ∙ front_read base text w is k front (digits ++ more) n s (omega (arith, z, q))
    ∙ ap (λ x. reading base (became base text is x) (digits ++ more)) goes
    ∙ offset_bytes base text v is k n 0 0 digits more d.ends (omega (arith, d.short)) small (omega (arith, z, q))
    ∙ ap (λ x. reading base (became base text is (instructed (one k x n) (less (length digits) v))) more) d.number
    ∙ ap (λ i. reading base (became base text is (instructed (one k from n) (record w { instructions = i }))) more) down
    ∙ ap (λ x. reading base (became base text is x) more) (right_on k from n (less (length first) w) s.0 h t l)
  where
    within_on : (v : Window) → (v.instructions == 0) ≡ false → within (placed (at.Offset k n 0 0) v) ≡ Next None (placed (at.Offset k n 0 0) v)
    within_on v l = rw l refl

-- an instruction
instruction_read : (base text : List ℕ) (w : Window) (is : List Instruction) (k : Kind) (from n : ℕ) (first more : List ℕ) → SpeltAs k from n first → Takes k from n w.source w.sum → w.sum + n ≤ w.target → w.news + new_of k n ≤ w.fresh → length first ≤ w.instructions → reading base (Reads text (bare (placed at.Instruction w) is)) (first ++ more) ≡ reading base (became base text is (go_on (Some (one k from n)) (counted k n (less (length first) w)))) more
instruction_read base text w is kind.Source from n first more s t h l z = copy_read base text w is kind.Source from n first more (λ v. refl) s t h l z
instruction_read base text w is kind.Target from n first more s t h l z = copy_read base text w is kind.Target from n first more (λ v. refl) s t h l z
instruction_read base text w is kind.New from n first more (e, s) t h l z =
    front_read base text w is kind.New first more n s z
    ∙ ap (λ x. reading base (became base text is x) more) (right_on kind.New 0 n (less (length first) w) s.0 h tt l)
    ∙ ap (λ x. reading base (became base text is (go_on (Some (one kind.New x n)) (counted kind.New n (less (length first) w)))) more) (sym e)

spelt_long : (k : Kind) (from n : ℕ) (first : List ℕ) → SpeltAs k from n first → 0 < length first
spelt_long kind.Source from n first (front, digits, s, d, e) = omega (arith, ends_some digits d.ends, ap length e, length-append front digits)
spelt_long kind.Target from n first (front, digits, s, d, e) = omega (arith, ends_some digits d.ends, ap length e, length-append front digits)
spelt_long kind.New from n first (z, (some, inl (small, e))) = omega (arith, ap length e)
spelt_long kind.New from n first (z, (some, inr (digits, s, e))) = omega (arith, ap length e)

-- instructions in front of others
abbrev at_instruction : Window → ℕ → ℕ → ℕ → Window
at_instruction w left sum news = record w { place = at.Instruction; instructions = left; sum = sum; news = news }

ready_read : (base text : List ℕ) (w : Window) (bytes : List ℕ) (is : List Instruction) (sum news : ℕ) (more : List ℕ) → Ready w.source bytes is sum news → sum ≤ w.target → news ≤ w.fresh → length bytes < w.instructions → reading base (Reads text (bare (at_instruction w w.instructions 0 0) [])) (bytes ++ more) ≡ reading base (Reads text (bare (at_instruction w (w.instructions - length bytes) sum news) is)) more
ready_read base text w [] [] zero zero more ready.None h l z =
    let i : w.instructions ≡ w.instructions - length {A = ℕ} [] = omega arith in
    ap (λ i. reading base (Reads text (bare (at_instruction w i 0 0) [])) more) i
ready_read base text w both_bytes both both_sums both_news more (More bytes first is k from n sum news before some spelt takes) h l z =
    let q : length (bytes ++ first) ≡ length bytes + length first = length-append bytes first in
    let mid = at_instruction w (w.instructions - length bytes) sum news in
    let left : (w.instructions - length bytes - length first == 0) ≡ false = nonzero (w.instructions - length bytes - length first) (omega (arith, z, q)) in
    let down : w.instructions - length bytes - length first ≡ w.instructions - length (bytes ++ first) = omega (arith, q) in
    let goes : go_on (Some (one k from n)) (counted k n (less (length first) mid)) ≡ Next (Some (one k from n)) (at_instruction w (w.instructions - length bytes - length first) (sum + n) (news + new_of k n)) = rw left refl in
    ap (reading base (Reads text (bare (at_instruction w w.instructions 0 0) []))) (append_assoc bytes first more)
    ∙ ready_read base text w bytes is sum news (first ++ more) before (omega (arith, h)) (omega (arith, l)) (omega (arith, z, q))
    ∙ instruction_read base text mid is k from n first more spelt takes h l (omega (arith, z, q))
    ∙ ap (λ x. reading base (became base text is x) more) goes
    ∙ ap (λ i. reading base (Reads text (bare (at_instruction w i (sum + n) (news + new_of k n)) (is ++ one k from n ∷ []))) more) down

-- a reader between windows, with so much of the text behind it, and the ends of the last view
abbrev Behind : List ℕ → Stream → List ℕ → ℕ → ℕ → ℕ → List ℕ → Type 0
Behind base s text room floor ceiling more = (next : Window) × (next.place ≡ at.Between) × (next.room ≡ room) × (next.floor ≡ floor) × (next.ceiling ≡ ceiling) × (s ≡ reading base (Reads text (bare next [])) more)

-- the text that instructions make
abbrev text_of : List ℕ → Window → List ℕ → List Instruction → List ℕ
text_of base w new is = (run (view_of base w.offset w.source) (record { made = []; new = new }) is).made

same_as : (a b : ℕ) → a ≡ b → (a == b) ≡ true
same_as a b e = ap (λ x. x == b) e ∙ same_number b

-- the instructions are over, and the new data comes
summed_by : (base text : List ℕ) (said : Option Instruction) (w : Window) (is : List Instruction) (new more : List ℕ) (t : Bool) → (w.fresh == 0) ≡ t → w.sum ≡ w.target → w.news ≡ w.fresh → w.fresh ≡ length new → Behind base (reading base (became base text is (summed said w)) (new ++ more)) (text ++ text_of base w new (and_one said is)) (w.room - w.target) w.floor w.ceiling more
summed_by base text said w is new more true z e f l =
    let none : new ≡ [] = nil_from_length new (sym l ∙ less_zero w.fresh z) in
    let s : summed said w ≡ Next said (placed at.Whole w) = rw (same_as w.sum w.target e, same_as w.news w.fresh f, z) refl in
    (over (placed at.Whole w), refl, refl, refl, refl, rw (none, s) refl)
  where
    less_zero : (a : ℕ) → (a == 0) ≡ true → a ≡ 0
    less_zero a e = grind (arith, nat_tests)
summed_by base text said w is new more false z e f l =
    let some : 0 < length new = grind (arith, nat_tests, z, l) in
    let s : summed said w ≡ Next said (placed at.NewData w) = rw (same_as w.sum w.target e, same_as w.news w.fresh f, z) refl in
    let ready = bare (placed at.NewData w) (and_one said is) in
    let whole : settled base text (Now (held new ready)) ≡ Reads (text ++ text_of base w new (and_one said is)) (bare (over (kept (length new) (placed at.NewData w))) []) = rw (lt_false (length new) w.fresh (omega (arith, l))) refl in (
      over (kept (length new) (placed at.NewData w)),
      refl,
      refl,
      refl,
      refl,
      ap (λ x. reading base (became base text is x) (new ++ more)) s
          ∙ data_run base text ready new more refl some (λ _. omega (arith, l))
          ∙ ap (λ x. reading base x more) whole,
    )

-- the instructions and the new data of a window
body_read : (base text : List ℕ) (w : Window) (bytes : List ℕ) (is : List Instruction) (sum news : ℕ) (new more : List ℕ) → Ready w.source bytes is sum news → w.instructions ≡ length bytes → w.target ≡ sum → w.fresh ≡ news → news ≡ length new → Behind base (reading base (became base text [] (go_on None (record w { sum = 0; news = 0 }))) (bytes ++ (new ++ more))) (text ++ text_of base w new is) (w.room - w.target) w.floor w.ceiling more
body_read base text w [] [] zero zero new more ready.None i t f l =
    let none : (w.instructions == 0) ≡ true = same_as w.instructions 0 i in
    let v = record w { sum = 0; news = 0 } in
    let s : go_on None v ≡ summed None v = rw none refl in
    let end = summed_by base text None v [] new more (w.fresh == 0) refl (sym t) (sym f) (f ∙ l) in
    (end.0, end.1, end.2, end.3, end.4, ap (λ x. reading base (became base text [] x) (new ++ more)) s ∙ end.5)
body_read base text w both_bytes both both_sums both_news new more (More bytes first is k from n sum news before some spelt takes) i t f l =
    let q : length (bytes ++ first) ≡ length bytes + length first = length-append bytes first in
    let g : 0 < length first = spelt_long k from n first spelt in
    let any : (w.instructions == 0) ≡ false = nonzero w.instructions (omega (arith, i, q, g)) in
    let s : go_on None (record w { sum = 0; news = 0 }) ≡ Next None (at_instruction w w.instructions 0 0) = rw any refl in
    let left = w.instructions - length bytes in
    let mid = at_instruction w left sum news in
    let done = less (length first) mid in
    let none : (w.instructions - length bytes - length first == 0) ≡ true = same_as (w.instructions - length bytes - length first) 0 (omega (arith, i, q)) in
    let last = counted k n done in
    let goes : go_on (Some (one k from n)) last ≡ summed (Some (one k from n)) last = rw none refl in
    let end = summed_by base text (Some (one k from n)) last is new more (w.fresh == 0) refl (sym t) (sym f) (f ∙ l) in (
      end.0,
      end.1,
      end.2,
      end.3,
      end.4,
      ap (λ x. reading base (became base text [] x) ((bytes ++ first) ++ (new ++ more))) s
          ∙ ap (reading base (Reads text (bare (at_instruction w w.instructions 0 0) []))) (append_assoc bytes first (new ++ more))
          ∙ ready_read base text w bytes is sum news (first ++ (new ++ more)) before (omega (arith, t)) (omega (arith, f)) (omega (arith, i, q, g))
          ∙ instruction_read base text mid is k from n first (new ++ more) spelt takes (omega (arith, t)) (omega (arith, f)) (omega (arith, i, q))
          ∙ ap (λ x. reading base (became base text is x) (new ++ more)) goes
          ∙ end.5,
    )

-- the numbers in front of a window are judged
judged_by : (size : ℕ) (w : Window) (t : Bool) → (w.source == 0) ≡ t → w.target ≤ WINDOW_BYTES → w.fresh ≤ WINDOW_BYTES → w.source ≤ WINDOW_BYTES → w.target ≤ w.room → (w.source ≡ 0) ⊎ (w.offset + w.source ≤ size) → SlidesOn w.floor w.ceiling w.offset w.source → judged size w ≡ go_on None (record w { sum = 0; news = 0; floor = last_of w.source w.floor w.offset; ceiling = last_of w.source w.ceiling (w.offset + w.source) })
judged_by size w true z a b c d inside slides = rw (lt_false WINDOW_BYTES w.target a, lt_false WINDOW_BYTES w.fresh b, lt_false WINDOW_BYTES w.source c, lt_false w.room w.target d, z) refl
judged_by size w false z a b c d (inl e) slides = absurd (grind (arith, nat_tests, z, e))
judged_by size w false z a b c d (inr h) (inl e) = absurd (grind (arith, nat_tests, z, e))
judged_by size w false z a b c d (inr h) (inr (f, g)) =
    rw (lt_false WINDOW_BYTES w.target a, lt_false WINDOW_BYTES w.fresh b, lt_false WINDOW_BYTES w.source c, lt_false w.room w.target d, z, lt_false size w.source (omega (arith, h)), lt_false (size - w.source) w.offset (omega (arith, h)), lt_false w.offset w.floor f, lt_false (w.offset + w.source) w.ceiling g) refl

regroup : (a b c d e f g more : List ℕ) → (a ++ (b ++ (c ++ (d ++ (e ++ (f ++ g)))))) ++ more ≡ a ++ (b ++ (c ++ (d ++ (e ++ (f ++ (g ++ more))))))
regroup a b c d e f g more =
    append_assoc a (b ++ (c ++ (d ++ (e ++ (f ++ g))))) more
    ∙ ap (λ t. a ++ t) (append_assoc b (c ++ (d ++ (e ++ (f ++ g)))) more
    ∙ ap (λ t. b ++ t) (append_assoc c (d ++ (e ++ (f ++ g))) more
    ∙ ap (λ t. c ++ t) (append_assoc d (e ++ (f ++ g)) more
    ∙ ap (λ t. d ++ t) (append_assoc e (f ++ g) more
    ∙ ap (λ t. e ++ t) (append_assoc f g more)))))

-- the numbers in front of a window
numbers_read : (base text : List ℕ) (from n : ℕ) (bytes made rest : List ℕ) (w : Window) → w.place ≡ at.Between → (d : IsDeltaWindow base from n bytes made) → reading base (Reads text (bare w [])) (d.offset ++ (d.source ++ (d.target ++ (d.size ++ (d.news ++ rest))))) ≡ reading base (became base text [] (judged (length base) (record w { place = at.Head field.NewLength 0 0; offset = from; source = n; target = length made; instructions = length d.instructions; fresh = length d.new }))) rest
numbers_read base text from n bytes made rest w e d =
    first_read base text w d.offset (d.source ++ (d.target ++ (d.size ++ (d.news ++ rest)))) from e d.is_offset
    ∙ number_read base text (record w { offset = from }) field.SourceLength d.source (d.target ++ (d.size ++ (d.news ++ rest))) n d.is_source
    ∙ number_read base text (record w { offset = from; source = n }) field.TargetLength d.target (d.size ++ (d.news ++ rest)) (length made) d.is_target
    ∙ number_read base text (record w { offset = from; source = n; target = length made }) field.InstructionLength d.size (d.news ++ rest) (length d.instructions) d.is_size
    ∙ number_read base text (record w { offset = from; source = n; target = length made; instructions = length d.instructions }) field.NewLength d.news rest (length d.new) d.is_news

view_long : (base : List ℕ) (offset n : ℕ) → (n ≡ 0) ⊎ (offset + n ≤ length base) → length (view_of base offset n) ≡ n
view_long base offset n (inl z) = omega (arith, length-take n (drop offset base), z)
view_long base offset n (inr h) = omega (arith, length-take n (drop offset base), length-drop offset base, h)

abbrev made_part : Making → List ℕ
made_part x = x.made

-- a window
window_read : (base text : List ℕ) (from n : ℕ) (bytes made more : List ℕ) (w : Window) → w.place ≡ at.Between → IsDeltaWindow base from n bytes made → SlidesOn w.floor w.ceiling from n → length made ≤ w.room → Behind base (reading base (Reads text (bare w [])) (bytes ++ more)) (text ++ made) (w.room - length made) (last_of n w.floor from) (last_of n w.ceiling (from + n)) more
window_read base text from n bytes made more w e d slides h =
    let view = view_of base from n in
    let p = prepared view d.instructions d.new made d.make in
    let rest = d.instructions ++ (d.new ++ more) in
    let v = record w { place = at.Head field.NewLength 0 0; offset = from; source = n; target = length made; instructions = length d.instructions; fresh = length d.new } in
    let s = record v { floor = last_of n w.floor from; ceiling = last_of n w.ceiling (from + n) } in
    let all : Ready n d.instructions p.is (length made) (length d.new) = subst (λ x. Ready x d.instructions p.is (length made) (length d.new)) (view_long base from n d.within) p.ready in
    let end = body_read base text s d.instructions p.is (length made) (length d.new) d.new more all refl refl refl refl in
    let same : text_of base s d.new p.is ≡ made = ap (λ t. (run view (record { made = []; new = t }) p.is).made) (sym (append-nil d.new)) ∙ ap made_part (p.runs []) in
    let judgement : judged (length base) v ≡ go_on None (record s { sum = 0; news = 0 }) = judged_by (length base) v (n == 0) refl d.short d.short_new d.short_view h d.within slides in
    let numbers : reading base (Reads text (bare w [])) (bytes ++ more) ≡ reading base (became base text [] (judged (length base) v)) rest =
    ap (λ b. reading base (Reads text (bare w [])) (b ++ more)) d.joined
    ∙ ap (reading base (Reads text (bare w []))) (regroup d.offset d.source d.target d.size d.news d.instructions d.new more)
    ∙ numbers_read base text from n bytes made rest w e d in (
      end.0,
      end.1,
      end.2,
      end.3,
      end.4,
      numbers ∙ ap (λ x. reading base (became base text [] x) rest) judgement ∙ end.5 ∙ ap (λ t. reading base (Reads (text ++ t) (bare end.0 [])) more) same,
    )

-- windows, one after another
windows_read : (base text : List ℕ) (floor ceiling : ℕ) (bytes all more : List ℕ) (w : Window) → w.place ≡ at.Between → w.floor ≡ 0 → w.ceiling ≡ 0 → AreDeltas base floor ceiling bytes all → length all ≤ w.room → Behind base (reading base (Reads text (bare w [])) (bytes ++ more)) (text ++ all) (w.room - length all) floor ceiling more
windows_read base text zero zero [] [] more w e f c Empty h = (w, e, omega arith, f, c, rw (append-nil text) refl)
windows_read base text both_floors both_ceilings both_bytes both_texts more w e f c (Then floor ceiling from n bytes all first made before one slides) h =
    let s = length-append all made in
    let front = windows_read base text floor ceiling bytes all (first ++ more) w e f c before (omega (arith, h, s)) in
    let mid = front.0 in
    let on : SlidesOn mid.floor mid.ceiling from n = subst (λ x. SlidesOn x mid.ceiling from n) (sym front.3) (subst (λ x. SlidesOn floor x from n) (sym front.4) slides) in
    let last = window_read base (text ++ all) from n first made more mid front.1 one on (omega (arith, h, s, front.2)) in
    let room : mid.room - length made ≡ w.room - length (all ++ made) = omega (arith, front.2, s) in (
      last.0,
      last.1,
      last.2 ∙ room,
      last.3 ∙ ap (λ x. last_of n x from) front.3,
      last.4 ∙ ap (λ x. last_of n x (from + n)) front.4,
      ap (reading base (Reads text (bare w []))) (append_assoc bytes first more) ∙ front.5 ∙ last.5 ∙ ap (λ t. reading base (Reads t (bare last.0 [])) more) (append_assoc text all made),
    )

abbrev start : Window
start = record { place = at.Between; offset = 0; source = 0; target = 0; instructions = 0; fresh = 0; sum = 0; news = 0; room = TEXT_BYTES; floor = 0; ceiling = 0 }

pub deltas_are_read : (bytes base text : List ℕ) → IsDelta bytes base text → IsDeltaRead bytes base text
deltas_are_read bytes base text d =
    let run = windows_read base [] d.floor d.ceiling d.windows text [] start refl refl refl d.are d.fits in
    let magic : reading base (Reads [] streams.begun) bytes ≡ reading base (Reads [] (bare start [])) (d.windows ++ []) = ap (reading base (Reads [] streams.begun)) d.joined ∙ ap (reading base (Reads [] (bare start []))) (sym (append-nil d.windows)) in
    (bare run.0 [], rw (run.1, is_between) refl, magic ∙ run.5)

abbrev stream_text : Stream → List ℕ
stream_text (Reads text d) = text
stream_text (Refuses text f) = text

pub one_made : (bytes base one other : List ℕ) → IsDelta bytes base one → IsDelta bytes base other → one ≡ other
one_made bytes base one other a b =
    let first = deltas_are_read bytes base one a in
    let second = deltas_are_read bytes base other b in
    ap stream_text (sym first.2 ∙ second.2)
