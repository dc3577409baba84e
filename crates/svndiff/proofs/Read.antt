-- What the grammar calls a text is read.
use Rattle.std.proofs.Common.{◌≡◌, inl, inr, ℕ, zero, ◌+◌, ◌-◌, ◌*◌, ◌≤◌, ◌<◌, ◌^◌, ◌==◌, not, Bool, true, false, List, [], ◌∷◌, ◌++◌, length, nat_lt, refl, sym, ap, ◌∙◌, append_assoc, append-nil, length-append, arith}
use Rattle.std.proofs.lemmas.Bool.Decides.{nat_tests}
use Rattle.std.proofs.lemmas.List.{nil_from_length}
use Rattle.std.specs.Bool.{if◌then◌else◌}
use Rattle.svndiff.specs.Groups.{is_last, group, number_after, ends_once, Spells}
use Rattle.svndiff.specs.Grammar.{IsNew, AreNew, None, More, IsWindow, AreWindows, Empty, Then, IsText}
use Rattle.svndiff.specs.Laws.{IsRead}
use Rattle.svndiff.specs.declared.reading.Field.{Field}
use Rattle.svndiff.specs.declared.reading.Field.TheVariants as field
use Rattle.svndiff.specs.declared.reading.Digit.TheVariants.{Whole, Goes}
use Rattle.svndiff.specs.declared.reading.Place.{Place}
use Rattle.svndiff.specs.declared.reading.Place.TheVariants as at
use Rattle.svndiff.specs.declared.reading.Reading.{Reading}
use Rattle.svndiff.specs.Reading.{Next, begin, is_between, digit, filled, head_digit, length_digit, more_data, instructed, judged, summed, within, instruction, one_less, given}
use Rattle.svndiff.specs.Streams.{Stream, Reads, Refuses, of_step, reading, pieces_in}
use Rattle.svndiff.specs.declared.limits.TheConstants.{TEXT_BYTES, WINDOW_BYTES}
use Rattle.svndiff.proofs.Runs.{lt_true, lt_false, both, state, data_run, data_pieces, no_pieces}

pub negated : (a : Bool) → not a ≡ true → a ≡ false
negated true e = cc
negated false e = refl

pub ends_some : (bytes : List ℕ) → ends_once bytes ≡ true → 0 < length bytes
ends_some [] e = cc
ends_some (b ∷ bs) e = omega arith

pub number_after-ge : (n : ℕ) (bs : List ℕ) → n ≤ number_after n bs
number_after-ge n [] = omega arith
number_after-ge n (b ∷ bs) = omega (arith, number_after-ge (n * 128 + group b) bs)

pub digit_whole : (count n b : ℕ) → is_last b ≡ true → n * 128 + group b < 2 ^ 64 → digit count n b ≡ Whole (n * 128 + group b)
digit_whole count n b e h = rw (lt_true (n * 128 + group b) 18446744073709551616 (omega (arith, h)), e) refl

pub digit_goes : (count n b : ℕ) → is_last b ≡ false → n * 128 + group b < 2 ^ 64 → count + 1 < 10 → digit count n b ≡ Goes (count + 1) (n * 128 + group b)
digit_goes count n b e h k = rw (lt_true (n * 128 + group b) 18446744073709551616 (omega (arith, h)), e, lt_true (count + 1) 10 k) refl

abbrev placed : Place → Reading → Reading
placed p r = record r { place = p }

abbrev less : ℕ → Reading → Reading
less k r = record r { instructions = r.instructions - k }

-- the place is left behind
filled_placed : (f : Field) (p : Place) (r : Reading) (n : ℕ) → filled f (placed p r) n ≡ filled f r n
filled_placed field.NewLength p r n = refl
filled_placed f p r n = refl

-- a number in front of a window
number_bytes : (text : List ℕ) (r : Reading) (f : Field) (count n : ℕ) (bytes more : List ℕ) → ends_once bytes ≡ true → count + length bytes ≤ 10 → number_after n bytes < 2 ^ 64 → reading (Reads text (placed (at.Head f count n) r)) (bytes ++ more) ≡ reading (of_step text (filled f r (number_after n bytes))) more
number_bytes text r f count n [] more e h k = cc
number_bytes text r f count n (b ∷ []) more e h k =
    ap (λ d. reading (of_step text (head_digit f (placed (at.Head f count n) r) d)) more) (digit_whole count n b e k)
    ∙ ap (λ s. reading (of_step text s) more) (filled_placed f (at.Head f count n) r (n * 128 + group b))
number_bytes text r f count n (b ∷ c ∷ bs) more e h k =
    let p = both (not (is_last b)) (ends_once (c ∷ bs)) e in
    let g = number_after-ge (n * 128 + group b) (c ∷ bs) in
    ap (λ d. reading (of_step text (head_digit f (placed (at.Head f count n) r) d)) (c ∷ bs ++ more)) (digit_goes count n b (negated (is_last b) p.0) (omega (arith, g, k)) (omega (arith, h)))
    ∙ number_bytes text r f (count + 1) (n * 128 + group b) (c ∷ bs) more p.1 (omega (arith, h)) k

pub number_read : (text : List ℕ) (r : Reading) (f : Field) (bytes more : List ℕ) (n : ℕ) → Spells bytes n → reading (Reads text (placed (at.Head f 0 0) r)) (bytes ++ more) ≡ reading (of_step text (filled f r n)) more
number_read text r f bytes more n s =
    let small : number_after 0 bytes < 2 ^ 64 = omega (arith, s.number, s.small) in
    number_bytes text r f 0 0 bytes more s.ends (omega (arith, s.short)) small ∙ ap (λ m. reading (of_step text (filled f r m)) more) s.number

-- the first number of a window
pub first_read : (text : List ℕ) (r : Reading) (bytes more : List ℕ) (n : ℕ) → r.place ≡ at.Between → Spells bytes n → reading (Reads text r) (bytes ++ more) ≡ reading (of_step text (filled field.SourceOffset r n)) more
first_read text r [] more n e s = let x = s.ends in cc
first_read text r (b ∷ bs) more n e s =
    ap (λ p. reading (Reads text (placed p r)) (b ∷ bs ++ more)) e ∙ number_read text r field.SourceOffset (b ∷ bs) more n s

-- an instruction is whole in front of others, or is the last
instructed_placed : (p : Place) (r : Reading) (n : ℕ) → instructed (placed p r) n ≡ instructed r n
instructed_placed p r n = refl

less-zero : (a : ℕ) → (a == 0) ≡ true → a ≡ 0
less-zero a e = grind (arith, nat_tests)

pub nonzero : (a : ℕ) → 0 < a → (a == 0) ≡ false
nonzero a h = grind (arith, nat_tests)

less-twice : (j k a : ℕ) → a - j - k ≡ a - (j + k)
less-twice j k a = omega arith

length_bytes : (text : List ℕ) (r : Reading) (count n : ℕ) (bytes more : List ℕ) → ends_once bytes ≡ true → count + length bytes ≤ 10 → number_after n bytes < 2 ^ 64 → length bytes ≤ r.instructions → reading (Reads text (placed (at.Length count n) r)) (bytes ++ more) ≡ reading (of_step text (instructed (less (length bytes) r) (number_after n bytes))) more
length_bytes text r count n [] more e h k l = cc
length_bytes text r count n (b ∷ []) more e h k l =
    ap (λ d. reading (of_step text (length_digit (one_less (placed (at.Length count n) r)) d)) more) (digit_whole count n b e k)
length_bytes text r count n (b ∷ c ∷ bs) more e h k l =
    let p = both (not (is_last b)) (ends_once (c ∷ bs)) e in
    let g = number_after-ge (n * 128 + group b) (c ∷ bs) in
    let some : (r.instructions - 1 == 0) ≡ false = nonzero (r.instructions - 1) (omega (arith, l)) in
    let count_down : r.instructions - 1 - length (c ∷ bs) ≡ r.instructions - length (b ∷ c ∷ bs) = omega arith in
    let goes : within (placed (at.Length (count + 1) (n * 128 + group b)) (one_less (placed (at.Length count n) r))) ≡ Next (placed (at.Length (count + 1) (n * 128 + group b)) (one_less r)) = rw some refl in
    ap (λ d. reading (of_step text (length_digit (one_less (placed (at.Length count n) r)) d)) (c ∷ bs ++ more)) (digit_goes count n b (negated (is_last b) p.0) (omega (arith, g, k)) (omega (arith, h)))
    ∙ ap (λ s. reading (of_step text s) (c ∷ bs ++ more)) goes
    ∙ length_bytes text (one_less r) (count + 1) (n * 128 + group b) (c ∷ bs) more p.1 (omega (arith, h)) k (omega (arith, l))
    ∙ ap (λ i. reading (of_step text (instructed (record r { instructions = i }) (number_after (n * 128 + group b) (c ∷ bs)))) more) count_down

short_first : (b n : ℕ) → b ≡ 128 + n → 0 < n → n < 64 → (nat_lt b 128 ≡ false) × (nat_lt b 192 ≡ true) × ((b == 128) ≡ false) × (b - 128 ≡ n)
short_first b n e h k = (lt_false b 128 (omega (arith, e)), lt_true b 192 (omega (arith, e, k)), grind (arith, nat_tests), omega (arith, e))

-- an instruction
new_read : (text : List ℕ) (r : Reading) (first more : List ℕ) (n : ℕ) → IsNew first n → length first ≤ r.instructions → reading (Reads text (placed at.Instruction r)) (first ++ more) ≡ reading (of_step text (instructed (less (length first) r) n)) more
new_read text r first more n (some, inl (small, e)) l =
    let f = short_first (128 + n) n refl some small in
    let one : instruction (one_less (placed at.Instruction r)) (128 + n) ≡ instructed (less 1 r) n = rw (f.0, f.1, f.2, f.3) refl in
    rw e (ap (λ s. reading (of_step text s) more) one)
new_read text r first more n (some, inr (digits, s, e)) l =
    let k : length first ≡ 1 + length digits = omega (arith, ap length e) in
    let m : 0 < length digits = ends_some digits s.ends in
    let left : (r.instructions - 1 == 0) ≡ false = nonzero (r.instructions - 1) (omega (arith, l, k, m)) in
    let one : instruction (one_less (placed at.Instruction r)) 128 ≡ Next (placed (at.Length 0 0) (one_less r)) = rw left refl in
    let small : number_after 0 digits < 2 ^ 64 = omega (arith, s.number, s.small) in
    let down : r.instructions - 1 - length digits ≡ r.instructions - length first = omega (arith, k) in
    rw e (
    ap (λ s. reading (of_step text s) (digits ++ more)) one
    ∙ length_bytes text (one_less r) 0 0 digits more s.ends (omega (arith, s.short)) small (omega (arith, l, k))
    ∙ ap (λ m. reading (of_step text (instructed (less (length digits) (one_less r)) m)) more) s.number
    ∙ ap (λ i. reading (of_step text (instructed (record r { instructions = i }) n)) more) (down ∙ ap (λ f. r.instructions - length f) e)
    )

new_some : (first : List ℕ) (n : ℕ) → IsNew first n → 0 < length first
new_some first n (some, inl (small, e)) = omega (arith, ap length e)
new_some first n (some, inr (digits, s, e)) = omega (arith, ap length e)

more_within : (m n : ℕ) → m + n ≤ WINDOW_BYTES → more_data m n ≡ m + n
more_within m n h = rw (lt_false WINDOW_BYTES m (omega (arith, h)), lt_false WINDOW_BYTES n (omega (arith, h))) refl

-- instructions in front of others
news_read : (text bytes : List ℕ) (m : ℕ) (r : Reading) (more : List ℕ) → AreNew bytes m → r.sum ≡ 0 → m ≤ WINDOW_BYTES → length bytes < r.instructions → reading (Reads text (placed at.Instruction r)) (bytes ++ more) ≡ reading (Reads text (placed at.Instruction (record r { instructions = r.instructions - length bytes; sum = m }))) more
news_read text [] zero r more None z h l =
    let i : r.instructions ≡ r.instructions - length {A = ℕ} [] = omega arith in
    ap (λ s. reading (Reads text (record r { place = at.Instruction; sum = s })) more) z
    ∙ ap (λ i. reading (Reads text (record r { place = at.Instruction; sum = 0; instructions = i })) more) i
news_read text both_bytes both_sums r more (More bytes first m n before new) z h l =
    let k : length (bytes ++ first) ≡ length bytes + length first = length-append bytes first in
    let q : 0 < length first = new_some first n new in
    let one = news_read text bytes m r (first ++ more) before z (omega (arith, h)) (omega (arith, l, k)) in
    let mid = record r { instructions = r.instructions - length bytes; sum = m } in
    let two = new_read text mid first more n new (omega (arith, l, k)) in
    let some : (n == 0) ≡ false = nonzero n (new.0) in
    let left : (r.instructions - length bytes - length first == 0) ≡ false = nonzero (r.instructions - length bytes - length first) (omega (arith, l, k)) in
    let goes : instructed (less (length first) mid) n ≡ Next (placed at.Instruction (record r { instructions = r.instructions - length bytes - length first; sum = m + n })) = rw (some, left, more_within m n h) refl in
    let down : r.instructions - length bytes - length first ≡ r.instructions - length (bytes ++ first) = omega (arith, k) in
    ap (λ t. reading (Reads text (placed at.Instruction r)) t) (append_assoc bytes first more)
    ∙ one
    ∙ two
    ∙ ap (λ s. reading (of_step text s) more) goes
    ∙ ap (λ i. reading (Reads text (record r { place = at.Instruction; instructions = i; sum = m + n })) more) down

-- a reader between windows, with so much of the text behind it
abbrev pub Behind : Stream → List ℕ → ℕ → List ℕ → Type 0
Behind s text room more = (next : Reading) × (next.place ≡ at.Between) × (next.room ≡ room) × (s ≡ reading (Reads text next) more)

pub same_number : (a : ℕ) → (a == a) ≡ true
same_number a = grind (arith, nat_tests)

judged_fits : (p : Place) (n size sum room : ℕ) (t : Bool) → (size == 0) ≡ t → n ≤ WINDOW_BYTES → n ≤ room → judged (state p 0 n size n sum room) ≡ (if t then summed (state p 0 n size n 0 room) else Next (state at.Instruction 0 n size n 0 room))
judged_fits p n size sum room t e h k = rw (lt_false WINDOW_BYTES n h, lt_false room n k, e) refl

-- a reader in front of so much new data, and room for so much of the text
abbrev pub IsReady : Reading → ℕ → ℕ → Type 0
IsReady ready n room = (ready.place ≡ at.NewData) × (ready.fresh ≡ n) × (ready.room ≡ room)

-- the instructions of a window that has new data
before_data : (text instructions more : List ℕ) (n sum room : ℕ) (p : Place) → AreNew instructions n → 0 < n → n ≤ WINDOW_BYTES → n ≤ room → (ready : Reading) × IsReady ready n room × (reading (of_step text (judged (state p 0 n (length instructions) n sum room))) (instructions ++ more) ≡ reading (Reads text ready) more)
before_data text [] more zero sum room p None some h k = absurd (omega (arith, some))
before_data text both_bytes more both_sums sum room p (More bytes first m n before one) any h k =
    let size = length (bytes ++ first) in
    let s : size ≡ length bytes + length first = length-append bytes first in
    let q : 0 < length first = new_some first n one in
    let some : (size == 0) ≡ false = nonzero size (omega (arith, s, q)) in
    let total = m + n in
    let judgement : judged (state p 0 total size total sum room) ≡ Next (state at.Instruction 0 total size total 0 room) = judged_fits p total size sum room false some h k in
    let begins = state at.Instruction 0 total size total 0 room in
    let news = news_read text bytes m begins (first ++ more) before refl (omega (arith, h)) (omega (arith, s, q)) in
    let mid = state at.Instruction 0 total (size - length bytes) total m room in
    let last = new_read text mid first more n one (omega (arith, s)) in
    let left : size - length bytes - length first ≡ 0 = omega (arith, s) in
    let some_new : (n == 0) ≡ false = nonzero n one.0 in
    let some_text : (total == 0) ≡ false = nonzero total (omega (arith, one.0)) in
    let ready = state at.NewData 0 total 0 total total room in
    let goes : instructed (less (length first) mid) n ≡ Next ready = rw (left, some_new, more_within m n h, same_number total, some_text) refl in (
      ready,
      (refl, refl, refl),
      ap (λ s. reading (of_step text s) ((bytes ++ first) ++ more)) judgement
          ∙ ap (reading (Reads text begins)) (append_assoc bytes first more)
          ∙ news
          ∙ last
          ∙ ap (λ s. reading (of_step text s) more) goes,
    )

-- the instructions and the new data of a window
behind_head : (text instructions new more : List ℕ) (n sum room : ℕ) (p : Place) → AreNew instructions n → length new ≡ n → n ≤ WINDOW_BYTES → n ≤ room → Behind (reading (of_step text (judged (state p 0 n (length instructions) n sum room))) (instructions ++ (new ++ more))) (text ++ new) (room - n) more
behind_head text [] new more zero sum room p None e h k =
    let none : new ≡ [] = nil_from_length new e in
    let judgement : judged (state p 0 0 0 0 sum room) ≡ Next (state at.Between 0 0 0 0 0 room) = judged_fits p 0 0 sum room true refl h k in
    (state at.Between 0 0 0 0 0 room, refl, omega arith, rw (none, judgement, append-nil) refl)
behind_head text instructions new more n sum room p (More bytes first m k before one) e h l =
    let some : 0 < n = omega (arith, one.0) in
    let front = before_data text instructions (new ++ more) n sum room p (More bytes first m k before one) some h l in
    let ready = front.0 in
    let run = data_run text ready new more front.1.0 (omega (arith, e, some)) (λ _. omega (arith, e, front.1.1)) in
    let end : (given (length new) ready).place ≡ at.Between = rw (lt_false (length new) ready.fresh (omega (arith, e, front.1.1))) refl in
    (given (length new) ready, end, omega (arith, e, front.1.2), front.2 ∙ run)

regroup : (a b c d e f g more : List ℕ) → (a ++ (b ++ (c ++ (d ++ (e ++ (f ++ g)))))) ++ more ≡ a ++ (b ++ (c ++ (d ++ (e ++ (f ++ (g ++ more))))))
regroup a b c d e f g more =
    append_assoc a (b ++ (c ++ (d ++ (e ++ (f ++ g))))) more
    ∙ ap (λ t. a ++ t) (append_assoc b (c ++ (d ++ (e ++ (f ++ g)))) more
    ∙ ap (λ t. b ++ t) (append_assoc c (d ++ (e ++ (f ++ g))) more
    ∙ ap (λ t. c ++ t) (append_assoc d (e ++ (f ++ g)) more
    ∙ ap (λ t. d ++ t) (append_assoc e (f ++ g) more
    ∙ ap (λ t. e ++ t) (append_assoc f g more)))))

-- the numbers in front of a window
numbers_read : (text bytes new rest : List ℕ) (r : Reading) → r.place ≡ at.Between → (w : IsWindow bytes new) → reading (Reads text r) (w.offset ++ (w.source ++ (w.target ++ (w.size ++ (w.news ++ rest))))) ≡ reading (of_step text (judged (state (at.Head field.NewLength 0 0) 0 (length new) (length w.instructions) (length new) r.sum r.room))) rest
numbers_read text bytes new rest r e w =
    let n = length new in
    first_read text r w.offset (w.source ++ (w.target ++ (w.size ++ (w.news ++ rest)))) w.anywhere e w.is_offset
    ∙ number_read text r field.SourceLength w.source (w.target ++ (w.size ++ (w.news ++ rest))) 0 w.no_source
    ∙ number_read text (record r { source = 0 }) field.TargetLength w.target (w.size ++ (w.news ++ rest)) n w.is_target
    ∙ number_read text (record r { source = 0; target = n }) field.InstructionLength w.size (w.news ++ rest) (length w.instructions) w.is_size
    ∙ number_read text (record r { source = 0; target = n; instructions = length w.instructions }) field.NewLength w.news rest n w.is_news

-- a window
pub window_read : (text bytes new more : List ℕ) (r : Reading) → r.place ≡ at.Between → IsWindow bytes new → length new ≤ r.room → Behind (reading (Reads text r) (bytes ++ more)) (text ++ new) (r.room - length new) more
window_read text bytes new more r e w h =
    let rest = w.instructions ++ (new ++ more) in
    let behind = behind_head text w.instructions new more (length new) r.sum r.room (at.Head field.NewLength 0 0) w.make refl w.short h in
    let numbers : reading (Reads text r) (bytes ++ more) ≡ reading (of_step text (judged (state (at.Head field.NewLength 0 0) 0 (length new) (length w.instructions) (length new) r.sum r.room))) rest =
    ap (λ b. reading (Reads text r) (b ++ more)) w.joined
    ∙ ap (reading (Reads text r)) (regroup w.offset w.source w.target w.size w.news w.instructions new more)
    ∙ numbers_read text bytes new rest r e w in
    (behind.0, behind.1, behind.2, numbers ∙ behind.3)

-- a window's new data is one piece
pub window_pieces : (bytes new : List ℕ) (r : Reading) → r.place ≡ at.Between → IsWindow bytes new → 0 < length new → length new ≤ r.room → pieces_in r bytes ≡ new ∷ []
window_pieces bytes new r e w some h =
    let front = before_data [] w.instructions [] (length new) r.sum r.room (at.Head field.NewLength 0 0) w.make some w.short h in
    let ready = front.0 in
    let head = w.offset ++ (w.source ++ (w.target ++ (w.size ++ (w.news ++ (w.instructions ++ []))))) in
    let quiet : reading (Reads [] r) head ≡ Reads [] ready = numbers_read [] bytes new (w.instructions ++ []) r e w ∙ front.2 in
    let run = data_pieces ready new [] front.1.0 some (λ _. omega (arith, front.1.1)) (λ z. absurd (omega (arith, z))) in
    ap (pieces_in r) (w.joined ∙ sym (regroup w.offset w.source w.target w.size w.news w.instructions [] new))
    ∙ no_pieces [] r ready head new quiet
    ∙ ap (pieces_in ready) (sym (append-nil new))
    ∙ run

-- windows, one after another
windows_read : (text bytes all more : List ℕ) (r : Reading) → r.place ≡ at.Between → AreWindows bytes all → length all ≤ r.room → Behind (reading (Reads text r) (bytes ++ more)) (text ++ all) (r.room - length all) more
windows_read text [] [] more r e Empty h = (r, e, omega arith, rw (append-nil text) refl)
windows_read text both_bytes both_texts more r e (Then bytes all first new before one) h =
    let s = length-append all new in
    let front = windows_read text bytes all (first ++ more) r e before (omega (arith, h, s)) in
    let last = window_read (text ++ all) first new more front.0 front.1 one (omega (arith, h, s, front.2)) in
    let room : front.0.room - length new ≡ r.room - length (all ++ new) = omega (arith, front.2, s) in (
      last.0,
      last.1,
      last.2 ∙ room,
      ap (reading (Reads text r)) (append_assoc bytes first more) ∙ front.3 ∙ last.3 ∙ ap (λ t. reading (Reads t last.0) more) (append_assoc text all new),
    )

pub texts_are_read : (bytes text : List ℕ) → IsText bytes text → IsRead bytes text
texts_are_read bytes text t =
    let start : Reading = state at.Between 0 0 0 0 0 TEXT_BYTES in
    let run = windows_read [] t.windows text [] start refl t.are t.fits in
    let magic : reading (Reads [] begin) bytes ≡ reading (Reads [] start) (t.windows ++ []) = ap (reading (Reads [] begin)) t.joined ∙ ap (reading (Reads [] start)) (sym (append-nil t.windows)) in
    (run.0, rw (run.1, is_between) refl, magic ∙ run.3)

abbrev text_of : Stream → List ℕ
text_of (Reads text r) = text
text_of (Refuses text f) = text

pub one_text : (bytes one other : List ℕ) → IsText bytes one → IsText bytes other → one ≡ other
one_text bytes one other a b =
    let first = texts_are_read bytes one a in
    let second = texts_are_read bytes other b in
    ap text_of (sym first.2 ∙ second.2)
