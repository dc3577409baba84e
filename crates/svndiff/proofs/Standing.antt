-- What is read is in the grammar.
use Rattle.std.proofs.Common.{◌≡◌, ◌⊎◌, inl, inr, ℕ, zero, suc, ◌+◌, ◌-◌, ◌*◌, ◌≤◌, ◌<◌, ◌==◌, ◌&&◌, ◌||◌, not, Bool, true, false, List, [], ◌∷◌, ◌++◌, length, take, nat_lt, refl, sym, ap, subst, ◌∙◌, append_assoc, append-nil, length-append, arith}
use Rattle.std.proofs.lemmas.Bool.Decides.{nat_tests}
use Rattle.std.specs.Bool.{if◌then◌else◌}
use Rattle.svndiff.specs.Groups.{is_last, group, number_after, ends_once, Spells}
use Rattle.svndiff.specs.Grammar.{IsNew, AreNew, None, More, IsWindow, AreWindows, Empty, Then, IsText}
use Rattle.svndiff.specs.Laws.{IsRead}
use Rattle.svndiff.specs.declared.reading.Field.{Field}
use Rattle.svndiff.specs.declared.reading.Field.TheVariants as field
use Rattle.svndiff.specs.declared.reading.Digit.{Digit}
use Rattle.svndiff.specs.declared.reading.Digit.TheVariants.{Whole, Goes, Wrong}
use Rattle.svndiff.specs.declared.reading.Place.{Place}
use Rattle.svndiff.specs.declared.reading.Place.TheVariants as at
use Rattle.svndiff.specs.declared.reading.Reading.{Reading}
use Rattle.svndiff.specs.declared.fault.WindowFault.{WindowFault}
use Rattle.svndiff.specs.declared.fault.WindowFault.TheVariants.{BadWindow, CopyWindow, TooLong, Failed}
use Rattle.svndiff.specs.Reading.{Step, Next, Gives, Refused, begin, is_between, in_magic, digit, filled, head_digit, length_digit, more_data, instructed, judged, summed, instruction, one_less, one_step}
use Rattle.svndiff.specs.Streams.{Stream, Reads, Refuses, of_step, one_byte, reading, stream_of}
use Rattle.svndiff.specs.Refusals.{Whole_windows, Offset, AndSource, AndTarget, AndSize, Numbers, IsPast, IsOverfull, HasSource, Copies, IsDue, RefusedForCause, RefusedIsNoFront}
use Rattle.svndiff.specs.declared.limits.TheConstants.{TEXT_BYTES, WINDOW_BYTES}
use Rattle.svndiff.proofs.Read.{texts_are_read}
use Rattle.svndiff.proofs.Runs.{lt_from, both, state, reading-append, reading-refused}

-- bytes of a number that goes on
abbrev pub none_last : List ℕ → Bool
none_last [] = true
none_last (b ∷ bs) = not (is_last b) && none_last bs

pub record Begun (digits : List ℕ) (count n : ℕ) : Type 0 where
  pub goes : none_last digits ≡ true
  pub counted : length digits ≡ count
  pub few : count ≤ 9
  pub number : number_after 0 digits ≡ n

-- the numbers of a window in front of one of them
abbrev InFront : Field → ℕ → ℕ → ℕ → List ℕ → Type 0
InFront field.SourceOffset source target size bytes = bytes ≡ []
InFront field.SourceLength source target size bytes = Offset bytes
InFront field.TargetLength source target size bytes = AndSource source bytes
InFront field.InstructionLength source target size bytes = AndTarget source target bytes
InFront field.NewLength source target size bytes = AndSize source target size bytes

-- instructions for so much new data, which is counted up to the limit
abbrev Made : List ℕ → ℕ → Type 0
Made made sum = (total : ℕ) × AreNew made total × (sum ≤ WINDOW_BYTES → sum ≡ total)

made_are : (made : List ℕ) (sum : ℕ) → Made made sum → sum ≤ WINDOW_BYTES → AreNew made sum
made_are made sum m h = subst (AreNew made) (sym (m.2 h)) m.1

-- what is behind so many bytes, at each place
abbrev Part : Place → ℕ → ℕ → ℕ → ℕ → ℕ → ℕ → List ℕ → List ℕ → Type 0
Part (at.Magic k) source target left fresh sum room text bytes = (k ≤ 3) × (text ≡ []) × (room ≡ TEXT_BYTES) × (bytes ≡ take k (83 ∷ 86 ∷ 78 ∷ 0 ∷ []))
Part at.Between source target left fresh sum room text bytes = Whole_windows bytes text room
Part (at.Head f count n) source target left fresh sum room text bytes =
    (front numbers digits : List ℕ) × Whole_windows front text room × InFront f source target left numbers × Begun digits count n × (bytes ≡ front ++ (numbers ++ digits))
Part at.Instruction source target left fresh sum room text bytes =
    (front numbers made : List ℕ) × Whole_windows front text room × Numbers 0 target (length made + left) fresh numbers × Made made sum × (fresh ≤ WINDOW_BYTES) × (fresh ≤ room) × (0 < left) × (bytes ≡ front ++ (numbers ++ made))
Part (at.Length count n) source target left fresh sum room text bytes =
    (front numbers made digits : List ℕ) × Whole_windows front text room × Numbers 0 target (length made + (1 + length digits) + left) fresh numbers × Made made sum × (fresh ≤ WINDOW_BYTES) × (fresh ≤ room) × (0 < left) × Begun digits count n × (bytes ≡ front ++ (numbers ++ (made ++ 128 ∷ digits)))
Part at.NewData source target left fresh sum room text bytes =
    (front numbers made before new : List ℕ) × Whole_windows front before (room + length new) × Numbers 0 (length new + fresh) (length made) (length new + fresh) numbers × AreNew made (length new + fresh) × (length new + fresh ≤ WINDOW_BYTES) × (fresh ≤ room) × (0 < fresh) × (text ≡ before ++ new) × (bytes ≡ front ++ (numbers ++ (made ++ new)))
Part at.Failed source target left fresh sum room text bytes = ⊥

abbrev Stands : Reading → List ℕ → List ℕ → Type 0
Stands r text bytes = Part r.place r.source r.target r.instructions r.fresh r.sum r.room text bytes

-- what a refusal's number says of the bytes up to it
abbrev Cause : WindowFault → List ℕ → List ℕ → Type 0
Cause TooLong text bytes = IsOverfull text bytes
Cause CopyWindow text bytes = HasSource text bytes ⊎ Copies text bytes
Cause BadWindow text bytes = Unit {0}
Cause Failed text bytes = ⊥

abbrev Fine : List ℕ → List ℕ → Step → Type 0
Fine text bytes (Next r) = Stands r text bytes
Fine text bytes (Gives b r) = Stands r (text ++ b ∷ []) bytes
Fine text bytes (Refused f) = Cause f text bytes

if_fine : (text bytes : List ℕ) (t : Bool) (x y : Step) → (t ≡ true → Fine text bytes x) → (t ≡ false → Fine text bytes y) → Fine text bytes (if t then x else y)
if_fine text bytes true x y h k = h refl
if_fine text bytes false x y h k = k refl

pub le_from : (a b : ℕ) → nat_lt a b ≡ false → b ≤ a
le_from a b e = grind (arith, nat_tests)

pub eq_from : (a b : ℕ) → (a == b) ≡ true → a ≡ b
eq_from a b e = grind (arith, nat_tests)

pub positive : (n : ℕ) → (n == 0) ≡ false → 0 < n
positive n e = grind (arith, nat_tests)

-- a byte more of a number
number_after-snoc : (n : ℕ) (bs : List ℕ) (b : ℕ) → number_after n (bs ++ b ∷ []) ≡ number_after n bs * 128 + group b
number_after-snoc n [] b = refl
number_after-snoc n (c ∷ bs) b = number_after-snoc (n * 128 + group c) bs b

none_snoc : (bs : List ℕ) (b : ℕ) → none_last bs ≡ true → is_last b ≡ false → none_last (bs ++ b ∷ []) ≡ true
none_snoc [] b e h = rw h refl
none_snoc (c ∷ bs) b e h = let p = both (not (is_last c)) (none_last bs) e in rw p.0 (none_snoc bs b p.1 h)

ends_snoc : (bs : List ℕ) (b : ℕ) → none_last bs ≡ true → is_last b ≡ true → ends_once (bs ++ b ∷ []) ≡ true
ends_snoc [] b e h = h
ends_snoc (c ∷ []) b e h = let p = both (not (is_last c)) true e in rw p.0 h
ends_snoc (c ∷ d ∷ bs) b e h = let p = both (not (is_last c)) (none_last (d ∷ bs)) e in rw p.0 (ends_snoc (d ∷ bs) b p.1 h)

digit_by : (P : Digit → Type 0) (digits : List ℕ) (count n b : ℕ) (s t u : Bool) → nat_lt (n * 128 + group b) 18446744073709551616 ≡ s → is_last b ≡ t → nat_lt (count + 1) 10 ≡ u → Begun digits count n → ((m : ℕ) → Spells (digits ++ b ∷ []) m → P (Whole m)) → ((m : ℕ) → Begun (digits ++ b ∷ []) (count + 1) m → P (Goes (count + 1) m)) → P Wrong → P (if s then if t then Whole (n * 128 + group b) else if u then Goes (count + 1) (n * 128 + group b) else Wrong else Wrong)
digit_by P digits count n b true true u e f g begun w o x =
    w (n * 128 + group b) (record {
      ends = ends_snoc digits b begun.goes f;
      short = omega (arith, length-append digits (b ∷ []), begun.counted, begun.few);
      number = number_after-snoc 0 digits b ∙ ap (λ m. m * 128 + group b) begun.number;
      small = omega (arith, lt_from (n * 128 + group b) 18446744073709551616 e);
    })
digit_by P digits count n b true false true e f g begun w o x =
    o (n * 128 + group b) (record {
      goes = none_snoc digits b begun.goes f;
      counted = omega (arith, length-append digits (b ∷ []), begun.counted);
      few = omega (arith, lt_from (count + 1) 10 g);
      number = number_after-snoc 0 digits b ∙ ap (λ m. m * 128 + group b) begun.number;
    })
digit_by P digits count n b true false false e f g begun w o x = x
digit_by P digits count n b false t u e f g begun w o x = x

pub digit_fine : (P : Digit → Type 0) (digits : List ℕ) (count n b : ℕ) → Begun digits count n → ((m : ℕ) → Spells (digits ++ b ∷ []) m → P (Whole m)) → ((m : ℕ) → Begun (digits ++ b ∷ []) (count + 1) m → P (Goes (count + 1) m)) → P Wrong → P (digit count n b)
digit_fine P digits count n b begun w o x = digit_by P digits count n b (nat_lt (n * 128 + group b) 18446744073709551616) (is_last b) (nat_lt (count + 1) 10) refl refl refl begun w o x

pub none_begun : Begun [] 0 0
none_begun = record { goes = refl; counted = refl; few = omega arith; number = refl }

-- a byte more behind three parts
snoc2 : (a b : List ℕ) (c : ℕ) → (a ++ b) ++ c ∷ [] ≡ a ++ (b ++ c ∷ [])
snoc2 a b c = append_assoc a b (c ∷ [])

pub snoc3 : (a b d : List ℕ) (c : ℕ) → (a ++ (b ++ d)) ++ c ∷ [] ≡ a ++ (b ++ (d ++ c ∷ []))
snoc3 a b d c = append_assoc a (b ++ d) (c ∷ []) ∙ ap (λ t. a ++ t) (append_assoc b d (c ∷ []))

pub snoc4 : (a b d e : List ℕ) (c : ℕ) → (a ++ (b ++ (d ++ e))) ++ c ∷ [] ≡ a ++ (b ++ (d ++ (e ++ c ∷ [])))
snoc4 a b d e c = append_assoc a (b ++ (d ++ e)) (c ∷ []) ∙ ap (λ t. a ++ t) (snoc3 b d e c)

-- the version
magic_fine : (k source target left fresh sum room : ℕ) (text bytes : List ℕ) (b : ℕ) → Part (at.Magic k) source target left fresh sum room text bytes → Fine text (bytes ++ b ∷ []) (in_magic k (state (at.Magic k) source target left fresh sum room) b)
magic_fine zero source target left fresh sum room text bytes b (k, t, r, e) =
    if_fine text (bytes ++ b ∷ []) (b == 83) _ _ (λ h. (omega arith, t, r, ap (λ x. x ++ b ∷ []) e ∙ ap (λ x. x ∷ []) (eq_from b 83 h))) (λ _. tt)
magic_fine (suc zero) source target left fresh sum room text bytes b (k, t, r, e) =
    if_fine text (bytes ++ b ∷ []) (b == 86) _ _ (λ h. (omega arith, t, r, ap (λ x. x ++ b ∷ []) e ∙ ap (λ x. 83 ∷ x ∷ []) (eq_from b 86 h))) (λ _. tt)
magic_fine (suc (suc zero)) source target left fresh sum room text bytes b (k, t, r, e) =
    if_fine text (bytes ++ b ∷ []) (b == 78) _ _ (λ h. (omega arith, t, r, ap (λ x. x ++ b ∷ []) e ∙ ap (λ x. 83 ∷ 86 ∷ x ∷ []) (eq_from b 78 h))) (λ _. tt)
magic_fine (suc (suc (suc zero))) source target left fresh sum room text bytes b (k, t, r, e) =
    if_fine text (bytes ++ b ∷ []) (b == 0) _ _
    (λ h. record { windows = []; are = subst (AreWindows []) (sym t) Empty; room_is = omega (arith, ap length t, r); joined = ap (λ x. x ++ b ∷ []) e ∙ ap (λ x. 83 ∷ 86 ∷ 78 ∷ x ∷ []) (eq_from b 0 h) })
    (λ _. tt)
magic_fine (suc (suc (suc (suc k)))) source target left fresh sum room text bytes b (h, t, r, e) = absurd (omega (arith, h))

-- a window is whole
window_done : (front numbers made before new text bytes : List ℕ) (n room_before room : ℕ) → Whole_windows front before room_before → Numbers 0 n (length made) n numbers → AreNew made n → n ≡ length new → n ≤ WINDOW_BYTES → text ≡ before ++ new → bytes ≡ front ++ (numbers ++ (made ++ new)) → length text + room ≡ TEXT_BYTES → Whole_windows bytes text room
window_done front numbers made before new text bytes n room_before room w (a4, d5, (a3, d4, (a2, d3, (a1, d2, o, s2, e2), s3, e3), s4, e4), s5, e5) are z short t e r =
    let first = a1 ++ (d2 ++ (d3 ++ (d4 ++ (d5 ++ (made ++ new))))) in
    let window : IsWindow first new = record {
      offset = a1;
      source = d2;
      target = d3;
      size = d4;
      news = d5;
      instructions = made;
      anywhere = o.0;
      is_offset = o.1;
      no_source = s2;
      is_target = subst (Spells d3) z s3;
      is_size = s4;
      is_news = subst (Spells d5) z s5;
      make = subst (AreNew made) z are;
      short = omega (arith, z, short);
      joined = refl;
    } in
    let tail = made ++ new in
    let flat : numbers ++ tail ≡ first =
    ap (λ x. x ++ tail) e5
    ∙ append_assoc a4 d5 tail
    ∙ ap (λ x. x ++ (d5 ++ tail)) e4
    ∙ append_assoc a3 d4 (d5 ++ tail)
    ∙ ap (λ x. x ++ (d4 ++ (d5 ++ tail))) e3
    ∙ append_assoc a2 d3 (d4 ++ (d5 ++ tail))
    ∙ ap (λ x. x ++ (d3 ++ (d4 ++ (d5 ++ tail)))) e2
    ∙ append_assoc a1 d2 (d3 ++ (d4 ++ (d5 ++ tail))) in
    record {
      windows = w.windows ++ first;
      are = subst (AreWindows (w.windows ++ first)) (sym t) (Then w.windows before first new w.are window);
      room_is = r;
      joined = e ∙ ap (λ x. front ++ x) flat ∙ ap (λ x. x ++ first) w.joined;
    }

-- the instructions are over
summed_at : (p : Place) (source target fresh sum room : ℕ) (text bytes front numbers made : List ℕ) (s t : Bool) → (sum == target && sum == fresh) ≡ s → (fresh == 0) ≡ t → Whole_windows front text room → Numbers 0 target (length made) fresh numbers → Made made sum → fresh ≤ WINDOW_BYTES → fresh ≤ room → bytes ≡ front ++ (numbers ++ made) → Fine text bytes (if s then Next (state (if t then at.Between else at.NewData) source target 0 fresh sum room) else Refused BadWindow)
summed_at p source target fresh sum room text bytes front numbers made false t e z w n are short fits j = tt
summed_at p source target fresh sum room text bytes front numbers made true true e z w n are short fits j =
    let q = both (sum == target) (sum == fresh) e in
    let st = eq_from sum target q.0 in
    let sf = eq_from sum fresh q.1 in
    let f0 = eq_from fresh 0 z in
    let same : target ≡ fresh = sym st ∙ sf in
    let made_all : AreNew made fresh = subst (AreNew made) sf (made_are made sum are (omega (arith, sf, short))) in
    window_done front numbers made text [] text bytes fresh room room w (subst (λ x. Numbers 0 x (length made) fresh numbers) same n) made_all f0 short (sym (append-nil text)) (j ∙ ap (λ x. front ++ (numbers ++ x)) (sym (append-nil made))) w.room_is
summed_at p source target fresh sum room text bytes front numbers made true false e z w n are short fits j =
    let q = both (sum == target) (sum == fresh) e in
    let st = eq_from sum target q.0 in
    let sf = eq_from sum fresh q.1 in
    let same : target ≡ fresh = sym st ∙ sf in
    let plain : length {A = ℕ} [] + fresh ≡ fresh = omega arith in
    let wide : room + length {A = ℕ} [] ≡ room = omega arith in
    let made_all : AreNew made fresh = subst (AreNew made) sf (made_are made sum are (omega (arith, sf, short))) in (
      front,
      numbers,
      made,
      text,
      [],
      subst (Whole_windows front text) (sym wide) w,
      subst (λ x. Numbers 0 x (length made) x numbers) (sym plain) (subst (λ x. Numbers 0 x (length made) fresh numbers) same n),
      subst (AreNew made) (sym plain) made_all,
      omega (arith, plain, short),
      fits,
      positive fresh z,
      sym (append-nil text),
      j ∙ ap (λ x. front ++ (numbers ++ x)) (sym (append-nil made)),
    )

summed_fine : (p : Place) (source target left fresh sum room : ℕ) (text bytes front numbers made : List ℕ) → left ≡ 0 → Whole_windows front text room → Numbers 0 target (length made + left) fresh numbers → Made made sum → fresh ≤ WINDOW_BYTES → fresh ≤ room → bytes ≡ front ++ (numbers ++ made) → Fine text bytes (summed (state p source target left fresh sum room))
summed_fine p source target left fresh sum room text bytes front numbers made z w n are short fits j =
    let size : length made + left ≡ length made = omega (arith, z) in
    subst (λ l. Fine text bytes (summed (state p source target l fresh sum room))) (sym z) (summed_at p source target fresh sum room text bytes front numbers made (sum == target && sum == fresh) (fresh == 0) refl refl w (subst (λ x. Numbers 0 target x fresh numbers) size n) are short fits j)

-- an instruction is whole
more_at : (made first : List ℕ) (sum n : ℕ) (s : Bool) → (nat_lt WINDOW_BYTES sum || nat_lt WINDOW_BYTES n) ≡ s → Made made sum → IsNew first n → Made (made ++ first) (if s then WINDOW_BYTES + 1 else sum + n)
more_at made first sum n true e are one = (are.0 + n, More made first are.0 n are.1 one, λ h. absurd (omega (arith, h)))
more_at made first sum n false e are one = (are.0 + n, More made first are.0 n are.1 one, λ h. omega (arith, h, are.2 (omega (arith, h))))

instructed_fine : (p : Place) (source target left fresh sum room n : ℕ) (text bytes front numbers made first : List ℕ) → Whole_windows front text room → Numbers 0 target (length (made ++ first) + left) fresh numbers → Made made sum → (0 < n → IsNew first n) → fresh ≤ WINDOW_BYTES → fresh ≤ room → bytes ≡ front ++ (numbers ++ (made ++ first)) → Fine text bytes (instructed (state p source target left fresh sum room) n)
instructed_fine p source target left fresh sum room n text bytes front numbers made first w m are one short fits j =
    if_fine text bytes (n == 0) _ _ (λ _. tt) (λ some.
    let new : IsNew first n = one (positive n some) in
    let all : Made (made ++ first) (more_data sum n) = more_at made first sum n (nat_lt WINDOW_BYTES sum || nat_lt WINDOW_BYTES n) refl are new in
    if_fine text bytes (left == 0) _ _
    (λ z. summed_fine p source target left fresh (more_data sum n) room text bytes front numbers (made ++ first) (eq_from left 0 z) w m all short fits j)
    (λ l. (front, numbers, made ++ first, w, m, all, short, fits, positive left l, j)))

short_new : (b : ℕ) → nat_lt b 128 ≡ false → nat_lt b 192 ≡ true → 0 < b - 128 → IsNew (b ∷ []) (b - 128)
short_new b e f h =
    let g = le_from b 128 e in
    let k = lt_from b 192 f in
    let v : 128 + (b - 128) ≡ b = omega (arith, g) in
    (h, inl (omega (arith, g, k), ap (λ x. x ∷ []) (sym v)))

-- where an instruction begins
instruction_fine : (source target left fresh sum room : ℕ) (text bytes : List ℕ) (b : ℕ) → Part at.Instruction source target left fresh sum room text bytes → Fine text (bytes ++ b ∷ []) (instruction (one_less (state at.Instruction source target left fresh sum room)) b)
instruction_fine source target left fresh sum room text bytes b (front, numbers, made, w, m, are, short, fits, some, j) =
    let more : bytes ++ b ∷ [] ≡ front ++ (numbers ++ (made ++ b ∷ [])) = ap (λ x. x ++ b ∷ []) j ∙ snoc3 front numbers made b in
    if_fine text (bytes ++ b ∷ []) (nat_lt b 128) _ _ (λ low. inr (front, numbers, made, room, target, left, fresh, are.0, b, w, m, are.1, short, fits, some, lt_from b 128 low, more)) (λ high.
    if_fine text (bytes ++ b ∷ []) (nat_lt b 192) _ _
    (λ low. if_fine text (bytes ++ b ∷ []) (b == 128) _ _
    (λ long. if_fine text (bytes ++ b ∷ []) (left - 1 == 0) _ _ (λ _. tt) (λ l.
    let size : length made + left ≡ length made + (1 + length {A = ℕ} []) + (left - 1) = omega (arith, some) in (
      front,
      numbers,
      made,
      [],
      w,
      subst (λ x. Numbers 0 target x fresh numbers) size m,
      are,
      short,
      fits,
      positive (left - 1) l,
      none_begun,
      more ∙ ap (λ x. front ++ (numbers ++ (made ++ x ∷ []))) (eq_from b 128 long),
    )))
    (λ _.
    let size : length made + left ≡ length (made ++ b ∷ []) + (left - 1) = omega (arith, some, length-append made (b ∷ [])) in
    instructed_fine at.Instruction source target (left - 1) fresh sum room (b - 128) text (bytes ++ b ∷ []) front numbers made (b ∷ []) w (subst (λ x. Numbers 0 target x fresh numbers) size m) are (short_new b high low) short fits more))
    (λ _. tt))

-- in an instruction's length
length_fine : (source target left fresh sum room count n : ℕ) (text bytes : List ℕ) (b : ℕ) → Part (at.Length count n) source target left fresh sum room text bytes → Fine text (bytes ++ b ∷ []) (length_digit (one_less (state (at.Length count n) source target left fresh sum room)) (digit count n b))
length_fine source target left fresh sum room count n text bytes b (front, numbers, made, digits, w, m, are, short, fits, some, begun, j) =
    let a = length-append made (128 ∷ (digits ++ b ∷ [])) in
    let c = length-append digits (b ∷ []) in
    let more : bytes ++ b ∷ [] ≡ front ++ (numbers ++ (made ++ 128 ∷ (digits ++ b ∷ []))) = ap (λ x. x ++ b ∷ []) j ∙ snoc4 front numbers made (128 ∷ digits) b in
    digit_fine (λ d. Fine text (bytes ++ b ∷ []) (length_digit (one_less (state (at.Length count n) source target left fresh sum room)) d)) digits count n b begun
    (λ v s.
    let size : length made + (1 + length digits) + left ≡ length (made ++ 128 ∷ (digits ++ b ∷ [])) + (left - 1) = omega (arith, some, a, c) in
    instructed_fine (at.Length count n) source target (left - 1) fresh sum room v text (bytes ++ b ∷ []) front numbers made (128 ∷ (digits ++ b ∷ [])) w (subst (λ x. Numbers 0 target x fresh numbers) size m) are (λ h. (h, inr (digits ++ b ∷ [], s, refl))) short fits more)
    (λ v goes. if_fine text (bytes ++ b ∷ []) (left - 1 == 0) _ _ (λ _. tt) (λ l.
    let size : length made + (1 + length digits) + left ≡ length made + (1 + length (digits ++ b ∷ [])) + (left - 1) = omega (arith, some, c) in
    (front, numbers, made, digits ++ b ∷ [], w, subst (λ x. Numbers 0 target x fresh numbers) size m, are, short, fits, positive (left - 1) l, goes, more)))
    tt

-- the numbers in front of a window are there
pub or_false : (a b : Bool) → (a || b) ≡ false → (a ≡ false) × (b ≡ false)
or_false true b e = cc
or_false false b e = (refl, e)

past_one : (target fresh room : ℕ) → (nat_lt WINDOW_BYTES target || nat_lt WINDOW_BYTES fresh || nat_lt room fresh) ≡ true → IsPast target fresh room
past_one target fresh room e = grind (arith, nat_tests)

judged_fine : (p : Place) (source target left fresh sum room : ℕ) (text bytes front numbers : List ℕ) → Whole_windows front text room → Numbers source target left fresh numbers → bytes ≡ front ++ numbers → Fine text bytes (judged (state p source target left fresh sum room))
judged_fine p source target left fresh sum room text bytes front numbers w m j =
    if_fine text bytes (nat_lt WINDOW_BYTES target || nat_lt WINDOW_BYTES fresh || nat_lt room fresh) _ _ (λ past. (front, numbers, room, source, target, left, fresh, w, m, past_one target fresh room past, j)) (λ limits.
    let q = or_false (nat_lt WINDOW_BYTES target || nat_lt WINDOW_BYTES fresh) (nat_lt room fresh) limits in
    let r = or_false (nat_lt WINDOW_BYTES target) (nat_lt WINDOW_BYTES fresh) q.0 in
    let short : fresh ≤ WINDOW_BYTES = le_from WINDOW_BYTES fresh r.1 in
    let fits : fresh ≤ room = le_from room fresh q.1 in
    if_fine text bytes (nat_lt 0 source) _ _ (λ some. inl (front, numbers, room, source, target, left, fresh, w, m, le_from WINDOW_BYTES target r.0, short, fits, lt_from 0 source some, j)) (λ no.
    let zero_source : source ≡ 0 = omega (arith, le_from 0 source no) in
    let size : left ≡ length {A = ℕ} [] + left = omega arith in
    let m0 = subst (λ x. Numbers 0 target x fresh numbers) size (subst (λ x. Numbers x target left fresh numbers) zero_source m) in
    let end = j ∙ ap (λ x. front ++ x) (sym (append-nil numbers)) in
    if_fine text bytes (left == 0) _ _
    (λ z. summed_fine p source target left fresh 0 room text bytes front numbers [] (eq_from left 0 z) w m0 (0, None, λ _. refl) short fits end)
    (λ l. (front, numbers, [], w, m0, (0, None, λ _. refl), short, fits, positive left l, end))))

-- a number in front of a window
filled_fine : (f : Field) (p : Place) (source target left fresh sum room n : ℕ) (text bytes front numbers digits : List ℕ) → Whole_windows front text room → InFront f source target left numbers → Spells digits n → bytes ≡ front ++ (numbers ++ digits) → Fine text bytes (filled f (state p source target left fresh sum room) n)
filled_fine field.SourceOffset p source target left fresh sum room n text bytes front numbers digits w i s j =
    (front, digits, [], w, (n, s), none_begun, j ∙ ap (λ x. front ++ (x ++ digits)) i ∙ ap (λ x. front ++ x) (sym (append-nil digits)))
filled_fine field.NewLength p source target left fresh sum room n text bytes front numbers digits w i s j =
    judged_fine p source target left n sum room text bytes front (numbers ++ digits) w (numbers, digits, i, s, refl) j
filled_fine f p source target left fresh sum room n text bytes front numbers digits w i s j =
    (front, numbers ++ digits, [], w, (numbers, digits, i, s, refl), none_begun, j ∙ ap (λ x. front ++ x) (sym (append-nil (numbers ++ digits))))

head_fine : (f : Field) (source target left fresh sum room count n : ℕ) (text bytes : List ℕ) (b : ℕ) (p : Place) → Part (at.Head f count n) source target left fresh sum room text bytes → Fine text (bytes ++ b ∷ []) (head_digit f (state p source target left fresh sum room) (digit count n b))
head_fine f source target left fresh sum room count n text bytes b p (front, numbers, digits, w, i, begun, j) =
    let more : bytes ++ b ∷ [] ≡ front ++ (numbers ++ (digits ++ b ∷ [])) = ap (λ x. x ++ b ∷ []) j ∙ snoc3 front numbers digits b in
    digit_fine (λ d. Fine text (bytes ++ b ∷ []) (head_digit f (state p source target left fresh sum room) d)) digits count n b begun
    (λ v s. filled_fine f p source target left fresh sum room v text (bytes ++ b ∷ []) front numbers (digits ++ b ∷ []) w i s more)
    (λ v goes. (front, numbers, digits ++ b ∷ [], w, i, goes, more))
    tt

-- new data
new_fine : (source target left fresh sum room : ℕ) (text bytes : List ℕ) (b : ℕ) (t : Bool) → nat_lt 1 fresh ≡ t → Part at.NewData source target left fresh sum room text bytes → Stands (state (if t then at.NewData else at.Between) source target left (fresh - 1) sum (room - 1)) (text ++ b ∷ []) (bytes ++ b ∷ [])
new_fine source target left fresh sum room text bytes b true e (front, numbers, made, before, new, w, m, are, short, fits, some, t, j) =
    let a = length-append new (b ∷ []) in
    let same : length new + fresh ≡ length (new ++ b ∷ []) + (fresh - 1) = omega (arith, a, some) in
    let wide : room + length new ≡ room - 1 + length (new ++ b ∷ []) = omega (arith, a, some, fits) in (
      front,
      numbers,
      made,
      before,
      new ++ b ∷ [],
      subst (Whole_windows front before) wide w,
      subst (λ x. Numbers 0 x (length made) x numbers) same m,
      subst (AreNew made) same are,
      omega (arith, same, short),
      omega (arith, fits),
      omega (arith, lt_from 1 fresh e),
      ap (λ x. x ++ b ∷ []) t ∙ append_assoc before new (b ∷ []),
      ap (λ x. x ++ b ∷ []) j ∙ snoc4 front numbers made new b,
    )
new_fine source target left fresh sum room text bytes b false e (front, numbers, made, before, new, w, m, are, short, fits, some, t, j) =
    let a = length-append new (b ∷ []) in
    let c = length-append before (new ++ b ∷ []) in
    let last = le_from 1 fresh e in
    let whole : text ++ b ∷ [] ≡ before ++ (new ++ b ∷ []) = ap (λ x. x ++ b ∷ []) t ∙ append_assoc before new (b ∷ []) in
    window_done front numbers made before (new ++ b ∷ []) (text ++ b ∷ []) (bytes ++ b ∷ []) (length new + fresh) (room + length new) (room - 1) w m are (omega (arith, a, some, last)) short whole (ap (λ x. x ++ b ∷ []) j ∙ snoc4 front numbers made new b) (omega (arith, ap length whole, c, a, w.room_is, some, fits, last))

-- a byte does right by those before it
step_fine : (p : Place) (source target left fresh sum room : ℕ) (text bytes : List ℕ) (b : ℕ) → Part p source target left fresh sum room text bytes → Fine text (bytes ++ b ∷ []) (one_step (state p source target left fresh sum room) b)
step_fine (at.Magic k) source target left fresh sum room text bytes b h = magic_fine k source target left fresh sum room text bytes b h
step_fine at.Between source target left fresh sum room text bytes b h =
    head_fine field.SourceOffset source target left fresh sum room 0 0 text bytes b at.Between (bytes, [], [], h, refl, none_begun, sym (append-nil bytes))
step_fine (at.Head f count n) source target left fresh sum room text bytes b h = head_fine f source target left fresh sum room count n text bytes b (at.Head f count n) h
step_fine at.Instruction source target left fresh sum room text bytes b h = instruction_fine source target left fresh sum room text bytes b h
step_fine (at.Length count n) source target left fresh sum room text bytes b h = length_fine source target left fresh sum room count n text bytes b h
step_fine at.NewData source target left fresh sum room text bytes b h = new_fine source target left fresh sum room text bytes b (nat_lt 1 fresh) refl h
step_fine at.Failed source target left fresh sum room text bytes b h = absurd h

-- a stream stands behind some bytes, or was refused for a cause at one of them
abbrev StreamStands : Stream → List ℕ → Type 0
StreamStands (Reads text r) bytes = (stream_of bytes ≡ Reads text r) × Stands r text bytes
StreamStands (Refuses text f) bytes = (front rest : List ℕ) × (bytes ≡ front ++ rest) × (stream_of front ≡ Refuses text f) × Cause f text front

step_stands : (text bytes : List ℕ) (s : Step) → stream_of bytes ≡ of_step text s → Fine text bytes s → StreamStands (of_step text s) bytes
step_stands text bytes (Next r) e h = (e, h)
step_stands text bytes (Gives b r) e h = (e, h)
step_stands text bytes (Refused f) e h = (bytes, [], sym (append-nil bytes), e, h)

one_stands : (s : Stream) (bytes : List ℕ) (b : ℕ) → StreamStands s bytes → StreamStands (one_byte s b) (bytes ++ b ∷ [])
one_stands (Reads text r) bytes b h =
    step_stands text (bytes ++ b ∷ []) (one_step r b) (reading-append (Reads [] begin) bytes (b ∷ []) ∙ ap (λ s. one_byte s b) h.0)
    (step_fine r.place r.source r.target r.instructions r.fresh r.sum r.room text bytes b h.1)
one_stands (Refuses text f) bytes b (front, rest, j, e, h) = (front, rest ++ b ∷ [], ap (λ l. l ++ b ∷ []) j ∙ append_assoc front rest (b ∷ []), e, h)

all_stand : (s : Stream) (bytes more : List ℕ) → StreamStands s bytes → StreamStands (reading s more) (bytes ++ more)
all_stand s bytes [] h = subst (StreamStands s) (sym (append-nil bytes)) h
all_stand s bytes (b ∷ more) h =
    subst (StreamStands (reading (one_byte s b) more)) (append_assoc bytes (b ∷ []) more) (all_stand (one_byte s b) (bytes ++ b ∷ []) more (one_stands s bytes b h))

between_text : (p : Place) (source target left fresh sum room : ℕ) (text bytes : List ℕ) → is_between (state p source target left fresh sum room) ≡ true → Part p source target left fresh sum room text bytes → IsText bytes text
between_text (at.Magic k) source target left fresh sum room text bytes e h = cc
between_text at.Between source target left fresh sum room text bytes e h = record { windows = h.windows; are = h.are; fits = omega (arith, h.room_is); joined = h.joined }
between_text (at.Head f count n) source target left fresh sum room text bytes e h = cc
between_text at.Instruction source target left fresh sum room text bytes e h = cc
between_text (at.Length count n) source target left fresh sum room text bytes e h = cc
between_text at.NewData source target left fresh sum room text bytes e h = cc
between_text at.Failed source target left fresh sum room text bytes e h = cc

from_start : (bytes : List ℕ) → StreamStands (stream_of bytes) bytes
from_start bytes = all_stand (Reads [] begin) [] bytes (refl, (omega arith, refl, refl, refl))

pub read_is_text : (bytes text : List ℕ) → IsRead bytes text → IsText bytes text
read_is_text bytes text (r, between, e) =
    let end : StreamStands (Reads text r) bytes = subst (λ s. StreamStands s bytes) e (from_start bytes) in
    between_text r.place r.source r.target r.instructions r.fresh r.sum r.room text bytes between end.1

-- ---- why bytes are refused

never : (text whole : List ℕ) (r : Reading) (f : WindowFault) → Refuses text f ≡ Reads whole r → ⊥
never text whole r f e = cc

pub refused_is_no_front : RefusedIsNoFront
refused_is_no_front bytes more text whole f e t =
    let read = texts_are_read (bytes ++ more) whole t in
    never text whole read.0 f (sym (reading-refused text f more) ∙ ap (λ s. reading s more) (sym e) ∙ sym (reading-append (Reads [] begin) bytes more) ∙ read.2)

due : (f : WindowFault) (text front : List ℕ) → stream_of front ≡ Refuses text f → Cause f text front → IsDue f text front
due TooLong text front e h = h
due CopyWindow text front e h = h
due BadWindow text front e h = λ more whole. refused_is_no_front front more text whole BadWindow e
due Failed text front e h = h

pub refused_for_cause : RefusedForCause
refused_for_cause bytes text f e =
    let h : StreamStands (Refuses text f) bytes = subst (λ s. StreamStands s bytes) e (from_start bytes) in
    (h.0, h.1, h.2, h.3, due f text h.0 h.3 h.4)
