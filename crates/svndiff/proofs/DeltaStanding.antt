-- What is read of a delta is in the grammar.
use Rattle.std.proofs.Common.{◌≡◌, ◌⊎◌, inl, inr, ℕ, zero, suc, ◌+◌, ◌-◌, ◌≤◌, ◌<◌, ◌==◌, ◌&&◌, ◌||◌, Bool, true, false, List, [], ◌∷◌, ◌++◌, length, take, drop, nat_lt, refl, sym, ap, subst, ◌∙◌, append_assoc, append-nil, length-append, arith}
use Rattle.std.proofs.lemmas.Bool.Decides.{nat_tests}
use Rattle.std.proofs.lemmas.List.{length-take, length-drop}
use Rattle.std.specs.Bool.{if◌then◌else◌}
use Rattle.std.specs.Prelude.{Option, Some, None}
use Rattle.svndiff.specs.Groups.{Spells}
use Rattle.svndiff.specs.Making.{Making, run}
use Rattle.svndiff.specs.DeltaGrammar.{top, Sized, Makes, view_of, IsDeltaWindow, SlidesOn, last_of, AreDeltas, Empty, Then, IsDelta}
use Rattle.svndiff.specs.DeltaLaws.{IsDeltaRead}
use Rattle.svndiff.specs.DeltaRefusals.{WholeDeltas, AndSource, AndTarget, AndSize, DeltaNumbers, IsPast, IsOverfull}
use Rattle.svndiff.specs.DeltaReading.{Step, Next, Refused, in_magic, summed, go_on, misfits, slid, cleared, judged, filled, head_digit, is_wrong, counted, instructed, within, sized, begun, instruction, length_digit, offset_digit, one_less, byte_step, kept}
use Rattle.svndiff.specs.DeltaStreams.{Stream, Reads, Refuses, Took, Now, Not, and_one, took, taken, held, made_of, ended, settled, any_byte, one_byte, reading, stream_of}
use Rattle.svndiff.specs.DeltaStreams as streams
use Rattle.svndiff.specs.declared.delta.Delta.{Delta}
use Rattle.svndiff.specs.declared.delta_fault.DeltaFault.{DeltaFault}
use Rattle.svndiff.specs.declared.delta_fault.DeltaFault.TheVariants.{BadWindow, TooLong, Failed, OutOfMemory}
use Rattle.svndiff.specs.declared.instructions.Instruction.{Instruction}
use Rattle.svndiff.specs.declared.instructions.Kind.{Kind}
use Rattle.svndiff.specs.declared.instructions.Kind.TheVariants as kind
use Rattle.svndiff.specs.declared.reading.Field.{Field}
use Rattle.svndiff.specs.declared.reading.Field.TheVariants as field
use Rattle.svndiff.specs.declared.window.Awaited.{Awaited}
use Rattle.svndiff.specs.declared.window.Awaited.TheVariants as at
use Rattle.svndiff.specs.declared.window.Window.{Window}
use Rattle.svndiff.specs.Reading.{digit}
use Rattle.svndiff.specs.declared.limits.TheConstants.{TEXT_BYTES, WINDOW_BYTES}
use Rattle.svndiff.proofs.Runs.{lt_from, both}
use Rattle.svndiff.proofs.Standing.{Begun, none_begun, digit_fine, snoc3, snoc4, le_from, eq_from, positive, or_false}
use Rattle.svndiff.proofs.DeltaRuns.{reading-append, is_right, TakesRight}
use Rattle.svndiff.proofs.DeltaMade.{SpeltAs, Takes, one, Ready, More, Made, ready_makes}
use Rattle.svndiff.proofs.DeltaMade as ready

-- the numbers of a window in front of one of them
abbrev pub InFront : Field → ℕ → ℕ → ℕ → ℕ → List ℕ → Type 0
InFront field.SourceOffset offset source target size bytes = bytes ≡ []
InFront field.SourceLength offset source target size bytes = Spells bytes offset
InFront field.TargetLength offset source target size bytes = AndSource offset source bytes
InFront field.InstructionLength offset source target size bytes = AndTarget offset source target bytes
InFront field.NewLength offset source target size bytes = AndSize offset source target size bytes

-- a window whose numbers were judged, behind whole windows
pub record Judged (base text front numbers : List ℕ) (offset source target room floor ceiling fresh size : ℕ) : Type 0 where
  pub last_floor : ℕ
  pub last_ceiling : ℕ
  pub whole : WholeDeltas base front text last_floor last_ceiling room
  pub are : DeltaNumbers offset source target size fresh numbers
  pub short : target ≤ WINDOW_BYTES
  pub short_new : fresh ≤ WINDOW_BYTES
  pub short_view : source ≤ WINDOW_BYTES
  pub fits : target ≤ room
  pub inside : (source ≡ 0) ⊎ (offset + source ≤ length base)
  pub slides : SlidesOn last_floor last_ceiling offset source
  pub is_floor : floor ≡ last_of source last_floor offset
  pub is_ceiling : ceiling ≡ last_of source last_ceiling (offset + source)

abbrev pub JudgedAt : List ℕ → List ℕ → List ℕ → List ℕ → Window → ℕ → ℕ → Type 0
JudgedAt base text front numbers w fresh size = Judged base text front numbers w.offset w.source w.target w.room w.floor w.ceiling fresh size

abbrev pub IsCopy : Kind → Type 0
IsCopy kind.Source = Unit {0}
IsCopy kind.Target = Unit {0}
IsCopy kind.New = ⊥

-- what is behind so many bytes, at each place
abbrev pub Part : List ℕ → Awaited → Window → List Instruction → List ℕ → List ℕ → List ℕ → Type 0
Part base (at.Magic k) w is new text bytes = (k ≤ 3) × (text ≡ []) × (w.room ≡ TEXT_BYTES) × (w.floor ≡ 0) × (w.ceiling ≡ 0) × (is ≡ []) × (new ≡ []) × (bytes ≡ take k (83 ∷ 86 ∷ 78 ∷ 0 ∷ []))
Part base at.Between w is new text bytes = WholeDeltas base bytes text w.floor w.ceiling w.room × (is ≡ []) × (new ≡ [])
Part base (at.Head f count n) w is new text bytes =
    (front numbers digits : List ℕ) × WholeDeltas base front text w.floor w.ceiling w.room × InFront f w.offset w.source w.target w.instructions numbers × Begun digits count n × (is ≡ []) × (new ≡ []) × (bytes ≡ front ++ (numbers ++ digits))
Part base at.Instruction w is new text bytes =
    (front numbers made : List ℕ) × JudgedAt base text front numbers w w.fresh (length made + w.instructions) × Ready w.source made is w.sum w.news × (0 < w.instructions) × (new ≡ []) × (bytes ≡ front ++ (numbers ++ made))
Part base (at.Length k count n) w is new text bytes =
    (front numbers made digits : List ℕ) × JudgedAt base text front numbers w w.fresh (length made + (1 + length digits) + w.instructions) × Ready w.source made is w.sum w.news × (0 < w.instructions) × Begun digits count n × (new ≡ []) × (bytes ≡ front ++ (numbers ++ (made ++ top k ∷ digits)))
Part base (at.Offset k size count n) w is new text bytes =
    (front numbers made first digits : List ℕ) × JudgedAt base text front numbers w w.fresh (length made + (length first + length digits) + w.instructions) × Ready w.source made is w.sum w.news × (0 < w.instructions) × IsCopy k × (0 < size → Sized k first size) × Begun digits count n × (new ≡ []) × (bytes ≡ front ++ (numbers ++ (made ++ (first ++ digits))))
Part base at.NewData w is new text bytes =
    (front numbers made : List ℕ) × JudgedAt base text front numbers w (length new + w.fresh) (length made) × Ready w.source made is w.target (length new + w.fresh) × (0 < w.fresh) × (bytes ≡ front ++ (numbers ++ (made ++ new)))
Part base at.Whole w is new text bytes =
    (front numbers made : List ℕ) × JudgedAt base text front numbers w (length new) (length made) × Ready w.source made is w.target (length new) × (bytes ≡ front ++ (numbers ++ (made ++ new)))
Part base at.Failed w is new text bytes = ⊥

-- what a refusal's number says of the bytes up to it
abbrev pub Cause : DeltaFault → List ℕ → List ℕ → List ℕ → Type 0
Cause TooLong base text bytes = IsOverfull base text bytes
Cause BadWindow base text bytes = Unit {0}
Cause Failed base text bytes = ⊥
Cause OutOfMemory base text bytes = ⊥

abbrev Fine : List ℕ → List Instruction → List ℕ → List ℕ → List ℕ → Step → Type 0
Fine base is new text bytes (Next done w) = Part base w.place w (and_one done is) new text bytes
Fine base is new text bytes (Refused f) = Cause f base text bytes

if_fine : (P : Step → Type 0) (t : Bool) (x y : Step) → (t ≡ true → P x) → (t ≡ false → P y) → P (if t then x else y)
if_fine P true x y h k = h refl
if_fine P false x y h k = k refl

-- the version
magic_fine : (base : List ℕ) (k : ℕ) (w : Window) (is : List Instruction) (new text bytes : List ℕ) (b : ℕ) → Part base (at.Magic k) w is new text bytes → Fine base is new text (bytes ++ b ∷ []) (in_magic k w b)
magic_fine base zero w is new text bytes b (k, t, r, f, c, i, n, e) =
    if_fine (Fine base is new text (bytes ++ b ∷ [])) (b == 83) _ _ (λ h. (omega arith, t, r, f, c, i, n, ap (λ x. x ++ b ∷ []) e ∙ ap (λ x. x ∷ []) (eq_from b 83 h))) (λ _. tt)
magic_fine base (suc zero) w is new text bytes b (k, t, r, f, c, i, n, e) =
    if_fine (Fine base is new text (bytes ++ b ∷ [])) (b == 86) _ _ (λ h. (omega arith, t, r, f, c, i, n, ap (λ x. x ++ b ∷ []) e ∙ ap (λ x. 83 ∷ x ∷ []) (eq_from b 86 h))) (λ _. tt)
magic_fine base (suc (suc zero)) w is new text bytes b (k, t, r, f, c, i, n, e) =
    if_fine (Fine base is new text (bytes ++ b ∷ [])) (b == 78) _ _ (λ h. (omega arith, t, r, f, c, i, n, ap (λ x. x ++ b ∷ []) e ∙ ap (λ x. 83 ∷ 86 ∷ x ∷ []) (eq_from b 78 h))) (λ _. tt)
magic_fine base (suc (suc (suc zero))) w is new text bytes b (k, t, r, f, c, i, n, e) =
    if_fine (Fine base is new text (bytes ++ b ∷ [])) (b == 0) _ _
    (λ h. (
      record {
        windows = [];
        are = subst (AreDeltas base w.floor w.ceiling []) (sym t) (subst (λ x. AreDeltas base x w.ceiling [] []) (sym f) (subst (λ x. AreDeltas base 0 x [] []) (sym c) Empty));
        room_is = omega (arith, ap length t, r);
        joined = ap (λ x. x ++ b ∷ []) e ∙ ap (λ x. 83 ∷ 86 ∷ 78 ∷ x ∷ []) (eq_from b 0 h);
      },
      i,
      n,
    ))
    (λ _. tt)
magic_fine base (suc (suc (suc (suc k)))) w is new text bytes b (h, t, r, f, c, i, n, e) = absurd (omega (arith, h))

-- the instructions are over
summed_at : (base : List ℕ) (said : Option Instruction) (w : Window) (is : List Instruction) (text bytes front numbers made : List ℕ) (s t : Bool) → (w.sum == w.target && w.news == w.fresh) ≡ s → (w.fresh == 0) ≡ t → JudgedAt base text front numbers w w.fresh (length made) → Ready w.source made (and_one said is) w.sum w.news → bytes ≡ front ++ (numbers ++ made) → Fine base is [] text bytes (if s then Next said (record w { place = if t then at.Whole else at.NewData }) else Refused BadWindow)
summed_at base said w is text bytes front numbers made false t e z g r j = tt
summed_at base said w is text bytes front numbers made true true e z g r j =
    let q = both (w.sum == w.target) (w.news == w.fresh) e in
    let f0 = eq_from w.fresh 0 z in
    let r0 : Ready w.source made (and_one said is) w.target 0 = subst (λ x. Ready w.source made (and_one said is) x 0) (eq_from w.sum w.target q.0) (subst (Ready w.source made (and_one said is) w.sum) (eq_from w.news w.fresh q.1 ∙ f0) r) in
    (front, numbers, made, subst (λ x. JudgedAt base text front numbers w x (length made)) f0 g, r0, j ∙ ap (λ x. front ++ (numbers ++ x)) (sym (append-nil made)))
summed_at base said w is text bytes front numbers made true false e z g r j =
    let q = both (w.sum == w.target) (w.news == w.fresh) e in
    let r0 : Ready w.source made (and_one said is) w.target w.fresh = subst (λ x. Ready w.source made (and_one said is) x w.fresh) (eq_from w.sum w.target q.0) (subst (Ready w.source made (and_one said is) w.sum) (eq_from w.news w.fresh q.1) r) in
    let plain : length {A = ℕ} [] + w.fresh ≡ w.fresh = omega arith in (
      front,
      numbers,
      made,
      subst (λ x. JudgedAt base text front numbers w x (length made)) (sym plain) g,
      subst (Ready w.source made (and_one said is) w.target) (sym plain) r0,
      positive w.fresh z,
      j ∙ ap (λ x. front ++ (numbers ++ x)) (sym (append-nil made)),
    )

go_on_fine : (base : List ℕ) (said : Option Instruction) (w : Window) (is : List Instruction) (new text bytes front numbers made : List ℕ) → JudgedAt base text front numbers w w.fresh (length made + w.instructions) → Ready w.source made (and_one said is) w.sum w.news → new ≡ [] → bytes ≡ front ++ (numbers ++ made) → Fine base is new text bytes (go_on said w)
go_on_fine base said w is new text bytes front numbers made g r e j =
    if_fine (Fine base is new text bytes) (w.instructions == 0) _ _
    (λ z.
    let size : length made + w.instructions ≡ length made = omega (arith, eq_from w.instructions 0 z) in
    subst (λ n. Fine base is n text bytes (summed said w)) (sym e) (summed_at base said w is text bytes front numbers made (w.sum == w.target && w.news == w.fresh) (w.fresh == 0) refl refl (subst (JudgedAt base text front numbers w w.fresh) size g) r j))
    (λ l. (front, numbers, made, g, r, positive w.instructions l, e, j))

-- an instruction takes what is there
takes : (k : Kind) (n m : ℕ) (w : Window) → TakesRight k n m w → Takes k n m w.source w.sum
takes kind.Source n m w h = h
takes kind.Target n m w h = h
takes kind.New n m w h = tt

-- an instruction is whole
instructed_fine : (base : List ℕ) (k : Kind) (n m : ℕ) (w : Window) (is : List Instruction) (new text bytes front numbers made first : List ℕ) → JudgedAt base text front numbers w w.fresh (length (made ++ first) + w.instructions) → Ready w.source made is w.sum w.news → (0 < m → SpeltAs k n m first) → new ≡ [] → bytes ≡ front ++ (numbers ++ (made ++ first)) → Fine base is new text bytes (instructed (one k n m) w)
instructed_fine base k n m w is new text bytes front numbers made first g r spelt e j =
    if_fine (Fine base is new text bytes) (is_wrong (one k n m) w) _ _ (λ _. tt) (λ right.
    let t = is_right (one k n m) w right in
    go_on_fine base (Some (one k n m)) (counted k m w) is new text bytes front numbers (made ++ first) g (More made first is k n m w.sum w.news r t.0 (spelt t.0) (takes k n m w t.2)) e j)

-- the length of an instruction is there
copy_fine : (base : List ℕ) (k : Kind) (n : ℕ) (w : Window) (is : List Instruction) (new text bytes front numbers made first : List ℕ) → IsCopy k → JudgedAt base text front numbers w w.fresh (length (made ++ first) + w.instructions) → Ready w.source made is w.sum w.news → (0 < n → Sized k first n) → new ≡ [] → bytes ≡ front ++ (numbers ++ (made ++ first)) → Fine base is new text bytes (within (record w { place = at.Offset k n 0 0 }))
copy_fine base k n w is new text bytes front numbers made first copies g r s e j =
    if_fine (Fine base is new text bytes) (w.instructions == 0) _ _ (λ _. tt) (λ l.
    let size : length (made ++ first) + w.instructions ≡ length made + (length first + length {A = ℕ} []) + w.instructions = omega (arith, length-append made first) in
    (front, numbers, made, first, [], subst (JudgedAt base text front numbers w w.fresh) size g, r, positive w.instructions l, copies, s, none_begun, e, j ∙ ap (λ x. front ++ (numbers ++ (made ++ x))) (sym (append-nil first))))

sized_fine : (base : List ℕ) (k : Kind) (n : ℕ) (w : Window) (is : List Instruction) (new text bytes front numbers made first : List ℕ) → JudgedAt base text front numbers w w.fresh (length (made ++ first) + w.instructions) → Ready w.source made is w.sum w.news → (0 < n → Sized k first n) → new ≡ [] → bytes ≡ front ++ (numbers ++ (made ++ first)) → Fine base is new text bytes (sized k n w)
sized_fine base kind.Source n w is new text bytes front numbers made first g r s e j = copy_fine base kind.Source n w is new text bytes front numbers made first tt g r s e j
sized_fine base kind.Target n w is new text bytes front numbers made first g r s e j = copy_fine base kind.Target n w is new text bytes front numbers made first tt g r s e j
sized_fine base kind.New n w is new text bytes front numbers made first g r s e j = instructed_fine base kind.New 0 n w is new text bytes front numbers made first g r (λ q. (refl, s q)) e j

-- the first byte of an instruction
begun_fine : (base : List ℕ) (k : Kind) (b low : ℕ) (w : Window) (is : List Instruction) (new text bytes front numbers made : List ℕ) → b ≡ top k + low → low < 64 → JudgedAt base text front numbers w w.fresh (length made + (1 + w.instructions)) → Ready w.source made is w.sum w.news → new ≡ [] → bytes ≡ front ++ (numbers ++ (made ++ b ∷ [])) → Fine base is new text bytes (begun k low w)
begun_fine base k b low w is new text bytes front numbers made v h g r e j =
    if_fine (Fine base is new text bytes) (low == 0) _ _
    (λ z. if_fine (Fine base is new text bytes) (w.instructions == 0) _ _ (λ _. tt) (λ l.
    let size : length made + (1 + w.instructions) ≡ length made + (1 + length {A = ℕ} []) + w.instructions = omega arith in
    let plain : b ≡ top k = omega (arith, v, eq_from low 0 z) in
    (front, numbers, made, [], subst (JudgedAt base text front numbers w w.fresh) size g, r, positive w.instructions l, none_begun, e, j ∙ ap (λ x. front ++ (numbers ++ (made ++ x ∷ []))) plain)))
    (λ some.
    let size : length made + (1 + w.instructions) ≡ length (made ++ b ∷ []) + w.instructions = omega (arith, length-append made (b ∷ [])) in
    sized_fine base k low w is new text bytes front numbers made (b ∷ []) (subst (JudgedAt base text front numbers w w.fresh) size g) r (λ q. (q, inl (h, ap (λ x. x ∷ []) v))) e j)

instruction_fine : (base : List ℕ) (w : Window) (is : List Instruction) (new text bytes : List ℕ) (b : ℕ) → Part base at.Instruction w is new text bytes → Fine base is new text (bytes ++ b ∷ []) (instruction (one_less w) b)
instruction_fine base w is new text bytes b (front, numbers, made, g, r, some, e, j) =
    let more : bytes ++ b ∷ [] ≡ front ++ (numbers ++ (made ++ b ∷ [])) = ap (λ x. x ++ b ∷ []) j ∙ snoc3 front numbers made b in
    let size : length made + w.instructions ≡ length made + (1 + (w.instructions - 1)) = omega (arith, some) in
    let g1 : JudgedAt base text front numbers w w.fresh (length made + (1 + (w.instructions - 1))) = subst (JudgedAt base text front numbers w w.fresh) size g in
    if_fine (Fine base is new text (bytes ++ b ∷ [])) (nat_lt b 64) _ _ (λ l. begun_fine base kind.Source b b (one_less w) is new text (bytes ++ b ∷ []) front numbers made (omega arith) (lt_from b 64 l) g1 r e more) (λ h.
    let a = le_from b 64 h in
    if_fine (Fine base is new text (bytes ++ b ∷ [])) (nat_lt b 128) _ _ (λ l. begun_fine base kind.Target b (b - 64) (one_less w) is new text (bytes ++ b ∷ []) front numbers made (omega (arith, a)) (omega (arith, a, lt_from b 128 l)) g1 r e more) (λ i.
    let c = le_from b 128 i in
    if_fine (Fine base is new text (bytes ++ b ∷ [])) (nat_lt b 192) _ _ (λ l. begun_fine base kind.New b (b - 128) (one_less w) is new text (bytes ++ b ∷ []) front numbers made (omega (arith, c)) (omega (arith, c, lt_from b 192 l)) g1 r e more) (λ _. tt)))

-- in an instruction's length
length_fine : (base : List ℕ) (k : Kind) (count n : ℕ) (w : Window) (is : List Instruction) (new text bytes : List ℕ) (b : ℕ) → Part base (at.Length k count n) w is new text bytes → Fine base is new text (bytes ++ b ∷ []) (length_digit k (one_less w) (digit count n b))
length_fine base k count n w is new text bytes b (front, numbers, made, digits, g, r, some, begins, e, j) =
    let a = length-append made (top k ∷ (digits ++ b ∷ [])) in
    let c = length-append digits (b ∷ []) in
    let more : bytes ++ b ∷ [] ≡ front ++ (numbers ++ (made ++ top k ∷ (digits ++ b ∷ []))) = ap (λ x. x ++ b ∷ []) j ∙ snoc4 front numbers made (top k ∷ digits) b in
    digit_fine (λ d. Fine base is new text (bytes ++ b ∷ []) (length_digit k (one_less w) d)) digits count n b begins
    (λ v s.
    let size : length made + (1 + length digits) + w.instructions ≡ length (made ++ top k ∷ (digits ++ b ∷ [])) + (w.instructions - 1) = omega (arith, some, a, c) in
    sized_fine base k v (one_less w) is new text (bytes ++ b ∷ []) front numbers made (top k ∷ (digits ++ b ∷ [])) (subst (JudgedAt base text front numbers w w.fresh) size g) r (λ q. (q, inr (digits ++ b ∷ [], s, refl))) e more)
    (λ v goes. if_fine (Fine base is new text (bytes ++ b ∷ [])) (w.instructions - 1 == 0) _ _ (λ _. tt) (λ l.
    let size : length made + (1 + length digits) + w.instructions ≡ length made + (1 + length (digits ++ b ∷ [])) + (w.instructions - 1) = omega (arith, some, c) in
    (front, numbers, made, digits ++ b ∷ [], subst (JudgedAt base text front numbers w w.fresh) size g, r, positive (w.instructions - 1) l, goes, e, more)))
    tt

-- in the place that an instruction copies from
copied : (k : Kind) (n m : ℕ) (first digits : List ℕ) → IsCopy k → Sized k first m → Spells digits n → SpeltAs k n m (first ++ digits)
copied kind.Source n m first digits c s d = (first, digits, s, d, refl)
copied kind.Target n m first digits c s d = (first, digits, s, d, refl)
copied kind.New n m first digits c s d = absurd c

snoc5 : (a b d e f : List ℕ) (c : ℕ) → (a ++ (b ++ (d ++ (e ++ f)))) ++ c ∷ [] ≡ a ++ (b ++ (d ++ (e ++ (f ++ c ∷ []))))
snoc5 a b d e f c = append_assoc a (b ++ (d ++ (e ++ f))) (c ∷ []) ∙ ap (λ t. a ++ t) (snoc4 b d e f c)

offset_fine : (base : List ℕ) (k : Kind) (m count n : ℕ) (w : Window) (is : List Instruction) (new text bytes : List ℕ) (b : ℕ) → Part base (at.Offset k m count n) w is new text bytes → Fine base is new text (bytes ++ b ∷ []) (offset_digit k m (one_less w) (digit count n b))
offset_fine base k m count n w is new text bytes b (front, numbers, made, first, digits, g, r, some, copies, s, begins, e, j) =
    let f = length-append first (digits ++ b ∷ []) in
    let a = length-append made (first ++ (digits ++ b ∷ [])) in
    let c = length-append digits (b ∷ []) in
    let more : bytes ++ b ∷ [] ≡ front ++ (numbers ++ (made ++ (first ++ (digits ++ b ∷ [])))) = ap (λ x. x ++ b ∷ []) j ∙ snoc5 front numbers made first digits b in
    digit_fine (λ d. Fine base is new text (bytes ++ b ∷ []) (offset_digit k m (one_less w) d)) digits count n b begins
    (λ v d.
    let size : length made + (length first + length digits) + w.instructions ≡ length (made ++ (first ++ (digits ++ b ∷ []))) + (w.instructions - 1) = omega (arith, some, a, c, f) in
    instructed_fine base k v m (one_less w) is new text (bytes ++ b ∷ []) front numbers made (first ++ (digits ++ b ∷ [])) (subst (JudgedAt base text front numbers w w.fresh) size g) r (λ q. copied k v m first (digits ++ b ∷ []) copies (s q) d) e more)
    (λ v goes. if_fine (Fine base is new text (bytes ++ b ∷ [])) (w.instructions - 1 == 0) _ _ (λ _. tt) (λ l.
    let size : length made + (length first + length digits) + w.instructions ≡ length made + (length first + length (digits ++ b ∷ [])) + (w.instructions - 1) = omega (arith, some, c) in
    (front, numbers, made, first, digits ++ b ∷ [], subst (JudgedAt base text front numbers w w.fresh) size g, r, positive (w.instructions - 1) l, copies, s, goes, e, more)))
    tt

-- the numbers in front of a window are there
past_one : (target fresh source room : ℕ) → (nat_lt WINDOW_BYTES target || nat_lt WINDOW_BYTES fresh || nat_lt WINDOW_BYTES source || nat_lt room target) ≡ true → IsPast target fresh source room
past_one target fresh source room e = grind (arith, nat_tests)

-- a view that fits is inside the base, and slides on
fitting : (size offset source floor ceiling : ℕ) → (nat_lt size source || nat_lt (size - source) offset || nat_lt offset floor || nat_lt (offset + source) ceiling) ≡ false → (offset + source ≤ size) × ((floor ≤ offset) × (ceiling ≤ offset + source))
fitting size offset source floor ceiling e =
    let a = or_false (nat_lt size source || nat_lt (size - source) offset || nat_lt offset floor) (nat_lt (offset + source) ceiling) e in
    let b = or_false (nat_lt size source || nat_lt (size - source) offset) (nat_lt offset floor) a.0 in
    let c = or_false (nat_lt size source) (nat_lt (size - source) offset) b.0 in
    let p = le_from size source c.0 in
    (omega (arith, p, le_from (size - source) offset c.1), (le_from offset floor b.1, le_from (offset + source) ceiling a.1))

some_last : (n old new : ℕ) → (n == 0) ≡ false → last_of n old new ≡ new
some_last n old new e = rw e refl

none_last_of : (n old new : ℕ) → (n == 0) ≡ true → last_of n old new ≡ old
none_last_of n old new e = rw e refl

judged_fine : (base : List ℕ) (w : Window) (is : List Instruction) (new text bytes front numbers : List ℕ) → WholeDeltas base front text w.floor w.ceiling w.room → DeltaNumbers w.offset w.source w.target w.instructions w.fresh numbers → is ≡ [] → new ≡ [] → bytes ≡ front ++ numbers → Fine base is new text bytes (judged (length base) w)
judged_fine base w is new text bytes front numbers whole are i e j =
    if_fine (Fine base is new text bytes) (nat_lt WINDOW_BYTES w.target || nat_lt WINDOW_BYTES w.fresh || nat_lt WINDOW_BYTES w.source || nat_lt w.room w.target) _ _
    (λ past. record { front = front; numbers = numbers; floor = w.floor; ceiling = w.ceiling; room = w.room; offset = w.offset; source = w.source; target = w.target; size = w.instructions; fresh = w.fresh; whole = whole; are = are; past = past_one w.target w.fresh w.source w.room past; joined = j })
    (λ limits.
    let p = or_false (nat_lt WINDOW_BYTES w.target || nat_lt WINDOW_BYTES w.fresh || nat_lt WINDOW_BYTES w.source) (nat_lt w.room w.target) limits in
    let q = or_false (nat_lt WINDOW_BYTES w.target || nat_lt WINDOW_BYTES w.fresh) (nat_lt WINDOW_BYTES w.source) p.0 in
    let r = or_false (nat_lt WINDOW_BYTES w.target) (nat_lt WINDOW_BYTES w.fresh) q.0 in
    let none : Ready w.source [] is 0 0 = subst (λ x. Ready w.source [] x 0 0) (sym i) ready.None in
    let end = j ∙ ap (λ x. front ++ x) (sym (append-nil numbers)) in
    let size : w.instructions ≡ length {A = ℕ} [] + w.instructions = omega arith in
    let all : DeltaNumbers w.offset w.source w.target (length {A = ℕ} [] + w.instructions) w.fresh numbers = subst (λ x. DeltaNumbers w.offset w.source w.target x w.fresh numbers) size are in
    if_fine (Fine base is new text bytes) (w.source == 0) _ _
    (λ z. go_on_fine base None (cleared w) is new text bytes front numbers []
    (record {
      last_floor = w.floor;
      last_ceiling = w.ceiling;
      whole = whole;
      are = all;
      short = le_from WINDOW_BYTES w.target r.0;
      short_new = le_from WINDOW_BYTES w.fresh r.1;
      short_view = le_from WINDOW_BYTES w.source q.1;
      fits = le_from w.room w.target p.1;
      inside = inl (eq_from w.source 0 z);
      slides = inl (eq_from w.source 0 z);
      is_floor = sym (none_last_of w.source w.floor w.offset z);
      is_ceiling = sym (none_last_of w.source w.ceiling (w.offset + w.source) z);
    })
    none e end)
    (λ some. if_fine (Fine base is new text bytes) (misfits (length base) w) _ _ (λ _. tt) (λ h.
    let f = fitting (length base) w.offset w.source w.floor w.ceiling h in
    go_on_fine base None (slid (cleared w)) is new text bytes front numbers []
    (record {
      last_floor = w.floor;
      last_ceiling = w.ceiling;
      whole = whole;
      are = all;
      short = le_from WINDOW_BYTES w.target r.0;
      short_new = le_from WINDOW_BYTES w.fresh r.1;
      short_view = le_from WINDOW_BYTES w.source q.1;
      fits = le_from w.room w.target p.1;
      inside = inr f.0;
      slides = inr f.1;
      is_floor = sym (some_last w.source w.floor w.offset some);
      is_ceiling = sym (some_last w.source w.ceiling (w.offset + w.source) some);
    })
    none e end)))

-- a number in front of a window
filled_fine : (base : List ℕ) (f : Field) (w : Window) (n : ℕ) (is : List Instruction) (new text bytes front numbers digits : List ℕ) → WholeDeltas base front text w.floor w.ceiling w.room → InFront f w.offset w.source w.target w.instructions numbers → Spells digits n → is ≡ [] → new ≡ [] → bytes ≡ front ++ (numbers ++ digits) → Fine base is new text bytes (filled (length base) f w n)
filled_fine base field.SourceOffset w n is new text bytes front numbers digits whole h s i e j =
    (front, digits, [], whole, s, none_begun, i, e, j ∙ ap (λ x. front ++ (x ++ digits)) h ∙ ap (λ x. front ++ x) (sym (append-nil digits)))
filled_fine base field.NewLength w n is new text bytes front numbers digits whole h s i e j =
    judged_fine base (record w { fresh = n }) is new text bytes front (numbers ++ digits) whole (numbers, digits, h, s, refl) i e j
filled_fine base f w n is new text bytes front numbers digits whole h s i e j =
    (front, numbers ++ digits, [], whole, (numbers, digits, h, s, refl), none_begun, i, e, j ∙ ap (λ x. front ++ x) (sym (append-nil (numbers ++ digits))))

head_fine : (base : List ℕ) (f : Field) (count n : ℕ) (w : Window) (is : List Instruction) (new text bytes : List ℕ) (b : ℕ) → Part base (at.Head f count n) w is new text bytes → Fine base is new text (bytes ++ b ∷ []) (head_digit (length base) f w (digit count n b))
head_fine base f count n w is new text bytes b (front, numbers, digits, whole, h, begins, i, e, j) =
    let more : bytes ++ b ∷ [] ≡ front ++ (numbers ++ (digits ++ b ∷ [])) = ap (λ x. x ++ b ∷ []) j ∙ snoc3 front numbers digits b in
    digit_fine (λ d. Fine base is new text (bytes ++ b ∷ []) (head_digit (length base) f w d)) digits count n b begins
    (λ v s. filled_fine base f w v is new text (bytes ++ b ∷ []) front numbers (digits ++ b ∷ []) whole h s i e more)
    (λ v goes. (front, numbers, digits ++ b ∷ [], whole, h, goes, i, e, more))
    tt

-- new data
new_at : (base : List ℕ) (w : Window) (is : List Instruction) (new text bytes : List ℕ) (b : ℕ) (t : Bool) → nat_lt 1 w.fresh ≡ t → Part base at.NewData w is new text bytes → Part base (if t then at.NewData else at.Whole) (kept 1 w) is (new ++ b ∷ []) text (bytes ++ b ∷ [])
new_at base w is new text bytes b true e (front, numbers, made, g, r, some, j) =
    let same : length new + w.fresh ≡ length (new ++ b ∷ []) + (w.fresh - 1) = omega (arith, length-append new (b ∷ []), some) in (
      front,
      numbers,
      made,
      subst (λ x. JudgedAt base text front numbers w x (length made)) same g,
      subst (Ready w.source made is w.target) same r,
      omega (arith, lt_from 1 w.fresh e),
      ap (λ x. x ++ b ∷ []) j ∙ snoc4 front numbers made new b,
    )
new_at base w is new text bytes b false e (front, numbers, made, g, r, some, j) =
    let same : length new + w.fresh ≡ length (new ++ b ∷ []) = omega (arith, length-append new (b ∷ []), some, le_from 1 w.fresh e) in (
      front,
      numbers,
      made,
      subst (λ x. JudgedAt base text front numbers w x (length made)) same g,
      subst (Ready w.source made is w.target) same r,
      ap (λ x. x ++ b ∷ []) j ∙ snoc4 front numbers made new b,
    )

-- what is awaited is new data, or that a text is made
abbrev is_data : Awaited → Bool
is_data p = elim p as (λ _. Bool) [ at.NewData ↦ true | _ ↦ false ]

abbrev pub is_end : Awaited → Bool
is_end p = elim p as (λ _. Bool) [ at.Whole ↦ true | _ ↦ false ]

-- a byte that is no new data does right by those before it
step_fine : (base : List ℕ) (p : Awaited) (w : Window) (is : List Instruction) (new text bytes : List ℕ) (b : ℕ) → is_data p ≡ false → is_end p ≡ false → Part base p w is new text bytes → Fine base is new text (bytes ++ b ∷ []) (byte_step (length base) p w b)
step_fine base (at.Magic k) w is new text bytes b x y h = magic_fine base k w is new text bytes b h
step_fine base at.Between w is new text bytes b x y (h, i, e) = head_fine base field.SourceOffset 0 0 w is new text bytes b (bytes, [], [], h, refl, none_begun, i, e, sym (append-nil bytes))
step_fine base (at.Head f count n) w is new text bytes b x y h = head_fine base f count n w is new text bytes b h
step_fine base at.Instruction w is new text bytes b x y h = instruction_fine base w is new text bytes b h
step_fine base (at.Length k count n) w is new text bytes b x y h = length_fine base k count n w is new text bytes b h
step_fine base (at.Offset k m count n) w is new text bytes b x y h = offset_fine base k m count n w is new text bytes b h
step_fine base at.NewData w is new text bytes b x y h = cc
step_fine base at.Whole w is new text bytes b x y h = cc
step_fine base at.Failed w is new text bytes b x y h = absurd h

-- what a byte makes of a window, before its text is made
abbrev TookFine : List ℕ → List ℕ → List ℕ → Took → Type 0
TookFine base text bytes (Now d) = Part base d.window.place d.window d.instructions d.fresh text bytes
TookFine base text bytes (Not f) = Cause f base text bytes

took_fine : (base : List ℕ) (d : Delta) (text bytes : List ℕ) (s : Step) → Fine base d.instructions d.fresh text bytes s → TookFine base text bytes (took d s)
took_fine base d text bytes (Next said w) h = h
took_fine base d text bytes (Refused f) h = h

any_at : (base : List ℕ) (p : Awaited) (d : Delta) (text bytes : List ℕ) (b : ℕ) → is_end p ≡ false → Part base p d.window d.instructions d.fresh text bytes → TookFine base text (bytes ++ b ∷ []) (elim p as (λ _. Took) [ at.NewData ↦ Now (held (b ∷ []) d) | _ ↦ took d (byte_step (length base) p d.window b) ])
any_at base at.NewData d text bytes b y h = new_at base d.window d.instructions d.fresh text bytes b (nat_lt 1 d.window.fresh) refl h
any_at base p d text bytes b y h = took_fine base d text (bytes ++ b ∷ []) (byte_step (length base) p d.window b) (step_fine base p d.window d.instructions d.fresh text bytes b refl y h)

-- a window that is whole makes its text
view_long : (base : List ℕ) (offset n : ℕ) → (n ≡ 0) ⊎ (offset + n ≤ length base) → length (view_of base offset n) ≡ n
view_long base offset n (inl z) = omega (arith, length-take n (drop offset base), z)
view_long base offset n (inr h) = omega (arith, length-take n (drop offset base), length-drop offset base, h)

whole_window : (base instructions new numbers made : List ℕ) (offset source target : ℕ) → DeltaNumbers offset source target (length instructions) (length new) numbers → Makes (view_of base offset source) instructions new made → length made ≡ target → (source ≡ 0) ⊎ (offset + source ≤ length base) → target ≤ WINDOW_BYTES → source ≤ WINDOW_BYTES → length new ≤ WINDOW_BYTES → IsDeltaWindow base offset source (numbers ++ (instructions ++ new)) made
whole_window base instructions new numbers made offset source target (a4, d5, (a3, d4, (a2, d3, (a1, d2, s1, s2, e2), s3, e3), s4, e4), s5, e5) makes l inside short short_view short_new =
    let tail = instructions ++ new in
    record {
      offset = a1;
      source = d2;
      target = d3;
      size = d4;
      news = d5;
      instructions = instructions;
      new = new;
      is_offset = s1;
      is_source = s2;
      is_target = subst (Spells d3) (sym l) s3;
      is_size = s4;
      is_news = s5;
      within = inside;
      make = makes;
      short = omega (arith, l, short);
      short_view = short_view;
      short_new = short_new;
      joined = ap (λ x. x ++ tail) e5
          ∙ append_assoc a4 d5 tail
          ∙ ap (λ x. x ++ (d5 ++ tail)) e4
          ∙ append_assoc a3 d4 (d5 ++ tail)
          ∙ ap (λ x. x ++ (d4 ++ (d5 ++ tail))) e3
          ∙ append_assoc a2 d3 (d4 ++ (d5 ++ tail))
          ∙ ap (λ x. x ++ (d3 ++ (d4 ++ (d5 ++ tail)))) e2
          ∙ append_assoc a1 d2 (d3 ++ (d4 ++ (d5 ++ tail)));
    }

made_is : (view bytes new : List ℕ) (is : List Instruction) (sum : ℕ) (m : Made view bytes new is sum) → (run view (record { made = []; new = new }) is).made ≡ m.made
made_is view bytes new is sum m = ap (λ t. (run view (record { made = []; new = t }) is).made) (sym (append-nil new)) ∙ ap made_part (m.runs [])
  where
    made_part : Making → List ℕ
    made_part x = x.made

window_done : (base : List ℕ) (d : Delta) (text bytes : List ℕ) → Part base at.Whole d.window d.instructions d.fresh text bytes → WholeDeltas base bytes (text ++ made_of base d) d.window.floor d.window.ceiling (d.window.room - d.window.target)
window_done base d text bytes (front, numbers, instructions, g, r, j) =
    let w = d.window in
    let view = view_of base w.offset w.source in
    let m = ready_makes view w.source instructions d.instructions w.target (length d.fresh) d.fresh (view_long base w.offset w.source g.inside) refl r in
    let first = numbers ++ (instructions ++ d.fresh) in
    let window = whole_window base instructions d.fresh numbers m.made w.offset w.source w.target g.are m.makes m.long g.inside g.short g.short_view g.short_new in
    let same = made_is view instructions d.fresh d.instructions w.target m in
    subst (λ t. WholeDeltas base bytes (text ++ t) w.floor w.ceiling (w.room - w.target)) (sym same)
    (record {
      windows = g.whole.windows ++ first;
      are = subst (λ x. AreDeltas base x w.ceiling (g.whole.windows ++ first) (text ++ m.made)) (sym g.is_floor)
          (subst (λ x. AreDeltas base (last_of w.source g.last_floor w.offset) x (g.whole.windows ++ first) (text ++ m.made)) (sym g.is_ceiling)
          (Then g.last_floor g.last_ceiling w.offset w.source g.whole.windows text first m.made g.whole.are window g.slides));
      room_is = omega (arith, length-append text m.made, m.long, g.whole.room_is, g.fits);
      joined = j ∙ ap (λ x. x ++ first) g.whole.joined;
    })

end_is : (p : Awaited) → is_end p ≡ true → p ≡ at.Whole
end_is at.Whole e = refl
end_is p e = cc

-- a stream stands behind some bytes, or was refused for a cause at one of them
abbrev pub StreamStands : List ℕ → Stream → List ℕ → Type 0
StreamStands base (Reads text d) bytes = (stream_of base bytes ≡ Reads text d) × (is_end d.window.place ≡ false) × Part base d.window.place d.window d.instructions d.fresh text bytes
StreamStands base (Refuses text f) bytes = (front rest : List ℕ) × (bytes ≡ front ++ rest) × (stream_of base front ≡ Refuses text f) × Cause f base text front

settled_by : (base text bytes : List ℕ) (d : Delta) (t : Bool) → is_end d.window.place ≡ t → stream_of base bytes ≡ (if t then Reads (text ++ made_of base d) (ended d) else Reads text d) → Part base d.window.place d.window d.instructions d.fresh text bytes → StreamStands base (if t then Reads (text ++ made_of base d) (ended d) else Reads text d) bytes
settled_by base text bytes d true e s h = (s, refl, (window_done base d text bytes (subst (λ p. Part base p d.window d.instructions d.fresh text bytes) (end_is d.window.place e) h), refl, refl))
settled_by base text bytes d false e s h = (s, e, h)

settled_stands : (base text bytes : List ℕ) (t : Took) → stream_of base bytes ≡ settled base text t → TookFine base text bytes t → StreamStands base (settled base text t) bytes
settled_stands base text bytes (Now d) e h = settled_by base text bytes d (is_end d.window.place) refl e h
settled_stands base text bytes (Not f) e h = (bytes, [], sym (append-nil bytes), e, h)

one_stands : (base : List ℕ) (s : Stream) (bytes : List ℕ) (b : ℕ) → StreamStands base s bytes → StreamStands base (one_byte base s b) (bytes ++ b ∷ [])
one_stands base (Reads text d) bytes b (e, n, h) =
    settled_stands base text (bytes ++ b ∷ []) (any_byte (length base) d b) (reading-append base (Reads [] streams.begun) bytes (b ∷ []) ∙ ap (λ s. one_byte base s b) e)
    (any_at base d.window.place d text bytes b n h)
one_stands base (Refuses text f) bytes b (front, rest, j, e, h) = (front, rest ++ b ∷ [], ap (λ l. l ++ b ∷ []) j ∙ append_assoc front rest (b ∷ []), e, h)

all_stand : (base : List ℕ) (s : Stream) (bytes more : List ℕ) → StreamStands base s bytes → StreamStands base (reading base s more) (bytes ++ more)
all_stand base s bytes [] h = subst (StreamStands base s) (sym (append-nil bytes)) h
all_stand base s bytes (b ∷ more) h =
    subst (StreamStands base (reading base (one_byte base s b) more)) (append_assoc bytes (b ∷ []) more) (all_stand base (one_byte base s b) (bytes ++ b ∷ []) more (one_stands base s bytes b h))

pub from_start : (base bytes : List ℕ) → StreamStands base (stream_of base bytes) bytes
from_start base bytes = all_stand base (Reads [] streams.begun) [] bytes (refl, refl, (omega arith, refl, refl, refl, refl, refl, refl, refl))

between_is : (p : Awaited) → (elim p as (λ _. Bool) [ at.Between ↦ true | _ ↦ false ]) ≡ true → p ≡ at.Between
between_is at.Between e = refl
between_is p e = cc

between_delta : (base : List ℕ) (w : Window) (is : List Instruction) (new text bytes : List ℕ) → Part base at.Between w is new text bytes → IsDelta bytes base text
between_delta base w is new text bytes (h, i, e) = record { windows = h.windows; floor = w.floor; ceiling = w.ceiling; are = h.are; fits = omega (arith, h.room_is); joined = h.joined }

pub read_is_delta : (bytes base text : List ℕ) → IsDeltaRead bytes base text → IsDelta bytes base text
read_is_delta bytes base text (d, between, e) =
    let end : StreamStands base (Reads text d) bytes = subst (λ s. StreamStands base s bytes) e (from_start base bytes) in
    between_delta base d.window d.instructions d.fresh text bytes (subst (λ p. Part base p d.window d.instructions d.fresh text bytes) (between_is d.window.place between) end.2)
