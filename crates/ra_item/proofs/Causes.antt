-- Which number refused bytes get.
use Rattle.std.proofs.Common.{◌≡◌, ℕ, ◌+◌, ◌-◌, ◌*◌, ◌≤◌, ◌==◌, ◌⊎◌, inl, inr, Bool, true, false, List, [], ◌∷◌, ◌++◌, length, nat_lt, Ok, refl, sym, ap, subst, ◌∙◌, append_assoc, append-nil, length-append, arith}
use Rattle.std.specs.Bool.{if◌then◌else◌}
use Rattle.ra_item.specs.Bytes.{is_white, is_digit, is_letter, is_word_byte, all_bytes, is_word}
use Rattle.ra_item.specs.Items.{Item, Word, Number, Text, Nested, Items, row, spell, nesting}
use Rattle.ra_item.specs.Makers.{word_of, text_of, list_of}
use Rattle.ra_item.specs.Grammar.{Spells, IsStream}
use Rattle.ra_item.specs.declared.fault.ItemFault.{ItemFault}
use Rattle.ra_item.specs.declared.fault.ItemFault.TheVariants.{Truncated, TooLong, Failed, BadItem, TooDeep, OutOfMemory}
use Rattle.ra_item.specs.declared.reading.Place.{Place}
use Rattle.ra_item.specs.declared.reading.Place.TheVariants as at
use Rattle.ra_item.specs.declared.reading.Reading.{Reading}
use Rattle.ra_item.specs.Reading.{Step, Next, Gives, Refused, begin, is_nil, is_between, give, made, counted, one_step, byte_step}
use Rattle.ra_item.specs.Streams.{Stream, Reads, Refuses, of_step, one_byte, reading, stream_of}
use Rattle.ra_item.specs.Places.{Inside, Part}
use Rattle.ra_item.specs.Refusals.{Begun, IsLongWord, IsLongText, IsLongItem, IsDeep, begins_white, IsDue, RefusedForCause}
use Rattle.ra_item.specs.declared.limits.TheConstants.{ITEM_BYTES, STRING_BYTES}
use Rattle.ra_item.proofs.Runs.{state, reading-append, lt_false}
use Rattle.ra_item.proofs.Spelled.{spelled_short}
use Rattle.ra_item.proofs.Classes.{both, digit_no_white, letter_no_white}
use Rattle.ra_item.proofs.Canon.{refused_is_no_front}
use Rattle.ra_item.proofs.Read.{lt_from, le_from, eq_from, word_snoc, Fine, byte_fine, Spelt, all_spelt}
use Rattle.ra_item.proofs.GoesOn.{Shallow, open_few, FlatStream, run_flat}

-- what a refusal's number says of the bytes of the item up to it
abbrev Cause : ItemFault → List ℕ → Type 0
Cause TooLong last = IsLongWord last ⊎ (IsLongText last ⊎ IsLongItem last)
Cause TooDeep last = IsDeep last
Cause BadItem last = Unit {0}
Cause f last = ⊥

abbrev Why : List ℕ → Step → Type 0
Why last (Next r) = Unit {0}
Why last (Gives x r) = Unit {0}
Why last (Refused f) = Cause f last

if_why : (last : List ℕ) (t : Bool) (x y : Step) → (t ≡ true → Why last x) → (t ≡ false → Why last y) → Why last (if t then x else y)
if_why last true x y h k = h refl
if_why last false x y h k = k refl

begun : (line : List Item) (outer : List (List Item)) (front : List ℕ) → Inside outer line front → Begun (length outer) front
begun line outer front i = record { line = line; outer = outer; inside = i; many = refl }

give_why : (last : List ℕ) (r : Reading) (x : Item) → Why last (give r x)
give_why last r x = if_why last (is_nil r.outer) _ _ (λ _. tt) (λ _. tt)

-- no item begins with white space
item_begins : (outer : List (List Item)) (line : List Item) (front tail : List ℕ) (c : ℕ) → Inside outer line front → is_white c ≡ false → begins_white (front ++ c ∷ tail) ≡ false
item_begins [] line front tail c i h = ap (λ a. begins_white (a ++ c ∷ tail)) i.1 ∙ h
item_begins (around ∷ outer) line front tail c (before, i, (white, inner, w, s, f, e)) h =
    ap (λ a. begins_white (a ++ c ∷ tail)) e ∙ ap begins_white (append_assoc before (40 ∷ (white ++ inner)) (c ∷ tail)) ∙ item_begins outer around before ((white ++ inner) ++ c ∷ tail) 40 i refl

digits_begin : (outer : List (List Item)) (line : List Item) (front digits tail : List ℕ) (n : ℕ) → Inside outer line front → Spells digits n → begins_white (front ++ (digits ++ tail)) ≡ false
digits_begin outer line front [] tail n i s = absurd (omega (arith, s.some))
digits_begin outer line front (d ∷ ds) tail n i s = item_begins outer line front (ds ++ tail) d i (digit_no_white d (both (is_digit d) (all_bytes is_digit ds) s.digits_only).0)

word_begins : (outer : List (List Item)) (line : List Item) (front word : List ℕ) → Inside outer line front → is_word word ≡ true → begins_white (front ++ word) ≡ false
word_begins outer line front [] i w = cc
word_begins outer line front (c ∷ cs) i w = item_begins outer line front cs c i (letter_no_white c (both (is_letter c) (all_bytes is_word_byte cs) w).0)

part_begins : (p : Place) (held : List ℕ) (line : List Item) (outer : List (List Item)) (bytes : List ℕ) (b : ℕ) → Part p held line outer (bytes ++ b ∷ []) → begins_white (bytes ++ b ∷ []) ≡ false
part_begins at.Between held line [] bytes b i = absurd (omega (arith, ap length i.1.1, length-append bytes (b ∷ [])))
part_begins at.Between held line (around ∷ outer) bytes b (n, (front, i, (white, inner, w, s, f, e))) = ap begins_white e ∙ item_begins outer around front (white ++ inner) 40 i refl
part_begins at.Opened held line [] bytes b o = absurd o.1
part_begins at.Opened held line (around ∷ outer) bytes b (n, (front, i, none, e)) = ap begins_white e ∙ item_begins outer around front [] 40 i refl
part_begins at.Word held line outer bytes b (front, i, w, l, e) = ap begins_white e ∙ word_begins outer line front held i w
part_begins (at.Number n) held line outer bytes b (front, ds, none, i, s, small, e) =
    ap begins_white e ∙ ap (λ a. begins_white (front ++ a)) (sym (append-nil ds)) ∙ digits_begin outer line front ds [] n i s
part_begins (at.Text n) held line outer bytes b (front, ds, i, s, l, m, e) = ap begins_white e ∙ digits_begin outer line front ds (58 ∷ held) n i s
part_begins at.Ended held line outer bytes b (front, ds, i, s, l, e) = ap begins_white e ∙ digits_begin outer line front ds (58 ∷ held) (length held) i s
part_begins at.Closed held line [] bytes b o = absurd o.1
part_begins at.Closed held line (around ∷ outer) bytes b (n, (front, white, inner, i, w, s, f, e)) = ap begins_white e ∙ item_begins outer around front (white ++ (inner ++ 41 ∷ [])) 40 i refl
part_begins at.Failed held line outer bytes b i = absurd i

-- a list that is closed is within the limits
list_fits : (xs : Items) → nesting (Nested xs) ≤ 16 → length (spell (Nested xs)) ≤ 33554433 → list_of xs ≡ Ok (Nested xs)
list_fits xs d l = rw (lt_false 16 (nesting (Nested xs)) d, lt_false 33554433 (length (spell (Nested xs))) l) refl

closed_why : (count : ℕ) (held : List ℕ) (line : List Item) (outer : List (List Item)) (bytes : List ℕ) (b : ℕ) → Part at.Closed held line outer bytes → count ≡ length bytes → count ≤ ITEM_BYTES → Shallow line outer → Why (bytes ++ b ∷ []) (byte_step at.Closed (state at.Closed count held line outer) b)
closed_why count held line [] bytes b o c k s = absurd o.1
closed_why count held line (around ∷ outer) bytes b (none, (front, white, inner, i, w, sp, g, e)) c k s =
    let first = 40 ∷ (white ++ (inner ++ 41 ∷ [])) in
    let short = spelled_short (Nested (row line)) first (white, inner, w, sp, refl) g in
    let whole : list_of (row line) ≡ Ok (Nested (row line)) = list_fits (row line) (omega (arith, s.0)) (omega (arith, short, c, k, ap length e, length-append front first)) in
    if_why (bytes ++ b ∷ []) (is_white b) _ _
    (λ _. subst (λ m. Why (bytes ++ b ∷ []) (made (state at.Closed count held around outer) m)) (sym whole) (give_why (bytes ++ b ∷ []) (state at.Closed count held around outer) (Nested (row line))))
    (λ _. tt)

-- where an item may begin
start_why : (count : ℕ) (held : List ℕ) (line : List Item) (outer : List (List Item)) (bytes : List ℕ) (b : ℕ) → Inside outer line bytes → Shallow line outer → Why (bytes ++ b ∷ []) (byte_step at.Between (state at.Between count held line outer) b)
start_why count held line outer bytes b i s =
    if_why (bytes ++ b ∷ []) (is_white b) _ _ (λ _. tt) (λ _.
    if_why (bytes ++ b ∷ []) (is_letter b) _ _ (λ _. tt) (λ _.
    if_why (bytes ++ b ∷ []) (is_digit b) _ _ (λ _. tt) (λ _.
    if_why (bytes ++ b ∷ []) (b == 40) _ _
    (λ o. if_why (bytes ++ b ∷ []) (nat_lt (length outer) 16) _ _ (λ _. tt)
    (λ l. (bytes, record { line = line; outer = outer; inside = i; many = omega (arith, le_from (length outer) 16 l, open_few line outer s) }, ap (λ x. bytes ++ x ∷ []) (eq_from b 40 o))))
    (λ _.
    if_why (bytes ++ b ∷ []) (b == 41) _ _ (λ _. if_why (bytes ++ b ∷ []) (is_nil outer) _ _ (λ _. tt) (λ _. tt)) (λ _. tt)))))

-- in a word
word_why : (count : ℕ) (held : List ℕ) (line : List Item) (outer : List (List Item)) (bytes : List ℕ) (b : ℕ) → Part at.Word held line outer bytes → Why (bytes ++ b ∷ []) (byte_step at.Word (state at.Word count held line outer) b)
word_why count held line outer bytes b (front, i, w, l, e) =
    let made_so : word_of held ≡ Ok (Word held) = rw (w, lt_false 64 (length held) l) refl in
    if_why (bytes ++ b ∷ []) (is_word_byte b) _ _
    (λ h. if_why (bytes ++ b ∷ []) (nat_lt (length held) 64) _ _ (λ _. tt)
    (λ n. inl (length outer, front, held ++ b ∷ [], begun line outer front i, word_snoc held b w h, omega (arith, le_from (length held) 64 n, length-append held (b ∷ [])), ap (λ a. a ++ b ∷ []) e ∙ append_assoc front held (b ∷ []))))
    (λ _. if_why (bytes ++ b ∷ []) (is_white b) _ _
    (λ _. subst (λ m. Why (bytes ++ b ∷ []) (made (state at.Word count held line outer) m)) (sym made_so) (give_why (bytes ++ b ∷ []) (state at.Word count held line outer) (Word held)))
    (λ _. tt))

-- behind digits
number_why : (n count : ℕ) (held : List ℕ) (line : List Item) (outer : List (List Item)) (bytes : List ℕ) (b : ℕ) → Part (at.Number n) held line outer bytes → Why (bytes ++ b ∷ []) (byte_step (at.Number n) (state (at.Number n) count held line outer) b)
number_why n count held line outer bytes b (front, ds, none, i, s, small, e) =
    if_why (bytes ++ b ∷ []) (is_digit b) _ _
    (λ _. if_why (bytes ++ b ∷ []) (nat_lt (n * 10 + (b - 48)) 18446744073709551616) _ _ (λ _. tt) (λ _. tt))
    (λ _. if_why (bytes ++ b ∷ []) (b == 58) _ _
    (λ h. if_why (bytes ++ b ∷ []) (nat_lt STRING_BYTES n) _ _
    (λ l. inr (inl (length outer, n, front, ds, begun line outer front i, s, lt_from STRING_BYTES n l, ap (λ a. a ++ b ∷ []) e ∙ append_assoc front ds (b ∷ []) ∙ ap (λ x. front ++ (ds ++ x ∷ [])) (eq_from b 58 h))))
    (λ _. tt))
    (λ _. if_why (bytes ++ b ∷ []) (is_white b) _ _ (λ _. give_why (bytes ++ b ∷ []) (state (at.Number n) count held line outer) (Number n)) (λ _. tt)))

-- behind a string
ended_why : (count : ℕ) (held : List ℕ) (line : List Item) (outer : List (List Item)) (bytes : List ℕ) (b : ℕ) → Part at.Ended held line outer bytes → Why (bytes ++ b ∷ []) (byte_step at.Ended (state at.Ended count held line outer) b)
ended_why count held line outer bytes b (front, ds, i, s, l, e) =
    let made_so : text_of held ≡ Ok (Text held) = rw (lt_false STRING_BYTES (length held) l) refl in
    if_why (bytes ++ b ∷ []) (is_white b) _ _
    (λ _. subst (λ m. Why (bytes ++ b ∷ []) (made (state at.Ended count held line outer) m)) (sym made_so) (give_why (bytes ++ b ∷ []) (state at.Ended count held line outer) (Text held)))
    (λ _. tt)

byte_why : (p : Place) (count : ℕ) (held : List ℕ) (line : List Item) (outer : List (List Item)) (bytes : List ℕ) (b : ℕ) → Part p held line outer bytes → count ≡ length bytes → count ≤ ITEM_BYTES → Shallow line outer → Why (bytes ++ b ∷ []) (byte_step p (state p count held line outer) b)
byte_why at.Between count held line outer bytes b i c k s = start_why count held line outer bytes b i.1 s
byte_why at.Opened count held line outer bytes b i c k s = if_why (bytes ++ b ∷ []) (is_white b) _ _ (λ _. tt) (λ _. tt)
byte_why at.Word count held line outer bytes b i c k s = word_why count held line outer bytes b i
byte_why (at.Number n) count held line outer bytes b i c k s = number_why n count held line outer bytes b i
byte_why (at.Text n) count held line outer bytes b i c k s = tt
byte_why at.Ended count held line outer bytes b i c k s = ended_why count held line outer bytes b i
byte_why at.Closed count held line outer bytes b i c k s = closed_why count held line outer bytes b i c k s
byte_why at.Failed count held line outer bytes b i c k s = absurd i

-- the same with the count
counted_why : (bytes : List ℕ) (b : ℕ) (s : Step) → Fine bytes b s → Why (bytes ++ b ∷ []) s → Why (bytes ++ b ∷ []) (counted s)
counted_why bytes b (Next r) (inl g) h =
    if_why (bytes ++ b ∷ []) (is_between r) _ _ (λ _. tt) (λ _.
    if_why (bytes ++ b ∷ []) (nat_lt r.count ITEM_BYTES) _ _ (λ _. tt)
    (λ l. inr (inr (omega (arith, le_from r.count ITEM_BYTES l, g.1, length-append bytes (b ∷ [])), part_begins r.place r.held r.row r.outer bytes b g.0))))
counted_why bytes b (Next r) (inr g) h = subst (λ t. Why (bytes ++ b ∷ []) (if t then Next r else if nat_lt r.count ITEM_BYTES then Next (record r { count = r.count + 1 }) else Refused TooLong)) (sym g.2) tt
counted_why bytes b (Gives x r) g h = tt
counted_why bytes b (Refused f) g h = h

-- a byte is refused for what is due at it
due_of : (f : ItemFault) (items : List Item) (bytes whole last : List ℕ) → stream_of bytes ≡ Refuses items f → IsStream whole items → bytes ≡ whole ++ last → Cause f last → IsDue f items bytes
due_of TooLong items bytes whole last e st j c = record { whole = whole; last = last; stream = st; is = c; joined = j }
due_of TooDeep items bytes whole last e st j c = record { whole = whole; last = last; stream = st; is = c; joined = j }
due_of BadItem items bytes whole last e st j c = λ more others. refused_is_no_front bytes more items others BadItem e
due_of Truncated items bytes whole last e st j c = c
due_of Failed items bytes whole last e st j c = c
due_of OutOfMemory items bytes whole last e st j c = c

-- a stream stands behind some bytes, or was refused for what is due at one of them
abbrev Told : Stream → List ℕ → Type 0
Told (Reads items r) bytes = stream_of bytes ≡ Reads items r
Told (Refuses items f) bytes = (before rest : List ℕ) × (b : ℕ) × (r : Reading) × (bytes ≡ before ++ b ∷ rest) × (stream_of before ≡ Reads items r) × (stream_of (before ++ b ∷ []) ≡ Refuses items f) × IsDue f items (before ++ b ∷ [])

step_told : (items : List Item) (r : Reading) (bytes whole last : List ℕ) (b : ℕ) (s : Step) → stream_of bytes ≡ Reads items r → stream_of (bytes ++ b ∷ []) ≡ of_step items s → IsStream whole items → bytes ++ b ∷ [] ≡ whole ++ last → Why last s → Told (of_step items s) (bytes ++ b ∷ [])
step_told items r bytes whole last b (Next n) was e st j h = e
step_told items r bytes whole last b (Gives x n) was e st j h = e
step_told items r bytes whole last b (Refused f) was e st j h = (bytes, [], b, r, refl, was, e, due_of f items (bytes ++ b ∷ []) whole last e st j h)

one_told : (s : Stream) (bytes : List ℕ) (b : ℕ) → Told s bytes → Told (one_byte s b) (bytes ++ b ∷ [])
one_told (Reads items r) bytes b e =
    let (whole, last, st, q, i, c, k) = subst (λ s. Spelt s bytes) e (all_spelt bytes) in
    let flat = subst FlatStream e (run_flat (Reads [] begin) bytes tt) in
    let now : stream_of (bytes ++ b ∷ []) ≡ of_step items (one_step r b) = reading-append (Reads [] begin) bytes (b ∷ []) ∙ ap (λ s. one_byte s b) e in
    let fine = byte_fine r.place r.count r.held r.row r.outer last b i c k in
    let why = byte_why r.place r.count r.held r.row r.outer last b i c k flat in
    step_told items r bytes whole (last ++ b ∷ []) b (one_step r b) e now st (ap (λ a. a ++ b ∷ []) q ∙ append_assoc whole last (b ∷ [])) (counted_why last b (byte_step r.place r b) fine why)
one_told (Refuses items f) bytes b (before, rest, c, r, j, was, e, due) = (before, rest ++ b ∷ [], c, r, ap (λ a. a ++ b ∷ []) j ∙ append_assoc before (c ∷ rest) (b ∷ []), was, e, due)

all_told : (s : Stream) (bytes more : List ℕ) → Told s bytes → Told (reading s more) (bytes ++ more)
all_told s bytes [] h = subst (Told s) (sym (append-nil bytes)) h
all_told s bytes (b ∷ more) h = subst (Told (reading (one_byte s b) more)) (append_assoc bytes (b ∷ []) more) (all_told (one_byte s b) (bytes ++ b ∷ []) more (one_told s bytes b h))

pub refused_for_cause : RefusedForCause
refused_for_cause bytes items f e = subst (λ s. Told s bytes) e (all_told (Reads [] begin) [] bytes refl)
