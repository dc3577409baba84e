-- What the grammar calls items is read.
use Rattle.std.proofs.Common.{◌≡◌, ℕ, ◌+◌, ◌-◌, ◌*◌, ◌≤◌, ◌<◌, ◌^◌, ◌==◌, true, false, List, [], ◌∷◌, ◌++◌, length, Ok, refl, sym, ap, ◌∙◌, append_assoc, append-nil, length-append, arith}
use Rattle.std.proofs.lemmas.Bool.Decides.{nat_tests}
use Rattle.std.specs.Fmt.{decimal}
use Rattle.ra_item.specs.Bytes.{is_white, is_digit, is_letter, is_word_byte, all_bytes, is_word, number_after}
use Rattle.ra_item.specs.Items.{Item, Word, Number, Text, Nested, Items, End, Then, row, spell, spell_all, nesting, deepest, Fits, AllFit}
use Rattle.ra_item.specs.Makers.{word_of, list_of}
use Rattle.ra_item.specs.Grammar.{Spells, AllWhite, IsWhite, Spelled, AllSpelled, IsItem, AreItems, IsStream}
use Rattle.ra_item.specs.declared.reading.Place.TheVariants as at
use Rattle.ra_item.specs.declared.reading.Reading.{Reading}
use Rattle.ra_item.specs.Reading.{Next, begin, give, made, counted, one_step}
use Rattle.ra_item.specs.Streams.{Stream, Reads, of_step, reading}
use Rattle.ra_item.specs.declared.limits.TheConstants.{ITEM_BYTES, STRING_BYTES}
use Rattle.ra_item.proofs.Runs.{state, lt_true, lt_false}
use Rattle.ra_item.proofs.Classes.{both, white_no_digit, white_no_word, white_no_colon, digit_no_white, digit_no_letter, letter_no_white, number_after-ge, decimal_shortest}

-- a byte after which the item goes on
goes : (items : List Item) (r : Reading) (b : ℕ) (next : Reading) (more : List ℕ) → one_step r b ≡ Next next → reading (Reads items r) (b ∷ more) ≡ reading (Reads items next) more
goes items r b next more e = ap (λ s. reading (of_step items s) more) e

-- the stream at the white space behind an item
abbrev pub given : List Item → ℕ → List Item → List (List Item) → Item → Stream
given items count line outer x = of_step items (counted (give (state at.Between count [] line outer) x))

-- inner bytes of a word
word_bytes : (items : List Item) (count : ℕ) (held : List ℕ) (line : List Item) (outer : List (List Item)) (s more : List ℕ) → all_bytes is_word_byte s ≡ true → length held + length s ≤ 64 → count + length s ≤ ITEM_BYTES → reading (Reads items (state at.Word count held line outer)) (s ++ more) ≡ reading (Reads items (state at.Word (count + length s) (held ++ s) line outer)) more
word_bytes items count held line outer [] more e h k =
    let z : count + length {A = ℕ} [] ≡ count = omega arith in
    rw (z, append-nil) refl
word_bytes items count held line outer (b ∷ s) more e h k =
    let p = both (is_word_byte b) (all_bytes is_word_byte s) e in
    let z : count + 1 + length s ≡ count + length (b ∷ s) = omega arith in
    goes items (state at.Word count held line outer) b (state at.Word (count + 1) (held ++ b ∷ []) line outer) (s ++ more) (rw (p.0, lt_true (length held) 64 (omega arith), lt_true count ITEM_BYTES (omega arith)) refl)
    ∙ word_bytes items (count + 1) (held ++ b ∷ []) line outer s more p.1 (omega (arith, h, length-append held (b ∷ []))) (omega arith)
    ∙ rw (z, append_assoc) refl

word_ends : (items : List Item) (count : ℕ) (held : List ℕ) (line : List Item) (outer : List (List Item)) (w : ℕ) (more : List ℕ) → is_word held ≡ true → length held ≤ 64 → is_white w ≡ true → reading (Reads items (state at.Word count held line outer)) (w ∷ more) ≡ reading (given items count line outer (Word held)) more
word_ends items count held line outer w more e h white =
    let made_so : word_of held ≡ Ok (Word held) = rw (e, lt_false 64 (length held) (omega arith)) refl in
    let step : one_step (state at.Word count held line outer) w ≡ counted (made (state at.Word count held line outer) (word_of held)) = rw (white_no_word w white, white) refl in
    ap (λ s. reading (of_step items s) more) (step ∙ ap (λ m. counted (made (state at.Word count held line outer) m)) made_so)

word_read : (items : List Item) (count : ℕ) (line : List Item) (outer : List (List Item)) (word : List ℕ) (w : ℕ) (more : List ℕ) → is_word word ≡ true → length word ≤ 64 → is_white w ≡ true → count + length word ≤ ITEM_BYTES → reading (Reads items (state at.Between count [] line outer)) (word ++ w ∷ more) ≡ reading (given items (count + length word) line outer (Word word)) more
word_read items count line outer [] w more e h white k = cc
word_read items count line outer (b ∷ bs) w more e h white k =
    let p = both (is_letter b) (all_bytes is_word_byte bs) e in
    let z : count + 1 + length bs ≡ count + length (b ∷ bs) = omega arith in
    goes items (state at.Between count [] line outer) b (state at.Word (count + 1) (b ∷ []) line outer) (bs ++ w ∷ more) (rw (letter_no_white b p.0, p.0, lt_true count ITEM_BYTES (omega arith)) refl)
    ∙ word_bytes items (count + 1) (b ∷ []) line outer bs (w ∷ more) p.1 (omega arith) (omega arith)
    ∙ word_ends items (count + 1 + length bs) (b ∷ bs) line outer w more e h white
    ∙ ap (λ c. reading (given items c line outer (Word (b ∷ bs))) more) z

-- digits
number_bytes : (items : List Item) (count n : ℕ) (held : List ℕ) (line : List Item) (outer : List (List Item)) (ds more : List ℕ) → all_bytes is_digit ds ≡ true → number_after n ds < 2 ^ 64 → count + length ds ≤ ITEM_BYTES → reading (Reads items (state (at.Number n) count held line outer)) (ds ++ more) ≡ reading (Reads items (state (at.Number (number_after n ds)) (count + length ds) held line outer)) more
number_bytes items count n held line outer [] more e h k =
    let z : count + length {A = ℕ} [] ≡ count = omega arith in
    rw z refl
number_bytes items count n held line outer (d ∷ ds) more e h k =
    let p = both (is_digit d) (all_bytes is_digit ds) e in
    let z : count + 1 + length ds ≡ count + length (d ∷ ds) = omega arith in
    let g = number_after-ge (n * 10 + (d - 48)) ds in
    goes items (state (at.Number n) count held line outer) d (state (at.Number (n * 10 + (d - 48))) (count + 1) held line outer) (ds ++ more) (rw (p.0, lt_true (n * 10 + (d - 48)) 18446744073709551616 (omega arith), lt_true count ITEM_BYTES (omega arith)) refl)
    ∙ number_bytes items (count + 1) (n * 10 + (d - 48)) held line outer ds more p.1 h (omega arith)
    ∙ rw z refl

digits_read : (items : List Item) (count n : ℕ) (line : List Item) (outer : List (List Item)) (ds more : List ℕ) → Spells ds n → n < 2 ^ 64 → count + length ds ≤ ITEM_BYTES → reading (Reads items (state at.Between count [] line outer)) (ds ++ more) ≡ reading (Reads items (state (at.Number n) (count + length ds) [] line outer)) more
digits_read items count n line outer [] more s h k = absurd (omega (arith, s.some))
digits_read items count n line outer (d ∷ ds) more s h k =
    let p = both (is_digit d) (all_bytes is_digit ds) s.digits_only in
    let y : 0 * 10 + (d - 48) ≡ d - 48 = omega arith in
    let e : number_after (d - 48) ds ≡ n = rw y at s.number in
    let z : count + 1 + length ds ≡ count + length (d ∷ ds) = omega arith in
    goes items (state at.Between count [] line outer) d (state (at.Number (d - 48)) (count + 1) [] line outer) (ds ++ more) (rw (digit_no_white d p.0, digit_no_letter d p.0, p.0, lt_true count ITEM_BYTES (omega arith)) refl)
    ∙ number_bytes items (count + 1) (d - 48) [] line outer ds more p.1 (omega (arith, e, h)) (omega arith)
    ∙ rw (z, e) refl

number_ends : (items : List Item) (count n : ℕ) (line : List Item) (outer : List (List Item)) (w : ℕ) (more : List ℕ) → is_white w ≡ true → reading (Reads items (state (at.Number n) count [] line outer)) (w ∷ more) ≡ reading (given items count line outer (Number n)) more
number_ends items count n line outer w more white =
    ap (λ s. reading (of_step items s) more) (rw (white_no_digit w white, white_no_colon w white, white) refl)

-- bytes of a string that isn't empty
text_bytes : (items : List Item) (n count : ℕ) (held : List ℕ) (line : List Item) (outer : List (List Item)) (s more : List ℕ) → 0 < length s → length held + length s ≡ n → count + length s ≤ ITEM_BYTES → reading (Reads items (state (at.Text n) count held line outer)) (s ++ more) ≡ reading (Reads items (state at.Ended (count + length s) (held ++ s) line outer)) more
text_bytes items n count held line outer [] more some e k = absurd (omega arith)
text_bytes items n count held line outer (b ∷ []) more some e k =
    goes items (state (at.Text n) count held line outer) b (state at.Ended (count + 1) (held ++ b ∷ []) line outer) more (rw (lt_false (length held + 1) n (omega arith), lt_true count ITEM_BYTES (omega arith)) refl)
text_bytes items n count held line outer (b ∷ c ∷ s) more some e k =
    let z : count + 1 + length (c ∷ s) ≡ count + length (b ∷ c ∷ s) = omega arith in
    goes items (state (at.Text n) count held line outer) b (state (at.Text n) (count + 1) (held ++ b ∷ []) line outer) (c ∷ s ++ more) (rw (lt_true (length held + 1) n (omega arith), lt_true count ITEM_BYTES (omega arith)) refl)
    ∙ text_bytes items n (count + 1) (held ++ b ∷ []) line outer (c ∷ s) more (omega arith) (omega (arith, e, length-append held (b ∷ []))) (omega arith)
    ∙ rw (z, append_assoc) refl

-- the colon and the bytes of a string
text_inner : (items : List Item) (count : ℕ) (line : List Item) (outer : List (List Item)) (t more : List ℕ) → length t ≤ STRING_BYTES → count + 1 + length t ≤ ITEM_BYTES → reading (Reads items (state (at.Number (length t)) count [] line outer)) (58 ∷ (t ++ more)) ≡ reading (Reads items (state at.Ended (count + 1 + length t) t line outer)) more
text_inner items count line outer [] more h k =
    let z : count + 1 + length {A = ℕ} [] ≡ count + 1 = omega arith in
    goes items (state (at.Number 0) count [] line outer) 58 (state at.Ended (count + 1) [] line outer) more (rw (lt_true count ITEM_BYTES (omega arith)) refl)
    ∙ rw z refl
text_inner items count line outer (b ∷ t) more h k =
    let nonzero : (length (b ∷ t) == 0) ≡ false = grind (arith, nat_tests) in
    goes items (state (at.Number (length (b ∷ t))) count [] line outer) 58 (state (at.Text (length (b ∷ t))) (count + 1) [] line outer) (b ∷ t ++ more) (rw (lt_false STRING_BYTES (length (b ∷ t)) h, nonzero, lt_true count ITEM_BYTES (omega arith)) refl)
    ∙ text_bytes items (length (b ∷ t)) (count + 1) [] line outer (b ∷ t) more (omega arith) (omega arith) (omega arith)

text_ends : (items : List Item) (count : ℕ) (t : List ℕ) (line : List Item) (outer : List (List Item)) (w : ℕ) (more : List ℕ) → length t ≤ STRING_BYTES → is_white w ≡ true → reading (Reads items (state at.Ended count t line outer)) (w ∷ more) ≡ reading (given items count line outer (Text t)) more
text_ends items count t line outer w more h white =
    ap (λ s. reading (of_step items s) more) (rw (white, lt_false STRING_BYTES (length t) h) refl)

-- white space inside a list
white_inside : (items : List Item) (count : ℕ) (line around : List Item) (outer : List (List Item)) (ws more : List ℕ) → AllWhite ws → count + length ws ≤ ITEM_BYTES → reading (Reads items (state at.Between count [] line (around ∷ outer))) (ws ++ more) ≡ reading (Reads items (state at.Between (count + length ws) [] line (around ∷ outer))) more
white_inside items count line around outer [] more e k =
    let z : count + length {A = ℕ} [] ≡ count = omega arith in
    rw z refl
white_inside items count line around outer (w ∷ ws) more e k =
    let p = both (is_white w) (all_bytes is_white ws) e in
    let z : count + 1 + length ws ≡ count + length (w ∷ ws) = omega arith in
    goes items (state at.Between count [] line (around ∷ outer)) w (state at.Between (count + 1) [] line (around ∷ outer)) (ws ++ more) (rw (p.0, lt_true count ITEM_BYTES (omega arith)) refl)
    ∙ white_inside items (count + 1) line around outer ws more p.1 (omega arith)
    ∙ rw z refl

-- white space between top-level items
white_outside : (items : List Item) (ws more : List ℕ) → AllWhite ws → reading (Reads items begin) (ws ++ more) ≡ reading (Reads items begin) more
white_outside items [] more e = refl
white_outside items (w ∷ ws) more e =
    let p = both (is_white w) (all_bytes is_white ws) e in
    goes items begin w begin (ws ++ more) (rw p.0 refl) ∙ white_outside items ws more p.1

-- no spelling is shorter than the written one
mutual
  pub spelled_short : (x : Item) (bytes : List ℕ) → Spelled bytes x → Fits x → length (spell x) ≤ length bytes + 1
  spelled_short (Word w) bytes e f = omega (arith, ap length e, length-append w (32 ∷ []))
  spelled_short (Number n) bytes s f = omega (arith, decimal_shortest bytes n s f, length-append (decimal n) (32 ∷ []))
  spelled_short (Text t) bytes (ds, s, e) f =
      omega (arith, ap length e, decimal_shortest ds (length t) s (omega (arith, f)), length-append ds (58 ∷ t), length-append (decimal (length t)) (58 ∷ (t ++ 32 ∷ [])), length-append t (32 ∷ []))
  spelled_short (Nested xs) bytes (white, inner, ws, s, e) f =
      omega (arith, ap length e, ws.0, all_short xs inner s f, length-append white (inner ++ 41 ∷ []), length-append inner (41 ∷ []), length-append (spell_all xs) (41 ∷ 32 ∷ []))

  pub all_short : (xs : Items) (bytes : List ℕ) → AllSpelled bytes xs → AllFit xs → length (spell_all xs) ≤ length bytes
  all_short End bytes e f = omega (arith, ap length e)
  all_short (Then x xs) bytes (first, white, rest, s, ws, ss, e) f =
      omega (arith, ap length e, ws.0, spelled_short x first s f.0, all_short xs rest ss f.1, length-append first (white ++ rest), length-append white rest, length-append (spell x) (spell_all xs))

-- the items of a list
abbrev pub listed : Items → List Item
listed End = []
listed (Then x xs) = x ∷ listed xs

pub row_listed : (xs : Items) → row (listed xs) ≡ xs
row_listed End = refl
row_listed (Then x xs) = ap (Then x) (row_listed xs)

-- the list is within the limits
pub list_made : (xs : Items) → deepest xs + 1 ≤ 16 → length (spell (Nested xs)) ≤ 33554433 → list_of (row (listed xs)) ≡ Ok (Nested xs)
list_made xs d l = ap list_of (row_listed xs) ∙ rw (lt_false 16 (deepest xs + 1) d, lt_false 33554433 (length (spell (Nested xs))) l) refl

-- an item inside a list is whole
given_inside : (items : List Item) (count : ℕ) (line around : List Item) (outer : List (List Item)) (x : Item) → count < ITEM_BYTES → given items count line (around ∷ outer) x ≡ Reads items (state at.Between (count + 1) [] (line ++ x ∷ []) (around ∷ outer))
given_inside items count line around outer x h = rw (lt_true count ITEM_BYTES h) refl

-- a list, from its first bracket to the white space behind it
list_opens : (items : List Item) (count : ℕ) (line : List Item) (outer : List (List Item)) (white more : List ℕ) → IsWhite white → length outer < 16 → count + 1 + length white ≤ ITEM_BYTES → reading (Reads items (state at.Between count [] line outer)) (40 ∷ (white ++ more)) ≡ reading (Reads items (state at.Between (count + 1 + length white) [] [] (line ∷ outer))) more
list_opens items count line outer [] more e d k = absurd (omega (arith, e.0))
list_opens items count line outer (w ∷ ws) more e d k =
    let p = both (is_white w) (all_bytes is_white ws) e.1 in
    let z : count + 1 + 1 + length ws ≡ count + 1 + length (w ∷ ws) = omega arith in
    goes items (state at.Between count [] line outer) 40 (state at.Opened (count + 1) [] [] (line ∷ outer)) (w ∷ ws ++ more) (rw (lt_true (length outer) 16 d, lt_true count ITEM_BYTES (omega arith)) refl)
    ∙ goes items (state at.Opened (count + 1) [] [] (line ∷ outer)) w (state at.Between (count + 1 + 1) [] [] (line ∷ outer)) (ws ++ more) (rw (p.0, lt_true (count + 1) ITEM_BYTES (omega arith)) refl)
    ∙ white_inside items (count + 1 + 1) [] line outer ws more p.1 (omega arith)
    ∙ rw z refl

list_ends : (items : List Item) (count : ℕ) (xs : Items) (line : List Item) (outer : List (List Item)) (w : ℕ) (more : List ℕ) → is_white w ≡ true → count + 1 ≤ ITEM_BYTES → list_of (row (listed xs)) ≡ Ok (Nested xs) → reading (Reads items (state at.Between count [] (listed xs) (line ∷ outer))) (41 ∷ w ∷ more) ≡ reading (given items (count + 1) line outer (Nested xs)) more
list_ends items count xs line outer w more white k e =
    let step : one_step (state at.Closed (count + 1) [] (listed xs) (line ∷ outer)) w ≡ counted (made (state at.Closed (count + 1) [] line outer) (list_of (row (listed xs)))) = rw white refl in
    goes items (state at.Between count [] (listed xs) (line ∷ outer)) 41 (state at.Closed (count + 1) [] (listed xs) (line ∷ outer)) (w ∷ more) (rw (lt_true count ITEM_BYTES (omega arith)) refl)
    ∙ ap (λ s. reading (of_step items s) more) (step ∙ ap (λ m. counted (made (state at.Closed (count + 1) [] line outer) m)) e)

mutual
  pub item_read : (x : Item) (bytes : List ℕ) (items : List Item) (count : ℕ) (line : List Item) (outer : List (List Item)) (w : ℕ) (more : List ℕ) → Spelled bytes x → Fits x → nesting x + length outer ≤ 16 → is_white w ≡ true → count + length bytes ≤ ITEM_BYTES → reading (Reads items (state at.Between count [] line outer)) (bytes ++ w ∷ more) ≡ reading (given items (count + length bytes) line outer x) more
  item_read (Word word) bytes items count line outer w more e f d white k =
      ap (λ b. reading (Reads items (state at.Between count [] line outer)) (b ++ w ∷ more)) e
      ∙ word_read items count line outer word w more f.0 f.1 white (omega (arith, ap length e, k))
      ∙ ap (λ b. reading (given items (count + length b) line outer (Word word)) more) (sym e)
  item_read (Number n) bytes items count line outer w more s f d white k =
      digits_read items count n line outer bytes (w ∷ more) s f k
      ∙ number_ends items (count + length bytes) n line outer w more white
  item_read (Text t) bytes items count line outer w more (ds, s, e) f d white k =
      let l : length bytes ≡ length ds + (1 + length t) = omega (arith, ap length e, length-append ds (58 ∷ t)) in
      let z : count + length ds + 1 + length t ≡ count + length bytes = omega arith in
      ap (λ b. reading (Reads items (state at.Between count [] line outer)) (b ++ w ∷ more)) e
      ∙ ap (reading (Reads items (state at.Between count [] line outer))) (append_assoc ds (58 ∷ t) (w ∷ more))
      ∙ digits_read items count (length t) line outer ds (58 ∷ (t ++ w ∷ more)) s (omega (arith, f)) (omega arith)
      ∙ text_inner items (count + length ds) line outer t (w ∷ more) f (omega arith)
      ∙ text_ends items (count + length ds + 1 + length t) t line outer w more f white
      ∙ ap (λ c. reading (given items c line outer (Text t)) more) z
  item_read (Nested xs) bytes items count line outer w more (blank, inner, ws, s, e) f d white k =
      let l : length bytes ≡ 1 + length blank + length inner + 1 = omega (arith, ap length e, length-append blank (inner ++ 41 ∷ []), length-append inner (41 ∷ [])) in
      let z : count + 1 + length blank + length inner + 1 ≡ count + length bytes = omega arith in
      let short = spelled_short (Nested xs) bytes (blank, inner, ws, s, e) f in
      ap (λ b. reading (Reads items (state at.Between count [] line outer)) (b ++ w ∷ more)) e
      ∙ ap (λ b. reading (Reads items (state at.Between count [] line outer)) (40 ∷ b)) (append_assoc blank (inner ++ 41 ∷ []) (w ∷ more) ∙ ap (λ b. blank ++ b) (append_assoc inner (41 ∷ []) (w ∷ more)))
      ∙ list_opens items count line outer blank (inner ++ 41 ∷ w ∷ more) ws (omega (arith, d)) (omega arith)
      ∙ all_read xs inner items (count + 1 + length blank) [] line outer (41 ∷ w ∷ more) s f (omega (arith, d)) (omega arith)
      ∙ list_ends items (count + 1 + length blank + length inner) xs line outer w more white (omega arith) (list_made xs (omega (arith, d)) (omega (arith, short)))
      ∙ ap (λ c. reading (given items c line outer (Nested xs)) more) z

  pub all_read : (xs : Items) (bytes : List ℕ) (items : List Item) (count : ℕ) (line around : List Item) (outer : List (List Item)) (more : List ℕ) → AllSpelled bytes xs → AllFit xs → deepest xs + (1 + length outer) ≤ 16 → count + length bytes ≤ ITEM_BYTES → reading (Reads items (state at.Between count [] line (around ∷ outer))) (bytes ++ more) ≡ reading (Reads items (state at.Between (count + length bytes) [] (line ++ listed xs) (around ∷ outer))) more
  all_read End bytes items count line around outer more e f d k =
      let z : count + length {A = ℕ} [] ≡ count = omega arith in
      rw (e, z, append-nil) refl
  all_read (Then x xs) bytes items count line around outer more (first, [], rest, s, ws, ss, e) f d k = absurd (omega (arith, ws.0))
  all_read (Then x xs) bytes items count line around outer more (first, w ∷ white, rest, s, ws, ss, e) f d k =
      let p = both (is_white w) (all_bytes is_white white) ws.1 in
      let l : length bytes ≡ length first + (1 + length white + length rest) = omega (arith, ap length e, length-append first (w ∷ white ++ rest), length-append white rest) in
      let z : count + length first + 1 + length white + length rest ≡ count + length bytes = omega arith in
      ap (λ b. reading (Reads items (state at.Between count [] line (around ∷ outer))) (b ++ more)) e
      ∙ ap (reading (Reads items (state at.Between count [] line (around ∷ outer)))) (append_assoc first (w ∷ white ++ rest) more ∙ ap (λ b. first ++ w ∷ b) (append_assoc white rest more))
      ∙ item_read x first items count line (around ∷ outer) w (white ++ (rest ++ more)) s f.0 (omega (arith, d)) p.0 (omega arith)
      ∙ ap (λ t. reading t (white ++ (rest ++ more))) (given_inside items (count + length first) line around outer x (omega arith))
      ∙ white_inside items (count + length first + 1) (line ++ x ∷ []) around outer white (rest ++ more) p.1 (omega arith)
      ∙ all_read xs rest items (count + length first + 1 + length white) (line ++ x ∷ []) around outer more ss f.1 (omega (arith, d)) (omega arith)
      ∙ ap (λ c. reading (Reads items (state at.Between c [] ((line ++ x ∷ []) ++ listed xs) (around ∷ outer))) more) z
      ∙ ap (λ v. reading (Reads items (state at.Between (count + length bytes) [] v (around ∷ outer))) more) (append_assoc line (x ∷ []) (listed xs))

-- a top-level item is whole when the white space behind it begins
pub whole_at_white : (before : List Item) (bytes more : List ℕ) (w : ℕ) (x : Item) → IsItem bytes x → is_white w ≡ true → reading (Reads before begin) (bytes ++ w ∷ more) ≡ reading (Reads (before ++ x ∷ []) begin) more
whole_at_white before bytes more w x i white = item_read x bytes before 0 [] [] w more i.spelled i.fits (omega (arith, i.depth)) white (omega (arith, i.short))

pub items_read : (before items : List Item) (bytes more : List ℕ) → AreItems bytes items → reading (Reads before begin) (bytes ++ more) ≡ reading (Reads (before ++ items) begin) more
items_read before [] bytes more e = rw (e, append-nil) refl
items_read before (x ∷ xs) bytes more (first, [], rest, i, ws, is, e) = absurd (omega (arith, ws.0))
items_read before (x ∷ xs) bytes more (first, w ∷ white, rest, i, ws, is, e) =
    let p = both (is_white w) (all_bytes is_white white) ws.1 in
    ap (λ b. reading (Reads before begin) (b ++ more)) e
    ∙ ap (reading (Reads before begin)) (append_assoc first (w ∷ white ++ rest) more ∙ ap (λ b. first ++ w ∷ b) (append_assoc white rest more))
    ∙ whole_at_white before first (white ++ (rest ++ more)) w x i p.0
    ∙ white_outside (before ++ x ∷ []) white (rest ++ more) p.1
    ∙ items_read (before ++ x ∷ []) xs rest more is
    ∙ ap (λ v. reading (Reads v begin) more) (append_assoc before (x ∷ []) xs)

pub stream_read : (before items : List Item) (bytes more : List ℕ) → IsStream bytes items → reading (Reads before begin) (bytes ++ more) ≡ reading (Reads (before ++ items) begin) more
stream_read before items bytes more (blank, rest, white, is, e) =
    ap (λ b. reading (Reads before begin) (b ++ more)) e
    ∙ ap (reading (Reads before begin)) (append_assoc blank rest more)
    ∙ white_outside before blank (rest ++ more) white
    ∙ items_read before items rest more is
