-- What is read is in the grammar.
use Rattle.std.proofs.Common.{◌≡◌, ℕ, ◌+◌, ◌-◌, ◌*◌, ◌≤◌, ◌<◌, ◌==◌, ◌⊎◌, inl, inr, Bool, true, false, List, [], ◌∷◌, ◌++◌, length, nat_lt, Result, Ok, Err, refl, sym, ap, subst, ◌∙◌, append_assoc, append-nil, length-append, arith}
use Rattle.std.proofs.lemmas.Bool.Decides.{nat_tests}
use Rattle.std.specs.Bool.{if◌then◌else◌}
use Rattle.ra_item.specs.Bytes.{is_white, is_digit, is_letter, is_word_byte, all_bytes, is_word}
use Rattle.ra_item.specs.Items.{Item, Word, Number, Text, Nested, Items, row, spell, nesting, Fits, AllFit}
use Rattle.ra_item.specs.Makers.{word_of, text_of, list_of}
use Rattle.ra_item.specs.Grammar.{Spells, IsWhite, Spelled, AllSpelled, IsItem, AreItems, IsStream}
use Rattle.ra_item.specs.declared.fault.ItemFault.{ItemFault}
use Rattle.ra_item.specs.declared.fault.ItemFault.TheVariants.{BadItem, TooLong, TooDeep}
use Rattle.ra_item.specs.declared.reading.Place.{Place}
use Rattle.ra_item.specs.declared.reading.Place.TheVariants as at
use Rattle.ra_item.specs.declared.reading.Reading.{Reading}
use Rattle.ra_item.specs.Reading.{Step, Next, Gives, Refused, begin, is_nil, is_between, give, made, start, in_word, in_number, counted, one_step, byte_step}
use Rattle.ra_item.specs.Streams.{Stream, Reads, Refuses, of_step, one_byte, reading, is_failed}
use Rattle.ra_item.specs.Places.{InList, Inside, Opens, Closes, Part, Sound, IsStanding, kept}
use Rattle.ra_item.specs.Weights.{weigh, weigh_all}
use Rattle.ra_item.specs.declared.limits.TheConstants.{ITEM_BYTES, STRING_BYTES}
use Rattle.ra_item.proofs.Runs.{state, lt_false}
use Rattle.ra_item.proofs.Spelled.{all_short}
use Rattle.ra_item.proofs.Classes.{both, digit_high, number_after-append}

pub lt_from : (a b : ℕ) → nat_lt a b ≡ true → a < b
lt_from a b e = grind (arith, nat_tests)

pub le_from : (a b : ℕ) → nat_lt a b ≡ false → b ≤ a
le_from a b e = grind (arith, nat_tests)

pub eq_from : (a b : ℕ) → (a == b) ≡ true → a ≡ b
eq_from a b e = grind (arith, nat_tests)

true_no_false : true ≡ false → ⊥
true_no_false e = cc

positive : (n : ℕ) → (n == 0) ≡ false → 0 < n
positive n e = grind (arith, nat_tests)

made_from : (deep long : Bool) (xs : Items) (x : Item) → nat_lt 16 (nesting (Nested xs)) ≡ deep → (if deep then Err TooDeep else if long then Err TooLong else Ok (Nested xs)) ≡ Ok x → (x ≡ Nested xs) × (nesting (Nested xs) ≤ 16)
made_from true long xs x d e = cc
made_from false true xs x d e = cc
made_from false false xs x d e = (cc, le_from 16 (nesting (Nested xs)) d)

-- one white byte
pub one_white : (b : ℕ) → is_white b ≡ true → IsWhite (b ∷ [])
one_white b e = (omega arith, rw e refl)

all_snoc : (kind : ℕ → Bool) (bs : List ℕ) (b : ℕ) → all_bytes kind bs ≡ true → kind b ≡ true → all_bytes kind (bs ++ b ∷ []) ≡ true
all_snoc kind [] b e h = rw h refl
all_snoc kind (c ∷ bs) b e h = let p = both (kind c) (all_bytes kind bs) e in rw p.0 (all_snoc kind bs b p.1 h)

white_snoc : (ws : List ℕ) (b : ℕ) → IsWhite ws → is_white b ≡ true → IsWhite (ws ++ b ∷ [])
white_snoc ws b w e = (omega (arith, length-append ws (b ∷ [])), all_snoc is_white ws b w.1 e)

pub word_snoc : (w : List ℕ) (b : ℕ) → is_word w ≡ true → is_word_byte b ≡ true → is_word (w ++ b ∷ []) ≡ true
word_snoc [] b e h = cc
word_snoc (c ∷ cs) b e h = let p = both (is_letter c) (all_bytes is_word_byte cs) e in rw p.0 (all_snoc is_word_byte cs b p.1 h)

spells_snoc : (ds : List ℕ) (n b : ℕ) → Spells ds n → is_digit b ≡ true → Spells (ds ++ b ∷ []) (n * 10 + (b - 48))
spells_snoc ds n b s h = record {
  some = omega (arith, length-append ds (b ∷ []));
  digits_only = all_snoc is_digit ds b s.digits_only h;
  number = number_after-append 0 ds (b ∷ []) ∙ ap (λ m. m * 10 + (b - 48)) s.number;
}

one_digit : (b : ℕ) → is_digit b ≡ true → Spells (b ∷ []) (b - 48)
one_digit b e = record { some = omega arith; digits_only = rw e refl; number = omega arith }

-- one item more at the end of a list, and one white byte more
items_snoc : (xs : List Item) (inner first : List ℕ) (x : Item) (b : ℕ) → AllSpelled inner (row xs) → Spelled first x → is_white b ≡ true → AllSpelled (inner ++ (first ++ b ∷ [])) (row (xs ++ x ∷ []))
items_snoc [] inner first x b e s h = (first, b ∷ [], [], s, one_white b h, refl, ap (λ i. i ++ (first ++ b ∷ [])) e)
items_snoc (y ∷ ys) inner first x b (one, ws, rest, o, w, r, e) s h =
    (one, ws, rest ++ (first ++ b ∷ []), o, w, items_snoc ys rest first x b r s h, ap (λ i. i ++ (first ++ b ∷ [])) e ∙ append_assoc one (ws ++ rest) (first ++ b ∷ []) ∙ ap (λ i. one ++ i) (append_assoc ws rest (first ++ b ∷ [])))

fit_snoc : (xs : List Item) (x : Item) → AllFit (row xs) → Fits x → AllFit (row (xs ++ x ∷ []))
fit_snoc [] x a f = (f, tt)
fit_snoc (y ∷ ys) x a f = (a.0, fit_snoc ys x a.1 f)

items_white : (x : Item) (xs : List Item) (inner : List ℕ) (b : ℕ) → AllSpelled inner (row (x ∷ xs)) → is_white b ≡ true → AllSpelled (inner ++ b ∷ []) (row (x ∷ xs))
items_white x [] inner b (one, ws, rest, o, w, r, e) h =
    (one, ws ++ b ∷ [], [], o, white_snoc ws b w h, refl, ap (λ i. i ++ b ∷ []) (e ∙ ap (λ i. one ++ (ws ++ i)) r ∙ ap (λ i. one ++ i) (append-nil ws)) ∙ append_assoc one ws (b ∷ []) ∙ ap (λ i. one ++ i) (sym (append-nil (ws ++ b ∷ []))))
items_white x (y ∷ ys) inner b (one, ws, rest, o, w, r, e) h =
    (one, ws, rest ++ b ∷ [], o, w, items_white y ys rest b r h, ap (λ i. i ++ b ∷ []) e ∙ append_assoc one (ws ++ rest) (b ∷ []) ∙ ap (λ i. one ++ i) (append_assoc ws rest (b ∷ [])))

list_white : (front : List ℕ) (line : List Item) (bytes : List ℕ) (b : ℕ) → InList front line bytes → is_white b ≡ true → InList front line (bytes ++ b ∷ [])
list_white front [] bytes b (white, inner, w, s, f, e) h = (
  white ++ b ∷ [],
  [],
  white_snoc white b w h,
  refl,
  tt,
  ap (λ i. i ++ b ∷ []) (e ∙ ap (λ i. front ++ 40 ∷ (white ++ i)) s ∙ ap (λ i. front ++ 40 ∷ i) (append-nil white)) ∙ append_assoc front (40 ∷ white) (b ∷ []) ∙ ap (λ i. front ++ 40 ∷ i) (sym (append-nil (white ++ b ∷ []))),
)
list_white front (x ∷ xs) bytes b (white, inner, w, s, f, e) h = (
  white,
  inner ++ b ∷ [],
  w,
  items_white x xs inner b s h,
  f,
  ap (λ i. i ++ b ∷ []) e ∙ append_assoc front (40 ∷ (white ++ inner)) (b ∷ []) ∙ ap (λ i. front ++ 40 ∷ i) (append_assoc white inner (b ∷ [])),
)

pub list_item : (front : List ℕ) (line : List Item) (bytes first : List ℕ) (x : Item) (b : ℕ) → InList front line bytes → Spelled first x → Fits x → is_white b ≡ true → InList front (line ++ x ∷ []) (bytes ++ (first ++ b ∷ []))
list_item front line bytes first x b (white, inner, w, s, f, e) o g h = (
  white,
  inner ++ (first ++ b ∷ []),
  w,
  items_snoc line inner first x b s o h,
  fit_snoc line x f g,
  ap (λ i. i ++ (first ++ b ∷ [])) e ∙ append_assoc front (40 ∷ (white ++ inner)) (first ++ b ∷ []) ∙ ap (λ i. front ++ 40 ∷ i) (append_assoc white inner (first ++ b ∷ [])),
)

abbrev pub PartOf : Reading → List ℕ → Type 0
PartOf r bytes = Part r.place r.held r.row r.outer bytes

-- a byte goes on with the item, or it is white space between items
abbrev pub GoesOn : List ℕ → ℕ → Reading → ℕ → Type 0
GoesOn bytes b r count = (PartOf r (bytes ++ b ∷ []) × (count ≡ length bytes)) ⊎ ((is_white b ≡ true) × (bytes ≡ []) × (is_between r ≡ true) × PartOf r [] × (r.count ≡ 0))

-- a byte did right by the bytes before it, apart from the count
abbrev pub Fine : List ℕ → ℕ → Step → Type 0
Fine bytes b (Next r) = GoesOn bytes b r r.count
Fine bytes b (Gives x r) = (is_white b ≡ true) × IsItem bytes x × PartOf r [] × (r.count ≡ 0)
Fine bytes b (Refused f) = Unit {0}

if_fine : (bytes : List ℕ) (b : ℕ) (t : Bool) (x y : Step) → (t ≡ true → Fine bytes b x) → (t ≡ false → Fine bytes b y) → Fine bytes b (if t then x else y)
if_fine bytes b true x y h k = h refl
if_fine bytes b false x y h k = k refl

-- an item is whole
give_fine : (p : Place) (count : ℕ) (held : List ℕ) (line : List Item) (outer : List (List Item)) (front first bytes : List ℕ) (b : ℕ) (x : Item) → Inside outer line front → Spelled first x → Fits x → nesting x ≤ 16 → bytes ≡ front ++ first → count ≡ length bytes → count ≤ ITEM_BYTES → is_white b ≡ true → Fine bytes b (give (state p count held line outer) x)
give_fine p count held line [] front first bytes b x i s f d e c k h =
    let g : bytes ≡ first = e ∙ ap (λ a. a ++ first) i.1 in
    (h, record { spelled = subst (λ a. Spelled a x) (sym g) s; fits = f; depth = d; short = omega (arith, c, k) }, (refl, (i.0, refl)), refl)
give_fine p count held line (around ∷ outer) front first bytes b x (before, i, l) s f d e c k h =
    inl ((refl, (before, i, subst (InList before (line ++ x ∷ [])) (sym (ap (λ a. a ++ b ∷ []) e ∙ append_assoc front first (b ∷ []))) (list_item before line front first x b l s f h))), c)

-- white space where an item may begin
white_fine : (count : ℕ) (held : List ℕ) (line : List Item) (outer : List (List Item)) (bytes : List ℕ) (b : ℕ) → held ≡ [] → Inside outer line bytes → count ≡ length bytes → is_white b ≡ true → Fine bytes b (Next (state at.Between count held line outer))
white_fine count held line [] bytes b n i c w = inr (w, i.1, refl, (n, (i.0, refl)), omega (arith, c, ap length i.1))
white_fine count held line (around ∷ outer) bytes b n (front, i, l) c w = inl ((n, (front, i, list_white front line bytes b l w)), c)

-- the bracket that closes a list
closing_fine : (count : ℕ) (held : List ℕ) (line : List Item) (outer : List (List Item)) (bytes : List ℕ) (b : ℕ) → held ≡ [] → Inside outer line bytes → count ≡ length bytes → b ≡ 41 → Fine bytes b (if is_nil outer then Refused BadItem else Next (state at.Closed count held line outer))
closing_fine count held line [] bytes b n i c q = tt
closing_fine count held line (around ∷ outer) bytes b n (front, i, (white, inner, w, s, f, e)) c q =
    inl (
      (
        n,
        (
          front,
          white,
          inner,
          i,
          w,
          s,
          f,
          ap (λ x. bytes ++ x ∷ []) q ∙ ap (λ a. a ++ 41 ∷ []) e ∙ append_assoc front (40 ∷ (white ++ inner)) (41 ∷ []) ∙ ap (λ a. front ++ 40 ∷ a) (append_assoc white inner (41 ∷ [])),
        ),
      ),
      c,
    )

-- where an item may begin
start_fine : (count : ℕ) (held : List ℕ) (line : List Item) (outer : List (List Item)) (bytes : List ℕ) (b : ℕ) → Part at.Between held line outer bytes → count ≡ length bytes → Fine bytes b (start (state at.Between count held line outer) b)
start_fine count held line outer bytes b (n, i) c =
    if_fine bytes b (is_white b) _ _ (λ w. white_fine count held line outer bytes b n i c w) (λ _.
    if_fine bytes b (is_letter b) _ _ (λ l. inl ((bytes, i, rw l refl, omega arith, refl), c)) (λ _.
    if_fine bytes b (is_digit b) _ _ (λ d. inl ((bytes, b ∷ [], n, i, one_digit b d, omega (arith, digit_high b d), refl), c)) (λ _.
    if_fine bytes b (b == 40) _ _ (λ o. if_fine bytes b (nat_lt (length outer) 16) _ _ (λ _. inl ((n, (bytes, i, refl, ap (λ x. bytes ++ x ∷ []) (eq_from b 40 o))), c)) (λ _. tt)) (λ _.
    if_fine bytes b (b == 41) _ _ (λ o. closing_fine count held line outer bytes b n i c (eq_from b 41 o)) (λ _. tt)))))

-- in a word
word_fine : (count : ℕ) (held : List ℕ) (line : List Item) (outer : List (List Item)) (bytes : List ℕ) (b : ℕ) → Part at.Word held line outer bytes → count ≡ length bytes → count ≤ ITEM_BYTES → Fine bytes b (in_word (state at.Word count held line outer) b)
word_fine count held line outer bytes b (front, i, w, l, e) c k =
    let made_so : word_of held ≡ Ok (Word held) = rw (w, lt_false 64 (length held) l) refl in
    if_fine bytes b (is_word_byte b) _ _
    (λ h. if_fine bytes b (nat_lt (length held) 64) _ _
    (λ lt. inl ((front, i, word_snoc held b w h, omega (arith, lt_from (length held) 64 lt, length-append held (b ∷ [])), ap (λ a. a ++ b ∷ []) e ∙ append_assoc front held (b ∷ [])), c))
    (λ _. tt))
    (λ _. if_fine bytes b (is_white b) _ _
    (λ h. subst (λ m. Fine bytes b (made (state at.Word count held line outer) m)) (sym made_so) (give_fine at.Word count held line outer front held bytes b (Word held) i refl (w, l) (omega arith) e c k h))
    (λ _. tt))

-- the colon behind a string's length
colon_part : (n : ℕ) (line : List Item) (outer : List (List Item)) (front digits bytes : List ℕ) (t : Bool) → (n == 0) ≡ t → Inside outer line front → Spells digits n → n ≤ STRING_BYTES → bytes ≡ front ++ (digits ++ 58 ∷ []) → Part (if t then at.Ended else at.Text n) [] line outer bytes
colon_part n line outer front digits bytes true z i s l e = (front, digits, i, subst (Spells digits) (eq_from n 0 z) s, omega arith, e)
colon_part n line outer front digits bytes false z i s l e = (front, digits, i, s, l, positive n z, e)

-- behind digits
number_fine : (n count : ℕ) (held : List ℕ) (line : List Item) (outer : List (List Item)) (bytes : List ℕ) (b : ℕ) → Part (at.Number n) held line outer bytes → count ≡ length bytes → count ≤ ITEM_BYTES → Fine bytes b (in_number n (state (at.Number n) count held line outer) b)
number_fine n count held line outer bytes b (front, ds, no_bytes, i, s, small, e) c k =
    let more : bytes ++ b ∷ [] ≡ front ++ (ds ++ b ∷ []) = ap (λ a. a ++ b ∷ []) e ∙ append_assoc front ds (b ∷ []) in
    if_fine bytes b (is_digit b) _ _
    (λ h. if_fine bytes b (nat_lt (n * 10 + (b - 48)) 18446744073709551616) _ _
    (λ lt. inl ((front, ds ++ b ∷ [], no_bytes, i, spells_snoc ds n b s h, lt_from (n * 10 + (b - 48)) 18446744073709551616 lt, more), c))
    (λ _. tt))
    (λ _. if_fine bytes b (b == 58) _ _
    (λ h. if_fine bytes b (nat_lt STRING_BYTES n) _ _ (λ _. tt)
    (λ ge. inl (colon_part n line outer front ds (bytes ++ b ∷ []) (n == 0) refl i s (le_from STRING_BYTES n ge) (more ∙ ap (λ x. front ++ (ds ++ x ∷ [])) (eq_from b 58 h)), c)))
    (λ _. if_fine bytes b (is_white b) _ _
    (λ h. give_fine (at.Number n) count held line outer front ds bytes b (Number n) i s small (omega arith) e c k h)
    (λ _. tt)))

-- in a string
text_part : (n : ℕ) (held : List ℕ) (line : List Item) (outer : List (List Item)) (front digits bytes : List ℕ) (b : ℕ) (t : Bool) → nat_lt (length held + 1) n ≡ t → Inside outer line front → Spells digits n → n ≤ STRING_BYTES → length held < n → bytes ≡ front ++ (digits ++ 58 ∷ (held ++ b ∷ [])) → Part (if t then at.Text n else at.Ended) (held ++ b ∷ []) line outer bytes
text_part n held line outer front digits bytes b true z i s l m e = (front, digits, i, s, l, omega (arith, lt_from (length held + 1) n z, length-append held (b ∷ [])), e)
text_part n held line outer front digits bytes b false z i s l m e =
    let q : n ≡ length (held ++ b ∷ []) = omega (arith, le_from (length held + 1) n z, length-append held (b ∷ []), m) in
    (front, digits, i, subst (Spells digits) q s, omega (arith, q, l), e)

text_fine : (n count : ℕ) (held : List ℕ) (line : List Item) (outer : List (List Item)) (bytes : List ℕ) (b : ℕ) → Part (at.Text n) held line outer bytes → count ≡ length bytes → Fine bytes b (byte_step (at.Text n) (state (at.Text n) count held line outer) b)
text_fine n count held line outer bytes b (front, ds, i, s, l, m, e) c =
    inl (
      text_part n held line outer front ds (bytes ++ b ∷ []) b (nat_lt (length held + 1) n) refl i s l m
          (ap (λ a. a ++ b ∷ []) e ∙ append_assoc front (ds ++ 58 ∷ held) (b ∷ []) ∙ ap (λ a. front ++ a) (append_assoc ds (58 ∷ held) (b ∷ []))),
      c,
    )

ended_fine : (count : ℕ) (held : List ℕ) (line : List Item) (outer : List (List Item)) (bytes : List ℕ) (b : ℕ) → Part at.Ended held line outer bytes → count ≡ length bytes → count ≤ ITEM_BYTES → Fine bytes b (byte_step at.Ended (state at.Ended count held line outer) b)
ended_fine count held line outer bytes b (front, ds, i, s, l, e) c k =
    let made_so : text_of held ≡ Ok (Text held) = rw (lt_false STRING_BYTES (length held) l) refl in
    if_fine bytes b (is_white b) _ _
    (λ h. subst (λ m. Fine bytes b (made (state at.Ended count held line outer) m)) (sym made_so) (give_fine at.Ended count held line outer front (ds ++ 58 ∷ held) bytes b (Text held) i (ds, s, refl) l (omega arith) e c k h))
    (λ _. tt)

opened_fine : (count : ℕ) (held : List ℕ) (line : List Item) (outer : List (List Item)) (bytes : List ℕ) (b : ℕ) → Part at.Opened held line outer bytes → count ≡ length bytes → Fine bytes b (byte_step at.Opened (state at.Opened count held line outer) b)
opened_fine count held line [] bytes b o c = absurd o.1
opened_fine count held line (around ∷ outer) bytes b (no_bytes, (front, i, n, e)) c =
    if_fine bytes b (is_white b) _ _
    (λ h. inl ((no_bytes, (front, i, subst (λ v. InList front v (bytes ++ b ∷ [])) (sym n) (b ∷ [], [], one_white b h, refl, tt, ap (λ a. a ++ b ∷ []) e ∙ append_assoc front (40 ∷ []) (b ∷ [])))), c))
    (λ _. tt)

-- what the maker of lists made
pub list_made : (xs : Items) (x : Item) → list_of xs ≡ Ok x → (x ≡ Nested xs) × (nesting (Nested xs) ≤ 16)
list_made xs x e = made_from (nat_lt 16 (nesting (Nested xs))) (nat_lt 33554433 (length (spell (Nested xs)))) xs x refl e

closed_made : (count : ℕ) (held : List ℕ) (line around : List Item) (outer : List (List Item)) (front first bytes : List ℕ) (b : ℕ) (m : Result Item ItemFault) → list_of (row line) ≡ m → Inside outer around front → Spelled first (Nested (row line)) → AllFit (row line) → bytes ≡ front ++ first → count ≡ length bytes → count ≤ ITEM_BYTES → is_white b ≡ true → Fine bytes b (made (state at.Closed count held around outer) m)
closed_made count held line around outer front first bytes b (Err f) q i s g e c k h = tt
closed_made count held line around outer front first bytes b (Ok x) q i s g e c k h =
    let l = list_made (row line) x q in
    subst (λ y. Fine bytes b (give (state at.Closed count held around outer) y)) (sym l.0) (give_fine at.Closed count held around outer front first bytes b (Nested (row line)) i s g l.1 e c k h)

closed_fine : (count : ℕ) (held : List ℕ) (line : List Item) (outer : List (List Item)) (bytes : List ℕ) (b : ℕ) → Part at.Closed held line outer bytes → count ≡ length bytes → count ≤ ITEM_BYTES → Fine bytes b (byte_step at.Closed (state at.Closed count held line outer) b)
closed_fine count held line [] bytes b o c k = absurd o.1
closed_fine count held line (around ∷ outer) bytes b (no_bytes, (front, white, inner, i, w, s, g, e)) c k =
    if_fine bytes b (is_white b) _ _
    (λ h. closed_made count held line around outer front (40 ∷ (white ++ (inner ++ 41 ∷ []))) bytes b (list_of (row line)) refl i (white, inner, w, s, refl) g e c k h)
    (λ _. tt)

pub byte_fine : (p : Place) (count : ℕ) (held : List ℕ) (line : List Item) (outer : List (List Item)) (bytes : List ℕ) (b : ℕ) → Part p held line outer bytes → count ≡ length bytes → count ≤ ITEM_BYTES → Fine bytes b (byte_step p (state p count held line outer) b)
byte_fine at.Between count held line outer bytes b i c k = start_fine count held line outer bytes b i c
byte_fine at.Opened count held line outer bytes b i c k = opened_fine count held line outer bytes b i c
byte_fine at.Word count held line outer bytes b i c k = word_fine count held line outer bytes b i c k
byte_fine (at.Number n) count held line outer bytes b i c k = number_fine n count held line outer bytes b i c k
byte_fine (at.Text n) count held line outer bytes b i c k = text_fine n count held line outer bytes b i c
byte_fine at.Ended count held line outer bytes b i c k = ended_fine count held line outer bytes b i c k
byte_fine at.Closed count held line outer bytes b i c k = closed_fine count held line outer bytes b i c k
byte_fine at.Failed count held line outer bytes b i c k = tt

-- the same with the count
abbrev Good : List ℕ → ℕ → Step → Type 0
Good bytes b (Next r) = (PartOf r (bytes ++ b ∷ []) × (r.count ≡ length bytes + 1) × (r.count ≤ ITEM_BYTES)) ⊎ ((is_white b ≡ true) × (bytes ≡ []) × PartOf r [] × (r.count ≡ 0))
Good bytes b (Gives x r) = (is_white b ≡ true) × IsItem bytes x × PartOf r [] × (r.count ≡ 0)
Good bytes b (Refused f) = Unit {0}

no_end : (bytes : List ℕ) (b : ℕ) → bytes ++ b ∷ [] ≡ [] → ⊥
no_end bytes b e = absurd (omega (arith, ap length e, length-append bytes (b ∷ [])))

not_between : (p : Place) (count : ℕ) (held : List ℕ) (line : List Item) (outer : List (List Item)) (bytes : List ℕ) (b : ℕ) → Part p held line outer (bytes ++ b ∷ []) → is_between (state p count held line outer) ≡ false
not_between at.Between count held line [] bytes b i = absurd (no_end bytes b i.1.1)
not_between at.Between count held line (around ∷ outer) bytes b i = refl
not_between at.Opened count held line outer bytes b i = refl
not_between at.Word count held line outer bytes b i = refl
not_between (at.Number n) count held line outer bytes b i = refl
not_between (at.Text n) count held line outer bytes b i = refl
not_between at.Ended count held line outer bytes b i = refl
not_between at.Closed count held line outer bytes b i = refl
not_between at.Failed count held line outer bytes b i = refl

next_good : (bytes : List ℕ) (b : ℕ) (r : Reading) (t : Bool) → nat_lt r.count ITEM_BYTES ≡ t → PartOf r (bytes ++ b ∷ []) → r.count ≡ length bytes → Good bytes b (if t then Next (record r { count = r.count + 1 }) else Refused TooLong)
next_good bytes b r true z i c = inl (i, omega (arith, c), omega (arith, lt_from r.count ITEM_BYTES z))
next_good bytes b r false z i c = tt

counted_good : (bytes : List ℕ) (b : ℕ) (s : Step) → Fine bytes b s → Good bytes b (counted s)
counted_good bytes b (Next r) (inl g) =
    subst (λ t. Good bytes b (if t then Next r else if nat_lt r.count ITEM_BYTES then Next (record r { count = r.count + 1 }) else Refused TooLong)) (sym (not_between r.place r.count r.held r.row r.outer bytes b g.0))
    (next_good bytes b r (nat_lt r.count ITEM_BYTES) refl g.0 g.1)
counted_good bytes b (Next r) (inr g) =
    subst (λ t. Good bytes b (if t then Next r else if nat_lt r.count ITEM_BYTES then Next (record r { count = r.count + 1 }) else Refused TooLong)) (sym g.2) (inr (g.0, g.1, g.3, g.4))
counted_good bytes b (Gives x r) g = g
counted_good bytes b (Refused f) g = tt

-- streams, one white byte longer or one item longer
are_white : (x : Item) (xs : List Item) (bytes : List ℕ) (b : ℕ) → AreItems bytes (x ∷ xs) → is_white b ≡ true → AreItems (bytes ++ b ∷ []) (x ∷ xs)
are_white x [] bytes b (one, ws, rest, o, w, r, e) h =
    (one, ws ++ b ∷ [], [], o, white_snoc ws b w h, refl, ap (λ i. i ++ b ∷ []) (e ∙ ap (λ i. one ++ (ws ++ i)) r ∙ ap (λ i. one ++ i) (append-nil ws)) ∙ append_assoc one ws (b ∷ []) ∙ ap (λ i. one ++ i) (sym (append-nil (ws ++ b ∷ []))))
are_white x (y ∷ ys) bytes b (one, ws, rest, o, w, r, e) h =
    (one, ws, rest ++ b ∷ [], o, w, are_white y ys rest b r h, ap (λ i. i ++ b ∷ []) e ∙ append_assoc one (ws ++ rest) (b ∷ []) ∙ ap (λ i. one ++ i) (append_assoc ws rest (b ∷ [])))

are_snoc : (xs : List Item) (bytes first : List ℕ) (x : Item) (b : ℕ) → AreItems bytes xs → IsItem first x → is_white b ≡ true → AreItems (bytes ++ (first ++ b ∷ [])) (xs ++ x ∷ [])
are_snoc [] bytes first x b e s h = (first, b ∷ [], [], s, one_white b h, refl, ap (λ i. i ++ (first ++ b ∷ [])) e)
are_snoc (y ∷ ys) bytes first x b (one, ws, rest, o, w, r, e) s h =
    (one, ws, rest ++ (first ++ b ∷ []), o, w, are_snoc ys rest first x b r s h, ap (λ i. i ++ (first ++ b ∷ [])) e ∙ append_assoc one (ws ++ rest) (first ++ b ∷ []) ∙ ap (λ i. one ++ i) (append_assoc ws rest (first ++ b ∷ [])))

stream_white : (xs : List Item) (bytes : List ℕ) (b : ℕ) → IsStream bytes xs → is_white b ≡ true → IsStream (bytes ++ b ∷ []) xs
stream_white [] bytes b (blank, rest, w, r, e) h =
    (blank ++ b ∷ [], [], all_snoc is_white blank b w h, refl, ap (λ i. i ++ b ∷ []) (e ∙ ap (λ i. blank ++ i) r ∙ append-nil blank) ∙ sym (append-nil (blank ++ b ∷ [])))
stream_white (x ∷ xs) bytes b (blank, rest, w, r, e) h =
    (blank, rest ++ b ∷ [], w, are_white x xs rest b r h, ap (λ i. i ++ b ∷ []) e ∙ append_assoc blank rest (b ∷ []))

pub stream_item : (xs : List Item) (bytes first : List ℕ) (x : Item) (b : ℕ) → IsStream bytes xs → IsItem first x → is_white b ≡ true → IsStream (bytes ++ (first ++ b ∷ [])) (xs ++ x ∷ [])
stream_item xs bytes first x b (blank, rest, w, r, e) s h =
    (blank, rest ++ (first ++ b ∷ []), w, are_snoc xs rest first x b r s h, ap (λ i. i ++ (first ++ b ∷ [])) e ∙ append_assoc blank rest (first ++ b ∷ []))

-- what was read so far is spelled by the bytes so far
abbrev pub Spelt : Stream → List ℕ → Type 0
Spelt (Reads items r) bytes = (whole rest : List ℕ) × IsStream whole items × (bytes ≡ whole ++ rest) × PartOf r rest × (r.count ≡ length rest) × (r.count ≤ ITEM_BYTES)
Spelt (Refuses items f) bytes = (whole rest : List ℕ) × IsStream whole items × (bytes ≡ whole ++ rest)

step_spelt : (items : List Item) (whole rest bytes : List ℕ) (b : ℕ) (s : Step) → IsStream whole items → bytes ≡ whole ++ rest → Good rest b s → Spelt (of_step items s) (bytes ++ b ∷ [])
step_spelt items whole rest bytes b (Next r) st e (inl (i, c, k)) =
    (whole, rest ++ b ∷ [], st, ap (λ a. a ++ b ∷ []) e ∙ append_assoc whole rest (b ∷ []), i, omega (arith, c, length-append rest (b ∷ [])), k)
step_spelt items whole rest bytes b (Next r) st e (inr (w, n, i, c)) =
    (whole ++ b ∷ [], [], stream_white items whole b st w, ap (λ a. a ++ b ∷ []) (e ∙ ap (λ a. whole ++ a) n ∙ append-nil whole) ∙ sym (append-nil (whole ++ b ∷ [])), i, c, omega (arith, c))
step_spelt items whole rest bytes b (Gives x r) st e (w, item, i, c) =
    (whole ++ (rest ++ b ∷ []), [], stream_item items whole rest x b st item w, ap (λ a. a ++ b ∷ []) e ∙ append_assoc whole rest (b ∷ []) ∙ sym (append-nil (whole ++ (rest ++ b ∷ []))), i, c, omega (arith, c))
step_spelt items whole rest bytes b (Refused f) st e g =
    (whole, rest ++ b ∷ [], st, ap (λ a. a ++ b ∷ []) e ∙ append_assoc whole rest (b ∷ []))

one_spelt : (s : Stream) (bytes : List ℕ) (b : ℕ) → Spelt s bytes → Spelt (one_byte s b) (bytes ++ b ∷ [])
one_spelt (Reads items r) bytes b (whole, rest, st, e, i, c, k) =
    step_spelt items whole rest bytes b (one_step r b) st e (counted_good rest b (byte_step r.place r b) (byte_fine r.place r.count r.held r.row r.outer rest b i c k))
one_spelt (Refuses items f) bytes b (whole, rest, st, e) = (whole, rest ++ b ∷ [], st, ap (λ a. a ++ b ∷ []) e ∙ append_assoc whole rest (b ∷ []))

run_spelt : (s : Stream) (before bytes : List ℕ) → Spelt s before → Spelt (reading s bytes) (before ++ bytes)
run_spelt s before [] h = subst (Spelt s) (sym (append-nil before)) h
run_spelt s before (b ∷ bytes) h = subst (Spelt (reading (one_byte s b) bytes)) (append_assoc before (b ∷ []) bytes) (run_spelt (one_byte s b) (before ++ b ∷ []) bytes (one_spelt s before b h))

pub all_spelt : (bytes : List ℕ) → Spelt (reading (Reads [] begin) bytes) bytes
all_spelt bytes = run_spelt (Reads [] begin) [] bytes ([], [], ([], [], refl, refl, refl), refl, (refl, (refl, refl)), refl, omega arith)

pub read_is_spelled : (bytes : List ℕ) (items : List Item) (r : Reading) → reading (Reads [] begin) bytes ≡ Reads items r → (whole rest : List ℕ) × IsStream whole items × (bytes ≡ whole ++ rest) × (r.count ≡ length rest) × (length rest ≤ ITEM_BYTES)
read_is_spelled bytes items r e =
    let (whole, rest, st, q, i, c, k) = subst (λ s. Spelt s bytes) e (all_spelt bytes) in
    (whole, rest, st, q, c, omega (arith, c, k))

between_rest : (p : Place) (count : ℕ) (held : List ℕ) (line : List Item) (outer : List (List Item)) (bytes : List ℕ) → is_between (state p count held line outer) ≡ true → Part p held line outer bytes → bytes ≡ []
between_rest at.Between count held line [] bytes e i = i.1.1
between_rest at.Between count held line (around ∷ outer) bytes e i = cc
between_rest at.Opened count held line outer bytes e i = cc
between_rest at.Word count held line outer bytes e i = cc
between_rest (at.Number n) count held line outer bytes e i = cc
between_rest (at.Text n) count held line outer bytes e i = cc
between_rest at.Ended count held line outer bytes e i = cc
between_rest at.Closed count held line outer bytes e i = cc
between_rest at.Failed count held line outer bytes e i = cc

pub ends_whole : (bytes : List ℕ) (items : List Item) (r : Reading) → reading (Reads [] begin) bytes ≡ Reads items r → is_between r ≡ true → IsStream bytes items
ends_whole bytes items r e b =
    let (whole, rest, st, q, i, c, k) = subst (λ s. Spelt s bytes) e (all_spelt bytes) in
    let n = between_rest r.place r.count r.held r.row r.outer rest b i in
    subst (λ a. IsStream a items) (sym (q ∙ ap (λ a. whole ++ a) n ∙ append-nil whole)) st

pub refused_behind : (bytes : List ℕ) (items : List Item) (f : ItemFault) → reading (Reads [] begin) bytes ≡ Refuses items f → (whole rest : List ℕ) × IsStream whole items × (bytes ≡ whole ++ rest)
refused_behind bytes items f e = subst (λ s. Spelt s bytes) e (all_spelt bytes)

-- what is kept is no more than what has come of the item
weigh_inside : (outer : List (List Item)) (line : List Item) (bytes : List ℕ) → Inside outer line bytes → weigh line + weigh_all outer ≤ length bytes
weigh_inside [] line bytes i = omega (arith, ap weigh i.0)
weigh_inside (around ∷ outer) line bytes (front, i, (white, inner, w, s, f, e)) =
    omega (arith, weigh_inside outer around front i, all_short (row line) inner s f, ap length e, length-append front (40 ∷ (white ++ inner)), length-append white inner)

weigh_opens : (outer : List (List Item)) (line : List Item) (bytes : List ℕ) → Opens outer line bytes → weigh line + weigh_all outer ≤ length bytes
weigh_opens [] line bytes o = absurd o
weigh_opens (around ∷ outer) line bytes (front, i, n, e) = omega (arith, weigh_inside outer around front i, ap weigh n, ap length e, length-append front (40 ∷ []))

weigh_closes : (outer : List (List Item)) (line : List Item) (bytes : List ℕ) → Closes outer line bytes → weigh line + weigh_all outer ≤ length bytes
weigh_closes [] line bytes o = absurd o
weigh_closes (around ∷ outer) line bytes (front, white, inner, i, w, s, f, e) =
    omega (arith, weigh_inside outer around front i, all_short (row line) inner s f, ap length e, length-append front (40 ∷ (white ++ (inner ++ 41 ∷ []))), length-append white (inner ++ 41 ∷ []), length-append inner (41 ∷ []))

part_kept : (p : Place) (held : List ℕ) (line : List Item) (outer : List (List Item)) (bytes : List ℕ) → Part p held line outer bytes → length held + (weigh line + weigh_all outer) ≤ length bytes
part_kept at.Between held line outer bytes (n, i) = omega (arith, ap length n, weigh_inside outer line bytes i)
part_kept at.Opened held line outer bytes (n, i) = omega (arith, ap length n, weigh_opens outer line bytes i)
part_kept at.Word held line outer bytes (front, i, w, l, e) = omega (arith, weigh_inside outer line front i, ap length e, length-append front held)
part_kept (at.Number m) held line outer bytes (front, ds, n, i, s, l, e) = omega (arith, ap length n, weigh_inside outer line front i, ap length e, length-append front ds)
part_kept (at.Text m) held line outer bytes (front, ds, i, s, l, less, e) = omega (arith, weigh_inside outer line front i, ap length e, length-append front (ds ++ 58 ∷ held), length-append ds (58 ∷ held))
part_kept at.Ended held line outer bytes (front, ds, i, s, l, e) = omega (arith, weigh_inside outer line front i, ap length e, length-append front (ds ++ 58 ∷ held), length-append ds (58 ∷ held))
part_kept at.Closed held line outer bytes (n, i) = omega (arith, ap length n, weigh_closes outer line bytes i)
part_kept at.Failed held line outer bytes i = absurd i

sound_kept : (r : Reading) → Sound r → kept r ≤ r.count
sound_kept r s = omega (arith, part_kept r.place r.held r.row r.outer s.bytes s.part, s.count)

pub standing_kept : (r : Reading) → IsStanding r → (kept r ≤ r.count) × (r.count ≤ ITEM_BYTES)
standing_kept r (inl s) = (sound_kept r s, s.short)
standing_kept r (inr e) = subst (λ (x : Reading). (kept x ≤ x.count) × (x.count ≤ ITEM_BYTES)) (sym e) (omega arith, omega arith)

pub standing_sound : (r : Reading) → IsStanding r → is_failed r ≡ false → Sound r
standing_sound r (inl s) e = s
standing_sound r (inr q) e = absurd (true_no_false (sym (ap is_failed q) ∙ e))

not_failed : (p : Place) (count : ℕ) (held : List ℕ) (line : List Item) (outer : List (List Item)) (bytes : List ℕ) → Part p held line outer bytes → is_failed (state p count held line outer) ≡ false
not_failed at.Between count held line outer bytes i = refl
not_failed at.Opened count held line outer bytes i = refl
not_failed at.Word count held line outer bytes i = refl
not_failed (at.Number n) count held line outer bytes i = refl
not_failed (at.Text n) count held line outer bytes i = refl
not_failed at.Ended count held line outer bytes i = refl
not_failed at.Closed count held line outer bytes i = refl
not_failed at.Failed count held line outer bytes i = absurd i

pub sound_goes_on : (r : Reading) → Sound r → is_failed r ≡ false
sound_goes_on r s = not_failed r.place r.count r.held r.row r.outer s.bytes s.part

pub kept_is_fed : (bytes : List ℕ) (items : List Item) (r : Reading) → reading (Reads [] begin) bytes ≡ Reads items r → kept r ≤ length bytes
kept_is_fed bytes items r e =
    let (whole, rest, st, q, i, c, k) = subst (λ s. Spelt s bytes) e (all_spelt bytes) in
    omega (arith, part_kept r.place r.held r.row r.outer rest i, ap length q, length-append whole rest)

-- a sound reader stays sound
abbrev SoundStream : Stream → Type 0
SoundStream (Reads items r) = Sound r
SoundStream (Refuses items f) = Unit {0}

step_sound : (items : List Item) (bytes : List ℕ) (b : ℕ) (s : Step) → Good bytes b s → SoundStream (of_step items s)
step_sound items bytes b (Next r) (inl (i, c, k)) = record { bytes = bytes ++ b ∷ []; part = i; count = omega (arith, c, length-append bytes (b ∷ [])); short = k }
step_sound items bytes b (Next r) (inr (w, n, i, c)) = record { bytes = []; part = i; count = c; short = omega (arith, c) }
step_sound items bytes b (Gives x r) (w, item, i, c) = record { bytes = []; part = i; count = c; short = omega (arith, c) }
step_sound items bytes b (Refused f) g = tt

one_sound : (s : Stream) (b : ℕ) → SoundStream s → SoundStream (one_byte s b)
one_sound (Reads items r) b h =
    step_sound items h.bytes b (one_step r b) (counted_good h.bytes b (byte_step r.place r b) (byte_fine r.place r.count r.held r.row r.outer h.bytes b h.part h.count h.short))
one_sound (Refuses items f) b h = tt

run_sound : (s : Stream) (bytes : List ℕ) → SoundStream s → SoundStream (reading s bytes)
run_sound s [] h = h
run_sound s (b ∷ bytes) h = run_sound (one_byte s b) bytes (one_sound s b h)

pub stays_sound : (before after : List Item) (r next : Reading) (bytes : List ℕ) → Sound r → reading (Reads before r) bytes ≡ Reads after next → Sound next
stays_sound before after r next bytes h e = subst SoundStream e (run_sound (Reads before r) bytes h)
