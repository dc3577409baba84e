-- What isn't refused begins a stream of the grammar.
use Rattle.std.proofs.Common.{◌≡◌, ℕ, ◌+◌, ◌-◌, ◌*◌, ◌≤◌, ◌<◌, ◌==◌, ◌⊎◌, inl, inr, Bool, true, false, List, [], ◌∷◌, ◌++◌, length, nat_lt, replicate, Result, Ok, Err, refl, sym, ap, subst, ◌∙◌, append_assoc, append-nil, length-append, arith}
use Rattle.std.proofs.lemmas.List.{length-replicate}
use Rattle.std.specs.Bool.{if◌then◌else◌}
use Rattle.ra_item.specs.Bytes.{is_white, is_digit, is_letter, is_word_byte, is_word}
use Rattle.ra_item.specs.Items.{Item, Word, Number, Text, Nested, row, nesting, deepest, Fits}
use Rattle.ra_item.specs.Makers.{word_of, text_of, list_of}
use Rattle.ra_item.specs.Grammar.{Spells, Spelled, IsItem, IsStream}
use Rattle.ra_item.specs.declared.fault.ItemFault.{ItemFault}
use Rattle.ra_item.specs.declared.fault.ItemFault.TheVariants.{BadItem, TooLong}
use Rattle.ra_item.specs.declared.reading.Place.{Place}
use Rattle.ra_item.specs.declared.reading.Place.TheVariants as at
use Rattle.ra_item.specs.declared.reading.Reading.{Reading}
use Rattle.ra_item.specs.Reading.{Step, Next, Gives, Refused, begin, is_nil, is_between, give, made, counted, one_step, byte_step}
use Rattle.ra_item.specs.Streams.{Stream, Reads, Refuses, of_step, one_byte, reading}
use Rattle.ra_item.specs.Places.{InList, Inside, Part}
use Rattle.ra_item.specs.declared.limits.TheConstants.{ITEM_BYTES, STRING_BYTES}
use Rattle.ra_item.proofs.Runs.{state}
use Rattle.ra_item.proofs.Read.{lt_from, list_made, list_item, one_white, stream_item, Spelt, all_spelt}

-- each open list has room for what stands in it: it will be closed within the depth
abbrev pub Shallow : List Item → List (List Item) → Type 0
Shallow line [] = Unit {0}
Shallow line (around ∷ outer) = (deepest (row line) + length outer ≤ 15) × Shallow around outer

pub open_few : (line : List Item) (outer : List (List Item)) → Shallow line outer → length outer ≤ 16
open_few line [] s = omega arith
open_few line (around ∷ outer) s = omega (arith, s.0)

deepest_snoc : (xs : List Item) (x : Item) (n : ℕ) → deepest (row xs) ≤ n → nesting x ≤ n → deepest (row (xs ++ x ∷ [])) ≤ n
deepest_snoc [] x n d e = omega (arith, e)
deepest_snoc (y ∷ ys) x n d e = omega (arith, d, deepest_snoc ys x n (omega (arith, d)) e)

abbrev Flat : Step → Type 0
Flat (Next r) = Shallow r.row r.outer
Flat (Gives x r) = Shallow r.row r.outer
Flat (Refused f) = Unit {0}

if_flat : (t : Bool) (x y : Step) → (t ≡ true → Flat x) → (t ≡ false → Flat y) → Flat (if t then x else y)
if_flat true x y h k = h refl
if_flat false x y h k = k refl

give_flat : (p : Place) (count : ℕ) (held : List ℕ) (line : List Item) (outer : List (List Item)) (x : Item) → Shallow line outer → nesting x + length outer ≤ 16 → Flat (give (state p count held line outer) x)
give_flat p count held line [] x s d = tt
give_flat p count held line (around ∷ outer) x s d =
    let e = deepest_snoc line x (15 - length outer) (omega (arith, s.0)) (omega (arith, d)) in
    (omega (arith, e, s.0), s.1)

made_flat : (p : Place) (count : ℕ) (held : List ℕ) (line : List Item) (outer : List (List Item)) (m : Result Item ItemFault) → Shallow line outer → ((x : Item) → m ≡ Ok x → nesting x + length outer ≤ 16) → Flat (made (state p count held line outer) m)
made_flat p count held line outer (Err f) s h = tt
made_flat p count held line outer (Ok x) s h = give_flat p count held line outer x s (h x refl)

word_flat : (t u : Bool) (w : List ℕ) (x : Item) → (if t then if u then Err TooLong else Ok (Word w) else Err BadItem) ≡ Ok x → nesting x ≡ 0
word_flat true true w x e = cc
word_flat true false w x e = let q : x ≡ Word w = cc in ap nesting q
word_flat false u w x e = cc

text_flat : (t : Bool) (w : List ℕ) (x : Item) → (if t then Err TooLong else Ok (Text w)) ≡ Ok x → nesting x ≡ 0
text_flat true w x e = cc
text_flat false w x e = let q : x ≡ Text w = cc in ap nesting q

closed_flat : (count : ℕ) (held : List ℕ) (line : List Item) (outer : List (List Item)) (b : ℕ) → Shallow line outer → Flat (byte_step at.Closed (state at.Closed count held line outer) b)
closed_flat count held line [] b s = if_flat (is_white b) _ _ (λ _. tt) (λ _. tt)
closed_flat count held line (around ∷ outer) b s =
    if_flat (is_white b) _ _
    (λ _. made_flat at.Closed count held around outer (list_of (row line)) s.1 (λ x e. omega (arith, s.0, ap nesting (list_made (row line) x e).0)))
    (λ _. tt)

byte_flat : (p : Place) (count : ℕ) (held : List ℕ) (line : List Item) (outer : List (List Item)) (b : ℕ) → Shallow line outer → Flat (byte_step p (state p count held line outer) b)
byte_flat at.Between count held line outer b s =
    if_flat (is_white b) _ _ (λ _. s) (λ _.
    if_flat (is_letter b) _ _ (λ _. s) (λ _.
    if_flat (is_digit b) _ _ (λ _. s) (λ _.
    if_flat (b == 40) _ _ (λ _. if_flat (nat_lt (length outer) 16) _ _ (λ l. (omega (arith, lt_from (length outer) 16 l), s)) (λ _. tt)) (λ _.
    if_flat (b == 41) _ _ (λ _. if_flat (is_nil outer) _ _ (λ _. tt) (λ _. s)) (λ _. tt)))))
byte_flat at.Opened count held line outer b s = if_flat (is_white b) _ _ (λ _. s) (λ _. tt)
byte_flat at.Word count held line outer b s =
    if_flat (is_word_byte b) _ _
    (λ _. if_flat (nat_lt (length held) 64) _ _ (λ _. s) (λ _. tt))
    (λ _. if_flat (is_white b) _ _
    (λ _. made_flat at.Word count held line outer (word_of held) s (λ x e. omega (arith, open_few line outer s, word_flat (is_word held) (nat_lt 64 (length held)) held x e)))
    (λ _. tt))
byte_flat (at.Number n) count held line outer b s =
    if_flat (is_digit b) _ _
    (λ _. if_flat (nat_lt (n * 10 + (b - 48)) 18446744073709551616) _ _ (λ _. s) (λ _. tt))
    (λ _. if_flat (b == 58) _ _
    (λ _. if_flat (nat_lt STRING_BYTES n) _ _ (λ _. tt) (λ _. s))
    (λ _. if_flat (is_white b) _ _ (λ _. give_flat (at.Number n) count held line outer (Number n) s (omega (arith, open_few line outer s))) (λ _. tt)))
byte_flat (at.Text n) count held line outer b s = s
byte_flat at.Ended count held line outer b s =
    if_flat (is_white b) _ _
    (λ _. made_flat at.Ended count held line outer (text_of held) s (λ x e. omega (arith, open_few line outer s, text_flat (nat_lt STRING_BYTES (length held)) held x e)))
    (λ _. tt)
byte_flat at.Closed count held line outer b s = closed_flat count held line outer b s
byte_flat at.Failed count held line outer b s = tt

counted_flat : (s : Step) → Flat s → Flat (counted s)
counted_flat (Next r) f = if_flat (is_between r) _ _ (λ _. f) (λ _. if_flat (nat_lt r.count ITEM_BYTES) _ _ (λ _. f) (λ _. tt))
counted_flat (Gives x r) f = f
counted_flat (Refused g) f = tt

abbrev pub FlatStream : Stream → Type 0
FlatStream (Reads items r) = Shallow r.row r.outer
FlatStream (Refuses items f) = Unit {0}

step_flat : (items : List Item) (s : Step) → Flat s → FlatStream (of_step items s)
step_flat items (Next r) f = f
step_flat items (Gives x r) f = f
step_flat items (Refused g) f = tt

one_flat : (s : Stream) (b : ℕ) → FlatStream s → FlatStream (one_byte s b)
one_flat (Reads items r) b f = step_flat items (one_step r b) (counted_flat (byte_step r.place r b) (byte_flat r.place r.count r.held r.row r.outer b f))
one_flat (Refuses items g) b f = tt

pub run_flat : (s : Stream) (bytes : List ℕ) → FlatStream s → FlatStream (reading s bytes)
run_flat s [] f = f
run_flat s (b ∷ bytes) f = run_flat (one_byte s b) bytes (one_flat s b f)

-- with some more bytes, so many at most, the bytes are an item of the grammar and a space
abbrev Finished : List ℕ → ℕ → Type 0
Finished bytes most = (more first : List ℕ) × (x : Item) × (bytes ++ more ≡ first ++ 32 ∷ []) × Spelled first x × Fits x × (nesting x ≤ 16) × (length first ≤ length bytes + most)

behind : (bytes extra : List ℕ) (most all : ℕ) → length extra + most ≤ all → Finished (bytes ++ extra) most → Finished bytes all
behind bytes extra most all h (more, first, x, e, s, f, d, l) =
    (extra ++ more, first, x, sym (append_assoc bytes extra more) ∙ e, s, f, d, omega (arith, h, l, length-append bytes extra))

-- the bracket that closes a list
closes : (front white inner bytes : List ℕ) → bytes ≡ front ++ 40 ∷ (white ++ inner) → bytes ++ 41 ∷ [] ≡ front ++ 40 ∷ (white ++ (inner ++ 41 ∷ []))
closes front white inner bytes e =
    ap (λ a. a ++ 41 ∷ []) e ∙ append_assoc front (40 ∷ (white ++ inner)) (41 ∷ []) ∙ ap (λ a. front ++ 40 ∷ a) (append_assoc white inner (41 ∷ []))

-- an item is finished, and then the lists round it
ended : (outer : List (List Item)) (line : List Item) (front first bytes : List ℕ) (x : Item) → bytes ≡ front ++ first → Inside outer line front → Shallow line outer → Spelled first x → Fits x → nesting x + length outer ≤ 16 → Finished bytes (length outer + length outer)
ended [] line front first bytes x e i s sp f d =
    let q : bytes ≡ first = e ∙ ap (λ a. a ++ first) i.1 in
    (32 ∷ [], first, x, ap (λ a. a ++ 32 ∷ []) q, sp, f, omega (arith, d), omega (arith, ap length q))
ended (around ∷ outer) line front first bytes x e (before, i, l) s sp f d =
    let (white, inner, w, ss, g, q) = list_item before line front first x 32 l sp f refl in
    let body = 40 ∷ (white ++ (inner ++ 41 ∷ [])) in
    let deep = deepest_snoc line x (15 - length outer) (omega (arith, s.0)) (omega (arith, d)) in
    let all : bytes ++ 32 ∷ 41 ∷ [] ≡ before ++ body =
    sym (append_assoc bytes (32 ∷ []) (41 ∷ [])) ∙ closes before white inner (bytes ++ 32 ∷ []) (ap (λ a. a ++ 32 ∷ []) e ∙ append_assoc front first (32 ∷ []) ∙ q) in
    behind bytes (32 ∷ 41 ∷ []) (length outer + length outer) (length (around ∷ outer) + length (around ∷ outer)) (omega arith)
    (ended outer around before body (bytes ++ 32 ∷ 41 ∷ []) (Nested (row (line ++ x ∷ []))) all i s.1 (white, inner, w, ss, refl) g (omega (arith, deep, s.0)))

-- an open list is closed, and then the lists round it
shut : (outer : List (List Item)) (around line : List Item) (front bytes : List ℕ) → Inside outer around front → InList front line bytes → Shallow line (around ∷ outer) → Finished bytes (1 + (length outer + length outer))
shut outer around line front bytes i (white, inner, w, ss, g, q) s =
    behind bytes (41 ∷ []) (length outer + length outer) (1 + (length outer + length outer)) (omega arith)
    (ended outer around front (40 ∷ (white ++ (inner ++ 41 ∷ []))) (bytes ++ 41 ∷ []) (Nested (row line)) (closes front white inner bytes q) i s.1 (white, inner, w, ss, refl) g (omega (arith, s.0)))

few : (bytes : List ℕ) (most all : ℕ) → most ≤ all → Finished bytes most → Finished bytes all
few bytes most all h (more, first, x, e, s, f, d, l) = (more, first, x, e, s, f, d, omega (arith, h, l))

-- a string gets the bytes that it lacks
text_ended : (n : ℕ) (held : List ℕ) (line : List Item) (outer : List (List Item)) (front ds bytes : List ℕ) → Inside outer line front → Spells ds n → n ≤ STRING_BYTES → length held < n → bytes ≡ front ++ (ds ++ 58 ∷ held) → Shallow line outer → Finished bytes 1048640
text_ended n held line outer front ds bytes i sp l m e s =
    let fill = replicate (n - length held) 32 in
    let long : length fill ≡ n - length held = length-replicate (n - length held) 32 in
    let whole : n ≡ length (held ++ fill) = omega (arith, m, long, length-append held fill) in
    let few_open = open_few line outer s in
    behind bytes fill (length outer + length outer) 1048640 (omega (arith, l, long, few_open))
    (ended outer line front (ds ++ 58 ∷ (held ++ fill)) (bytes ++ fill) (Text (held ++ fill))
    (ap (λ a. a ++ fill) e ∙ append_assoc front (ds ++ 58 ∷ held) fill ∙ ap (λ a. front ++ a) (append_assoc ds (58 ∷ held) fill))
    i s (ds, subst (Spells ds) whole sp, refl) (omega (arith, whole, l)) (omega (arith, few_open)))

-- what has come of an item can be finished, at each place
finished : (p : Place) (held : List ℕ) (line : List Item) (outer : List (List Item)) (bytes : List ℕ) → Part p held line outer bytes → Shallow line outer → (bytes ≡ []) ⊎ Finished bytes 1048640
finished at.Between held line [] bytes i s = inl i.1.1
finished at.Between held line (around ∷ outer) bytes (n, (front, i, l)) s =
    inr (few bytes _ 1048640 (omega (arith, open_few line (around ∷ outer) s)) (shut outer around line front bytes i l s))
finished at.Opened held line [] bytes i s = absurd i.1
finished at.Opened held line (around ∷ outer) bytes (n, (front, i, none, e)) s =
    let l : InList front line (bytes ++ 32 ∷ []) =
    subst (λ v. InList front v (bytes ++ 32 ∷ [])) (sym none) (32 ∷ [], [], one_white 32 refl, refl, tt, ap (λ a. a ++ 32 ∷ []) e ∙ append_assoc front (40 ∷ []) (32 ∷ [])) in
    inr (behind bytes (32 ∷ []) _ 1048640 (omega (arith, open_few line (around ∷ outer) s)) (shut outer around line front (bytes ++ 32 ∷ []) i l s))
finished at.Word held line outer bytes (front, i, w, l, e) s =
    inr (few bytes _ 1048640 (omega (arith, open_few line outer s)) (ended outer line front held bytes (Word held) e i s refl (w, l) (omega (arith, open_few line outer s))))
finished (at.Number n) held line outer bytes (front, ds, none, i, sp, small, e) s =
    inr (few bytes _ 1048640 (omega (arith, open_few line outer s)) (ended outer line front ds bytes (Number n) e i s sp small (omega (arith, open_few line outer s))))
finished (at.Text n) held line outer bytes (front, ds, i, sp, l, m, e) s = inr (text_ended n held line outer front ds bytes i sp l m e s)
finished at.Ended held line outer bytes (front, ds, i, sp, l, e) s =
    inr (few bytes _ 1048640 (omega (arith, open_few line outer s)) (ended outer line front (ds ++ 58 ∷ held) bytes (Text held) e i s (ds, sp, refl) l (omega (arith, open_few line outer s))))
finished at.Closed held line [] bytes i s = absurd i.1
finished at.Closed held line (around ∷ outer) bytes (none, (front, white, inner, i, w, ss, g, e)) s =
    inr (few bytes _ 1048640 (omega (arith, open_few around outer s.1)) (ended outer around front (40 ∷ (white ++ (inner ++ 41 ∷ []))) bytes (Nested (row line)) e i s.1 (white, inner, w, ss, refl) g (omega (arith, s.0))))
finished at.Failed held line outer bytes i s = absurd i

begins : (bytes whole rest : List ℕ) (items : List Item) → IsStream whole items → bytes ≡ whole ++ rest → length rest + 1048640 ≤ ITEM_BYTES → ((rest ≡ []) ⊎ Finished rest 1048640) → (more : List ℕ) × (others : List Item) × IsStream (bytes ++ more) (items ++ others)
begins bytes whole rest items st q room (inl n) =
    let e : bytes ++ [] ≡ whole = append-nil bytes ∙ q ∙ ap (λ a. whole ++ a) n ∙ append-nil whole in
    ([], [], subst (λ a. IsStream a (items ++ [])) (sym e) (subst (IsStream whole) (sym (append-nil items)) st))
begins bytes whole rest items st q room (inr (more, first, x, e, s, f, d, l)) =
    let all : bytes ++ more ≡ whole ++ (first ++ 32 ∷ []) = ap (λ a. a ++ more) q ∙ append_assoc whole rest more ∙ ap (λ a. whole ++ a) e in
    let item : IsItem first x = record { spelled = s; fits = f; depth = d; short = omega (arith, l, room) } in
    (more, x ∷ [], subst (λ a. IsStream a (items ++ x ∷ [])) (sym all) (stream_item items whole first x 32 st item refl))

pub read_goes_on : (bytes : List ℕ) (items : List Item) (r : Reading) → reading (Reads [] begin) bytes ≡ Reads items r → r.count + 1048640 ≤ ITEM_BYTES → (more : List ℕ) × (others : List Item) × IsStream (bytes ++ more) (items ++ others)
read_goes_on bytes items r e room =
    let (whole, rest, st, q, i, c, k) = subst (λ s. Spelt s bytes) e (all_spelt bytes) in
    begins bytes whole rest items st q (omega (arith, c, room)) (finished r.place r.held r.row r.outer rest i (subst FlatStream e (run_flat (Reads [] begin) bytes tt)))
