-- A path's text is read as the path.
use Rattle.std.proofs.Common.{◌≡◌, ◌≢◌, ◌==◌, ◌≤◌, ◌<◌, ◌+◌, ◌-◌, ℕ, Bool, true, false, cond, ◌&&◌, not, List, [], ◌∷◌, ◌++◌, length, Result, Ok, Err, refl, sym, ap, ◌∙◌, arith, nat_le, nat_lt, length-append, take, get_or}
use Rattle.std.proofs.lemmas.Bool.Decides.{nat_tests}
use Rattle.std.specs.List.{All, slice_split, list_all, list_any}
use Rattle.std.specs.Str.{is_utf8}
use Rattle.std.specs.Prelude.{codes, IfOk, IfErr}
use Rattle.std.proofs.lemmas.Str.{IsUtf8-from_is_utf8, is_utf8-from_IsUtf8}
use Rattle.std.proofs.lemmas.List.Splits.{slice_split_at, slice_split_none}
use Rattle.std.proofs.lemmas.List.Elements.{All-nil, All-cons, All-head, All-tail}
use Rattle.node_base.specs.Path.{Name, Path}
use Rattle.node_base.specs.Limits.{weight, fits}
use Rattle.node_base.specs.Names.{IsNameByte, IsName, is_name_byte, is_dots, is_name}
use Rattle.node_base.specs.Numbers.{is_nil}
use Rattle.node_base.specs.PathText.{Spells, IsSmall, Answers, path_text, slashed, pieces, is_long_name, is_past_limits, path_read, is_path}
use Rattle.std.proofs.lemmas.List.Folds.{list_all-append, list_any-append}
use Rattle.std.proofs.lemmas.List.{take_more}
use Rattle.node_base.proofs.PathLemmas.{weight-append}
use Rattle.node_base.proofs.TextLemmas.{text_of_pieces, text_of_first, fits_within, not_long}
use Rattle.node_base.specs.declared.fault.PathFault.{PathFault}
use Rattle.node_base.specs.declared.fault.PathFault.TheVariants.{TooLong, BadPath, OutOfMemory}

-- ---- tests of lists
both : (a b : Bool) → (a && b) ≡ true → (a ≡ true) × (b ≡ true)
both true true e = (refl, refl)
both true false e = cc
both false b e = cc

pub All-from_test : {X : Type 0} (f : X → Bool) (P : X → Type 0) → ((x : X) → f x ≡ true → P x) → (xs : List X) → list_all f xs ≡ true → All P xs
All-from_test f P passes [] e = All-nil P
All-from_test f P passes (x ∷ xs) e = let h = both (f x) (list_all f xs) e in All-cons P x xs (passes x h.0) (All-from_test f P passes xs h.1)

pub test_from_All : {X : Type 0} (f : X → Bool) (P : X → Type 0) → ((x : X) → P x → f x ≡ true) → (xs : List X) → All P xs → list_all f xs ≡ true
test_from_All f P passes [] h = refl
test_from_All f P passes (x ∷ xs) h = rw (passes x (All-head P x xs h), test_from_All f P passes xs (All-tail P x xs h)) refl

-- ---- a name as a test and as a fact
byte_from_test : (b : ℕ) → is_name_byte b ≡ true → IsNameByte b
byte_from_test b e = record { above_control = grind (arith, nat_tests); no_slash = grind (arith, nat_tests); no_delete = grind (arith, nat_tests) }

test_of_byte : (b : ℕ) → IsNameByte b → is_name_byte b ≡ true
test_of_byte b h = of_parts b h.above_control h.no_slash h.no_delete
  where
    of_parts : (b : ℕ) → 32 ≤ b → b ≢ 47 → b ≢ 127 → is_name_byte b ≡ true
    of_parts b low slash delete = grind (arith, nat_tests)

some_of_test : (n : Name) → not (is_nil n) ≡ true → n ≢ []
some_of_test [] e h = cc
some_of_test (b ∷ n) e h = cc

differs : (n m : Name) → is_dots m ≡ true → not (is_dots n) ≡ true → n ≢ m
differs n m passes e h = let k : not (is_dots m) ≡ true = rw (← h) e in cc

pub name_of_test : (n : Name) → is_name n ≡ true → IsName n
unfolding is_name
name_of_test n e =
    let outer = both (is_utf8 n && not (is_nil n) && not (is_dots n)) (list_all is_name_byte n) e in
    let inner = both (is_utf8 n && not (is_nil n)) (not (is_dots n)) outer.0 in
    let first = both (is_utf8 n) (not (is_nil n)) inner.0 in
    record {
      utf8 = IsUtf8-from_is_utf8 n first.0;
      some = some_of_test n first.1;
      no_dot = differs n (codes ".") refl inner.1;
      no_dots = differs n (codes "..") refl inner.1;
      bytes = All-from_test is_name_byte IsNameByte byte_from_test n outer.1;
    }

not_equal : (b k : ℕ) → b ≢ k → (b == k) ≡ false
not_equal b k h = grind (arith, nat_tests)

equal : (b k : ℕ) → (b == k) ≡ true → b ≡ k
equal b k e = grind (arith, nat_tests)

no_dots_test : (n : Name) → n ≢ codes "." → n ≢ codes ".." → is_dots n ≡ false
no_dots_test [] h k = refl
no_dots_test (b ∷ []) h k = not_equal b 46 (λ e. h (ap (λ x. x ∷ []) e))
no_dots_test (b ∷ c ∷ []) h k =
    elim (b == 46) as (λ t. (b == 46) ≡ t → (t && c == 46) ≡ false) [
      | true ↦ λ e. not_equal c 46 (λ f. k (ap (λ x. x ∷ c ∷ []) (equal b 46 e) ∙ ap (λ x. 46 ∷ x ∷ []) f))
      | false ↦ λ e. refl
    ] refl
no_dots_test (b ∷ c ∷ d ∷ n) h k = refl

some_test : (n : Name) → n ≢ [] → is_nil n ≡ false
some_test [] h = absurd (h refl)
some_test (b ∷ n) h = refl

pub test_of_name : (n : Name) → IsName n → is_name n ≡ true
unfolding is_name
test_of_name n h = rw (is_utf8-from_IsUtf8 n h.utf8, some_test n h.some, no_dots_test n h.no_dot h.no_dots, test_from_All is_name_byte IsNameByte test_of_byte n h.bytes) refl

-- ---- the pieces of a text
no_slash : (n : Name) → is_name n ≡ true → All (λ x. (x == 47) ≡ false) n
no_slash n e = bytes n (name_of_test n e).bytes
  where
    bytes : (n : Name) → All IsNameByte n → All (λ x. (x == 47) ≡ false) n
    bytes [] h = All-nil (λ x. (x == 47) ≡ false)
    bytes (b ∷ n) h = All-cons (λ x. (x == 47) ≡ false) b n (not_equal b 47 (All-head IsNameByte b n h).no_slash) (bytes n (All-tail IsNameByte b n h))

split_of_text : (n : Name) (p : Path) → list_all is_name (n ∷ p) ≡ true → slice_split (λ x. x == 47) (path_text (n ∷ p)) ≡ n ∷ p
split_of_text n [] e = slice_split_none (λ x. x == 47) n (no_slash n (both (is_name n) true e).0)
split_of_text n (m ∷ p) e =
    let h = both (is_name n) (list_all is_name (m ∷ p)) e in
    slice_split_at (λ x. x == 47) n 47 (path_text (m ∷ p)) (no_slash n h.0) refl ∙ ap (λ q. n ∷ q) (split_of_text m p h.1)

pieces_of_some : (b : ℕ) (bs r : List ℕ) → r ≡ b ∷ bs → pieces r ≡ slice_split (λ x. x == 47) r
pieces_of_some b bs r e = rw e refl

pub pieces_of_text : (p : Path) → list_all is_name p ≡ true → pieces (path_text p) ≡ p
pieces_of_text [] e = refl
pieces_of_text ([] ∷ p) e = absurd ((name_of_test [] (both (is_name []) (list_all is_name p) e).0).some refl)
pieces_of_text ((b ∷ n) ∷ p) e = pieces_of_some b (n ++ slashed p) (path_text ((b ∷ n) ∷ p)) (text_of_first (b ∷ n) p) ∙ split_of_text (b ∷ n) p e

-- ---- a path that is kept
not_true : (b : Bool) → not b ≡ true → b ≡ false
not_true true e = cc
not_true false e = refl

pub record Kept (p : Path) : Type 0 where
  pub fits : fits p ≡ true
  pub names : list_all is_name p ≡ true
  pub short : list_any is_long_name p ≡ false

pub kept_of_test : (p : Path) → is_path p ≡ true → Kept p
unfolding is_path
kept_of_test p e =
    let outer = both (fits p && list_all is_name p) (not (list_any is_long_name p)) e in
    let inner = both (fits p) (list_all is_name p) outer.0 in
    record { fits = inner.0; names = inner.1; short = not_true (list_any is_long_name p) outer.1 }

pub test_of_kept : (p : Path) → fits p ≡ true → list_all is_name p ≡ true → list_any is_long_name p ≡ false → is_path p ≡ true
unfolding is_path
test_of_kept p e f h = rw (e, f, h) refl

pub fits_of_path : (p : Path) → is_path p ≡ true → fits p ≡ true
fits_of_path p e = (kept_of_test p e).fits

-- ---- a path's text is within the limits
length_of_some : (n : Name) (p : Path) → length (path_text (n ∷ p)) + 1 ≡ weight (n ∷ p)
length_of_some n [] = omega arith
length_of_some n (m ∷ p) = omega (arith, length_of_some m p, length-append n (47 ∷ path_text (m ∷ p)))

pub length_of_text : (p : Path) → length (path_text p) ≡ weight p - 1
length_of_text [] = refl
length_of_text (n ∷ p) = omega (arith, length_of_some n p)

pub count_of_fits : (p : Path) → fits p ≡ true → length p ≤ 64
count_of_fits p e = let h = both (nat_le (0 + length p) 64) (nat_le (0 + weight p) 1025) e in le_of_test (length p) 64 h.0
  where
    le_of_test : (n m : ℕ) → nat_le (0 + n) m ≡ true → n ≤ m
    le_of_test n m e = grind (arith, nat_tests)

pub weight_of_fits : (p : Path) → fits p ≡ true → weight p ≤ 1025
weight_of_fits p e = let h = both (nat_le (0 + length p) 64) (nat_le (0 + weight p) 1025) e in le_of_test (weight p) 1025 h.1
  where
    le_of_test : (n m : ℕ) → nat_le (0 + n) m ≡ true → n ≤ m
    le_of_test n m e = grind (arith, nat_tests)

at_most : (n m : ℕ) → n ≤ m → nat_lt m n ≡ false
at_most n m h = grind (arith, nat_tests)

past_of_parts : (bs : List ℕ) → length bs ≤ 1024 → length (pieces bs) ≤ 64 → list_any is_long_name (pieces bs) ≡ false → is_past_limits bs ≡ false
unfolding is_past_limits
past_of_parts bs short few small = rw (at_most (length bs) 1024 short, at_most (length (pieces bs)) 64 few, small) refl

text_within : (p : Path) → Kept p → is_past_limits (path_text p) ≡ false
text_within p k =
    let same = pieces_of_text p k.names in
    past_of_parts (path_text p) (omega (arith, length_of_text p, weight_of_fits p k.fits)) (rw same (count_of_fits p k.fits)) (rw same k.short)

good_path : (bs : List ℕ) (p : Path) → is_past_limits bs ≡ false → pieces bs ≡ p → list_all is_name p ≡ true → path_read bs ≡ Ok p
unfolding path_read
good_path bs p small split good = rw (small, split, good) refl

-- a path's text is read as the path
pub read_of_path : (p : Path) → is_path p ≡ true → path_read (path_text p) ≡ Ok p
read_of_path p e = let k = kept_of_test p e in good_path (path_text p) p (text_within p k) (pieces_of_text p k.names) k.names

-- ---- what is read is spelled, and what is spelled is read
read_parts : (bs : List ℕ) (p : Path) → path_read bs ≡ Ok p → (is_past_limits bs ≡ false) × (list_all is_name (pieces bs) ≡ true) × (pieces bs ≡ p)
unfolding path_read
read_parts bs p e = parts (pieces bs) (is_past_limits bs) (list_all is_name (pieces bs)) e
  where
    parts : (q : Path) (a b : Bool) → cond a (Err TooLong) (cond b (Ok q) (Err BadPath)) ≡ Ok p → (a ≡ false) × (b ≡ true) × (q ≡ p)
    parts q true b e = cc
    parts q false true e = (refl, refl, cc)
    parts q false false e = cc

pub spells_of_read : (bs : List ℕ) (p : Path) → path_read bs ≡ Ok p → Spells p bs
spells_of_read bs p e =
    let h = read_parts bs p e in
    record { text = ap path_text (sym h.2) ∙ text_of_pieces bs; names = All-from_test is_name IsName name_of_test p (rw (← h.2) h.1) }

pub path_of_read : (bs : List ℕ) (p : Path) → path_read bs ≡ Ok p → is_path p ≡ true
path_of_read bs p e =
    let h = read_parts bs p e in
    rw (← h.2) (test_of_kept (pieces bs) (fits_within bs h.0) h.1 (not_long bs h.0))

short_of_all : (p : Path) → All (λ n. length n ≤ 255) p → list_any is_long_name p ≡ false
short_of_all [] h = refl
short_of_all (n ∷ p) h = rw (at_most (length n) 255 (All-head (λ n. length n ≤ 255) n p h), short_of_all p (All-tail (λ n. length n ≤ 255) n p h)) refl

pub read_of_spelled : (bs : List ℕ) (p : Path) → Spells p bs → IsSmall p → path_read bs ≡ Ok p
read_of_spelled bs p s small =
    let names : list_all is_name p ≡ true = test_from_All is_name IsName test_of_name p s.names in
    rw (← s.text) (read_of_path p (test_of_kept p small.fits names (short_of_all p small.names)))

pub long_is_refused : (bs : List ℕ) → is_past_limits bs ≡ true → path_read bs ≡ Err TooLong
unfolding path_read
long_is_refused bs e = rw e refl

-- bytes that spell a path are past the limits or taken
pub never_bad : (bs : List ℕ) (p : Path) → path_read bs ≡ Err BadPath → ¬ (Spells p bs)
unfolding path_read
never_bad bs p e s =
    let names : list_all is_name p ≡ true = test_from_All is_name IsName test_of_name p s.names in
    let split : pieces bs ≡ p = rw (← s.text) (pieces_of_text p names) in
    parts (is_past_limits bs) (list_all is_name (pieces bs)) (rw split names) e
  where
    parts : (a b : Bool) → b ≡ true → cond a (Err TooLong) (cond b (Ok (pieces bs)) (Err BadPath)) ≡ Err BadPath → ⊥
    parts true b e f = cc
    parts false true e f = cc
    parts false false e f = cc

-- ---- what a call answers
pub answered : (bs : List ℕ) (r : Result Path PathFault) (x : Result Path PathFault) → Answers (path_read bs) r → path_read bs ≡ x → Answers x r
answered bs r x h e = rw (← e) h

pub spelled_of_answer : (bs : List ℕ) (r : Result Path PathFault) → Answers (path_read bs) r → IfOk r (λ p. Spells p bs)
spelled_of_answer bs (Ok p) h = spells_of_read bs p h
spelled_of_answer bs (Err e) h = tt

pub bad_of_answer : (bs : List ℕ) (r : Result Path PathFault) → Answers (path_read bs) r → IfErr r (λ e. e ≡ BadPath → (p : Path) → ¬ (Spells p bs))
bad_of_answer bs (Ok p) h = tt
bad_of_answer bs (Err TooLong) h = λ e p s. cc
bad_of_answer bs (Err BadPath) h = λ e p s. never_bad bs p h s
bad_of_answer bs (Err OutOfMemory) h = λ e p s. cc

-- ---- a name behind a path
child_numbers : (l w k : ℕ) → (nat_le (0 + (l + 1)) 64 && nat_le (0 + (w + (k + 1))) 1025) ≡ (nat_lt l 64 && nat_lt (w + k) 1025)
child_numbers l w k = grind (arith, nat_tests)

weight_of_one : (n : Name) → weight (n ∷ []) ≡ length n + 1
weight_of_one n = omega arith

pub fits_child : (p : Path) (n : Name) → fits (p ++ n ∷ []) ≡ (nat_lt (length p) 64 && nat_lt (weight p + length n) 1025)
fits_child p n = rw (length-append p (n ∷ []), weight-append p (n ∷ []), weight_of_one n) (child_numbers (length p) (weight p) (length n))

pub path_of_child : (p : Path) (n : Name) → is_path p ≡ true → is_name n ≡ true → length n ≤ 255 → fits (p ++ n ∷ []) ≡ true → is_path (p ++ n ∷ []) ≡ true
path_of_child p n e name short fit =
    let k = kept_of_test p e in
    test_of_kept (p ++ n ∷ []) fit (rw (list_all-append is_name p (n ∷ []), k.names, name) refl) (rw (list_any-append is_long_name p (n ∷ []), k.short, at_most (length n) 255 short) refl)

-- one more name
pub weight_more : (p : Path) (i : ℕ) (n : Name) → i < length p → n ≡ get_or p i n → weight (take (i + 1) p) ≡ weight (take i p) + (length n + 1)
weight_more p i n inside e = ap weight (take_more p i n inside) ∙ weight-append (take i p) (get_or p i n ∷ []) ∙ rw (← e) (ap (λ w. weight (take i p) + w) (weight_of_one n))
