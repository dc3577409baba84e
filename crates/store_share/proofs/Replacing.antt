-- Notes in a list, of which one is replaced by another of the same cell.
use Rattle.std.proofs.Common.{◌≡◌, ◌<◌, ◌+◌, ℕ, List, [], ◌∷◌, ◌++◌, map, length, Option, Some, None, zero, suc, take, slice_index_or, slice_set, refl, sym, ap, ◌∙◌, arith}
use Rattle.std.specs.Prelude.{slice_get}
use Rattle.std.specs.Option.{option_and_then}
use Rattle.std.proofs.lemmas.Option.{slice_get_read}
use Rattle.std.proofs.lemmas.List.{length-map, map-append, take_more}
use Rattle.std.proofs.Math.Seq.{map-set_same}
use Rattle.once_cell.specs.declared.race.note.Note.{Note}
use Rattle.store_share.specs.declared.rev.Rev.{Rev}
use Rattle.store_share.proofs.Showing.{some_is}

abbrev pub Cells : List (Note Rev) → List ℕ
Cells ns = map (λ k. k.cell) ns

abbrev pub Known : List (Note Rev) → ℕ → Option Rev
Known ns r = option_and_then (λ k. k.known) (slice_get ns r)

pub here : {X : Type 0} (xs : List X) (i : ℕ) (y : X) → i < length xs → slice_get (slice_set xs i y) i ≡ Some y
here [] i y h = absurd (omega arith)
here (x ∷ xs) zero y h = refl
here (x ∷ xs) (suc i) y h = here xs i y (omega arith)

pub elsewhere : {X : Type 0} (xs : List X) (i j : ℕ) (y : X) → (j ≡ i → ⊥) → slice_get (slice_set xs i y) j ≡ slice_get xs j
elsewhere [] i j y h = refl
elsewhere (x ∷ xs) zero zero y h = absurd (h refl)
elsewhere (x ∷ xs) zero (suc j) y h = refl
elsewhere (x ∷ xs) (suc i) zero y h = refl
elsewhere (x ∷ xs) (suc i) (suc j) y h = elsewhere xs i j y (λ e. h (ap suc e))

pub in_map : {X Y : Type 0} (f : X → Y) (xs : List X) (i : ℕ) (x : X) → slice_get xs i ≡ Some x → slice_get (map f xs) i ≡ Some (f x)
in_map f [] i x h = absurd (cc)
in_map f (y ∷ ys) zero x h = ap (λ o. option_and_then (λ z. Some (f z)) o) h
in_map f (y ∷ ys) (suc i) x h = in_map f ys i x h

-- a note is for one of the cells
pub within : (ns : List (Note Rev)) (cells : List ℕ) (i : ℕ) → Cells ns ≡ cells → i < length cells → i < length ns
within ns cells i e h = omega (arith, length-map ns (λ (k : Note Rev). k.cell), ap length e, h)

pub stands : (ns : List (Note Rev)) (i : ℕ) (n : Note Rev) → i < length ns → n ≡ slice_index_or ns i n → slice_get ns i ≡ Some n
stands ns i n h e = slice_get_read ns (length ns) i n refl h e

pub known_of : (ns : List (Note Rev)) (i : ℕ) (n : Note Rev) → i < length ns → n ≡ slice_index_or ns i n → Known ns i ≡ n.known
known_of ns i n h e = ap (option_and_then (λ (k : Note Rev). k.known)) (stands ns i n h e)

pub same_cell : (ms fs : List (Note Rev)) (i : ℕ) (m t : Note Rev) → Cells ms ≡ Cells fs → i < length (Cells fs) → m ≡ slice_index_or ms i m → t ≡ slice_index_or fs i t → t.cell ≡ m.cell
same_cell ms fs i m t e h em et =
    some_is t.cell m.cell
    (sym (in_map (λ (k : Note Rev). k.cell) fs i t (stands fs i t (within fs (Cells fs) i refl h) et))
    ∙ ap (λ cs. slice_get cs i) (sym e)
    ∙ in_map (λ (k : Note Rev). k.cell) ms i m (stands ms i m (within ms (Cells fs) i e h) em))

pub same_cells : (ms : List (Note Rev)) (i : ℕ) (m n : Note Rev) → m ≡ slice_index_or ms i m → n.cell ≡ m.cell → Cells (slice_set ms i n) ≡ Cells ms
same_cells ms i m n em e = map-set_same (λ (k : Note Rev). k.cell) ms i n m (e ∙ ap (λ (k : Note Rev). k.cell) em)

pub known_here : (ns : List (Note Rev)) (i : ℕ) (n : Note Rev) → i < length ns → Known (slice_set ns i n) i ≡ n.known
known_here ns i n h = ap (option_and_then (λ (k : Note Rev). k.known)) (here ns i n h)

pub known_elsewhere : (ns : List (Note Rev)) (i r : ℕ) (n : Note Rev) → (r ≡ i → ⊥) → Known (slice_set ns i n) r ≡ Known ns r
known_elsewhere ns i r n h = ap (option_and_then (λ (k : Note Rev). k.known)) (elsewhere ns i r n h)

-- a note that knows nothing behind others that know nothing
pub none_more : (ns : List (Note Rev)) (n : Note Rev) → ((r : ℕ) → Known ns r ≡ None) → n.known ≡ None → (r : ℕ) → Known (ns ++ n ∷ []) r ≡ None
none_more [] n all e zero = e
none_more [] n all e (suc r) = refl
none_more (m ∷ ms) n all e zero = all zero
none_more (m ∷ ms) n all e (suc r) = none_more ms n (λ k. all (suc k)) e r

pub cells_more : {Z : Type 0} (name : Z → ℕ) (ns : List (Note Rev)) (n : Note Rev) (cs : List Z) (i : ℕ) (x : Z) (items : List (Note Rev)) → items ≡ ns ++ n ∷ [] → Cells ns ≡ map name (take i cs) → i < length cs → x ≡ slice_index_or cs i x → n.cell ≡ name x
    → Cells items ≡ map name (take (i + 1) cs)
cells_more name ns n cs i x items p e h at c =
    ap Cells p
    ∙ map-append (λ (k : Note Rev). k.cell) ns (n ∷ [])
    ∙ ap (λ a. a ++ n.cell ∷ []) e
    ∙ ap (λ a. map name (take i cs) ++ a ∷ []) (c ∙ ap name at)
    ∙ sym (map-append name (take i cs) (slice_index_or cs i x ∷ []))
    ∙ ap (map name) (sym (take_more cs i x h))

pub none_then : (ns : List (Note Rev)) (n : Note Rev) (items : List (Note Rev)) → items ≡ ns ++ n ∷ [] → ((r : ℕ) → Known ns r ≡ None) → n.known ≡ None → (r : ℕ) → Known items r ≡ None
none_then ns n items p all e r = ap (λ ks. Known ks r) p ∙ none_more ns n all e r

-- where the new note knows what the old one knew, all is kept
pub kept_all : (ns : List (Note Rev)) (i : ℕ) (m n : Note Rev) → slice_get ns i ≡ Some m → ((x : Rev) → m.known ≡ Some x → n.known ≡ Some x) → (r : ℕ) (x : Rev) → Known ns r ≡ Some x → Known (slice_set ns i n) r ≡ Some x
kept_all [] i m n at k r x h = h
kept_all (y ∷ ys) zero m n at k zero x h = k x (sym (ap (λ (z : Note Rev). z.known) (some_is y m at)) ∙ h)
kept_all (y ∷ ys) zero m n at k (suc r) x h = h
kept_all (y ∷ ys) (suc i) m n at k zero x h = h
kept_all (y ∷ ys) (suc i) m n at k (suc r) x h = kept_all ys i m n at k r x h
