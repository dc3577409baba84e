-- Runs over bytes.
use Rattle.std.proofs.Common.{◌≡◌, ℕ, ◌+◌, ◌≤◌, ◌<◌, true, false, List, [], ◌∷◌, ◌++◌, length, take, drop, get_or, Err, nat_lt, subst, refl, sym, ap, ◌∙◌, append_assoc, append-nil, length-append, arith}
use Rattle.std.proofs.lemmas.Bool.Decides.{nat_tests}
use Rattle.std.proofs.lemmas.List.{nil_from_length, take_more, length-take, take-append-drop}
use Rattle.std.proofs.Math.Seq.{take-add}
use Rattle.ra_item.specs.Items.{Item}
use Rattle.ra_item.specs.declared.fault.ItemFault.{ItemFault}
use Rattle.ra_item.specs.declared.fault.ItemFault.TheVariants.{OutOfMemory}
use Rattle.ra_item.specs.declared.reading.Place.{Place}
use Rattle.ra_item.specs.declared.reading.Place.TheVariants as at
use Rattle.ra_item.specs.declared.reading.Reading.{Reading}
use Rattle.ra_item.specs.Reading.{Next, one_step, held_more}
use Rattle.ra_item.specs.Streams.{Stream, Reads, Refuses, of_step, one_byte, reading, MayKeep, StreamIs}
use Rattle.ra_item.specs.declared.limits.TheConstants.{ITEM_BYTES}

-- pieces don't matter
pub reading-append : (s : Stream) (a b : List ℕ) → reading s (a ++ b) ≡ reading (reading s a) b
reading-append s [] b = refl
reading-append s (x ∷ a) b = reading-append (one_byte s x) a b

-- a refusal stays
pub reading-refused : (items : List Item) (f : ItemFault) (bs : List ℕ) → reading (Refuses items f) bs ≡ Refuses items f
reading-refused items f [] = refl
reading-refused items f (b ∷ bs) = reading-refused items f bs

pub lt_true : (a b : ℕ) → a < b → nat_lt a b ≡ true
lt_true a b h = grind (arith, nat_tests)

pub lt_false : (a b : ℕ) → b ≤ a → nat_lt a b ≡ false
lt_false a b h = grind (arith, nat_tests)

abbrev pub state : Place → ℕ → List ℕ → List Item → List (List Item) → Reading
state place count held row outer = record { place = place; count = count; held = held; row = row; outer = outer }

-- the bytes of a string, but its last, are kept
pub stretch : (items : List Item) (n count : ℕ) (held : List ℕ) (row : List Item) (outer : List (List Item)) (s more : List ℕ) → (0 < length s → length held + length s < n) → (0 < length s → count + length s ≤ ITEM_BYTES) → reading (Reads items (state (at.Text n) count held row outer)) (s ++ more) ≡ reading (Reads items (state (at.Text n) (count + length s) (held ++ s) row outer)) more
stretch items n count held row outer [] more h k =
    let z : count + length {A = ℕ} [] ≡ count = omega arith in
    rw (z, append-nil) refl
stretch items n count held row outer (b ∷ s) more h k =
    let l = h (omega arith) in
    let m = k (omega arith) in
    let p : nat_lt (length held + 1) n ≡ true = lt_true _ _ (omega arith) in
    let q : nat_lt count ITEM_BYTES ≡ true = lt_true _ _ (omega arith) in
    let z : count + 1 + length s ≡ count + length (b ∷ s) = omega arith in
    let e : one_step (state (at.Text n) count held row outer) b ≡ Next (state (at.Text n) (count + 1) (held ++ b ∷ []) row outer) = rw (p, q) refl in
    ap (λ t. reading (of_step items t) (s ++ more)) e
    ∙ stretch items n (count + 1) (held ++ b ∷ []) row outer s more (λ x. omega (arith, l, length-append held (b ∷ []))) (λ x. omega (arith, m))
    ∙ rw (z, append_assoc) refl

pub may_keep_text : (r : Reading) (n k : ℕ) → r.place ≡ at.Text n → (0 < k → length r.held + k < n) → (0 < k → r.count + k ≤ ITEM_BYTES) → MayKeep r k
may_keep_text r n k e h l =
    λ items s more m. subst (λ p. reading (Reads items (state p r.count r.held r.row r.outer)) (s ++ more) ≡ reading (Reads items (state p (r.count + length s) (r.held ++ s) r.row r.outer)) more) (sym e)
    (stretch items n r.count r.held r.row r.outer s more (λ x. omega (arith, h (omega arith))) (λ x. omega (arith, l (omega arith))))

none : (items : List Item) (r : Reading) (s more : List ℕ) → s ≡ [] → reading (Reads items r) (s ++ more) ≡ reading (Reads items (held_more r s)) more
none items r s more e =
    let z : r.count + length {A = ℕ} [] ≡ r.count = omega arith in
    rw (e, z, append-nil) refl

pub may_keep_none : (r : Reading) → MayKeep r 0
may_keep_none r = λ items s more m. none items r s more (nil_from_length s (omega arith))

-- what is read behind a front of the bytes
pub behind : (s t : Stream) (bytes : List ℕ) (at : ℕ) → reading s (take at bytes) ≡ t → reading s bytes ≡ reading t (drop at bytes)
behind s t bytes at e = ap (reading s) (sym (take-append-drop at bytes)) ∙ reading-append s (take at bytes) (drop at bytes) ∙ ap (λ x. reading x (drop at bytes)) e

-- a stretch more of the front
pub kept : (s : Stream) (items : List Item) (r next : Reading) (bytes : List ℕ) (at k : ℕ) → reading s (take at bytes) ≡ Reads items r → MayKeep r k → next ≡ held_more r (take k (drop at bytes)) → reading s (take (at + k) bytes) ≡ Reads items next
kept s items r next bytes at k e may n =
    let more = take k (drop at bytes) in
    ap (reading s) (take-add at k bytes)
    ∙ reading-append s (take at bytes) more
    ∙ ap (λ x. reading x more) e
    ∙ ap (reading (Reads items r)) (sym (append-nil more))
    ∙ may items more [] (omega (arith, length-take k (drop at bytes)))
    ∙ ap (Reads items) (sym n)

-- a byte more of the front
pub stepped : (s t : Stream) (bytes : List ℕ) (at : ℕ) → reading s (take at bytes) ≡ t → at < length bytes → reading s (take (at + 1) bytes) ≡ one_byte t (get_or bytes at 0)
stepped s t bytes at e h =
    ap (reading s) (take_more bytes at 0 h)
    ∙ reading-append s (take at bytes) (get_or bytes at 0 ∷ [])
    ∙ ap (λ x. one_byte x (get_or bytes at 0)) e

pub refused_at : (f : ItemFault) (s t : Stream) (new : Reading) (out : List Item) (bytes : List ℕ) (at : ℕ) → reading s (take at bytes) ≡ t → at < length bytes → StreamIs (Err f) new out (one_byte t (get_or bytes at 0)) → StreamIs (Err f) new out (reading s bytes)
refused_at OutOfMemory s t new out bytes at e h i = tt
refused_at f s t new out bytes at e h i =
    behind s (Refuses out f) bytes (at + 1) (stepped s t bytes at e h ∙ i) ∙ reading-refused out f (drop (at + 1) bytes)
