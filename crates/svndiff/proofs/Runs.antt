-- Runs over bytes.
use Rattle.std.proofs.Common.{◌≡◌, ℕ, ◌+◌, ◌-◌, ◌≤◌, ◌<◌, ◌&&◌, Bool, true, false, List, [], ◌∷◌, ◌++◌, length, take, drop, get_or, nat_lt, refl, sym, ap, ◌∙◌, append_assoc, length-append, arith}
use Rattle.std.proofs.lemmas.Bool.Decides.{nat_tests}
use Rattle.std.proofs.lemmas.List.{drop_more, take-append-drop, length-take, length-drop}
use Rattle.svndiff.specs.declared.fault.WindowFault.{WindowFault}
use Rattle.svndiff.specs.declared.reading.Place.{Place}
use Rattle.svndiff.specs.declared.reading.Place.TheVariants as at
use Rattle.svndiff.specs.declared.reading.Reading.{Reading}
use Rattle.svndiff.specs.Reading.{Step, Next, Gives, Refused, given, one_step}
use Rattle.svndiff.specs.Streams.{Stream, Reads, Refuses, of_step, one_byte, reading, has_more, in_front, and_pieces, pieces_in, with_piece}

-- pieces don't matter
pub reading-append : (s : Stream) (a b : List ℕ) → reading s (a ++ b) ≡ reading (reading s a) b
reading-append s [] b = refl
reading-append s (x ∷ a) b = reading-append (one_byte s x) a b

-- a refusal stays
pub reading-refused : (text : List ℕ) (f : WindowFault) (bs : List ℕ) → reading (Refuses text f) bs ≡ Refuses text f
reading-refused text f [] = refl
reading-refused text f (b ∷ bs) = reading-refused text f bs

pub lt_true : (a b : ℕ) → a < b → nat_lt a b ≡ true
lt_true a b h = grind (arith, nat_tests)

pub lt_false : (a b : ℕ) → b ≤ a → nat_lt a b ≡ false
lt_false a b h = grind (arith, nat_tests)

pub lt_from : (a b : ℕ) → nat_lt a b ≡ true → a < b
lt_from a b e = grind (arith, nat_tests)

pub both : (a b : Bool) → (a && b) ≡ true → (a ≡ true) × (b ≡ true)
both true b e = (refl, e)
both false b e = cc

abbrev pub state : Place → ℕ → ℕ → ℕ → ℕ → ℕ → ℕ → Reading
state place source target instructions fresh sum room = record { place = place; source = source; target = target; instructions = instructions; fresh = fresh; sum = sum; room = room }

-- new data is the text's
pub data_run : (text : List ℕ) (r : Reading) (s more : List ℕ) → r.place ≡ at.NewData → 0 < length s → (1 < length s → length s ≤ r.fresh) → reading (Reads text r) (s ++ more) ≡ reading (Reads (text ++ s) (given (length s) r)) more
data_run text r [] more e some h = absurd (omega (arith, some))
data_run text r (b ∷ []) more e some h = ap (λ p. reading (of_step text (one_step (record r { place = p }) b)) more) e
data_run text r (b ∷ c ∷ s) more e some h =
    let l = h (omega arith) in
    let p : nat_lt 1 r.fresh ≡ true = lt_true 1 r.fresh (omega (arith, l)) in
    let first : one_step r b ≡ Gives b (given 1 r) = rw e refl in
    let next : (given 1 r).place ≡ at.NewData = rw p refl in
    let k : (1 < length (c ∷ s) → length (c ∷ s) ≤ (given 1 r).fresh) = λ _. omega (arith, l) in
    let f : r.fresh - 1 - length (c ∷ s) ≡ r.fresh - length (b ∷ c ∷ s) = omega arith in
    let m : r.room - 1 - length (c ∷ s) ≡ r.room - length (b ∷ c ∷ s) = omega arith in
    let q : nat_lt (length (c ∷ s)) (r.fresh - 1) ≡ nat_lt (length (b ∷ c ∷ s)) r.fresh = grind (arith, nat_tests) in
    ap (λ t. reading (of_step text t) (c ∷ s ++ more)) first
    ∙ data_run (text ++ b ∷ []) (given 1 r) (c ∷ s) more next (omega arith) k
    ∙ rw (f, m, q, append_assoc) refl

-- a byte of a piece, and then the rest
pub step_at : (s : Stream) (piece : List ℕ) (at : ℕ) → at < length piece → reading s (drop at piece) ≡ reading (one_byte s (get_or piece at 0)) (drop (at + 1) piece)
step_at s piece at h = ap (reading s) (drop_more piece at 0 h)

pub on_at : (text : List ℕ) (r next : Reading) (piece : List ℕ) (at : ℕ) → at < length piece → one_step r (get_or piece at 0) ≡ Next next → reading (Reads text r) (drop at piece) ≡ reading (Reads text next) (drop (at + 1) piece)
on_at text r next piece at h e = step_at (Reads text r) piece at h ∙ ap (λ t. reading (of_step text t) (drop (at + 1) piece)) e

pub refused_at : (text : List ℕ) (r : Reading) (f : WindowFault) (piece : List ℕ) (at : ℕ) → at < length piece → one_step r (get_or piece at 0) ≡ Refused f → reading (Reads text r) (drop at piece) ≡ Refuses text f
refused_at text r f piece at h e = step_at (Reads text r) piece at h ∙ ap (λ t. reading (of_step text t) (drop (at + 1) piece)) e ∙ reading-refused text f (drop (at + 1) piece)

-- a stretch at the beginning of a piece, and the rest
pub stretch_at : (text : List ℕ) (r : Reading) (piece : List ℕ) (k : ℕ) → r.place ≡ at.NewData → 0 < k → k ≤ length piece → (1 < k → k ≤ r.fresh) → reading (Reads text r) piece ≡ reading (Reads (text ++ take k piece) (given k r)) (drop k piece)
stretch_at text r piece k e some within h =
    let l : length (take k piece) ≡ k = omega (arith, length-take k piece) in
    let run = data_run text r (take k piece) (drop k piece) e (omega (arith, l)) (λ m. omega (arith, l, h (omega (arith, l)))) in
    ap (reading (Reads text r)) (sym (take-append-drop k piece)) ∙ run ∙ ap (λ n. reading (Reads (text ++ take k piece) (given n r)) (drop k piece)) l

-- ---- pieces of the text

-- a byte that is none of the text's, and then the rest
pub pieces_on : (r next : Reading) (piece : List ℕ) (at : ℕ) → at < length piece → one_step r (get_or piece at 0) ≡ Next next → pieces_in r (drop at piece) ≡ pieces_in next (drop (at + 1) piece)
pieces_on r next piece at h e = ap (pieces_in r) (drop_more piece at 0 h) ∙ ap (λ s. and_pieces s (λ z. pieces_in z (drop (at + 1) piece))) e

one_piece : (b : ℕ) (more : Bool) → in_front b more [] ≡ (b ∷ []) ∷ []
one_piece b true = refl
one_piece b false = refl

-- new data up to the end of its window, or of what has come
pub data_pieces : (r : Reading) (s more : List ℕ) → r.place ≡ at.NewData → 0 < length s → (1 < length s → length s ≤ r.fresh) → (0 < length more → r.fresh ≤ length s) → pieces_in r (s ++ more) ≡ s ∷ pieces_in (given (length s) r) more
data_pieces r [] more e some h k = absurd (omega (arith, some))
data_pieces r (b ∷ []) [] e some h k =
    let first : one_step r b ≡ Gives b (given 1 r) = rw e refl in
    ap (λ s. and_pieces s (λ z. [])) first ∙ one_piece b (has_more (given 1 r))
data_pieces r (b ∷ []) (c ∷ more) e some h k =
    let p : nat_lt 1 r.fresh ≡ false = lt_false 1 r.fresh (omega (arith, k (omega arith))) in
    let first : one_step r b ≡ Gives b (given 1 r) = rw e refl in
    let last : has_more (given 1 r) ≡ false = rw p refl in
    ap (λ s. and_pieces s (λ z. pieces_in z (c ∷ more))) first ∙ ap (λ x. in_front b x (pieces_in (given 1 r) (c ∷ more))) last
data_pieces r (b ∷ c ∷ s) more e some h k =
    let l = h (omega arith) in
    let p : nat_lt 1 r.fresh ≡ true = lt_true 1 r.fresh (omega (arith, l)) in
    let first : one_step r b ≡ Gives b (given 1 r) = rw e refl in
    let next : (given 1 r).place ≡ at.NewData = rw p refl in
    let goes : has_more (given 1 r) ≡ true = rw p refl in
    let f : r.fresh - 1 - length (c ∷ s) ≡ r.fresh - length (b ∷ c ∷ s) = omega arith in
    let m : r.room - 1 - length (c ∷ s) ≡ r.room - length (b ∷ c ∷ s) = omega arith in
    let q : nat_lt (length (c ∷ s)) (r.fresh - 1) ≡ nat_lt (length (b ∷ c ∷ s)) r.fresh = grind (arith, nat_tests) in
    let behind = data_pieces (given 1 r) (c ∷ s) more next (omega arith) (λ _. omega (arith, l)) (λ z. omega (arith, k z)) in
    let all : pieces_in r (b ∷ c ∷ s ++ more) ≡ in_front b true (pieces_in (given 1 r) (c ∷ s ++ more)) = ap (λ s'. and_pieces s' (λ z. pieces_in z (c ∷ s ++ more))) first ∙ ap (λ x. in_front b x (pieces_in (given 1 r) (c ∷ s ++ more))) goes in
    all ∙ ap (in_front b true) behind ∙ rw (f, m, q) refl

-- a stretch at the beginning of a piece, and the rest
pub stretch_pieces : (r : Reading) (piece : List ℕ) (k : ℕ) → r.place ≡ at.NewData → 0 < k → k ≤ length piece → (1 < k → k ≤ r.fresh) → (k < length piece → r.fresh ≤ k) → pieces_in r piece ≡ with_piece (take k piece) (pieces_in (given k r) (drop k piece))
stretch_pieces r piece k e some within h whole =
    let l : length (take k piece) ≡ k = omega (arith, length-take k piece) in
    let d : length (drop k piece) ≡ length piece - k = length-drop k piece in
    let run = data_pieces r (take k piece) (drop k piece) e (omega (arith, l)) (λ m. omega (arith, l, h (omega (arith, l)))) (λ z. omega (arith, l, whole (omega (arith, d, z)))) in
    ap (pieces_in r) (sym (take-append-drop k piece)) ∙ run ∙ ap (λ n. take k piece ∷ pieces_in (given n r) (drop k piece)) l ∙ sym (some_piece (take k piece) (pieces_in (given k r) (drop k piece)) (omega (arith, l)))
  where
    some_piece : (s : List ℕ) (ps : List (List ℕ)) → 0 < length s → with_piece s ps ≡ s ∷ ps
    some_piece [] ps h = absurd (omega (arith, h))
    some_piece (b ∷ s) ps h = refl

abbrev text_of : Stream → List ℕ
text_of (Reads text r) = text
text_of (Refuses text f) = text

abbrev next_of : Reading → Stream → Reading
next_of r (Reads text next) = next
next_of r (Refuses text f) = r

abbrev is_read : Stream → Bool
is_read (Reads text r) = true
is_read (Refuses text f) = false

not_read : {text now : List ℕ} {f : WindowFault} {r : Reading} → Refuses text f ≡ Reads now r → ⊥
not_read e =
    let b = ap is_read e in
    cc

-- bytes never take from a text
grows_by : (text : List ℕ) (s : Step) (bs now : List ℕ) (next : Reading) → ((longer : List ℕ) (r : Reading) → reading (Reads longer r) bs ≡ Reads now next → length longer ≤ length now) → reading (of_step text s) bs ≡ Reads now next → length text ≤ length now
grows_by text (Next r) bs now next behind e = behind text r e
grows_by text (Gives b r) bs now next behind e = omega (arith, behind (text ++ b ∷ []) r e, length-append text (b ∷ []))
grows_by text (Refused f) bs now next behind e = absurd (not_read (sym (reading-refused text f bs) ∙ e))

grows : (text : List ℕ) (r : Reading) (bs now : List ℕ) (next : Reading) → reading (Reads text r) bs ≡ Reads now next → length text ≤ length now
grows text r [] now next e = omega (arith, ap (λ s. length (text_of s)) e)
grows text r (b ∷ bs) now next e = grows_by text (one_step r b) bs now next (λ longer r'. grows longer r' bs now next) e

-- bytes that are none of the text's make no piece
no_pieces_by : (text : List ℕ) (s : Step) (next : Reading) (bs more : List ℕ) → ((r : Reading) → reading (Reads text r) bs ≡ Reads text next → pieces_in r (bs ++ more) ≡ pieces_in next more) → reading (of_step text s) bs ≡ Reads text next → and_pieces s (λ z. pieces_in z (bs ++ more)) ≡ pieces_in next more
no_pieces_by text (Next r) next bs more behind e = behind r e
no_pieces_by text (Gives b r) next bs more behind e = absurd (omega (arith, grows (text ++ b ∷ []) r bs text next e, length-append text (b ∷ [])))
no_pieces_by text (Refused f) next bs more behind e = absurd (not_read (sym (reading-refused text f bs) ∙ e))

pub no_pieces : (text : List ℕ) (r next : Reading) (bs more : List ℕ) → reading (Reads text r) bs ≡ Reads text next → pieces_in r (bs ++ more) ≡ pieces_in next more
no_pieces text r next [] more e = ap (λ x. pieces_in x more) (ap (next_of r) e)
no_pieces text r next (b ∷ bs) more e = no_pieces_by text (one_step r b) next bs more (λ z. no_pieces text z next bs more) e

-- a stretch that has a byte is one piece
pub piece_alone : (bs : List ℕ) → 0 < length bs → bs ∷ [] ≡ with_piece bs []
piece_alone [] h = absurd (omega (arith, h))
piece_alone (b ∷ bs) h = refl

-- a stretch behind pieces, and the pieces behind it
pub pieces_more : (before one : List (List ℕ)) (bs : List ℕ) (all behind : List (List ℕ)) → all ≡ with_piece bs behind → one ≡ with_piece bs [] → before ++ all ≡ (before ++ one) ++ behind
pieces_more before one [] all behind e f = rw (e, f) (sym (append_assoc before [] behind))
pieces_more before one (b ∷ bs) all behind e f = rw (e, f) (sym (append_assoc before ((b ∷ bs) ∷ []) behind))
