-- Runs over a stream.
use Rattle.std.proofs.Common.{◌≡◌, ℕ, zero, suc, ◌+◌, ◌≤◌, ◌<◌, ◌==◌, Bool, true, false, List, [], ◌∷◌, ◌++◌, length, take, drop, get_or, Err, nat_lt, subst, Option, refl, sym, ap, ◌∙◌, append_assoc, append-nil, length-append, arith}
use Rattle.std.proofs.lemmas.List.{drop_more, take_more, length-take, take-append-drop, take-take, get_or-take}
use Rattle.std.proofs.lemmas.Bool.Decides.{nat_tests}
use Rattle.dump_text.specs.declared.fault.DumpFault.{DumpFault}
use Rattle.dump_text.specs.declared.fault.DumpFault.TheVariants.{OutOfMemory, TooLong, Failed}
use Rattle.dump_text.specs.declared.head.Head.{Head}
use Rattle.node_base.specs.declared.block.BlockReader.{BlockReader}
use Rattle.dump_text.specs.declared.state.Place.{Place}
use Rattle.dump_text.specs.declared.state.Place.TheVariants as at
use Rattle.dump_text.specs.declared.record.DumpRecord.{DumpRecord}
use Rattle.dump_text.specs.declared.record.PropPart.{PropPart}
use Rattle.dump_text.specs.declared.state.ReadState.{ReadState}
use Rattle.node_base.specs.Blocks.{Next, Whole, Refused, block_step, run_block, after, of_step, Run, BlockIs}
use Rattle.node_base.specs.declared.prop_fault.PropFault.{PropFault}
use Rattle.node_base.specs.declared.prop_fault.PropFault.TheVariants as prop_fault
use Rattle.dump_text.specs.declared.form.Stage.{Stage}
use Rattle.dump_text.specs.Streams.{Stream, Reads, Refuses, reading, one_byte, stream_step, line_step, block_said, of_prop_fault, of_block, is_line_place, text_is, line_is, NoLf, StreamIs, GoesOn}
use Rattle.node_base.proofs.BlockRuns.{after-refused, after-whole}

-- pieces don't matter
pub reading-append : (s : Stream) (a b : List ℕ) → reading s (a ++ b) ≡ reading (reading s a) b
reading-append s [] b = refl
reading-append s (x ∷ a) b = reading-append (one_byte s x) a b

-- a refusal stays
pub reading-refused : (rs : List DumpRecord) (f : DumpFault) (bs : List ℕ) → reading (Refuses rs f) bs ≡ Refuses rs f
reading-refused rs f [] = refl
reading-refused rs f (b ∷ bs) = reading-refused rs f bs

lt_true : (a b : ℕ) → a < b → nat_lt a b ≡ true
lt_true a b h = grind (arith, nat_tests)

lt_false : (a b : ℕ) → b ≤ a → nat_lt a b ≡ false
lt_false a b h = grind (arith, nat_tests)

abbrev pub reader : ℕ → Place → Stage → Head → BlockReader → Option PropPart → List ℕ → ReadState
reader version place stage head block props held = record { version = version; place = place; stage = stage; head = head; block = block; props = props; held = held }

-- a block's bytes are the block's own run
pub in_block : (rs : List DumpRecord) (v : ℕ) (i : Stage) (h : Head) (block : BlockReader) (ps : Option PropPart) (held bytes : List ℕ) → reading (Reads rs (reader v at.Block i h block ps held)) bytes ≡ of_block rs (reader v at.Block i h block ps held) (run_block block bytes)
in_block rs v i h block ps held [] = refl
in_block rs v i h block ps held (b ∷ bs) =
    elim (block_step block b) as (λ s. reading (block_said rs (reader v at.Block i h block ps held) s) bs ≡ of_block rs (reader v at.Block i h block ps held) (after (of_step s) bs)) [
      | Next next ↦ in_block rs v i h next ps held bs
      | Whole props removed ↦ sym (ap (of_block rs (reader v at.Block i h block ps held)) (after-whole props removed [] bs))
      | Refused f ↦ reading-refused rs (of_prop_fault f) bs ∙ sym (ap (of_block rs (reader v at.Block i h block ps held)) (after-refused f bs))
    ]

-- the bytes of a text, but its last, are kept
pub in_text : (rs : List DumpRecord) (n : ℕ) (v : ℕ) (i : Stage) (h : Head) (block : BlockReader) (ps : Option PropPart) (held s more : List ℕ) → (0 < length s → length held + length s < n) → reading (Reads rs (reader v (at.Text n) i h block ps held)) (s ++ more) ≡ reading (Reads rs (reader v (at.Text n) i h block ps (held ++ s))) more
in_text rs n v i h block ps held [] more lt = rw append-nil refl
in_text rs n v i h block ps held (b ∷ s) more lt =
    let l = lt (omega arith) in
    let e : stream_step (at.Text n) rs (reader v (at.Text n) i h block ps held) b ≡ Reads rs (reader v (at.Text n) i h block ps (held ++ b ∷ [])) = rw (lt_true (length held + 1) n (omega arith)) refl in
    ap (λ t. reading t (s ++ more)) e ∙ in_text rs n v i h block ps (held ++ b ∷ []) s more (λ q. omega (arith, l, length-append held (b ∷ []))) ∙ rw append_assoc refl

-- the last byte of a text
pub text_ends : (rs : List DumpRecord) (n : ℕ) (v : ℕ) (i : Stage) (h : Head) (block : BlockReader) (ps : Option PropPart) (held s : List ℕ) (b : ℕ) (more : List ℕ) → (0 < length s → length held + length s < n) → n ≤ length held + length s + 1 → reading (Reads rs (reader v (at.Text n) i h block ps held)) (s ++ b ∷ more) ≡ reading (text_is rs (reader v (at.Text n) i h block ps (held ++ s)) ps ((held ++ s) ++ b ∷ [])) more
text_ends rs n v i h block ps held s b more lt e =
    in_text rs n v i h block ps held s (b ∷ more) lt
    ∙ ap (λ t. reading t more) (rw (lt_false (length (held ++ s) + 1) n (omega (arith, length-append held s))) refl)

-- bytes of a line
line_byte : (place : Place) (rs : List DumpRecord) (r : ReadState) (b : ℕ) → is_line_place place ≡ true → stream_step place rs r b ≡ line_step place rs r b
line_byte at.Version rs r b e = refl
line_byte at.Blank rs r b e = refl
line_byte at.Between rs r b e = refl
line_byte at.Header rs r b e = refl
line_byte at.Block rs r b e = cc
line_byte (at.Text n) rs r b e = cc
line_byte at.Failed rs r b e = cc

pub in_line : (place : Place) → is_line_place place ≡ true → (rs : List DumpRecord) (v : ℕ) (i : Stage) (h : Head) (block : BlockReader) (ps : Option PropPart) (held s more : List ℕ) → NoLf s → (0 < length s → length held + length s ≤ 4096) → reading (Reads rs (reader v place i h block ps held)) (s ++ more) ≡ reading (Reads rs (reader v place i h block ps (held ++ s))) more
in_line place p rs v i h block ps held [] more lone le = rw append-nil refl
in_line place p rs v i h block ps held (b ∷ s) more lone le =
    let l = le (omega arith) in
    let t : nat_lt (length held) 4096 ≡ true = lt_true _ _ (omega arith) in
    ap (λ t. reading t (s ++ more)) (rw (line_byte place rs (reader v place i h block ps held) b p, lone.0, t) refl)
    ∙ in_line place p rs v i h block ps (held ++ b ∷ []) s more lone.1 (λ q. omega (arith, l, length-append held (b ∷ [])))
    ∙ rw append_assoc refl

-- the line's LF
pub line_ends : (place : Place) → is_line_place place ≡ true → (rs : List DumpRecord) (v : ℕ) (i : Stage) (h : Head) (block : BlockReader) (ps : Option PropPart) (held s more : List ℕ) → NoLf s → (0 < length s → length held + length s ≤ 4096) → reading (Reads rs (reader v place i h block ps held)) (s ++ 10 ∷ more) ≡ reading (line_is place rs (reader v place i h block ps []) (held ++ s)) more
line_ends place p rs v i h block ps held s more lone le =
    in_line place p rs v i h block ps held s (10 ∷ more) lone le
    ∙ ap (λ t. reading t more) (line_byte place rs (reader v place i h block ps (held ++ s)) 10 p)

-- a byte past the limit
pub line_past : (place : Place) → is_line_place place ≡ true → (rs : List DumpRecord) (v : ℕ) (i : Stage) (h : Head) (block : BlockReader) (ps : Option PropPart) (held s : List ℕ) (b : ℕ) (more : List ℕ) → NoLf s → (b == 10) ≡ false → (0 < length s → length held + length s ≤ 4096) → 4096 ≤ length held + length s → reading (Reads rs (reader v place i h block ps held)) (s ++ b ∷ more) ≡ Refuses rs TooLong
line_past place p rs v i h block ps held s b more lone e le ge =
    let f : nat_lt (length (held ++ s)) 4096 ≡ false = lt_false _ _ (omega (arith, length-append held s)) in
    in_line place p rs v i h block ps held s (b ∷ more) lone le
    ∙ ap (λ t. reading t more) (rw (line_byte place rs (reader v place i h block ps (held ++ s)) b p, e, f) refl)
    ∙ reading-refused rs TooLong more

-- a piece is its bytes before one, that byte, and those behind it
pub parts : (piece : List ℕ) (k : ℕ) → k < length piece → take k piece ++ get_or piece k 0 ∷ drop (k + 1) piece ≡ piece
parts piece k h = rw (← drop_more piece k 0 h) (take-append-drop k piece)

-- bytes up to one, and that one
pub last_taken : (held piece : List ℕ) (k : ℕ) → k < length piece → held ++ take (k + 1) piece ≡ (held ++ take k piece) ++ get_or piece k 0 ∷ []
last_taken held piece k h = ap (λ x. held ++ x) (take_more piece k 0 h) ∙ sym (append_assoc held (take k piece) (get_or piece k 0 ∷ []))

pub text_kept : (rs : List DumpRecord) (r : ReadState) (n : ℕ) (piece : List ℕ) → r.place ≡ at.Text n → (0 < length piece → length r.held + length piece < n) → reading (Reads rs r) piece ≡ Reads rs (record r { held = r.held ++ piece })
text_kept rs r n piece e lt =
    subst (λ p. reading (Reads rs (reader r.version p r.stage r.head r.block r.props r.held)) piece ≡ Reads rs (reader r.version p r.stage r.head r.block r.props (r.held ++ piece))) (sym e)
    (rw append-nil at (in_text rs n r.version r.stage r.head r.block r.props r.held piece [] lt))

pub text_whole : (rs : List DumpRecord) (r : ReadState) (n k : ℕ) (piece : List ℕ) → r.place ≡ at.Text n → k < length piece → (0 < k → length r.held + k < n) → n ≤ length r.held + k + 1 → reading (Reads rs r) piece ≡ reading (text_is rs r r.props ((r.held ++ take k piece) ++ get_or piece k 0 ∷ [])) (drop (k + 1) piece)
text_whole rs r n k piece e lt below ge =
    let l : length (take k piece) ≡ k = omega (arith, length-take k piece) in
    subst (λ p. reading (Reads rs (reader r.version p r.stage r.head r.block r.props r.held)) piece ≡ reading (text_is rs (reader r.version p r.stage r.head r.block r.props r.held) r.props ((r.held ++ take k piece) ++ get_or piece k 0 ∷ [])) (drop (k + 1) piece)) (sym e)
    (rw (parts piece k lt) at (text_ends rs n r.version r.stage r.head r.block r.props r.held (take k piece) (get_or piece k 0) (drop (k + 1) piece) (λ q. omega (arith, l, below)) (omega arith)))

pub line_kept : (rs : List DumpRecord) (r : ReadState) (piece : List ℕ) → is_line_place r.place ≡ true → NoLf piece → (0 < length piece → length r.held + length piece ≤ 4096) → reading (Reads rs r) piece ≡ Reads rs (record r { held = r.held ++ piece })
line_kept rs r piece e lone le = rw append-nil at (in_line r.place e rs r.version r.stage r.head r.block r.props r.held piece [] lone le)

pub line_whole : (rs : List DumpRecord) (r : ReadState) (k : ℕ) (piece : List ℕ) → is_line_place r.place ≡ true → k < length piece → NoLf (take k piece) → get_or piece k 0 ≡ 10 → (0 < k → length r.held + k ≤ 4096) → reading (Reads rs r) piece ≡ reading (line_is r.place rs (record r { held = [] }) (r.held ++ take k piece)) (drop (k + 1) piece)
line_whole rs r k piece e lt lone lf le =
    let l : length (take k piece) ≡ k = omega (arith, length-take k piece) in
    rw (← lf, parts piece k lt) at (line_ends r.place e rs r.version r.stage r.head r.block r.props r.held (take k piece) (drop (k + 1) piece) lone (λ q. omega (arith, l, le)))

pub lone_take : (k : ℕ) (s : List ℕ) → NoLf s → NoLf (take k s)
lone_take zero s h = tt
lone_take (suc k) [] h = tt
lone_take (suc k) (b ∷ s) h = (h.0, lone_take k s h.1)

lone_at : (k : ℕ) (s : List ℕ) → NoLf s → k < length s → (get_or s k 0 == 10) ≡ false
lone_at zero [] h l = absurd (omega arith)
lone_at (suc k) [] h l = absurd (omega arith)
lone_at zero (b ∷ s) h l = h.0
lone_at (suc k) (b ∷ s) h l = lone_at k s h.1 (omega arith)

pub lone_push : (s : List ℕ) (b : ℕ) → NoLf s → (b == 10) ≡ false → NoLf (s ++ b ∷ [])
lone_push [] b h e = (e, tt)
lone_push (a ∷ s) b h e = (h.0, lone_push s b h.1 e)

-- bytes before which none is an LF
pub lone_before : (k : ℕ) (s : List ℕ) → ((j : ℕ) → j < k → (get_or s j 0 == 10) ≡ true → ⊥) → NoLf (take k s)
lone_before zero s h = tt
lone_before (suc k) [] h = tt
lone_before (suc k) (b ∷ s) h = (false_of (b == 10) (h 0 (omega arith)), lone_before k s (λ j l. h (suc j) (omega arith)))
  where
    false_of : (t : Bool) → (t ≡ true → ⊥) → t ≡ false
    false_of true never = absurd (never refl)
    false_of false never = refl

pub not_lf : (b : ℕ) → (b ≡ 10 → ⊥) → (b == 10) ≡ false
not_lf b h = grind (arith, nat_tests)

-- more bytes without an LF than there is room for
pub line_too_long : (rs : List DumpRecord) (r : ReadState) (room k : ℕ) (piece : List ℕ) → is_line_place r.place ≡ true → k ≤ length piece → NoLf (take k piece) → room < k → (0 < room → length r.held + room ≤ 4096) → 4096 ≤ length r.held + room → reading (Reads rs r) piece ≡ Refuses rs TooLong
line_too_long rs r room k piece e within lone lt le ge =
    let l : length (take room piece) ≡ room = omega (arith, length-take room piece) in
    let m : length (take k piece) ≡ k = omega (arith, length-take k piece) in
    let t : take room (take k piece) ≡ take room piece = take-take room k piece (omega arith) in
    let g : get_or (take k piece) room 0 ≡ get_or piece room 0 = get_or-take k piece room 0 lt in
    rw (parts piece room (omega arith)) at (line_past r.place e rs r.version r.stage r.head r.block r.props r.held (take room piece) (get_or piece room 0) (drop (room + 1) piece) (rw t at (lone_take room (take k piece) lone)) (rw g at (lone_at room (take k piece) lone (omega arith))) (λ q. omega (arith, l, le)) (omega (arith, l)))

-- what a call refused is refused here
pub refused_so : (f : DumpFault) (new : ReadState) (out : List DumpRecord) (bytes more : List ℕ) (s t : Stream) → s ≡ reading t more → StreamIs (Err f) new out t → GoesOn (Err f) new out bytes s
refused_so OutOfMemory new out bytes more s t e h = tt
refused_so f new out bytes more s t e h = e ∙ ap (λ t. reading t more) h ∙ reading-refused out f more

pub block_piece : (rs : List DumpRecord) (r : ReadState) (piece : List ℕ) → r.place ≡ at.Block → reading (Reads rs r) piece ≡ of_block rs r (run_block r.block piece)
block_piece rs r piece e =
    subst (λ p. reading (Reads rs (reader r.version p r.stage r.head r.block r.props r.held)) piece ≡ of_block rs (reader r.version p r.stage r.head r.block r.props r.held) (run_block r.block piece)) (sym e)
    (in_block rs r.version r.stage r.head r.block r.props r.held piece)

-- what a block refused is refused here
pub block_refused : (f : PropFault) (block : BlockReader) (new : ReadState) (out : List DumpRecord) (r : ReadState) (bytes : List ℕ) (s : Stream) (run : Run) → s ≡ of_block out r run → BlockIs (Err f) block bytes run → GoesOn (Err (of_prop_fault f)) new out bytes s
block_refused prop_fault.OutOfMemory block new out r bytes s run e h = tt
block_refused f block new out r bytes s run e h = e ∙ ap (of_block out r) h

pub failed_at : (rs : List DumpRecord) (r : ReadState) (piece : List ℕ) → r.place ≡ at.Failed → 0 < length piece → reading (Reads rs r) piece ≡ Refuses rs Failed
failed_at rs r [] e h = absurd (omega arith)
failed_at rs r (b ∷ bs) e h = ap (λ p. reading (stream_step p rs r b) bs) e ∙ reading-refused rs Failed bs
