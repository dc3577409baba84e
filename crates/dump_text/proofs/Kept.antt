-- No more bytes are kept than came.
use Rattle.std.proofs.Common.{◌≡◌, ℕ, ◌==◌, ◌+◌, ◌≤◌, not, Bool, true, false, List, [], ◌∷◌, ◌++◌, length, nat_lt, Option, Some, None, Ok, Err, Result, refl, ap, length-append, arith}
use Rattle.std.specs.Bool.{if◌then◌else◌}
use Rattle.std.specs.Prelude.{OnErr}
use Rattle.node_base.specs.Props.{PropMap}
use Rattle.node_base.specs.Entries.{stored_bytes}
use Rattle.node_base.specs.BlockKept.{kept_bytes}
use Rattle.node_base.specs.Blocks.{Step, Next, Whole, Refused, block_step, begun, new_block}
use Rattle.node_base.specs.declared.limits.TheConstants.{TEXT_BYTES}
use Rattle.node_base.proofs.BlockKept.{begun_bytes, step_bytes, block_bytes}
use Rattle.dump_text.specs.Headers.{version_in}
use Rattle.dump_text.specs.Heads.{line_says}
use Rattle.dump_text.specs.Forms.{record_of, fits_form, lengths_agree, lengths_fit, is_delta, gives_delta, part_of, delta_of, stage_after}
use Rattle.dump_text.specs.declared.fault.DumpFault.{DumpFault}
use Rattle.dump_text.specs.declared.fault.DumpFault.TheVariants.{BadProps, Failed}
use Rattle.dump_text.specs.declared.form.Stage.{Stage}
use Rattle.dump_text.specs.declared.form.Stage.TheVariants.{First}
use Rattle.dump_text.specs.declared.state.Place.{Place}
use Rattle.dump_text.specs.declared.state.Place.TheVariants as at
use Rattle.dump_text.specs.declared.record.DumpRecord.{DumpRecord}
use Rattle.dump_text.specs.declared.record.PropPart.{PropPart}
use Rattle.dump_text.specs.declared.record.TextPart.TheVariants.{Whole as AsWhole, Delta as AsDelta}
use Rattle.dump_text.specs.declared.state.ReadState.{ReadState}
use Rattle.dump_text.specs.Streams.{Stream, StreamIs, has_failed, Reads, Refuses, reading, one_byte, stream_step, line_step, keep_byte, block_said, said, begin, spent, given, give, text_is, after_block, content, judged, line_is, versioned, sum_holds, path_bytes, part_bytes, given_bytes, kept, kept_of}
use Rattle.dump_text.proofs.HeadBytes.{line_bytes}

if_kept : (n : ℕ) (b : Bool) (s t : Stream) → kept_of s ≤ n → kept_of t ≤ n → kept_of (if b then s else t) ≤ n
if_kept n true s t x y = x
if_kept n false s t x y = y

-- nothing is kept where nothing of an element has come
begun_kept : (deltas : Bool) (version : ℕ) (place : Place) (stage : Stage) → kept (begin deltas version place stage) ≡ 0
begun_kept deltas version place stage = omega (arith, begun_bytes false 0)

pub spent_kept : (x : ReadState) (n : ℕ) → x ≡ spent → kept x ≤ n
spent_kept x n e = omega (arith, ap kept e, begun_kept false 0 at.Failed First)

given_kept : (rs : List DumpRecord) (r : ReadState) (rec : Option DumpRecord) (n : ℕ) → kept_of (given rs r rec) ≤ n
given_kept rs r None n = omega arith
given_kept rs r (Some rec) n = omega (arith, begun_kept r.head.deltas r.version at.Between (stage_after r.stage rec))

text_kept : (rs : List DumpRecord) (r : ReadState) (props : Option PropPart) (text : List ℕ) (n : ℕ) → kept_of (text_is rs r props text) ≤ n
text_kept rs r props text n =
    if_kept n (gives_delta r.head) _ _ (given_kept rs r (record_of r.head props (Some (AsDelta (delta_of r.head text)))) n)
    (if_kept n (sum_holds r.head.sum text) _ _ (if_kept n (nat_lt TEXT_BYTES (length text)) _ _ (omega arith) (given_kept rs r (record_of r.head props (Some (AsWhole text))) n)) (omega arith))

-- what is kept behind a block that gave this
abbrev behind : ReadState → Option PropPart → ℕ
behind r props = kept_bytes r.block + given_bytes props + path_bytes r.head.path + path_bytes r.head.source_path

after_block_kept : (rs : List DumpRecord) (r : ReadState) (props : Option PropPart) (n : ℕ) → behind r props ≤ n → kept_of (after_block rs r props) ≤ n
after_block_kept rs r props n h =
    elim r.head.text_len as (λ o. kept_of (elim o as (λ _. Stream) [ None ↦ give rs r props None | Some k ↦ if k == 0 then text_is rs r props [] else Reads rs (record r { place = at.Text k; props = props; held = [] }) ]) ≤ n) [
      | None ↦ given_kept rs r (record_of r.head props None) n
      | Some k ↦ if_kept n (k == 0) _ _ (text_kept rs r props [] n) (omega (arith, h))
    ]

content_kept : (rs : List DumpRecord) (r : ReadState) (n : ℕ) → kept r ≤ n → kept_of (content rs r) ≤ n
content_kept rs r n h =
    elim r.head.prop_len as (λ o. kept_of (elim o as (λ _. Stream) [ None ↦ after_block rs r None | Some k ↦ if k == 0 then Refuses rs BadProps else Reads rs (record r { place = at.Block; block = begun (is_delta r.head) k; held = [] }) ]) ≤ n) [
      | None ↦ after_block_kept rs r None n (omega (arith, h))
      | Some k ↦ if_kept n (k == 0) _ _ (omega arith) (omega (arith, h, begun_bytes (is_delta r.head) k))
    ]

judged_stream : (rs : List DumpRecord) (r : ReadState) (n : ℕ) → kept r ≤ n → kept_of (judged rs r) ≤ n
judged_stream rs r n h = if_kept n (not (fits_form r.version r.stage r.head)) _ _ (omega arith) (if_kept n (not (lengths_agree r.head)) _ _ (omega arith) (if_kept n (not (lengths_fit r.head)) _ _ (omega arith) (content_kept rs r n h)))

said_kept : (rs : List DumpRecord) (r : ReadState) (line : List ℕ) (n : ℕ) → kept r + length line ≤ n → kept_of (said rs r (line_says r.head line)) ≤ n
said_kept rs r line n k =
    elim (line_says r.head line) as (λ x. line_says r.head line ≡ x → kept_of (said rs r x) ≤ n) [
      | Ok h ↦ λ e. omega (arith, k, line_bytes r.head line h e)
      | Err f ↦ λ e. omega arith
    ] refl

versioned_kept : (rs : List DumpRecord) (r : ReadState) (v : Option ℕ) (n : ℕ) → kept r ≤ n → kept_of (versioned rs r v) ≤ n
versioned_kept rs r None n k = omega arith
versioned_kept rs r (Some v) n k = k

line_kept : (place : Place) (rs : List DumpRecord) (r : ReadState) (line : List ℕ) (n : ℕ) → kept r + length line ≤ n → kept_of (line_is place rs r line) ≤ n
line_kept at.Version rs r line n k = versioned_kept rs r (version_in line) n (omega (arith, k))
line_kept at.Blank rs r [] n k = omega (arith, k)
line_kept at.Blank rs r (b ∷ bs) n k = omega arith
line_kept at.Header rs r [] n k = judged_stream rs r n (omega (arith, k))
line_kept place rs r [] n k = omega (arith, k)
line_kept place rs r (b ∷ bs) n k = said_kept rs r (b ∷ bs) n k

byte_kept : (rs : List DumpRecord) (r : ReadState) (b : ℕ) → kept_of (keep_byte rs r b) ≤ kept r + 1
byte_kept rs r b = omega (arith, length-append r.held (b ∷ []))

line_step_kept : (place : Place) (rs : List DumpRecord) (r : ReadState) (b : ℕ) → kept_of (line_step place rs r b) ≤ kept r + 1
line_step_kept place rs r b = if_kept (kept r + 1) (b == 10) _ _ (line_kept place rs (record r { held = [] }) r.held (kept r + 1) (omega arith)) (if_kept (kept r + 1) (nat_lt (length r.held) 4096) _ _ (byte_kept rs r b) (omega arith))

given_part : (delta : Bool) (props removed : PropMap) → part_bytes (part_of delta props removed) ≤ stored_bytes props + stored_bytes removed
given_part true props removed = omega arith
given_part false props removed = omega arith

block_said_kept : (rs : List DumpRecord) (r : ReadState) (s : Step) → step_bytes s ≤ kept_bytes r.block + 1 → kept_of (block_said rs r s) ≤ kept r + 1
block_said_kept rs r (Next block) h = omega (arith, h)
block_said_kept rs r (Whole props removed) h = after_block_kept rs (record r { block = new_block 0 }) (Some (part_of (is_delta r.head) props removed)) (kept r + 1) (omega (arith, h, begun_bytes false 0, given_part (is_delta r.head) props removed))
block_said_kept rs r (Refused f) h = omega arith

step_keeps : (place : Place) (rs : List DumpRecord) (r : ReadState) (b : ℕ) → kept_of (stream_step place rs r b) ≤ kept r + 1
step_keeps at.Block rs r b = block_said_kept rs r (block_step r.block b) (block_bytes r.block b)
step_keeps (at.Text n) rs r b = if_kept (kept r + 1) (nat_lt (length r.held + 1) n) _ _ (byte_kept rs r b) (text_kept rs r r.props (r.held ++ b ∷ []) (kept r + 1))
step_keeps at.Failed rs r b = omega arith
step_keeps place rs r b = line_step_kept place rs r b

one_keeps : (s : Stream) (b : ℕ) → kept_of (one_byte s b) ≤ kept_of s + 1
one_keeps (Reads rs r) b = step_keeps r.place rs r b
one_keeps (Refuses rs f) b = omega arith

pub keeps : (s : Stream) (bs : List ℕ) → kept_of (reading s bs) ≤ kept_of s + length bs
keeps s [] = omega arith
keeps s (b ∷ bs) = omega (arith, one_keeps s b, keeps (one_byte s b) bs)

-- what a call that took a piece keeps
pub feed_kept : (x : Result (Unit {0}) DumpFault) (out more : List DumpRecord) (r new : ReadState) (piece : List ℕ) → (has_failed r ≡ false → StreamIs x new more (reading (Reads out r) piece)) → (has_failed r ≡ true → x ≡ Err Failed) → OnErr x (new ≡ spent) → kept new ≤ kept r + length piece
feed_kept (Ok u) out more r new piece reads failed later =
    elim (has_failed r) as (λ b. has_failed r ≡ b → kept new ≤ kept r + length piece) [
      | true ↦ λ is. absurd (never (failed is))
      | false ↦ λ is. omega (arith, keeps (Reads out r) piece, ap kept_of (reads is))
    ] refl
  where
    never : ◌≡◌ {A = Result (Unit {0}) DumpFault} (Ok u) (Err Failed) → ⊥
    never e = cc
feed_kept (Err f) out more r new piece reads failed later = spent_kept new (kept r + length piece) later
