-- Records stay.
use Rattle.std.proofs.Common.{◌≡◌, ℕ, ◌==◌, ◌+◌, not, Bool, true, false, List, [], ◌∷◌, ◌++◌, length, nat_lt, Option, Some, None, Ok, Err, Result, refl, sym, ap, ◌∙◌, append_assoc, append-nil}
use Rattle.std.specs.Bool.{if◌then◌else◌}
use Rattle.node_base.specs.Blocks.{Step, block_step, begun, new_block, Next, Whole, Refused}
use Rattle.node_base.specs.declared.limits.TheConstants.{TEXT_BYTES}
use Rattle.dump_text.specs.Headers.{version_in}
use Rattle.dump_text.specs.Heads.{line_says}
use Rattle.dump_text.specs.Forms.{record_of, fits_form, lengths_agree, lengths_fit, is_delta, gives_delta, part_of, delta_of}
use Rattle.dump_text.specs.declared.fault.DumpFault.{DumpFault}
use Rattle.dump_text.specs.declared.fault.DumpFault.TheVariants.{BadProps}
use Rattle.dump_text.specs.declared.head.Head.{Head}
use Rattle.dump_text.specs.declared.state.Place.{Place}
use Rattle.dump_text.specs.declared.state.Place.TheVariants as at
use Rattle.dump_text.specs.declared.record.DumpRecord.{DumpRecord}
use Rattle.dump_text.specs.declared.record.PropPart.{PropPart}
use Rattle.dump_text.specs.declared.record.TextPart.{TextPart}
use Rattle.dump_text.specs.declared.record.TextPart.TheVariants.{Whole as AsWhole, Delta as AsDelta}
use Rattle.dump_text.specs.declared.state.ReadState.{ReadState}
use Rattle.dump_text.specs.Streams.{Stream, Reads, Refuses, reading, one_byte, stream_step, line_step, block_said, said, given, give, text_is, after_block, content, judged, line_is, records_of, IsFront, versioned, sum_holds}

here : (rs : List DumpRecord) → (more : List DumpRecord) × (rs ≡ rs ++ more)
here rs = ([], sym (append-nil rs))

if_front : (rs : List DumpRecord) (b : Bool) (s t : Stream) → IsFront rs s → IsFront rs t → IsFront rs (if b then s else t)
if_front rs true s t x y = x
if_front rs false s t x y = y

given_front : (rs : List DumpRecord) (r : ReadState) (rec : Option DumpRecord) → IsFront rs (given rs r rec)
given_front rs r None = here rs
given_front rs r (Some rec) = (rec ∷ [], refl)

give_front : (rs : List DumpRecord) (r : ReadState) (props : Option PropPart) (text : Option TextPart) → IsFront rs (give rs r props text)
give_front rs r props text = given_front rs r (record_of r.head props text)

text_front : (rs : List DumpRecord) (r : ReadState) (props : Option PropPart) (text : List ℕ) → IsFront rs (text_is rs r props text)
text_front rs r props text =
    if_front rs (gives_delta r.head) _ _ (give_front rs r props (Some (AsDelta (delta_of r.head text))))
    (if_front rs (sum_holds r.head.sum text) _ _ (if_front rs (nat_lt TEXT_BYTES (length text)) _ _ (here rs) (give_front rs r props (Some (AsWhole text)))) (here rs))

after_block_front : (rs : List DumpRecord) (r : ReadState) (props : Option PropPart) → IsFront rs (after_block rs r props)
after_block_front rs r props =
    elim r.head.text_len as (λ o. IsFront rs (elim o as (λ _. Stream) [ None ↦ give rs r props None | Some n ↦ if n == 0 then text_is rs r props [] else Reads rs (record r { place = at.Text n; props = props; held = [] }) ])) [
      | None ↦ give_front rs r props None
      | Some n ↦ if_front rs (n == 0) _ _ (text_front rs r props []) (here rs)
    ]

content_front : (rs : List DumpRecord) (r : ReadState) → IsFront rs (content rs r)
content_front rs r =
    elim r.head.prop_len as (λ o. IsFront rs (elim o as (λ _. Stream) [ None ↦ after_block rs r None | Some n ↦ if n == 0 then Refuses rs BadProps else Reads rs (record r { place = at.Block; block = begun (is_delta r.head) n; held = [] }) ])) [
      | None ↦ after_block_front rs r None
      | Some n ↦ if_front rs (n == 0) _ _ (here rs) (here rs)
    ]

judged_front : (rs : List DumpRecord) (r : ReadState) → IsFront rs (judged rs r)
judged_front rs r = if_front rs (not (fits_form r.version r.stage r.head)) _ _ (here rs) (if_front rs (not (lengths_agree r.head)) _ _ (here rs) (if_front rs (not (lengths_fit r.head)) _ _ (here rs) (content_front rs r)))

said_front : (rs : List DumpRecord) (r : ReadState) (what : Result Head DumpFault) → IsFront rs (said rs r what)
said_front rs r (Ok h) = here rs
said_front rs r (Err f) = here rs

versioned_front : (rs : List DumpRecord) (r : ReadState) (v : Option ℕ) → IsFront rs (versioned rs r v)
versioned_front rs r None = here rs
versioned_front rs r (Some v) = here rs

line_front : (place : Place) (rs : List DumpRecord) (r : ReadState) (line : List ℕ) → IsFront rs (line_is place rs r line)
line_front at.Version rs r line = versioned_front rs r (version_in line)
line_front at.Blank rs r [] = here rs
line_front at.Blank rs r (b ∷ bs) = here rs
line_front at.Header rs r [] = judged_front rs r
line_front place rs r [] = here rs
line_front place rs r (b ∷ bs) = said_front rs r (line_says r.head (b ∷ bs))

line_step_front : (place : Place) (rs : List DumpRecord) (r : ReadState) (b : ℕ) → IsFront rs (line_step place rs r b)
line_step_front place rs r b = if_front rs (b == 10) _ _ (line_front place rs (record r { held = [] }) r.held) (if_front rs (nat_lt (length r.held) 4096) _ _ (here rs) (here rs))

block_front : (rs : List DumpRecord) (r : ReadState) (s : Step) → IsFront rs (block_said rs r s)
block_front rs r (Next block) = here rs
block_front rs r (Whole props removed) = after_block_front rs (record r { block = new_block 0 }) (Some (part_of (is_delta r.head) props removed))
block_front rs r (Refused f) = here rs

step_front : (place : Place) (rs : List DumpRecord) (r : ReadState) (b : ℕ) → IsFront rs (stream_step place rs r b)
step_front at.Block rs r b = block_front rs r (block_step r.block b)
step_front (at.Text n) rs r b = if_front rs (nat_lt (length r.held + 1) n) _ _ (here rs) (text_front rs r r.props (r.held ++ b ∷ []))
step_front at.Failed rs r b = here rs
step_front place rs r b = line_step_front place rs r b

one_front : (s : Stream) (b : ℕ) → IsFront (records_of s) (one_byte s b)
one_front (Reads rs r) b = step_front r.place rs r b
one_front (Refuses rs f) b = here rs

pub grows : (s : Stream) (bs : List ℕ) → IsFront (records_of s) (reading s bs)
grows s [] = here (records_of s)
grows s (b ∷ bs) =
    let a = one_front s b in
    let c = grows (one_byte s b) bs in
    (a.0 ++ c.0, c.1 ∙ ap (λ x. x ++ c.0) a.1 ∙ append_assoc (records_of s) a.0 c.0)
