-- The stream of records, byte by byte.
use Rattle.std.specs.Prelude.{◌≡◌, ℕ, ◌+◌, ◌==◌, not, nat_lt, Bool, true, false, List, [], ◌∷◌, ◌++◌, length, drop, Option, Some, None, Result, Ok, Err, if◌then◌else◌}
use Rattle.md5.specs.Md5.{md5}
use Rattle.node_base.specs.Path.{Path}
use Rattle.node_base.specs.PathText.{path_text}
use Rattle.node_base.specs.Entries.{stored_bytes}
use Rattle.node_base.specs.BlockKept.{kept_bytes}
use Rattle.node_base.specs.Blocks.{Step, Next, Whole, Refused, block_step, begun, new_block, Run, More, Done, Fault}
use Rattle.node_base.specs.declared.prop_fault.PropFault.{PropFault}
use Rattle.node_base.specs.declared.prop_fault.PropFault.TheVariants as prop_fault
use Rattle.node_base.specs.declared.text_fault.TextFault.{TextFault}
use Rattle.node_base.specs.declared.text_fault.TextFault.TheVariants as text_fault
use Rattle.node_base.specs.declared.limits.TheConstants.{LINE_BYTES, TEXT_BYTES}
use Rattle.dump_text.specs.Headers.{same, version_in}
use Rattle.dump_text.specs.Heads.{line_says, no_head}
use Rattle.dump_text.specs.Forms.{fits_form, lengths_agree, lengths_fit, is_delta, gives_delta, part_of, delta_of, record_of, stage_after}
use Rattle.dump_text.specs.declared.fault.DumpFault.{DumpFault}
use Rattle.dump_text.specs.declared.fault.DumpFault.TheVariants.{BadVersion, BadHeader, BadLength, BadProps, BadSum, TooLong, Failed, OutOfMemory}
use Rattle.dump_text.specs.declared.head.Head.{Head}
use Rattle.dump_text.specs.declared.form.Stage.{Stage}
use Rattle.dump_text.specs.declared.form.Stage.TheVariants.{First}
use Rattle.dump_text.specs.declared.record.DumpRecord.{DumpRecord}
use Rattle.dump_text.specs.declared.record.PropPart.{PropPart}
use Rattle.dump_text.specs.declared.record.PropPart.TheVariants as part
use Rattle.dump_text.specs.declared.record.TextPart.{TextPart}
use Rattle.dump_text.specs.declared.record.TextPart.TheVariants.{Whole as AsWhole, Delta as AsDelta}
use Rattle.dump_text.specs.declared.state.Place.{Place}
use Rattle.dump_text.specs.declared.state.Place.TheVariants as at
use Rattle.dump_text.specs.declared.state.ReadState.{ReadState}

-- the records that are whole, and what has come of the next; or the records before the first refused byte, and its refusal
pub data Stream : Type 0 where
  Reads : List DumpRecord → ReadState → Stream
  Refuses : List DumpRecord → DumpFault → Stream

-- nothing of an element has come, where texts may or may not be given as deltas
abbrev pub begin : Bool → ℕ → Place → Stage → ReadState
begin deltas version place stage = record { version = version; place = place; stage = stage; head = no_head deltas; block = new_block 0; props = None; held = [] }

-- before the first byte
abbrev pub fresh_by : Bool → ReadState
fresh_by deltas = begin deltas 0 at.Version First

-- of a reader that takes no deltas of texts
abbrev pub fresh : ReadState
fresh = fresh_by false

-- behind the version block of format 2
abbrev pub behind_version : ReadState
behind_version = begin false 2 at.Between First

-- a record is whole
abbrev pub given : List DumpRecord → ReadState → Option DumpRecord → Stream
given rs r None = Refuses rs BadHeader
given rs r (Some rec) = Reads (rs ++ rec ∷ []) (begin r.head.deltas r.version at.Between (stage_after r.stage rec))

abbrev pub give : List DumpRecord → ReadState → Option PropPart → Option TextPart → Stream
give rs r props text = given rs r (record_of r.head props text)

abbrev pub sum_holds : Option (List ℕ) → List ℕ → Bool
sum_holds None text = true
sum_holds (Some sum) text = same (md5 text) sum

-- a whole text is within its limit, as one that was announced is
abbrev pub made : List DumpRecord → ReadState → Option PropPart → List ℕ → Stream
made rs r props text = if nat_lt TEXT_BYTES (length text) then Refuses rs TooLong else give rs r props (Some (AsWhole text))

-- a whole text has its sum, where one is announced
abbrev pub whole_text : List DumpRecord → ReadState → Option PropPart → List ℕ → Stream
whole_text rs r props text = if sum_holds r.head.sum text then made rs r props text else Refuses rs BadSum

-- all bytes of a text have come; of a delta they are handed out, with the head's sums
abbrev pub text_is : List DumpRecord → ReadState → Option PropPart → List ℕ → Stream
text_is rs r props text = if gives_delta r.head then give rs r props (Some (AsDelta (delta_of r.head text))) else whole_text rs r props text

-- the block, if any, is whole
abbrev pub after_block : List DumpRecord → ReadState → Option PropPart → Stream
after_block rs r props =
    elim r.head.text_len [
      | None ↦ give rs r props None
      | Some n ↦ if n == 0 then text_is rs r props [] else Reads rs (record r { place = at.Text n; props = props; held = [] })
    ]

-- the head is whole and fine
abbrev pub content : List DumpRecord → ReadState → Stream
content rs r =
    elim r.head.prop_len [
      | None ↦ after_block rs r None
      | Some n ↦ if n == 0 then Refuses rs BadProps else Reads rs (record r { place = at.Block; block = begun (is_delta r.head) n; held = [] })
    ]

-- the empty line: the form, then the lengths' sum, then their limits
abbrev pub judged : List DumpRecord → ReadState → Stream
judged rs r =
    if not (fits_form r.version r.stage r.head) then Refuses rs BadHeader
    else if not (lengths_agree r.head) then Refuses rs BadLength
    else if not (lengths_fit r.head) then Refuses rs TooLong
    else content rs r

-- the first line
abbrev pub versioned : List DumpRecord → ReadState → Option ℕ → Stream
versioned rs r None = Refuses rs BadVersion
versioned rs r (Some version) = Reads rs (record r { version = version; place = at.Blank })

-- a header line
abbrev pub said : List DumpRecord → ReadState → Result Head DumpFault → Stream
said rs r (Ok h) = Reads rs (record r { place = at.Header; head = h })
said rs r (Err f) = Refuses rs f

-- a line, without its LF
abbrev pub line_is : Place → List DumpRecord → ReadState → List ℕ → Stream
line_is at.Version rs r line = versioned rs r (version_in line)
line_is at.Blank rs r [] = Reads rs (record r { place = at.Between })
line_is at.Blank rs r (b ∷ bs) = Refuses rs BadHeader
line_is at.Header rs r [] = judged rs r
line_is place rs r [] = Reads rs r
line_is place rs r (b ∷ bs) = said rs r (line_says r.head (b ∷ bs))

abbrev pub keep_byte : List DumpRecord → ReadState → ℕ → Stream
keep_byte rs r b = Reads rs (record r { held = r.held ++ b ∷ [] })

-- an LF ends a line, which has at most 4,096 bytes before it
abbrev pub line_step : Place → List DumpRecord → ReadState → ℕ → Stream
line_step place rs r b = if b == 10 then line_is place rs (record r { held = [] }) r.held else if nat_lt (length r.held) LINE_BYTES then keep_byte rs r b else Refuses rs TooLong

abbrev pub of_prop_fault : PropFault → DumpFault
of_prop_fault prop_fault.BadProps = BadProps
of_prop_fault prop_fault.TooLong = TooLong
of_prop_fault prop_fault.OutOfMemory = OutOfMemory

abbrev pub of_text_fault : TextFault → DumpFault
of_text_fault text_fault.TooLong = TooLong
of_text_fault text_fault.OutOfMemory = OutOfMemory

-- a byte of a block
abbrev pub block_said : List DumpRecord → ReadState → Step → Stream
block_said rs r (Next block) = Reads rs (record r { block = block })
block_said rs r (Whole props removed) = after_block rs (record r { block = new_block 0 }) (Some (part_of (is_delta r.head) props removed))
block_said rs r (Refused f) = Refuses rs (of_prop_fault f)

-- a byte more, at a line, in a block, in a text
abbrev pub stream_step : Place → List DumpRecord → ReadState → ℕ → Stream
stream_step at.Block rs r b = block_said rs r (block_step r.block b)
stream_step (at.Text n) rs r b = if nat_lt (length r.held + 1) n then keep_byte rs r b else text_is rs r r.props (r.held ++ b ∷ [])
stream_step at.Failed rs r b = Refuses rs Failed
stream_step place rs r b = line_step place rs r b

abbrev pub one_byte : Stream → ℕ → Stream
one_byte (Reads rs r) b = stream_step r.place rs r b
one_byte (Refuses rs f) b = Refuses rs f

-- what bytes make of a stream
abbrev pub reading : Stream → List ℕ → Stream
reading s [] = s
reading s (b ∷ bs) = reading (one_byte s b) bs

-- what a stream of bytes is
abbrev pub dump_by : Bool → List ℕ → Stream
dump_by deltas = reading (Reads [] (fresh_by deltas))

-- to a reader that takes no deltas of texts
abbrev pub dump : List ℕ → Stream
dump = dump_by false

-- what a call did is this
abbrev pub StreamIs : Result (Unit {0}) DumpFault → ReadState → List DumpRecord → Stream → Type 0
StreamIs (Ok u) new out s = s ≡ Reads out new
StreamIs (Err OutOfMemory) new out s = Unit {0}
StreamIs (Err f) new out s = s ≡ Refuses out f

abbrev pub is_line_place : Place → Bool
is_line_place at.Version = true
is_line_place at.Blank = true
is_line_place at.Between = true
is_line_place at.Header = true
is_line_place place = false

-- the reader refused bytes before
abbrev pub is_failed : Place → Bool
is_failed at.Failed = true
is_failed place = false

abbrev pub has_failed : ReadState → Bool
has_failed r = is_failed r.place

-- an end here is no end in a record, in a started head, or before the version block is whole
abbrev pub is_between_at : Place → List ℕ → Bool
is_between_at at.Between held = length held == 0
is_between_at place held = false

abbrev pub is_between : ReadState → Bool
is_between r = is_between_at r.place r.held

-- what a run through a block comes to
abbrev pub of_block : List DumpRecord → ReadState → Run → Stream
of_block rs r (More block) = Reads rs (record r { block = block })
of_block rs r (Done props removed rest) = reading (after_block rs (record r { block = new_block 0 }) (Some (part_of (is_delta r.head) props removed))) rest
of_block rs r (Fault f) = Refuses rs (of_prop_fault f)

-- what calls did, up to some bytes that are left, is this
abbrev pub GoesOn : Result ℕ DumpFault → ReadState → List DumpRecord → List ℕ → Stream → Type 0
GoesOn (Ok k) new out bytes s = s ≡ reading (Reads out new) (drop k bytes)
GoesOn (Err OutOfMemory) new out bytes s = Unit {0}
GoesOn (Err f) new out bytes s = s ≡ Refuses out f

-- no LF among them
abbrev pub NoLf : List ℕ → Type 0
NoLf [] = Unit {0}
NoLf (b ∷ bs) = ((b == 10) ≡ false) × NoLf bs

abbrev pub records_of : Stream → List DumpRecord
records_of (Reads rs r) = rs
records_of (Refuses rs f) = rs

-- the first records of a stream, perhaps not all
abbrev pub IsFront : List DumpRecord → Stream → Type 0
IsFront out s = (more : List DumpRecord) × (records_of s ≡ out ++ more)

-- after a refusal
abbrev pub spent : ReadState
spent = begin false 0 at.Failed First

abbrev pub version_of : ReadState → ℕ
version_of r = r.version

-- the bytes of a path that a header gave
abbrev pub path_bytes : Option Path → ℕ
path_bytes None = 0
path_bytes (Some p) = length (path_text p)

-- the bytes of what a whole block gave
abbrev pub part_bytes : PropPart → ℕ
part_bytes (part.Whole props) = stored_bytes props
part_bytes (part.Delta d) = stored_bytes d.sets + stored_bytes d.removed

abbrev pub given_bytes : Option PropPart → ℕ
given_bytes None = 0
given_bytes (Some p) = part_bytes p

-- all bytes that are kept of an unfinished record: of a line or a text, of a property block with its whole properties, of what a whole block gave, and of the header's paths
abbrev pub kept : ReadState → ℕ
kept r = length r.held + kept_bytes r.block + given_bytes r.props + path_bytes r.head.path + path_bytes r.head.source_path

abbrev pub kept_of : Stream → ℕ
kept_of (Reads rs r) = kept r
kept_of (Refuses rs f) = 0
