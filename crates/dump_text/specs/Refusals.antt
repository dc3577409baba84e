-- Which number a refused stream gets, by its lines and records, apart from any order of reading.
use Rattle.std.specs.Prelude.{◌≡◌, ℕ, Bool, ◌<◌, ◌≤◌, true, false, List, [], ◌∷◌, ◌++◌, length, Option, Some, None, Err}
use Rattle.node_base.specs.Blocks.{More, Fault, run_block, begun}
use Rattle.node_base.specs.declared.block.BlockReader.{BlockReader}
use Rattle.node_base.specs.declared.prop_fault.PropFault.{PropFault}
use Rattle.node_base.specs.declared.limits.TheConstants.{LINE_BYTES}
use Rattle.dump_text.specs.Headers.{version_in}
use Rattle.dump_text.specs.Heads.{line_says, no_head}
use Rattle.dump_text.specs.Forms.{fits_form, lengths_agree, lengths_fit, is_delta, gives_delta}
use Rattle.dump_text.specs.Streams.{NoLf, sum_holds, of_prop_fault, Refuses, dump_by}
use Rattle.dump_text.specs.Grammar.{lines_of, HeadOf, HasBlock, IsVersionLine, DumpOf, stage_behind}
use Rattle.dump_text.specs.declared.fault.DumpFault.{DumpFault}
use Rattle.dump_text.specs.declared.fault.DumpFault.TheVariants.{BadVersion, BadHeader, BadLength, BadProps, BadSum, TooLong}
use Rattle.dump_text.specs.declared.head.Head.{Head}
use Rattle.dump_text.specs.declared.form.Stage.{Stage}
use Rattle.dump_text.specs.declared.form.Stage.TheVariants.{First}
use Rattle.dump_text.specs.declared.record.PropPart.{PropPart}
use Rattle.dump_text.specs.declared.record.DumpRecord.{DumpRecord}

-- a line without its LF, and one byte more than a line may have
abbrev pub IsLine : List ℕ → Type 0
IsLine line = NoLf line × (length line ≤ LINE_BYTES)

abbrev pub IsLong : List ℕ → Type 0
IsLong line = NoLf line × (length line ≡ 4097)

-- header lines so far, and what they come to, where texts may or may not be given as deltas
abbrev pub AtLine : Bool → Head → List ℕ → Type 0
AtLine deltas head bytes = (lines : List (List ℕ)) × HeadOf (no_head deltas) lines head × (bytes ≡ lines_of lines)

-- one header line or more, and the empty line behind them
abbrev pub AtEnd : Bool → Head → List ℕ → Type 0
AtEnd deltas head bytes = (lines : List (List ℕ)) × (0 < length lines) × HeadOf (no_head deltas) lines head × (bytes ≡ lines_of lines ++ 10 ∷ [])

-- headers and their empty line that are those of a record
pub record IsFine (deltas : Bool) (version : ℕ) (stage : Stage) (head : Head) (bytes : List ℕ) : Type 0 where
  pub ended : AtEnd deltas head bytes
  pub form : fits_form version stage head ≡ true
  pub agree : lengths_agree head ≡ true
  pub fit : lengths_fit head ≡ true

-- why bytes behind whole records of a format are refused at the last of them
pub data IsFault (deltas : Bool) (f : DumpFault) (version : ℕ) (stage : Stage) (bytes : List ℕ) : Type 0 where
  -- a header line says so: 2, 3, 8, 9, 10
  in_line : (head : Head) (front line : List ℕ) → AtLine deltas head front → IsLine line → 0 < length line → line_says head line ≡ Err f → bytes ≡ front ++ (line ++ 10 ∷ []) → IsFault deltas f version stage bytes
  -- a line has 4,097 bytes: 8
  long_line : f ≡ TooLong → (head : Head) (front line : List ℕ) → AtLine deltas head front → IsLong line → bytes ≡ front ++ line → IsFault deltas f version stage bytes
  -- at the empty line the headers are those of no record that may stand here: 2
  no_form : f ≡ BadHeader → (head : Head) → AtEnd deltas head bytes → fits_form version stage head ≡ false → IsFault deltas f version stage bytes
  -- else `Content-length` isn't the sum of the others: 4
  no_sum : f ≡ BadLength → (head : Head) → AtEnd deltas head bytes → fits_form version stage head ≡ true → lengths_agree head ≡ false → IsFault deltas f version stage bytes
  -- else a length is past its limit: 8
  too_much : f ≡ TooLong → (head : Head) → AtEnd deltas head bytes → fits_form version stage head ≡ true → lengths_agree head ≡ true → lengths_fit head ≡ false → IsFault deltas f version stage bytes
  -- else a block of no bytes is announced: 5
  no_block : f ≡ BadProps → (head : Head) → IsFine deltas version stage head bytes → head.prop_len ≡ Some 0 → IsFault deltas f version stage bytes
  -- a byte of the block is the first that is refused: 5, 8
  in_block : (fault : PropFault) → f ≡ of_prop_fault fault → (head : Head) (front before : List ℕ) (n b : ℕ) (so_far : BlockReader) → IsFine deltas version stage head front → head.prop_len ≡ Some n → 0 < n
      → run_block (begun (is_delta head) n) before ≡ More so_far → run_block (begun (is_delta head) n) (before ++ b ∷ []) ≡ Fault fault → bytes ≡ front ++ (before ++ b ∷ []) → IsFault deltas f version stage bytes
  -- a whole text hasn't its sum: 6
  in_text : f ≡ BadSum → (head : Head) (front block text : List ℕ) (part : Option PropPart) → IsFine deltas version stage head front → HasBlock (is_delta head) head.prop_len part block → gives_delta head ≡ false → head.text_len ≡ Some (length text)
      → sum_holds head.sum text ≡ false → bytes ≡ front ++ (block ++ text) → IsFault deltas f version stage bytes

-- why bytes are refused at the last of them, behind these records
pub data IsDue (deltas : Bool) (f : DumpFault) (rs : List DumpRecord) (bytes : List ℕ) : Type 0 where
  -- the first line names no format that is read: 1
  no_version : f ≡ BadVersion → rs ≡ [] → (line : List ℕ) → IsLine line → version_in line ≡ None → bytes ≡ line ++ 10 ∷ [] → IsDue deltas f rs bytes
  -- the second isn't empty: 2
  no_blank : f ≡ BadHeader → rs ≡ [] → (version : ℕ) (first line : List ℕ) → IsVersionLine version first → IsLine line → 0 < length line → bytes ≡ first ++ 10 ∷ (line ++ 10 ∷ []) → IsDue deltas f rs bytes
  -- one of the two has 4,097 bytes: 8
  long_first : f ≡ TooLong → rs ≡ [] → IsLong bytes → IsDue deltas f rs bytes
  long_second : f ≡ TooLong → rs ≡ [] → (version : ℕ) (first line : List ℕ) → IsVersionLine version first → IsLong line → bytes ≡ first ++ 10 ∷ line → IsDue deltas f rs bytes
  -- behind a dump of these records
  behind : (version : ℕ) (whole last : List ℕ) → DumpOf deltas version whole rs → IsFault deltas f version (stage_behind First rs) last → bytes ≡ whole ++ last → IsDue deltas f rs bytes

-- refused bytes are refused for what is due at one of them
abbrev pub RefusedForCause : Type 0
RefusedForCause = (deltas : Bool) (bytes : List ℕ) (rs : List DumpRecord) (f : DumpFault) → dump_by deltas bytes ≡ Refuses rs f → (front rest : List ℕ) × (bytes ≡ front ++ rest) × IsDue deltas f rs front

-- and what is due is refused, whatever follows
abbrev pub DueIsRefused : Type 0
DueIsRefused = (deltas : Bool) (bytes more : List ℕ) (rs : List DumpRecord) (f : DumpFault) → IsDue deltas f rs bytes → dump_by deltas (bytes ++ more) ≡ Refuses rs f
