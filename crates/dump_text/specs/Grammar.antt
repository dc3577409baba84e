-- What a dump is, by its spelling, apart from any order of reading.
use Rattle.std.specs.Prelude.{◌≡◌, ◌⊎◌, ℕ, ◌<◌, ◌≤◌, Bool, true, false, List, [], ◌∷◌, ◌++◌, length, Option, Some, None, option_map, Ok, codes}
use Rattle.std.specs.FinMap as map
use Rattle.node_base.specs.BlockGrammar.{BlockEntry, IsBlock, MayStand, set_in, removed_in}
use Rattle.node_base.specs.declared.limits.TheConstants.{LINE_BYTES}
use Rattle.dump_text.specs.Heads.{line_says, no_head}
use Rattle.dump_text.specs.Forms.{fits_form, lengths_agree, lengths_fit, source_of, is_delta, gives_delta, part_of, whole_of, stage_after}
use Rattle.dump_text.specs.Streams.{NoLf, sum_holds}
use Rattle.dump_text.specs.declared.head.Head.{Head}
use Rattle.dump_text.specs.declared.form.Stage.{Stage}
use Rattle.dump_text.specs.declared.form.Stage.TheVariants.{First}
use Rattle.dump_text.specs.declared.record.PropPart.{PropPart}
use Rattle.dump_text.specs.declared.record.TextPart.{TextPart}
use Rattle.dump_text.specs.declared.record.TextPart.TheVariants.{Whole as AsWhole, Delta as AsDelta}
use Rattle.dump_text.specs.declared.record.NodeRecord.{NodeRecord}
use Rattle.dump_text.specs.declared.record.DumpRecord.{DumpRecord}
use Rattle.dump_text.specs.declared.record.DumpRecord.TheVariants.{Identity, Revision, Node, DeltaNode}

-- lines, each with its LF
abbrev pub lines_of : List (List ℕ) → List ℕ
lines_of [] = []
lines_of (l ∷ ls) = l ++ 10 ∷ lines_of ls

-- header lines, in any order, and what they come to
abbrev pub HeadOf : Head → List (List ℕ) → Head → Type 0
HeadOf h [] last = h ≡ last
HeadOf h (l ∷ ls) last = NoLf l × (0 < length l) × (length l ≤ LINE_BYTES) × (next : Head) × (line_says h l ≡ Ok next) × HeadOf next ls last

-- the bytes of a text, or of the delta that gives it
abbrev pub bytes_of : Option TextPart → List ℕ
bytes_of None = []
bytes_of (Some (AsWhole t)) = t
bytes_of (Some (AsDelta d)) = d.bytes

-- bytes are a property block, of a delta or whole, that says this
abbrev pub IsBlockOf : Bool → List ℕ → PropPart → Type 0
IsBlockOf delta bytes part = (es : List BlockEntry) × IsBlock delta bytes es × MayStand map.empty map.empty es × (part ≡ part_of delta (map.from_entries (set_in es)) (map.from_entries (removed_in es)))

-- a block stands where its length is announced, and has it
abbrev pub HasBlock : Bool → Option ℕ → Option PropPart → List ℕ → Type 0
HasBlock delta announced None block = (announced ≡ None) × (block ≡ [])
HasBlock delta announced (Some part) block = (announced ≡ Some (length block)) × IsBlockOf delta block part

-- so does a text. A whole one has its sum where one is announced; beside a delta stand the head's sums
abbrev pub HasText : Head → Option TextPart → Type 0
HasText h None = h.text_len ≡ None
HasText h (Some (AsWhole t)) = (gives_delta h ≡ false) × (h.text_len ≡ Some (length t)) × (sum_holds h.sum t ≡ true)
HasText h (Some (AsDelta d)) = (gives_delta h ≡ true) × (h.text_len ≡ Some (length d.bytes)) × (h.base_sum ≡ d.base_sum) × (h.sum ≡ d.sum)

-- the block and the text that a head announces
pub record IsContent (h : Head) (bytes : List ℕ) (props : Option PropPart) (text : Option TextPart) : Type 0 where
  pub block : List ℕ
  pub whole : bytes ≡ block ++ bytes_of text
  pub properties : HasBlock (is_delta h) h.prop_len props block
  pub words : HasText h text

-- a head and a block say this of a node, but its text
abbrev pub SaysNode : Head → Option PropPart → NodeRecord → Type 0
SaysNode h props r = (h.identity ≡ None) × (h.number ≡ None) × (h.path ≡ Some r.path) × (h.kind ≡ r.kind) × (h.action ≡ Some r.action) × (source_of h.source_path h.source_revision ≡ r.source) × (props ≡ r.props)

-- what a head and its content say: an identity; a revision, without properties where it has no block; a node, with its whole text or none; a node and the delta of its text
abbrev pub Says : Head → Option PropPart → Option TextPart → DumpRecord → Type 0
Says h props text (Identity id) = h.identity ≡ Some id
Says h props text (Revision n ps) = (h.identity ≡ None) × (h.number ≡ Some n) × (whole_of props ≡ Some ps)
Says h props text (Node r) = SaysNode h props r × (text ≡ option_map AsWhole r.text)
Says h props text (DeltaNode r d) = SaysNode h props r × (r.text ≡ None) × (text ≡ Some (AsDelta d))

-- header lines, an empty line, and the content, that are one record in the format of that number, where texts may or may not be given as deltas
pub record IsRecord (deltas : Bool) (version : ℕ) (stage : Stage) (bytes : List ℕ) (rec : DumpRecord) : Type 0 where
  pub lines : List (List ℕ)
  pub head : Head
  pub body : List ℕ
  pub props : Option PropPart
  pub text : Option TextPart
  pub some : 0 < length lines
  pub spelled : bytes ≡ lines_of lines ++ 10 ∷ body
  pub headers : HeadOf (no_head deltas) lines head
  pub form : fits_form version stage head ≡ true
  pub agree : lengths_agree head ≡ true
  pub fit : lengths_fit head ≡ true
  pub content : IsContent head body props text
  pub says : Says head props text rec

abbrev pub AreBlank : List ℕ → Type 0
AreBlank [] = Unit {0}
AreBlank (b ∷ bs) = (b ≡ 10) × AreBlank bs

-- records, with empty lines anywhere between them
abbrev pub IsRecords : Bool → ℕ → Stage → List ℕ → List DumpRecord → Type 0
IsRecords deltas version stage bytes [] = AreBlank bytes
IsRecords deltas version stage bytes (r ∷ rs) = (blank first rest : List ℕ) × AreBlank blank × IsRecord deltas version stage first r × IsRecords deltas version (stage_after stage r) rest rs × (bytes ≡ blank ++ (first ++ rest))

-- which records may stand behind these
abbrev pub stage_behind : Stage → List DumpRecord → Stage
stage_behind stage [] = stage
stage_behind stage (r ∷ rs) = stage_behind (stage_after stage r) rs

-- the first line of format 2 and of format 3
abbrev pub version_line : List ℕ
version_line = codes "SVN-fs-dump-format-version: 2"

abbrev pub later_line : List ℕ
later_line = codes "SVN-fs-dump-format-version: 3"

abbrev pub IsVersionLine : ℕ → List ℕ → Type 0
IsVersionLine version line = ((version ≡ 2) × (line ≡ version_line)) ⊎ ((version ≡ 3) × (line ≡ later_line))

-- the version line of a format, an empty line, and records of that format
abbrev pub DumpOf : Bool → ℕ → List ℕ → List DumpRecord → Type 0
DumpOf deltas version bytes rs = (line rest : List ℕ) × IsVersionLine version line × (bytes ≡ line ++ 10 ∷ 10 ∷ rest) × IsRecords deltas version First rest rs

-- of either format
abbrev pub DumpBy : Bool → List ℕ → List DumpRecord → Type 0
DumpBy deltas bytes rs = (version : ℕ) × DumpOf deltas version bytes rs

-- and without a text that is given as a delta
abbrev pub Dump : List ℕ → List DumpRecord → Type 0
Dump = DumpBy false
