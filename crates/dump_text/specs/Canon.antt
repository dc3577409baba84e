-- The canonical spelling.
use Rattle.std.specs.Prelude.{ℕ, ◌+◌, ◌||◌, List, [], ◌∷◌, ◌++◌, length, Option, Some, None, is_some, if◌then◌else◌, codes}
use Rattle.std.specs.List.{flat_map}
use Rattle.std.specs.Borrow.{Bor}
use Rattle.std.specs.Fmt.{decimal as printed}
use Rattle.hex.specs.Hex.{encode_lower}
use Rattle.md5.specs.Md5.{md5}
use Rattle.uuid.specs.Text.{hyphenated_text, lower}
use Rattle.node_base.specs.PathText.{path_text}
use Rattle.node_base.specs.Props.{PropMap}
use Rattle.node_base.specs.BlockCanon.{canon_block}
use Rattle.node_base.specs.declared.node.Action.{Action}
use Rattle.node_base.specs.declared.node.Action.TheVariants.{Modify, Add, Delete, Replace}
use Rattle.node_base.specs.declared.node.NodeKind.{NodeKind}
use Rattle.node_base.specs.declared.node.NodeKind.TheVariants.{File, Dir}
use Rattle.node_base.specs.declared.node.Source.{Source}
use Rattle.dump_text.specs.declared.record.PropPart.{PropPart}
use Rattle.dump_text.specs.declared.record.PropPart.TheVariants.{Whole, Delta}
use Rattle.dump_text.specs.declared.record.NodeRecord.{NodeRecord}
use Rattle.dump_text.specs.declared.record.RevRecord.{RevRecord}

-- a header line: its name with colon and blank, its value, an LF
abbrev pub header_line : List ℕ → List ℕ → List ℕ
header_line name value = name ++ (value ++ 10 ∷ [])

-- the identity in lower case, in a block of its own
abbrev pub canon_identity : Option (List ℕ) → List ℕ
canon_identity None = []
canon_identity (Some id) = codes "UUID: " ++ (hyphenated_text lower id ++ 10 ∷ 10 ∷ [])

-- the version block, and the identity's
abbrev pub canon_head : Option (List ℕ) → List ℕ
canon_head id = (codes "SVN-fs-dump-format-version: 2" ++ 10 ∷ 10 ∷ []) ++ canon_identity id

-- a revision: its three headers, an empty line, the block, an LF
abbrev pub canon_entry : ℕ → PropMap → List ℕ
canon_entry number props =
    header_line (codes "Revision-number: ") (printed number)
    ++ (header_line (codes "Prop-content-length: ") (printed (length (canon_block props)))
    ++ (header_line (codes "Content-length: ") (printed (length (canon_block props)))
    ++ (10 ∷ [] ++ (canon_block props ++ 10 ∷ []))))

abbrev pub kind_word : NodeKind → List ℕ
kind_word File = codes "file"
kind_word Dir = codes "dir"

-- a deletion doesn't tell the kind
abbrev pub told_kind : Action → Option NodeKind → Option NodeKind
told_kind Delete kind = None
told_kind action kind = kind

abbrev pub kind_line : Option NodeKind → List ℕ
kind_line None = []
kind_line (Some kind) = header_line (codes "Node-kind: ") (kind_word kind)

abbrev pub action_word : Action → List ℕ
action_word Modify = codes "change"
action_word Add = codes "add"
action_word Delete = codes "delete"
action_word Replace = codes "replace"

abbrev pub source_lines : Option Source → List ℕ
source_lines None = []
source_lines (Some s) = header_line (codes "Node-copyfrom-rev: ") (printed s.revision) ++ header_line (codes "Node-copyfrom-path: ") (path_text s.path)

-- only whole lists are written
abbrev pub block_of : Option PropPart → List ℕ
block_of None = []
block_of (Some (Whole props)) = canon_block props
block_of (Some (Delta d)) = []

abbrev pub block_line : Option PropPart → List ℕ
block_line None = []
block_line (Some (Whole props)) = header_line (codes "Prop-content-length: ") (printed (length (canon_block props)))
block_line (Some (Delta d)) = []

abbrev pub text_of : Option (List ℕ) → List ℕ
text_of None = []
text_of (Some text) = text

abbrev pub text_lines : Option (List ℕ) → List ℕ
text_lines None = []
text_lines (Some text) = header_line (codes "Text-content-length: ") (printed (length text)) ++ header_line (codes "Text-content-md5: ") (encode_lower (md5 text))

-- only where there is a block or a text
abbrev pub content_line : Option PropPart → Option (List ℕ) → List ℕ
content_line props text = if is_some props || is_some text then header_line (codes "Content-length: ") (printed (length (block_of props) + length (text_of text))) else []

-- an empty line, the block, the text, two LF
abbrev pub content_of : Option PropPart → Option (List ℕ) → List ℕ
content_of props text = 10 ∷ [] ++ (block_of props ++ (text_of text ++ 10 ∷ 10 ∷ []))

-- a node: its headers in this order, and its content
abbrev pub canon_node : NodeRecord → List ℕ
canon_node r =
    header_line (codes "Node-path: ") (path_text r.path)
    ++ (kind_line (told_kind r.action r.kind)
    ++ (header_line (codes "Node-action: ") (action_word r.action)
    ++ (source_lines r.source
    ++ (block_line r.props
    ++ (text_lines r.text
    ++ (content_line r.props r.text
    ++ content_of r.props r.text))))))

-- a revision and its nodes
abbrev pub canon_revision : RevRecord → List ℕ
canon_revision r = canon_entry r.number r.props ++ flat_map canon_node r.nodes.items

abbrev pub now_of : Option (Bor (List ℕ)) → Option (List ℕ)
now_of None = None
now_of (Some b) = Some b.now
