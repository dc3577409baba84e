-- Names and values of header lines.
use Rattle.std.specs.Prelude.{◌≡◌, ℕ, ◌==◌, ◌&&◌, Bool, List, [], ◌∷◌, ◌++◌, Option, Some, None, option_map, Result, Ok, Err, if◌then◌else◌, codes, eqb}
use Rattle.std.specs.Borrow.{Bor}
use lib.Pointwise.{pointwise}
use Rattle.hex.specs.Hex.{decode_sized}
use Rattle.uuid.specs.Text.{parsed_hyphenated}
use Rattle.node_base.specs.Path.{Path}
use Rattle.node_base.specs.PathText.{path_read}
use Rattle.node_base.specs.declared.fault.PathFault.{PathFault}
use Rattle.node_base.specs.declared.fault.PathFault.TheVariants as path_fault
use Rattle.node_base.specs.declared.node.NodeKind.{NodeKind}
use Rattle.node_base.specs.declared.node.NodeKind.TheVariants.{File, Dir}
use Rattle.node_base.specs.declared.node.Action.{Action}
use Rattle.node_base.specs.declared.node.Action.TheVariants.{Modify, Add, Delete, Replace}
use Rattle.dump_text.specs.declared.fault.DumpFault.{DumpFault}
use Rattle.dump_text.specs.declared.fault.DumpFault.TheVariants.{BadPath, TooLong, OutOfMemory}
use Rattle.dump_text.specs.declared.header.HeaderName.{HeaderName}
use Rattle.dump_text.specs.declared.header.HeaderName.TheVariants as header

-- whether two lists of bytes are the same
abbrev pub same : List ℕ → List ℕ → Bool
same = pointwise eqb

-- the name and the value: what stands before and behind the first colon and blank
abbrev pub name_more : ℕ → List ℕ × List ℕ → List ℕ × List ℕ
name_more b p = (b ∷ p.0, p.1)

abbrev pub split_after : ℕ → List ℕ → Option (List ℕ × List ℕ)
split_after b [] = None
split_after b (c ∷ cs) = if b == 58 && c == 32 then Some ([], cs) else option_map (name_more b) (split_after c cs)

abbrev pub split_line : List ℕ → Option (List ℕ × List ℕ)
split_line [] = None
split_line (b ∷ bs) = split_after b bs

-- the formats that are read, by their first lines
abbrev pub version_in : List ℕ → Option ℕ
version_in line = if same line (codes "SVN-fs-dump-format-version: 2") then Some 2 else if same line (codes "SVN-fs-dump-format-version: 3") then Some 3 else None

-- the headers that are read; all others are passed over
abbrev pub known_name : List ℕ → Option HeaderName
known_name name =
    if same name (codes "Node-path") then Some header.NodePath
    else if same name (codes "Node-kind") then Some header.NodeKind
    else if same name (codes "Node-action") then Some header.NodeAction
    else if same name (codes "Node-copyfrom-rev") then Some header.SourceRevision
    else if same name (codes "Node-copyfrom-path") then Some header.SourcePath
    else if same name (codes "Prop-content-length") then Some header.PropLength
    else if same name (codes "Text-content-length") then Some header.TextLength
    else if same name (codes "Text-content-md5") then Some header.TextSum
    else if same name (codes "Content-length") then Some header.ContentLength
    else if same name (codes "Revision-number") then Some header.RevisionNumber
    else if same name (codes "Text-delta") then Some header.TextDelta
    else if same name (codes "Text-delta-base-md5") then Some header.BaseSum
    else if same name (codes "Prop-delta") then Some header.PropDelta
    else if same name (codes "UUID") then Some header.Identity
    else None

-- one leading slash of a path is dropped
abbrev pub without_slash : List ℕ → List ℕ
without_slash [] = []
without_slash (b ∷ bs) = if b == 47 then bs else b ∷ bs

abbrev pub of_path_fault : PathFault → DumpFault
of_path_fault path_fault.TooLong = TooLong
of_path_fault path_fault.BadPath = BadPath
of_path_fault path_fault.OutOfMemory = OutOfMemory

abbrev pub path_said : Result Path PathFault → Result Path DumpFault
path_said (Ok path) = Ok path
path_said (Err f) = Err (of_path_fault f)

-- the path that a value spells
abbrev pub dump_path : List ℕ → Result Path DumpFault
dump_path value = path_said (path_read (without_slash value))

abbrev pub kind_of : List ℕ → Option NodeKind
kind_of value = if same value (codes "file") then Some File else if same value (codes "dir") then Some Dir else None

abbrev pub action_of : List ℕ → Option Action
action_of value = if same value (codes "change") then Some Modify else if same value (codes "add") then Some Add else if same value (codes "delete") then Some Delete else if same value (codes "replace") then Some Replace else None

-- the identity that a value spells: 36 bytes, digits of sixteen of either case with hyphens
abbrev pub identity_of : List ℕ → Option (List ℕ)
identity_of = parsed_hyphenated

-- the sum that a value spells: 32 digits of sixteen of either case
abbrev pub sum_of : List ℕ → Option (List ℕ)
sum_of value = elim (decode_sized value 16) [ Ok sum ↦ Some sum | Err e ↦ None ]

abbrev pub pair_now : Option (Bor (List ℕ) × Bor (List ℕ)) → Option (List ℕ × List ℕ)
pair_now None = None
pair_now (Some p) = Some (p.0.now, p.1.now)

-- what a call did is this
abbrev pub PathIs : Result Path DumpFault → Result Path DumpFault → Type 0
PathIs (Ok p) said = said ≡ Ok p
PathIs (Err OutOfMemory) said = Unit {0}
PathIs (Err f) said = said ≡ Err f

-- what is read behind some bytes of a line
abbrev pub behind_pair : List ℕ → List ℕ × List ℕ → List ℕ × List ℕ
behind_pair front p = (front ++ p.0, p.1)

abbrev pub behind : List ℕ → Option (List ℕ × List ℕ) → Option (List ℕ × List ℕ)
behind front o = option_map (behind_pair front) o
