-- What the headers of a record come to at its empty line.
use Rattle.std.specs.Prelude.{ℕ, ◌+◌, ◌==◌, ◌&&◌, ◌||◌, not, nat_le, Bool, true, false, List, Option, Some, None, is_some, is_none, unwrap_or, option_map, if◌then◌else◌}
use Rattle.std.specs.FinMap as map
use Rattle.node_base.specs.Path.{Path}
use Rattle.node_base.specs.Props.{PropMap}
use Rattle.node_base.specs.declared.node.Action.{Action}
use Rattle.node_base.specs.declared.node.Action.TheVariants.{Add, Delete, Replace}
use Rattle.node_base.specs.declared.node.Source.{Source}
use Rattle.node_base.specs.declared.limits.TheConstants.{BLOCK_BYTES, TEXT_BYTES}
use Rattle.dump_text.specs.declared.head.Head.{Head}
use Rattle.dump_text.specs.declared.form.Stage.{Stage}
use Rattle.dump_text.specs.declared.form.Stage.TheVariants.{First, Outside, Inside}
use Rattle.dump_text.specs.declared.record.PropPart.{PropPart}
use Rattle.dump_text.specs.declared.record.PropPart.TheVariants.{Whole, Delta}
use Rattle.dump_text.specs.declared.record.TextPart.{TextPart}
use Rattle.dump_text.specs.declared.record.TextPart.TheVariants.{Whole as AsWhole, Delta as AsDelta}
use Rattle.dump_text.specs.declared.record.DeltaText.{DeltaText}
use Rattle.dump_text.specs.declared.record.NodeRecord.{NodeRecord}
use Rattle.dump_text.specs.declared.record.DumpRecord.{DumpRecord}
use Rattle.dump_text.specs.declared.record.DumpRecord.TheVariants.{Identity, Revision, Node, DeltaNode}
use Rattle.dump_text.specs.declared.limits.TheConstants.{DELTA_BYTES}

abbrev pub is_deletion : Option Action → Bool
is_deletion (Some Delete) = true
is_deletion o = false

-- only what makes a node may have a source
abbrev pub is_making : Option Action → Bool
is_making (Some Add) = true
is_making (Some Replace) = true
is_making o = false

abbrev pub has_no_node : Head → Bool
has_no_node h = is_none h.path && is_none h.kind && is_none h.action && is_none h.source_revision && is_none h.source_path && is_none h.text_len && is_none h.sum

-- an identity has no other header that is read
abbrev pub is_identity_head : Head → Bool
is_identity_head h = has_no_node h && is_none h.number && is_none h.prop_len && is_none h.content_len

-- both headers of a source or none, and only where a node is made
abbrev pub has_source_form : Head → Bool
has_source_form h = if is_some h.source_path then is_some h.source_revision && is_making h.action else is_none h.source_revision

-- a node has a path and an action, and at a deletion no content
abbrev pub is_node_head : Head → Bool
is_node_head h = is_some h.path && is_some h.action && has_source_form h && not (is_deletion h.action && (is_some h.prop_len || is_some h.text_len))

abbrev pub is_first : Stage → Bool
is_first First = true
is_first stage = false

abbrev pub is_inside : Stage → Bool
is_inside Inside = true
is_inside stage = false

-- the properties are announced as a delta
abbrev pub is_delta : Head → Bool
is_delta h = unwrap_or h.prop_delta false

-- the text, where it stands, is given as a delta
abbrev pub gives_delta : Head → Bool
gives_delta h = unwrap_or h.text_delta false

-- the properties or the text are a delta
abbrev pub has_delta : Head → Bool
has_delta h = is_delta h || gives_delta h

-- they may be in format 3, and only of a node
abbrev pub may_be_delta : ℕ → Head → Bool
may_be_delta version h = version == 3 && is_none h.identity && is_none h.number

-- the headers are those of a record that may stand here, in the format of that number
abbrev pub fits_form : ℕ → Stage → Head → Bool
fits_form version stage h =
    if has_delta h && not (may_be_delta version h) then false
    else if is_some h.identity then is_first stage && is_identity_head h
    else if is_some h.number then has_no_node h
    else is_inside stage && is_node_head h

abbrev pub length_of : Option ℕ → ℕ
length_of o = unwrap_or o 0

-- `Content-length`, where it stands, is the sum of the two others
abbrev pub lengths_agree : Head → Bool
lengths_agree h = elim h.content_len [ None ↦ true | Some n ↦ n == length_of h.prop_len + length_of h.text_len ]

-- 1 MiB of a text, 2 MiB of a delta that gives one
abbrev pub text_limit : Head → ℕ
text_limit h = if gives_delta h then DELTA_BYTES else TEXT_BYTES

-- 32 MiB of properties, and the text within its limit
abbrev pub lengths_fit : Head → Bool
lengths_fit h = nat_le (length_of h.prop_len) BLOCK_BYTES && nat_le (length_of h.text_len) (text_limit h)

abbrev pub source_of : Option Path → Option ℕ → Option Source
source_of None n = None
source_of (Some path) None = None
source_of (Some path) (Some n) = Some (record { path = path; revision = n })

-- what a block says, of a delta or whole
abbrev pub part_of : Bool → PropMap → PropMap → PropPart
part_of false props removed = Whole props
part_of true props removed = Delta (record { sets = props; removed = removed })

-- the whole list that a revision gives: without a block it has no properties, and a delta gives none
abbrev pub whole_of : Option PropPart → Option PropMap
whole_of None = Some map.empty
whole_of (Some (Whole props)) = Some props
whole_of (Some (Delta d)) = None

-- bytes as the delta that a head announces, with the head's sums
abbrev pub delta_of : Head → List ℕ → DeltaText
delta_of h bytes = record { bytes = bytes; base_sum = h.base_sum; sum = h.sum }

-- a node that has no text yet, with its whole text, or beside the delta of it
abbrev pub node_with : NodeRecord → Option TextPart → DumpRecord
node_with r None = Node r
node_with r (Some (AsWhole text)) = Node (record r { text = Some text })
node_with r (Some (AsDelta delta)) = DeltaNode r delta

abbrev pub node_of : Head → Option PropPart → Option TextPart → Option Path → Option Action → Option DumpRecord
node_of h props text None action = None
node_of h props text (Some path) None = None
node_of h props text (Some path) (Some action) = Some (node_with (record { path = path; kind = h.kind; action = action; source = source_of h.source_path h.source_revision; props = props; text = None }) text)

abbrev pub numbered_of : Head → Option PropPart → Option TextPart → Option ℕ → Option DumpRecord
numbered_of h props text None = node_of h props text h.path h.action
numbered_of h props text (Some n) = option_map (Revision n) (whole_of props)

abbrev pub named_of : Head → Option PropPart → Option TextPart → Option (List ℕ) → Option DumpRecord
named_of h props text None = numbered_of h props text h.number
named_of h props text (Some id) = Some (Identity id)

-- the record of a head and its content, where it is one
abbrev pub record_of : Head → Option PropPart → Option TextPart → Option DumpRecord
record_of h props text = named_of h props text h.identity

-- which records may stand behind a record
abbrev pub stage_after : Stage → DumpRecord → Stage
stage_after stage (Identity id) = Outside
stage_after stage (Revision n props) = Inside
stage_after stage (Node r) = stage
stage_after stage (DeltaNode r delta) = stage
