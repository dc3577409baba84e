-- Property lists that records give as changes of what is there.
use Rattle.std.specs.Prelude.{◌++◌, Bool, not, List, [], ◌∷◌, Option, Some, None, is_none, if◌then◌else◌}
use Rattle.std.specs.Option.{option_or, option_map, option_map_or}
use Rattle.std.specs.List.Sorted.{IsSortedBy}
use Rattle.std.specs.Ordering.{is_lt}
use Rattle.std.specs.FinMap as finite
use Rattle.node_base.specs.Path.{Path, path_cmp, same_path}
use Rattle.node_base.specs.Props.{PropMap, props_fit}
use Rattle.node_base.specs.PropDeltas.{applied}
use Rattle.node_base.specs.declared.prop_delta.PropDelta.{PropDelta}
use Rattle.node_base.specs.declared.prop_fault.PropFault.{PropFault}
use Rattle.node_base.specs.declared.prop_fault.PropFault.TheVariants as prop
use Rattle.node_base.specs.Tree.{PathMap, source_at}
use Rattle.node_base.specs.declared.node.Node.{Node}
use Rattle.node_base.specs.declared.fault.TreeFault.{TreeFault}
use Rattle.dump_text.specs.declared.record.NodeRecord.{NodeRecord}
use Rattle.dump_text.specs.declared.record.PropPart.{PropPart}
use Rattle.dump_text.specs.declared.record.PropPart.TheVariants.{Whole, Delta}
use Rattle.dump_load.specs.declared.change.Change.{Change}
use Rattle.dump_load.specs.declared.fault.ChangeFault.{ChangeFault}
use Rattle.dump_load.specs.declared.fault.ChangeFault.TheVariants as refusal
use Rattle.dump_load.specs.Changes.{is_delete, brings}
use Rattle.dump_load.specs.Effect.{effect}
use Rattle.dump_load.specs.Faults.{fault_if, fault_of, fault, refused}

-- deltas by the paths of their records
abbrev pub Deltas : Type 0
Deltas = List (Path × PropDelta)

abbrev pub part_delta : Option PropPart → Option PropDelta
part_delta None = None
part_delta (Some (Whole props)) = None
part_delta (Some (Delta d)) = Some d

-- the delta that a record gives, where it isn't a deletion
abbrev pub delta_in : NodeRecord → Option PropDelta
delta_in r = if is_delete r.action then None else part_delta r.props

-- the deltas that records give
abbrev pub deltas_of : List NodeRecord → Deltas
deltas_of [] = []
deltas_of (r ∷ rs) = option_map_or (λ d. (r.path, d) ∷ deltas_of rs) (delta_in r) (deltas_of rs)

-- the delta of a path
abbrev pub delta_at : Deltas → Path → Option PropDelta
delta_at [] p = None
delta_at (d ∷ ds) p = if same_path d.0 p then Some d.1 else delta_at ds p

-- one path comes before another
abbrev pub comes_before : Path → Path → Bool
comes_before p q = is_lt (path_cmp p q)

-- deltas in path order
abbrev pub AreSorted : Deltas → Type 0
AreSorted ds = IsSortedBy (λ d e. comes_before d.0 e.0) ds

-- the properties that a change finds: the source's at a copy, none at another add or replace, else those of the node that is there
abbrev pub found_props : List PathMap → (Path → Option Node) → Change → Option PropMap
found_props trees before c =
    if brings c
    then option_map_or (λ s. option_map (λ x. x.props) (source_at trees s [])) c.source (Some finite.empty)
    else option_map (λ x. x.props) (before c.path)

-- a change with the list that its delta makes of what it finds
abbrev pub with_delta : List PathMap → (Path → Option Node) → Option PropDelta → Change → Change
with_delta trees before None c = c
with_delta trees before (Some d) c =
    record { path = c.path; action = c.action; kind = c.kind; source = c.source; props = option_map (λ given. option_map_or (applied d) (found_props trees before c) given) c.props; text = c.text }

-- the refusal that a delta's own fault becomes
abbrev pub of_delta_fault : PropFault → ChangeFault
of_delta_fault prop.TooLong = refusal.TooLong
of_delta_fault prop.OutOfMemory = refusal.OutOfMemory
of_delta_fault prop.BadProps = refusal.BadHeader

-- why a delta can't be applied where it comes: there is nothing that it could change, for which the first fault so far or else the change's own is told; or the list that it makes is past the limits
abbrev pub delta_fault_of : List PathMap → Option TreeFault → (Path → Option Node) → Option PropDelta → Change → Option ChangeFault
delta_fault_of trees first before None c = None
delta_fault_of trees first before (Some d) c =
    if is_none c.props
    then None
    else option_map_or (λ m. fault_if (not (props_fit (applied d m))) refusal.TooLong) (found_props trees before c) (option_map refused (option_or first (fault_of trees before c)))

-- the changes done, and those that follow them except what is faulty where it comes
abbrev pub sound_after : List PathMap → List Change → List Change → List Change
sound_after trees done [] = done
sound_after trees done (c ∷ s) = sound_after trees (if is_none (fault_of trees (effect trees done) c) then done ++ c ∷ [] else done) s

-- the changes without those that are faulty where they come
abbrev pub sound : List PathMap → List Change → List Change
sound trees s = sound_after trees [] s

-- the first delta in path order that can't be applied, of the changes that follow those done
abbrev pub delta_fault_after : List PathMap → Deltas → List Change → List Change → Option ChangeFault
delta_fault_after trees ds done [] = None
delta_fault_after trees ds done (c ∷ s) = option_or (delta_fault_of trees (fault trees done) (effect trees (sound trees done)) (delta_at ds c.path) c) (delta_fault_after trees ds (done ++ c ∷ []) s)

abbrev pub delta_fault : List PathMap → Deltas → List Change → Option ChangeFault
delta_fault trees ds s = delta_fault_after trees ds [] s
