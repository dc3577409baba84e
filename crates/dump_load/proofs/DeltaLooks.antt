-- The deltas that records give, one after another.
use Rattle.std.proofs.Common.{◌≡◌, ℕ, ◌+◌, ◌<◌, ◌≤◌, false, not, List, [], ◌∷◌, ◌++◌, length, drop, get_or, Option, Some, None, refl, sym, ap, ◌∙◌, append_assoc, append-nil}
use Rattle.std.proofs.lemmas.List.{drop_more, drop_all}
use Rattle.std.specs.Bool.{if◌then◌else◌}
use Rattle.std.specs.Option.{is_none, option_or, option_map, option_map_or}
use Rattle.node_base.specs.Props.{PropMap, props_fit}
use Rattle.node_base.specs.PropDeltas.{applied, IsDeltaFault}
use Rattle.node_base.specs.Tree.{PathMap}
use Rattle.node_base.specs.declared.node.Node.{Node}
use Rattle.node_base.specs.declared.fault.TreeFault.{TreeFault}
use Rattle.node_base.specs.declared.prop_fault.PropFault.{PropFault}
use Rattle.node_base.specs.declared.prop_fault.PropFault.TheVariants as prop
use Rattle.dump_load.specs.declared.change.Change.{Change}
use Rattle.dump_load.specs.declared.fault.ChangeFault.TheVariants as refusal
use Rattle.dump_load.specs.Faults.{fault_if, fault_of, refused, IsRefusal}
use Rattle.node_base.specs.Path.{Path}
use Rattle.node_base.specs.declared.prop_delta.PropDelta.{PropDelta}
use Rattle.dump_text.specs.declared.record.NodeRecord.{NodeRecord}
use Rattle.dump_load.specs.Deltas.{Deltas, delta_in, deltas_of, found_props, delta_fault_of, of_delta_fault}

deltas_first : (r : NodeRecord) (rs : List NodeRecord) → deltas_of (r ∷ rs) ≡ deltas_of (r ∷ []) ++ deltas_of rs
deltas_first r rs = elim (delta_in r) as (λ o. option_map_or (λ d. (r.path, d) ∷ deltas_of rs) o (deltas_of rs) ≡ option_map_or (λ d. (r.path, d) ∷ []) o [] ++ deltas_of rs) [ None ↦ refl | Some d ↦ refl ]

pub kept_none : (old : Deltas) (r : NodeRecord) → delta_in r ≡ None → old ≡ old ++ deltas_of (r ∷ [])
kept_none old r e = sym (ap (λ o. old ++ option_map_or (λ d. (r.path, d) ∷ []) o []) e ∙ append-nil old)

pub kept_some : (old : Deltas) (r : NodeRecord) (d : PropDelta) → delta_in r ≡ Some d → old ++ (r.path, d) ∷ [] ≡ old ++ deltas_of (r ∷ [])
kept_some old r d e = sym (ap (λ o. old ++ option_map_or (λ d. (r.path, d) ∷ []) o []) e)

pub one_more_delta : (rs : List NodeRecord) (i : ℕ) (r : NodeRecord) (old new : Deltas) → i < length rs → r ≡ get_or rs i r → old ++ deltas_of (drop i rs) ≡ deltas_of rs → new ≡ old ++ deltas_of (r ∷ []) → new ++ deltas_of (drop (i + 1) rs) ≡ deltas_of rs
one_more_delta rs i r old new here at so_far is =
    let rest : drop i rs ≡ r ∷ drop (i + 1) rs = drop_more rs i r here ∙ ap (λ y. y ∷ drop (i + 1) rs) (sym at) in
    ap (λ x. x ++ deltas_of (drop (i + 1) rs)) is
    ∙ append_assoc old (deltas_of (r ∷ [])) (deltas_of (drop (i + 1) rs))
    ∙ ap (λ y. old ++ y) (sym (deltas_first r (drop (i + 1) rs)) ∙ ap deltas_of (sym rest))
    ∙ so_far

pub all_deltas : (rs : List NodeRecord) (i : ℕ) (ds : Deltas) → length rs ≤ i → ds ++ deltas_of (drop i rs) ≡ deltas_of rs → ds ≡ deltas_of rs
all_deltas rs i ds h e = sym (append-nil ds) ∙ ap (λ x. ds ++ deltas_of x) (sym (drop_all i rs h)) ∙ e

-- why a list is refused tells why its delta is
pub list_refused : (trees : List PathMap) (first : Option TreeFault) (before : Path → Option Node) (d : PropDelta) (c : Change) (m : PropMap) (e : PropFault) → is_none c.props ≡ false → found_props trees before c ≡ Some m → IsDeltaFault e (applied d m) → IsRefusal (of_delta_fault e) (delta_fault_of trees first before (Some d) c)
list_refused trees first before d c m prop.OutOfMemory given found h = tt
list_refused trees first before d c m prop.BadProps given found h = absurd h
list_refused trees first before d c m prop.TooLong given found h =
    let absent = option_map refused (option_or first (fault_of trees before c)) in
    ap (λ b. if b then None else option_map_or (λ m. fault_if (not (props_fit (applied d m))) refusal.TooLong) (found_props trees before c) absent) given
    ∙ ap (λ o. option_map_or (λ m. fault_if (not (props_fit (applied d m))) refusal.TooLong) o absent) found
    ∙ ap (λ b. fault_if (not b) refusal.TooLong) h
