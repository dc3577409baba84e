-- The set of changes that a revision's records give.
use Rattle.std.specs.Prelude.{◌≡◌, ℕ, ◌++◌, Bool, true, false, not, ◌&&◌, ◌||◌, List, [], ◌∷◌, map, length, nat_lt, Option, Some, None, is_none, unwrap_or, if◌then◌else◌}
use Rattle.std.specs.Option.{option_or, option_map, option_map_or}
use Rattle.std.specs.List.{filter, list_any}
use Rattle.std.specs.Ordering.{is_lt}
use Rattle.std.specs.FinMap as finite
use Rattle.node_base.specs.Path.{Path, path_cmp, same_path, is_front}
use Rattle.node_base.specs.Tree.{PathMap}
use Rattle.node_base.specs.declared.node.Node.{Node}
use Rattle.node_base.specs.declared.fault.TreeFault.{TreeFault}
use Rattle.node_base.specs.declared.node.Action.TheVariants.{Replace}
use Rattle.node_base.specs.declared.node.NodeKind.{NodeKind}
use Rattle.node_base.specs.declared.node.NodeKind.TheVariants.{File, Dir}
use Rattle.node_base.specs.declared.limits.TheConstants.{CHANGES}
use Rattle.dump_text.specs.declared.record.NodeRecord.{NodeRecord}
use Rattle.dump_text.specs.declared.record.PropPart.TheVariants.{Whole}
use Rattle.dump_text.specs.Written.{map_of}
use Rattle.dump_load.specs.declared.change.Change.{Change}
use Rattle.dump_load.specs.declared.fault.ChangeFault.{ChangeFault}
use Rattle.dump_load.specs.declared.fault.ChangeFault.TheVariants as refusal
use Rattle.dump_load.specs.Changes.{is_delete, is_add, is_plain, has_form, change_at, IsInOrder, IsNormal}
use Rattle.dump_load.specs.Effect.{effect}
use Rattle.dump_load.specs.Faults.{fault_if, first_of, judged, fault, refused, IsRefusal}
use Rattle.dump_load.specs.Deltas.{Deltas, deltas_of, delta_at, with_delta, sound, delta_fault}

-- the change that a record states, but for its delta
abbrev pub change_of : NodeRecord → Change
change_of r = record { path = r.path; action = r.action; kind = r.kind; source = r.source; props = option_map map_of r.props; text = r.text }

-- the record that states a change
abbrev pub record_of : Change → NodeRecord
record_of c = record { path = c.path; kind = c.kind; action = c.action; source = c.source; props = option_map Whole c.props; text = c.text }

-- the changes that are stated of a path, in their order
abbrev pub stated_at : List Change → Path → List Change
stated_at cs p = filter (λ c. same_path c.path p) cs

-- an add after a deletion of its path
abbrev pub replacing : Change → Change
replacing a = record { path = a.path; action = Replace; kind = a.kind; source = a.source; props = a.props; text = a.text }

-- what is stated of one path, as one change: there is one, or a deletion and then an add, which are one replace
abbrev pub combined : List Change → Option Change
combined [] = None
combined (c ∷ []) = Some c
combined (d ∷ a ∷ []) = if is_delete d.action && is_add a.action then Some (replacing a) else None
combined (d ∷ a ∷ b ∷ cs) = None

-- the one change that is stated of a path
abbrev pub stated : List Change → Path → Option Change
stated cs p = combined (stated_at cs p)

-- out is what is stated so far, one change at each path that is named
pub record Combined (cs out : List Change) : Type 0 where
  pub order : IsInOrder out
  pub changes : (p : Path) → change_at out p ≡ stated cs p
  pub known : (p : Path) → stated cs p ≡ None → stated_at cs p ≡ []

-- how many paths are named
abbrev pub paths_named : List Change → ℕ
paths_named cs = finite.len (finite.from_entries {R = path_cmp} (map (λ c. (c.path, true)) cs))

-- a change of a path strictly under a path that is deleted
abbrev pub is_under : List Change → Change → Bool
is_under cs c = list_any (λ d. is_front d.path c.path && not (same_path d.path c.path) && option_map_or (λ e. is_delete e.action) (stated cs d.path) false) cs

-- some path's changes don't combine, or one is under a path that is deleted
abbrev pub is_out_of_order : List Change → Bool
is_out_of_order cs = list_any (λ c. is_none (stated cs c.path) || is_under cs c) cs

-- an add or a replace that copies nothing and doesn't say what it adds
abbrev pub is_kindless : Change → Bool
is_kindless c = is_plain c && is_none c.kind

-- such a one, or one of a form that dump text can't say
abbrev pub is_unsaid : Change → Bool
is_unsaid c = is_kindless c || not (has_form c)

-- some path's change is such a one
abbrev pub leaves_unsaid : List Change → Bool
leaves_unsaid cs = list_any (λ c. option_map_or is_unsaid (stated cs c.path) false) cs

-- why changes that are stated so make no set
abbrev pub set_fault : List Change → Option ChangeFault
set_fault cs = first_of (fault_if (nat_lt CHANGES (paths_named cs)) refusal.TooLong ∷ fault_if (is_out_of_order cs) refusal.OutOfOrder ∷ fault_if (leaves_unsaid cs) refusal.BadHeader ∷ [])

-- the changes before a path
abbrev pub earlier : List Change → Path → List Change
earlier s p = filter (λ c. is_lt (path_cmp c.path p)) s

-- a file has a text, empty where none is given
abbrev pub blank_text : Option NodeKind → Option (List ℕ) → Option (List ℕ)
blank_text (Some File) t = Some (unwrap_or t [])
blank_text (Some Dir) t = t
blank_text None t = t

-- with properties, and a file with a text, empty where none are given
abbrev pub blanked : Change → Change
blanked c = record { path = c.path; action = c.action; kind = c.kind; source = c.source; props = Some (unwrap_or c.props finite.empty); text = blank_text c.kind c.text }

-- an add or a replace that copies nothing has properties, and a file has a text
abbrev pub with_blanks : Change → Change
with_blanks c = if is_plain c then blanked c else c

-- a missing kind is the one that counts, if there is one: of the node that was there before, or of the source
abbrev pub with_kind : List PathMap → (Path → Option Node) → Change → Change
with_kind trees before c = record { path = c.path; action = c.action; kind = option_or c.kind (judged trees before c); source = c.source; props = c.props; text = c.text }

-- what is missing filled in, and the list that a delta makes, after the changes before it
abbrev pub filled_in : List PathMap → Deltas → List Change → Change → Change
filled_in trees ds before c =
    let f = effect trees (sound trees before) in
    with_delta trees f (delta_at ds c.path) (with_kind trees f (with_blanks c))

-- s is the set that the changes stated make with these deltas: one change at each path that is named, what is missing filled in
pub record IsSetOf (trees : List PathMap) (ds : Deltas) (cs s : List Change) : Type 0 where
  pub normal : IsNormal s
  pub changes : (p : Path) → change_at s p ≡ option_map (filled_in trees ds (earlier s p)) (stated cs p)

-- s is the set that the records give: each delta can be applied where it comes
pub record IsNormalSetOf (trees : List PathMap) (rs : List NodeRecord) (s : List Change) : Type 0 where
  pub set : IsSetOf trees (deltas_of rs) (map change_of rs) s
  pub deltas : delta_fault trees (deltas_of rs) s ≡ None

-- changes in path order filled in, one after another
abbrev pub filled_after : List PathMap → Deltas → List Change → List Change → List Change
filled_after trees ds done [] = done
filled_after trees ds done (c ∷ cs) = filled_after trees ds (done ++ filled_in trees ds done c ∷ []) cs

-- so far the changes ys were filled in to out, whose deltas can be applied and whose first fault this is, and those of out without a fault left that tree
pub record Filling (trees : List PathMap) (ds : Deltas) (ys out : List Change) (tree : PathMap) (first : Option TreeFault) : Type 0 where
  pub items : out ≡ filled_after trees ds [] ys
  pub left : (q : Path) → finite.get tree q ≡ effect trees (sound trees out) q
  pub fault : first ≡ fault trees out
  pub all : first ≡ None → sound trees out ≡ out
  pub deltas : delta_fault trees ds out ≡ None

-- why records give no set: the changes that they state make none; or else one of their deltas can't be applied
pub data IsSetRefusal (trees : List PathMap) (rs : List NodeRecord) (e : ChangeFault) : Type 0 where
  not_stated : IsRefusal e (set_fault (map change_of rs)) → IsSetRefusal trees rs e
  not_applied : (s : List Change) → set_fault (map change_of rs) ≡ None → IsSetOf trees (deltas_of rs) (map change_of rs) s → IsRefusal e (delta_fault trees (deltas_of rs) s) → IsSetRefusal trees rs e

-- why a revision isn't taken: its number isn't the next one; else its records give no set; else the set that they give has a fault
pub data IsLoadRefusal (trees : List PathMap) (number : ℕ) (rs : List NodeRecord) (e : ChangeFault) : Type 0 where
  out_of_turn : (number ≡ length trees → ⊥) → IsRefusal e (Some refusal.WrongNumber) → IsLoadRefusal trees number rs e
  no_set : number ≡ length trees → IsSetRefusal trees rs e → IsLoadRefusal trees number rs e
  faulty : (s : List Change) → number ≡ length trees → IsNormalSetOf trees rs s → IsRefusal e (option_map refused (fault trees s)) → IsLoadRefusal trees number rs e
