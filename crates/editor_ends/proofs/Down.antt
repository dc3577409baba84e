-- The calls of a set go down: what is opened, added or deleted is right below its directory.
use Rattle.std.proofs.Common.{◌≡◌, ℕ, Bool, true, false, cond, not, List, [], ◌∷◌, ◌++◌, map, filter, reverse, Option, Some, None, refl, if◌then◌else◌}
use Rattle.std.specs.Option.{option_map, option_map_or}
use Rattle.std.specs.List.{AllByRecursion}
use Rattle.std.specs.FinMap as finite
use Rattle.md5.specs.Md5.{md5}
use Rattle.node_base.specs.Path.{Name, Path, is_front}
use Rattle.node_base.specs.Props.{PropMap}
use Rattle.node_base.specs.Tree.{PathMap}
use Rattle.node_base.specs.declared.node.Node.{Node}
use Rattle.node_base.specs.declared.node.Action.{Action}
use Rattle.node_base.specs.declared.node.Action.TheVariants.{Modify, Add, Delete, Replace}
use Rattle.dump_load.specs.declared.change.Change.{Change}
use Rattle.dump_load.specs.Changes.{is_delete}
use Rattle.dump_load.specs.Effect.{effect}
use Rattle.delta_editor.specs.declared.call.Call.{Call}
use Rattle.delta_editor.specs.declared.call.Call.TheVariants as call
use Rattle.editor_ends.specs.Fronts.{above, fronts_from, fronts}
use Rattle.editor_ends.specs.Parts.{removals, settings, prop_calls, pieces, text_calls, parts}
use Rattle.editor_ends.specs.Drive.{base_number, opening, opens, closes, calls_with, of_file, old_props, change_calls, rests_at, walk, drive}
use Rattle.editor_ends.specs.Laws.{IsChild, GoesDown}
use Rattle.editor_ends.proofs.CallEffects.{all_filter}
use Rattle.editor_ends.proofs.Nested.{ends_of}

abbrev All : List Call → Type 0
All = AllByRecursion GoesDown

both : (xs ys : List Call) → All xs → All ys → All (xs ++ ys)
both [] ys h k = k
both (x ∷ xs) ys h k = (h.0, both xs ys h.1 k)

each : {X : Type 0} (g : X → Call) → ((x : X) → GoesDown (g x)) → (xs : List X) → All (map g xs)
each g h [] = tt
each g h (x ∷ xs) = (h x, each g h xs)

child : (p : Path) → is_front p [] ≡ false → IsChild (above p) p
child p below = record { name = (ends_of p below).name; is = (ends_of p below).is }

fronts_below : (d p : Path) → AllByRecursion (λ e. is_front e [] ≡ false) (fronts_from d p)
fronts_below d [] = tt
fronts_below d (n ∷ p) = (at d, fronts_below (d ++ n ∷ []) p)
  where
    at : (d : Path) → is_front (d ++ n ∷ []) [] ≡ false
    at [] = refl
    at (m ∷ d) = refl

opens_down : (b : Option ℕ) (ps : List Path) → AllByRecursion (λ e. is_front e [] ≡ false) ps → All (map (λ d. call.OpenDir (above d) d b) ps)
opens_down b [] h = tt
opens_down b (p ∷ ps) h = (child p h.0, opens_down b ps h.1)

opening_down : (trees : List PathMap) (file : Bool) (c : Change) → is_front c.path [] ≡ false → All (opening trees file c)
opening_down trees file c below = by c.action file
  where
    down : IsChild (above c.path) c.path
    down = child c.path below

    by : (a : Action) (b : Bool) → All (opening trees b (record { path = c.path; action = a; kind = c.kind; source = c.source; props = c.props; text = c.text }))
    by Modify true = (down, tt)
    by Modify false = (down, tt)
    by Add true = (down, tt)
    by Add false = (down, tt)
    by Delete b = (down, tt)
    by Replace true = (down, (down, tt))
    by Replace false = (down, (down, tt))

props_down : (prop : Name → Option (List ℕ) → Call) → ((k : Name) (v : Option (List ℕ)) → GoesDown (prop k v)) → (old : PropMap) (new : Option PropMap) → All (option_map_or (prop_calls prop old) new [])
props_down prop h old None = tt
props_down prop h old (Some new) =
    both (removals prop new (finite.entries old)) (settings prop (finite.entries new)) (each {X = Name × List ℕ} (λ e. prop e.0 None) (λ e. h e.0 None) (filter (λ e. not (finite.contains_key new e.0)) (finite.entries old)))
    (each {X = Name × List ℕ} (λ e. prop e.0 (Some e.1)) (λ e. h e.0 (Some e.1)) (finite.entries new))

parts_down : (file : Bool) (c : Change) (old : PropMap) → All (parts file c old)
parts_down false c old = props_down (call.DirProp c.path) (λ k v. tt) old c.props
parts_down true c old =
    both (option_map_or (prop_calls (call.FileProp c.path) old) c.props []) (option_map_or (text_calls c.path) c.text [] ++ close) (props_down (call.FileProp c.path) (λ k v. tt) old c.props)
    (both (option_map_or (text_calls c.path) c.text []) close (text c.text) (tt, tt))
  where
    close : List Call
    close = call.CloseFile c.path (option_map md5 c.text) ∷ []

    text : (t : Option (List ℕ)) → All (option_map_or (text_calls c.path) t [])
    text None = tt
    text (Some t) = (tt, both (map (call.TextPiece c.path) (pieces t)) (call.TextEnd c.path ∷ []) (each (call.TextPiece c.path) (λ x. tt) (pieces t)) (tt, tt))

calls_down : (trees : List PathMap) (file : Bool) (old : PropMap) (c : Change) → All (calls_with trees file old c)
calls_down trees file old c = both (if is_front c.path [] then [] else opening trees file c) (if is_delete c.action then [] else parts file c old) (first (is_front c.path []) refl) (second (is_delete c.action))
  where
    first : (b : Bool) → is_front c.path [] ≡ b → All (cond b [] (opening trees file c))
    first true e = tt
    first false e = opening_down trees file c e

    second : (b : Bool) → All (cond b [] (parts file c old))
    second true = tt
    second false = parts_down file c old

closes_down : (at p : Path) → All (closes at p)
closes_down at p = each call.CloseDir (λ d. tt) (reverse (filter (λ d. not (is_front d p)) (fronts at)))

walk_down : (trees : List PathMap) (done s : List Change) (at : Path) → All (walk trees done at s)
walk_down trees done [] at = closes_down at []
walk_down trees done (c ∷ s) at =
    both (closes at c.path ++ (opens trees at c.path ++ change_calls trees f c)) (walk trees (done ++ c ∷ []) (rests_at trees f c) s)
    (both (closes at c.path) (opens trees at c.path ++ change_calls trees f c) (closes_down at c.path)
    (both (opens trees at c.path) (change_calls trees f c) (opens_down (base_number trees) (filter (λ d. not (is_front d at)) (fronts (above c.path))) (all_filter (λ e. is_front e [] ≡ false) (λ d. not (is_front d at)) (fronts (above c.path)) (fronts_below [] (above c.path))))
    (calls_down trees (of_file trees f c) (old_props trees f c) c)))
    (walk_down trees (done ++ c ∷ []) s (rests_at trees f c))
  where
    f : Path → Option Node
    f = effect trees done

pub drive_down : (trees : List PathMap) (s : List Change) → AllByRecursion GoesDown (drive trees s)
drive_down trees s = (tt, (tt, both (walk trees [] [] s) (call.CloseDir [] ∷ call.CloseEdit ∷ []) (walk_down trees [] s []) (tt, (tt, tt))))
