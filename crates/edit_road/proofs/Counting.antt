-- How many calls a drive has.
use Rattle.std.proofs.Common.{◌≡◌, ℕ, zero, suc, ◌+◌, ◌*◌, ◌≤◌, Bool, true, false, cond, not, List, [], ◌∷◌, ◌++◌, map, filter, reverse, length, drop, Option, Some, None, length-append, arith, if◌then◌else◌}
use Rattle.std.proofs.lemmas.List.{length-map, length-reverse}
use Rattle.std.specs.Prelude.{IfSome}
use Rattle.std.specs.Option.{option_map, option_map_or}
use Rattle.std.specs.List.{AllByRecursion}
use Rattle.std.specs.FinMap as finite
use Rattle.md5.specs.Md5.{md5}
use Rattle.node_base.specs.Path.{Name, Path, is_front}
use Rattle.node_base.specs.PathText.{is_path}
use Rattle.node_base.specs.Props.{PropMap, IsProps}
use Rattle.node_base.specs.Tree.{PathMap}
use Rattle.node_base.specs.declared.node.Action.{Action}
use Rattle.node_base.specs.declared.node.Action.TheVariants.{Modify, Add, Delete, Replace}
use Rattle.node_base.specs.declared.limits.TheConstants.{TEXT_BYTES}
use Rattle.node_base.proofs.BlockLengths.{few_entries}
use Rattle.node_base.proofs.ReadBack.{count_of_fits, fits_of_path}
use Rattle.dump_load.specs.declared.change.Change.{Change}
use Rattle.dump_load.specs.Changes.{is_delete}
use Rattle.dump_load.specs.Effect.{effect}
use Rattle.delta_editor.specs.declared.call.Call.{Call}
use Rattle.delta_editor.specs.declared.call.Call.TheVariants as call
use Rattle.editor_ends.specs.Fronts.{above, fronts}
use Rattle.editor_ends.specs.Parts.{removals, settings, prop_calls, pieces_of, pieces, text_calls, parts}
use Rattle.editor_ends.specs.Drive.{base_number, opening, opens, closes, calls_with, of_file, old_props, change_calls, rests_with, rests_at, walk}
use Rattle.dump_load.specs.Bounds.{IsSmall}
use Rattle.edit_road.specs.Sent.{HasProps, IsSent, body_of}
use Rattle.edit_road.proofs.Limits.{above_path, fronts_length, old_is_props}
use Rattle.edit_road.proofs.Walked.{Entry}

filtered : {X : Type 0} (t : X → Bool) (xs : List X) → length (filter t xs) ≤ length xs
filtered t [] = omega arith
filtered t (x ∷ xs) = elim (t x) as (λ b. length (cond b (x ∷ filter t xs) (filter t xs)) ≤ suc (length xs)) [ true ↦ omega (arith, filtered t xs) | false ↦ omega (arith, filtered t xs) ]

names_of : (p : Path) → is_path p ≡ true → length p ≤ 64
names_of p e = count_of_fits p (fits_of_path p e)

closes_few : (at p : Path) → length at ≤ 64 → length (closes at p) ≤ 64
closes_few at p l =
    let kept = filter (λ d. not (is_front d p)) (fronts at) in
    omega (arith, l, length-map (reverse kept) call.CloseDir, length-reverse kept, filtered (λ d. not (is_front d p)) (fronts at), fronts_length [] at)

opens_few : (trees : List PathMap) (at p : Path) → is_path p ≡ true → length (opens trees at p) ≤ 64
opens_few trees at p e =
    let kept = filter (λ d. not (is_front d at)) (fronts (above p)) in
    omega (arith, names_of (above p) (above_path p e), length-map kept (λ d. call.OpenDir (above d) d (base_number trees)), filtered (λ d. not (is_front d at)) (fronts (above p)), fronts_length [] (above p))

opening_few : (trees : List PathMap) (file : Bool) (c : Change) → length (opening trees file c) ≤ 2
opening_few trees file c = by c.action
  where
    by : (a : Action) → length (opening trees file (record { path = c.path; action = a; kind = c.kind; source = c.source; props = c.props; text = c.text })) ≤ 2
    by Modify = omega arith
    by Add = omega arith
    by Delete = omega arith
    by Replace = omega arith

props_few : (prop : Name → Option (List ℕ) → Call) (old : PropMap) (new : Option PropMap) → IsProps old → IfSome new IsProps → length (option_map_or (prop_calls prop old) new []) ≤ 544
props_few prop old None h k = omega arith
props_few prop old (Some new) h k =
    let gone = filter (λ (e : Entry). not (finite.contains_key new e.0)) (finite.entries old) in
    omega (arith, few_entries old h, few_entries new k, length-append (removals prop new (finite.entries old)) (settings prop (finite.entries new)), length-map gone (λ (e : Entry). prop e.0 None), filtered (λ (e : Entry). not (finite.contains_key new e.0)) (finite.entries old), length-map (finite.entries new) (λ (e : Entry). prop e.0 (Some e.1)))

pieces_few : (k : ℕ) (t : List ℕ) → length (pieces_of k t) ≤ k
pieces_few zero t = omega arith
pieces_few (suc k) [] = omega arith
pieces_few (suc k) (b ∷ t) = omega (arith, pieces_few k (drop 65536 (b ∷ t)))

text_few : (p : Path) (o : Option (List ℕ)) → IfSome o (λ t. length t ≤ TEXT_BYTES) → length (option_map_or (text_calls p) o []) ≤ TEXT_BYTES + 2
text_few p None h = omega arith
text_few p (Some t) h = omega (arith, h, pieces_few (length t) t, length-map (pieces t) (call.TextPiece p), length-append (map (call.TextPiece p) (pieces t)) (call.TextEnd p ∷ []))

parts_few : (file : Bool) (c : Change) (old : PropMap) → IsSmall c → IsProps old → length (parts file c old) ≤ TEXT_BYTES + 547
parts_few false c old small h = omega (arith, props_few (call.DirProp c.path) old c.props h small.parts.0)
parts_few true c old small h =
    let props = option_map_or (prop_calls (call.FileProp c.path) old) c.props [] in
    let text = option_map_or (text_calls c.path) c.text [] in
    let close = call.CloseFile c.path (option_map md5 c.text) ∷ [] in
    omega (arith, props_few (call.FileProp c.path) old c.props h small.parts.0, text_few c.path c.text small.parts.1, length-append props (text ++ close), length-append text close)

calls_few : (trees : List PathMap) (file : Bool) (c : Change) (old : PropMap) → IsSmall c → IsProps old → length (calls_with trees file old c) ≤ TEXT_BYTES + 549
calls_few trees file c old small h =
    let a = if is_front c.path [] then [] else opening trees file c in
    let b = if is_delete c.action then [] else parts file c old in
    omega (arith, length-append a b, first (is_front c.path []), second (is_delete c.action))
  where
    first : (b : Bool) → length (cond b [] (opening trees file c)) ≤ 2
    first true = omega arith
    first false = opening_few trees file c

    second : (b : Bool) → length (cond b [] (parts file c old)) ≤ TEXT_BYTES + 547
    second true = omega arith
    second false = parts_few file c old small h

rests_few : (file : Bool) (c : Change) → is_path c.path ≡ true → length (rests_with file c) ≤ 64
rests_few file c e = by (is_delete c.action) file
  where
    by : (a b : Bool) → length (cond a (above c.path) (cond b (above c.path) c.path)) ≤ 64
    by true b = names_of (above c.path) (above_path c.path e)
    by false true = names_of (above c.path) (above_path c.path e)
    by false false = names_of c.path e

small_more : (done : List Change) (c : Change) → AllByRecursion IsSmall done → IsSmall c → AllByRecursion IsSmall (done ++ c ∷ [])
small_more [] c d h = (h, tt)
small_more (x ∷ done) c d h = (d.0, small_more done c d.1 h)

walk_few : (trees : List PathMap) → AllByRecursion HasProps trees → (done s : List Change) (at : Path) → AllByRecursion IsSmall done → AllByRecursion IsSmall s → length at ≤ 64 → length (walk trees done at s) ≤ length s * (TEXT_BYTES + 677) + 64
walk_few trees nodes done [] at d h l = omega (arith, closes_few at [] l)
walk_few trees nodes done (c ∷ s) at d h l =
    let f = effect trees done in
    let up = closes at c.path in
    let down = opens trees at c.path in
    let calls = change_calls trees f c in
    let rest = walk trees (done ++ c ∷ []) (rests_at trees f c) s in
    omega (
      arith,
      closes_few at c.path l,
      opens_few trees at c.path h.0.path,
      calls_few trees (of_file trees f c) c (old_props trees f c) h.0 (old_is_props trees nodes done d c),
      length-append (up ++ (down ++ calls)) rest,
      length-append up (down ++ calls),
      length-append down calls,
      walk_few trees nodes (done ++ c ∷ []) s (rests_at trees f c) (small_more done c d h.0) h.1 (rests_few (of_file trees f c) c h.0.path),
    )

pub body_few : (trees : List PathMap) (s : List Change) → IsSent trees s → length (body_of trees s) ≤ 4096 * (TEXT_BYTES + 677) + 66
body_few trees s sent = omega (arith, sent.bounded.set.1, walk_few trees sent.nodes [] s [] tt sent.bounded.small (omega arith), length-append (walk trees [] [] s) (call.CloseDir [] ∷ call.CloseEdit ∷ []))
