-- What holds of each call of a drive.
use Rattle.std.proofs.Common.{ℕ, Bool, true, false, cond, not, List, [], ◌∷◌, ◌++◌, map, filter, reverse, Option, Some, None, sym, subst, if◌then◌else◌}
use Rattle.std.proofs.lemmas.List.{reverse-append}
use Rattle.std.specs.Prelude.{IfSome}
use Rattle.std.specs.Option.{option_map, option_map_or}
use Rattle.std.specs.List.{AllByRecursion}
use Rattle.std.specs.FinMap as finite
use Rattle.md5.specs.Md5.{md5}
use Rattle.node_base.specs.Path.{Name, Path, is_front}
use Rattle.node_base.specs.Props.{PropMap}
use Rattle.node_base.specs.Tree.{PathMap}
use Rattle.node_base.specs.declared.node.Node.{Node}
use Rattle.node_base.specs.declared.node.Action.{Action}
use Rattle.node_base.specs.declared.node.Action.TheVariants.{Modify, Add, Delete, Replace}
use Rattle.dump_load.specs.declared.change.Change.{Change}
use Rattle.dump_load.specs.Changes.{is_delete}
use Rattle.dump_load.specs.Effect.{effect}
use Rattle.delta_editor.specs.declared.call.Call.{Call}
use Rattle.delta_editor.specs.declared.call.Call.TheVariants as call
use Rattle.editor_ends.specs.Fronts.{above, fronts}
use Rattle.editor_ends.specs.Parts.{removals, settings, prop_calls, pieces, text_calls, parts}
use Rattle.editor_ends.specs.Drive.{base_number, opening, opens, closes, calls_with, of_file, old_props, change_calls, rests_at, walk}

module _ (P : Call → Type 0) where
  abbrev pub All : List Call → Type 0
  All = AllByRecursion P

  both : (xs ys : List Call) → All xs → All ys → All (xs ++ ys)
  both [] ys h k = k
  both (x ∷ xs) ys h k = (h.0, both xs ys h.1 k)

  mapped : {X : Type 0} (Q : X → Type 0) (g : X → Call) → ((x : X) → Q x → P (g x)) → (xs : List X) → AllByRecursion Q xs → All (map g xs)
  mapped Q g h [] q = tt
  mapped Q g h (x ∷ xs) q = (h x q.0, mapped Q g h xs q.1)

pub kept : {X : Type 0} (Q : X → Type 0) (t : X → Bool) (xs : List X) → AllByRecursion Q xs → AllByRecursion Q (filter t xs)
kept Q t [] q = tt
kept Q t (x ∷ xs) q = elim (t x) as (λ b. AllByRecursion Q (cond b (x ∷ filter t xs) (filter t xs))) [ true ↦ (q.0, kept Q t xs q.1) | false ↦ kept Q t xs q.1 ]

all_both : {X : Type 0} (Q : X → Type 0) (xs ys : List X) → AllByRecursion Q xs → AllByRecursion Q ys → AllByRecursion Q (xs ++ ys)
all_both Q [] ys h k = k
all_both Q (x ∷ xs) ys h k = (h.0, all_both Q xs ys h.1 k)

-- what an entry of a map has
abbrev pub Entry : Type 0
Entry = Name × List ℕ

-- what has to hold of a change's calls: with the old properties at those entries that it may remove
pub record Holds (P : Call → Type 0) (b : Option ℕ) (c : Change) (old : PropMap) : Type 0 where
  pub closes_up : AllByRecursion (λ d. P (call.CloseDir d)) (fronts c.path)
  pub closes_above : AllByRecursion (λ d. P (call.CloseDir d)) (fronts (above c.path))
  pub opens_up : AllByRecursion (λ d. P (call.OpenDir (above d) d b)) (fronts (above c.path))
  pub delete : P (call.DeleteEntry (above c.path) c.path b)
  pub add_file : P (call.AddFile (above c.path) c.path c.source)
  pub add_dir : P (call.AddDir (above c.path) c.path c.source)
  pub open_file : P (call.OpenFile (above c.path) c.path b)
  pub open_dir : P (call.OpenDir (above c.path) c.path b)
  pub gone_dir : AllByRecursion (λ (e : Entry). P (call.DirProp c.path e.0 None)) (finite.entries old)
  pub gone_file : AllByRecursion (λ (e : Entry). P (call.FileProp c.path e.0 None)) (finite.entries old)
  pub set_dir : IfSome c.props (λ m. AllByRecursion (λ (e : Entry). P (call.DirProp c.path e.0 (Some e.1))) (finite.entries m))
  pub set_file : IfSome c.props (λ m. AllByRecursion (λ (e : Entry). P (call.FileProp c.path e.0 (Some e.1))) (finite.entries m))
  pub text : IfSome c.text (λ t. P (call.TextStart c.path) × AllByRecursion (λ x. P (call.TextPiece c.path x)) (pieces t) × P (call.TextEnd c.path))
  pub close : P (call.CloseFile c.path (option_map md5 c.text))

module _ (P : Call → Type 0) (trees : List PathMap) where
  opening_all : (file : Bool) (c : Change) (old : PropMap) → Holds P (base_number trees) c old → All P (opening trees file c)
  opening_all file c old h = by c.action file
    where
      by : (a : Action) (b : Bool) → All P (opening trees b (record { path = c.path; action = a; kind = c.kind; source = c.source; props = c.props; text = c.text }))
      by Modify true = (h.open_file, tt)
      by Modify false = (h.open_dir, tt)
      by Add true = (h.add_file, tt)
      by Add false = (h.add_dir, tt)
      by Delete b = (h.delete, tt)
      by Replace true = (h.delete, (h.add_file, tt))
      by Replace false = (h.delete, (h.add_dir, tt))

  props_all : (prop : Name → Option (List ℕ) → Call) (old : PropMap) (new : Option PropMap) → AllByRecursion (λ (e : Entry). P (prop e.0 None)) (finite.entries old) → IfSome new (λ m. AllByRecursion (λ (e : Entry). P (prop e.0 (Some e.1))) (finite.entries m)) → All P (option_map_or (prop_calls prop old) new [])
  props_all prop old None g h = tt
  props_all prop old (Some new) g h =
      both P (removals prop new (finite.entries old)) (settings prop (finite.entries new))
      (mapped P {X = Entry} (λ e. P (prop e.0 None)) (λ e. prop e.0 None) (λ e q. q) (filter (λ (e : Entry). not (finite.contains_key new e.0)) (finite.entries old)) (kept {X = Entry} (λ e. P (prop e.0 None)) (λ e. not (finite.contains_key new e.0)) (finite.entries old) g))
      (mapped P {X = Entry} (λ e. P (prop e.0 (Some e.1))) (λ e. prop e.0 (Some e.1)) (λ e q. q) (finite.entries new) h)

  text_all : (p : Path) (t : Option (List ℕ)) → IfSome t (λ t. P (call.TextStart p) × AllByRecursion (λ x. P (call.TextPiece p x)) (pieces t) × P (call.TextEnd p)) → All P (option_map_or (text_calls p) t [])
  text_all p None h = tt
  text_all p (Some t) h = (h.0, both P (map (call.TextPiece p) (pieces t)) (call.TextEnd p ∷ []) (mapped P (λ x. P (call.TextPiece p x)) (call.TextPiece p) (λ x q. q) (pieces t) h.1) (h.2, tt))

  parts_all : (file : Bool) (c : Change) (old : PropMap) → Holds P (base_number trees) c old → All P (parts file c old)
  parts_all false c old h = props_all (call.DirProp c.path) old c.props h.gone_dir h.set_dir
  parts_all true c old h =
      both P (option_map_or (prop_calls (call.FileProp c.path) old) c.props []) (option_map_or (text_calls c.path) c.text [] ++ call.CloseFile c.path (option_map md5 c.text) ∷ []) (props_all (call.FileProp c.path) old c.props h.gone_file h.set_file)
      (both P (option_map_or (text_calls c.path) c.text []) (call.CloseFile c.path (option_map md5 c.text) ∷ []) (text_all c.path c.text h.text) (h.close, tt))

  calls_all : (file : Bool) (c : Change) (old : PropMap) → Holds P (base_number trees) c old → All P (calls_with trees file old c)
  calls_all file c old h = both P (if is_front c.path [] then [] else opening trees file c) (if is_delete c.action then [] else parts file c old) (first (is_front c.path [])) (second (is_delete c.action))
    where
      first : (b : Bool) → All P (cond b [] (opening trees file c))
      first true = tt
      first false = opening_all file c old h

      second : (b : Bool) → All P (cond b [] (parts file c old))
      second true = tt
      second false = parts_all file c old h

  turned : (Q : Path → Type 0) (xs : List Path) → AllByRecursion Q xs → AllByRecursion Q (reverse xs)
  turned Q [] h = tt
  turned Q (x ∷ xs) h = subst (AllByRecursion Q) (sym (reverse-append (x ∷ []) xs)) (all_both Q (reverse xs) (x ∷ []) (turned Q xs h.1) (h.0, tt))

  abbrev pub Closes : Path → Type 0
  Closes at = AllByRecursion (λ d. P (call.CloseDir d)) (fronts at)

  closes_all : (at p : Path) → Closes at → All P (closes at p)
  closes_all at p h = mapped P (λ d. P (call.CloseDir d)) call.CloseDir (λ d q. q) (reverse (filter (λ d. not (is_front d p)) (fronts at))) (turned (λ d. P (call.CloseDir d)) (filter (λ d. not (is_front d p)) (fronts at)) (kept (λ d. P (call.CloseDir d)) (λ d. not (is_front d p)) (fronts at) h))

  -- what has to hold of each change of a set, where the changes before it are done
  abbrev pub Each : List Change → List Change → Type 0
  Each done [] = Unit {0}
  Each done (c ∷ s) = Holds P (base_number trees) c (old_props trees (effect trees done) c) × Each (done ++ c ∷ []) s

  rests : (file : Bool) (c : Change) (old : PropMap) → Holds P (base_number trees) c old → Closes (Rattle.editor_ends.specs.Drive.rests_with file c)
  rests file c old h = by (is_delete c.action) file
    where
      by : (a b : Bool) → Closes (cond a (above c.path) (cond b (above c.path) c.path))
      by true b = h.closes_above
      by false true = h.closes_above
      by false false = h.closes_up

  walk_all : (done s : List Change) (at : Path) → Closes at → Each done s → All P (walk trees done at s)
  walk_all done [] at k h = closes_all at [] k
  walk_all done (c ∷ s) at k h =
      both P (closes at c.path ++ (opens trees at c.path ++ change_calls trees f c)) (walk trees (done ++ c ∷ []) (rests_at trees f c) s)
      (both P (closes at c.path) (opens trees at c.path ++ change_calls trees f c) (closes_all at c.path k)
      (both P (opens trees at c.path) (change_calls trees f c)
      (mapped P (λ d. P (call.OpenDir (above d) d (base_number trees))) (λ d. call.OpenDir (above d) d (base_number trees)) (λ d q. q) (filter (λ d. not (is_front d at)) (fronts (above c.path))) (kept (λ d. P (call.OpenDir (above d) d (base_number trees))) (λ d. not (is_front d at)) (fronts (above c.path)) h.0.opens_up))
      (calls_all (of_file trees f c) c (old_props trees f c) h.0)))
      (walk_all (done ++ c ∷ []) s (rests_at trees f c) (rests (of_file trees f c) c (old_props trees f c) h.0) h.1)
    where
      f : Path → Option Node
      f = effect trees done

  pub body_all : (s : List Change) → Each [] s → P (call.CloseDir []) → P call.CloseEdit → All P (walk trees [] [] s ++ (call.CloseDir [] ∷ call.CloseEdit ∷ []))
  body_all s h a b = both P (walk trees [] [] s) (call.CloseDir [] ∷ call.CloseEdit ∷ []) (walk_all [] s [] tt h) (a, (b, tt))
