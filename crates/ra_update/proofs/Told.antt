-- What is said of each call that the changes between two trees are driven as.
use Rattle.std.proofs.Common.{◌≡◌, ℕ, Bool, true, false, cond, not, ◌&&◌, ◌||◌, T, List, [], ◌∷◌, ◌++◌, map, filter, reverse, Option, Some, None, IfSome, is_some, is_none, refl, sym, ap, subst, ◌∙◌, if◌then◌else◌}
use Rattle.std.proofs.lemmas.Option.{same_Some}
use Rattle.std.specs.Option.{option_map_or, option_and_then}
use Rattle.std.specs.List.{AllByRecursion}
use Rattle.std.specs.Ordering.{eq_by_cmp}
use Rattle.std.specs.declared.cmp.Ordering.{Ordering}
use Rattle.std.specs.FinMap as finite
use Rattle.std.specs.FinMap.{find, is_sorted}
use Rattle.std.specs.FinMap.Entries.{below_all}
use Rattle.node_base.specs.Path.{Name, Path, name_cmp, path_cmp, is_front}
use Rattle.node_base.proofs.PathLemmas.{name_of_same, same_name_itself, path_of_same, same_path_itself}
use Rattle.node_base.proofs.EntryLemmas.{both_true, find_absent}
use Rattle.node_base.specs.Props.{PropMap}
use Rattle.node_base.specs.Tree.{PathMap, blocked}
use Rattle.node_base.specs.declared.node.Node.{Node}
use Rattle.node_base.specs.declared.node.Action.{Action}
use Rattle.node_base.specs.declared.node.Action.TheVariants.{Add, Replace}
use Rattle.node_base.specs.declared.node.NodeKind.TheVariants.{File, Dir}
use Rattle.dump_load.specs.declared.change.Change.{Change}
use Rattle.dump_load.specs.Changes.{is_delete}
use Rattle.dump_load.specs.Effect.{effect}
use Rattle.dump_load.specs.Faults.{is_file}
use Rattle.delta_editor.specs.declared.call.Call.{Call}
use Rattle.delta_editor.specs.declared.call.Call.TheVariants as call
use Rattle.editor_ends.specs.Fronts.{above, fronts}
use Rattle.editor_ends.specs.Parts.{removals, settings, prop_calls, pieces, text_calls, parts}
use Rattle.editor_ends.specs.Drive.{base_number, opening, opens, closes, calls_with, of_file, old_props, change_calls, rests_at, walk}
use Rattle.tree_reports.specs.Differences.{Told, Removed, Added, Replaced, Changed, are_other_kinds, parts_of, told, AreDifferences}
use Rattle.tree_reports.proofs.Merges.{find_below}
use Rattle.tree_changes.specs.Changes.{brought, told_change, change_of, changes_of}
use Rattle.ra_update.specs.Reported.{if_dir, if_file, dir_in, file_in, value_of}
use Rattle.ra_update.specs.Sent.{up_to_end}
use Rattle.ra_update.proofs.Untold.{stays, Says}

-- ---- lists of pairs

-- what is found of each key holds of each pair
found_all : {K X : Type 0} (R : K → K → Ordering) → ((k : K) → eq_by_cmp R k k ≡ true) → ((k l : K) → eq_by_cmp R k l ≡ true → k ≡ l) → ((k : K) (es : List (K × X)) → T (below_all R k es) → find R k es ≡ None)
    → (P : K → X → Type 0) (es : List (K × X)) → T (is_sorted R es) → ((k : K) (x : X) → find R k es ≡ Some x → P k x) → AllByRecursion (λ e. P e.0 e.1) es
found_all R itself same absent P [] s h = tt
found_all R itself same absent P (e ∷ es) s h = (
  h e.0 e.1 (ap (λ b. cond b (Some e.1) (find R e.0 es)) (itself e.0)),
  found_all R itself same absent P es (both_true _ _ s).1 (λ k x f. h k x (elim (eq_by_cmp R k e.0) as (λ b. eq_by_cmp R k e.0 ≡ b → cond b (Some e.1) (find R k es) ≡ Some x) [
    | true ↦ λ t. cc (absent e.0 es (both_true _ _ s).0, ap (λ z. find R z es) (sym (same k e.0 t)), f)
    | false ↦ λ t. f
  ] refl)),
)

-- each entry of properties is found
entries_found : (m : PropMap) → AllByRecursion (λ (e : Name × List ℕ). Some e.1 ≡ finite.get m e.0) (finite.entries m)
entries_found m = found_all name_cmp same_name_itself name_of_same find_absent (λ n v. Some v ≡ finite.get m n) (finite.entries m) (finite.entries_sorted m) (λ n v f. sym (finite.get-entries m n ∙ f))

missing : (m : PropMap) (n : Name) → not (finite.contains_key m n) ≡ true → None ≡ finite.get m n
missing m n e = by (finite.get m n) e
  where
    by : (o : Option (List ℕ)) → not (is_some o) ≡ true → None ≡ o
    by None e = refl
    by (Some v) e = cc

-- ---- what is told of a path

-- by what stood and what stands there: what comes doesn't stay, what changes does
abbrev IsTold : Option Node → Option Node → Told → Type 0
IsTold o u Removed = Unit {0}
IsTold o u (Added y) = (stays o u ≡ false) × (u ≡ Some y)
IsTold o u (Replaced y) = (stays o u ≡ false) × (u ≡ Some y)
IsTold o u (Changed y parts) = (stays o u ≡ true) × (u ≡ Some y)

is_told : (opens : Bool) (o u : Option Node) (b : Bool) (t : Told) → told opens o u b ≡ Some t → IsTold o u t
is_told opens None None b t e = absurd cc
is_told opens None (Some y) b t e = subst (IsTold None (Some y)) (same_Some (Added y) t e) (refl, refl)
is_told opens (Some x) None true t e = absurd cc
is_told opens (Some x) None false t e = subst (IsTold (Some x) None) (same_Some Removed t e) tt
is_told opens (Some x) (Some y) b t e = by (are_other_kinds (is_some x.text) (is_some y.text)) ((parts_of x y).props || (parts_of x y).text || (opens && is_none y.text)) refl e
  where
    by : (k l : Bool) → are_other_kinds (is_some x.text) (is_some y.text) ≡ k → cond k (Some (Replaced y)) (cond l (Some (Changed y (parts_of x y))) None) ≡ Some t → IsTold (Some x) (Some y) t
    by true l is e = subst (IsTold (Some x) (Some y)) (same_Some (Replaced y) t e) (ap not is, refl)
    by false false is e = absurd cc
    by false true is e = subst (IsTold (Some x) (Some y)) (same_Some (Changed y (parts_of x y)) t e) (ap not is, refl)

-- a directory in the place of a directory stays, and so does a file in the place of a file
dir_stays : (o : Option Node) (y : Node) → is_some y.text ≡ false → is_some (option_and_then if_dir o) ≡ true → stays o (Some y) ≡ true
dir_stays None y d e = cc
dir_stays (Some x) y d e = by (is_some x.text) (is_some y.text) d e
  where
    by : (a b : Bool) → b ≡ false → is_some (cond a None (Some x)) ≡ true → not (are_other_kinds a b) ≡ true
    by true b d e = cc
    by false true d e = cc
    by false false d e = refl

file_stays : (o : Option Node) (y : Node) → is_some y.text ≡ true → is_some (option_and_then if_file o) ≡ true → stays o (Some y) ≡ true
file_stays None y d e = cc
file_stays (Some x) y d e = by (is_some x.text) (is_some y.text) d e
  where
    by : (a b : Bool) → b ≡ true → is_some (cond a (Some x) None) ≡ true → not (are_other_kinds a b) ≡ true
    by false b d e = cc
    by true true d e = refl
    by true false d e = cc

kind_is : (b : Bool) → is_file (cond b File Dir) ≡ b
kind_is true = refl
kind_is false = refl

-- ---- the calls of a change

module _ (old wanted : PathMap) where
  abbrev before : Path → Option Node
  before q = finite.get old q

  abbrev after : Path → Option Node
  after q = finite.get wanted q

  abbrev All : List Call → Type 0
  All = AllByRecursion (Says old wanted)

  abbrev AreTold : List (Path × Told) → Type 0
  AreTold es = AllByRecursion (λ e. IsTold (before e.0) (after e.0) e.1) es

  both : (xs ys : List Call) → All xs → All ys → All (xs ++ ys)
  both [] ys h k = k
  both (x ∷ xs) ys h k = (h.0, both xs ys h.1 k)

  each : {X : Type 0} (g : X → Call) → ((x : X) → Says old wanted (g x)) → (xs : List X) → All (map g xs)
  each g h [] = tt
  each g h (x ∷ xs) = (h x, each g h xs)

  -- properties of the wanted node
  removals_say : (prop : Name → Option (List ℕ) → Call) (new : PropMap) → ((n : Name) → None ≡ finite.get new n → Says old wanted (prop n None)) → (es : List (Name × List ℕ)) → All (removals prop new es)
  removals_say prop new h [] = tt
  removals_say prop new h (e ∷ es) = elim (not (finite.contains_key new e.0)) as (λ b. not (finite.contains_key new e.0) ≡ b → All (map (λ (e : Name × List ℕ). prop e.0 None) (cond b (e ∷ filter (λ (e : Name × List ℕ). not (finite.contains_key new e.0)) es) (filter (λ (e : Name × List ℕ). not (finite.contains_key new e.0)) es)))) [
    | true ↦ λ t. (h e.0 (missing new e.0 t), removals_say prop new h es)
    | false ↦ λ t. removals_say prop new h es
  ] refl

  settings_say : (prop : Name → Option (List ℕ) → Call) (new : PropMap) → ((n : Name) (v : List ℕ) → Some v ≡ finite.get new n → Says old wanted (prop n (Some v))) → (es : List (Name × List ℕ)) → AllByRecursion (λ (e : Name × List ℕ). Some e.1 ≡ finite.get new e.0) es → All (settings prop es)
  settings_say prop new h [] k = tt
  settings_say prop new h (e ∷ es) k = (h e.0 e.1 k.0, settings_say prop new h es k.1)

  abbrev AreWanted : Path → PropMap → Type 0
  AreWanted p m = (n : Name) → finite.get m n ≡ value_of (after p) n

  props_say : (p : Path) (prop : Name → Option (List ℕ) → Call) → ((n : Name) (v : Option (List ℕ)) → v ≡ value_of (after p) n → Says old wanted (prop n v)) → (olds : PropMap) (new : Option PropMap) → IfSome new (AreWanted p) → All (option_map_or (prop_calls prop olds) new [])
  props_say p prop h olds None w = tt
  props_say p prop h olds (Some new) w =
      both (removals prop new (finite.entries olds)) (settings prop (finite.entries new)) (removals_say prop new (λ n e. h n None (e ∙ w n)) (finite.entries olds)) (settings_say prop new (λ n v e. h n (Some v) (e ∙ w n)) (finite.entries new) (entries_found new))

  -- properties and a text, and then a close
  closed_say : (p : Path) (sum : Option (List ℕ)) (xs ys : List Call) → All xs → All ys → All (xs ++ (ys ++ call.CloseFile p sum ∷ []))
  closed_say p sum xs ys h k = both xs (ys ++ call.CloseFile p sum ∷ []) h (both ys (call.CloseFile p sum ∷ []) k (tt, tt))

  parts_say : (file : Bool) (c : Change) (olds : PropMap) → (file ≡ false → is_some (dir_in old c.path) ≡ true → stays (before c.path) (after c.path) ≡ true) → (file ≡ true → is_some (file_in old c.path) ≡ true → stays (before c.path) (after c.path) ≡ true) → IfSome c.props (AreWanted c.path) → All (parts file c olds)
  parts_say false c olds d f w = props_say c.path (call.DirProp c.path) (λ n v e. (e, d refl)) olds c.props w
  parts_say true c olds d f w =
      closed_say c.path _ (option_map_or (prop_calls (call.FileProp c.path) olds) c.props []) (option_map_or (text_calls c.path) c.text []) (props_say c.path (call.FileProp c.path) (λ n v e. (e, f refl)) olds c.props w) (text c.text)
    where
      text : (t : Option (List ℕ)) → All (option_map_or (text_calls c.path) t [])
      text None = tt
      text (Some t) = (tt, both (map (call.TextPiece c.path) (pieces t)) (call.TextEnd c.path ∷ []) (each (call.TextPiece c.path) (λ x. tt) (pieces t)) (tt, tt))

  calls_say : (trees : List PathMap) (file : Bool) (olds : PropMap) (c : Change) → All (opening trees file c) → (is_delete c.action ≡ false → All (parts file c olds)) → All (calls_with trees file olds c)
  calls_say trees file olds c o h = both (if is_front c.path [] then [] else opening trees file c) (if is_delete c.action then [] else parts file c olds) (first (is_front c.path [])) (second (is_delete c.action) refl)
    where
      first : (b : Bool) → All (cond b [] (opening trees file c))
      first true = tt
      first false = o

      second : (b : Bool) → is_delete c.action ≡ b → All (cond b [] (parts file c olds))
      second true e = tt
      second false e = h e

  -- a node that comes
  added_say : (p : Path) (file : Bool) → stays (before p) (after p) ≡ false → Says old wanted (if file then call.AddFile (above p) p None else call.AddDir (above p) p None)
  added_say p true gone = (refl, gone)
  added_say p false gone = (refl, gone)

  are_wanted : (p : Path) (y : Node) → after p ≡ Some y → AreWanted p y.props
  are_wanted p y is n = ap (λ o. value_of o n) (sym is)

  brought_say : (p : Path) (a : Action) (y : Node) (file : Bool) (olds : PropMap) → file ≡ is_some y.text → after p ≡ Some y → All (parts file (brought p a y) olds)
  brought_say p a y file olds kind is =
      parts_say file (brought p a y) olds
      (λ f d. ap (stays (before p)) is ∙ dir_stays (before p) y (sym kind ∙ f) d)
      (λ f d. ap (stays (before p)) is ∙ file_stays (before p) y (sym kind ∙ f) d)
      (are_wanted p y is)

  change_say : (trees : List PathMap) (f : Path → Option Node) (p : Path) (t : Told) → IsTold (before p) (after p) t → All (change_calls trees f (told_change p t))
  change_say trees f p Removed h = let c = told_change p Removed in calls_say trees (of_file trees f c) (old_props trees f c) c (tt, tt) (λ e. cc)
  change_say trees f p (Added y) h = let c = told_change p (Added y) in let file = of_file trees f c in calls_say trees file (old_props trees f c) c (added_say p file h.0, tt) (λ _. brought_say p Add y file (old_props trees f c) (kind_is (is_some y.text)) h.1)
  change_say trees f p (Replaced y) h = let c = told_change p (Replaced y) in let file = of_file trees f c in calls_say trees file (old_props trees f c) c (tt, (added_say p file h.0, tt)) (λ _. brought_say p Replace y file (old_props trees f c) (kind_is (is_some y.text)) h.1)
  change_say trees f p (Changed y parts) h = let c = told_change p (Changed y parts) in let file = of_file trees f c in calls_say trees file (old_props trees f c) c (opened file) (λ _. parts_say file c (old_props trees f c) (λ _ _. h.0) (λ _ _. h.0) (given parts.props))
    where
      opened : (b : Bool) → All (opening trees b (told_change p (Changed y parts)))
      opened true = (tt, tt)
      opened false = (tt, tt)

      given : (b : Bool) → IfSome (cond b (Some y.props) None) (AreWanted p)
      given true = are_wanted p y h.1
      given false = tt

  -- ---- all calls

  walk_say : (trees : List PathMap) (done : List Change) (at : Path) (es : List (Path × Told)) → AreTold es → All (walk trees done at (changes_of es))
  walk_say trees done at [] h = each call.CloseDir (λ d. tt) (reverse (filter (λ d. not (is_front d [])) (fronts at)))
  walk_say trees done at (e ∷ es) h =
      both (closes at c.path ++ (opens trees at c.path ++ change_calls trees f c)) (walk trees (done ++ c ∷ []) (rests_at trees f c) (changes_of es))
      (both (closes at c.path) (opens trees at c.path ++ change_calls trees f c) (each call.CloseDir (λ d. tt) (reverse (filter (λ d. not (is_front d c.path)) (fronts at))))
      (both (opens trees at c.path) (change_calls trees f c) (each (λ d. call.OpenDir (above d) d (base_number trees)) (λ d. tt) (filter (λ d. not (is_front d at)) (fronts (above c.path))))
      (change_say trees f e.0 e.1 h.0)))
      (walk_say trees (done ++ c ∷ []) (rests_at trees f c) es h.1)
    where
      c : Change
      c = change_of e

      f : Path → Option Node
      f = effect trees done

  all_told : (opens : Bool) (es : List (Path × Told)) → AreDifferences opens (finite.get old) (finite.get wanted) es → AreTold es
  all_told opens es h = found_all path_cmp same_path_itself path_of_same find_below (λ p t. IsTold (before p) (after p) t) es h.in_order (λ p t e. is_told opens (before p) (after p) (is_some (blocked (finite.get wanted) p)) t (sym (h.each p) ∙ e))

  pub calls_say_it : (opens : Bool) (trees : List PathMap) (es : List (Path × Told)) → AreDifferences opens (finite.get old) (finite.get wanted) es → AllByRecursion (Says old wanted) (up_to_end trees (changes_of es))
  calls_say_it opens trees es h = (tt, (tt, both (walk trees [] [] (changes_of es)) (call.CloseDir [] ∷ []) (walk_say trees [] [] es (all_told opens es h)) (tt, tt)))
