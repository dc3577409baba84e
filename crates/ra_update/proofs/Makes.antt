-- The calls of an update make what is wanted.
use Rattle.std.proofs.Common.{◌≡◌, ℕ, List, [], ◌∷◌, ◌++◌, Option, Some, None, Result, Ok, Err, IfOk, IfErr, OnOk, inl, inr, sym, ap, subst, ◌∙◌}
use Rattle.std.specs.Option.{option_map, option_map_or}
use Rattle.std.proofs.lemmas.Option.{none-some}
use Rattle.std.specs.List.{AllByRecursion}
use Rattle.std.specs.FinMap as finite
use Rattle.std.specs.Io.KnownBytes.{Appends}
use Rattle.node_base.specs.Path.{Path}
use Rattle.node_base.specs.Tree.{PathMap}
use Rattle.node_base.specs.declared.node.Node.{Node}
use Rattle.dump_load.specs.declared.change.Change.{Change}
use Rattle.dump_load.specs.Changes.{IsNormal}
use Rattle.dump_load.specs.Effect.{effect}
use Rattle.dump_load.specs.Faults.{fault}
use Rattle.delta_editor.specs.Faults.{refused}
use Rattle.delta_editor.specs.CallEffect.{all_called, call_effect}
use Rattle.delta_editor.specs.declared.call.Call.TheVariants as call
use Rattle.delta_editor.proofs.CallLemmas.{all_called-append}
use Rattle.editor_ends.specs.Drive.{drive}
use Rattle.editor_ends.specs.Laws.{DriveHasTheEffect}
use Rattle.svndiff.proofs.Written.{appends_join}
use Rattle.ra_item.specs.Items.{spell}
use Rattle.ra_edit.specs.Commands.{edit_bytes}
use Rattle.tree_changes.specs.Changes.{AreBetween}
use Rattle.tree_reports.specs.Applied.{Content, content}
use Rattle.ra_update.specs.Alike.{AreAlike}
use Rattle.ra_update.specs.Sent.{up_to_end, calls_told, end_item, Make, IsUnsent, OfMemory, OfWriter, OfChanges}
use Rattle.ra_update.specs.Updates.{IsUpdate, MayStop}
use Rattle.delta_editor.specs.declared.fault.EditorFault.{EditorFault}
use Rattle.ra_update.specs.declared.facts.Facts.{Facts}
use Rattle.ra_update.proofs.Alike.{alike_itself}
use Rattle.ra_update.proofs.Told.{calls_say_it}
use Rattle.ra_update.proofs.Untold.{Says, starts, all_alike}
use Rattle.ra_update.proofs.Nested.{drive_is}

-- what is like a node of that content
like_content : (o u w : Option Node) → AreAlike o u → option_map content o ≡ option_map content w → AreAlike u w
like_content None None None a e = tt
like_content None None (Some z) a e = cc
like_content None (Some y) w a e = absurd a
like_content (Some x) None w a e = absurd a
like_content (Some x) (Some y) None a e = cc
like_content (Some x) (Some y) (Some z) a e = record {
  text = sym a.text ∙ ap (λ (o : Option Content). option_map_or (λ c. c.text) o None) e;
  props = λ n h. sym (a.props n h) ∙ ap (λ (o : Option Content). option_map_or (λ c. finite.get c.props n) o None) e;
}

-- the end changes nothing
drive_but_end : (m : PathMap) (s : List Change) (q : Path) → call_effect (m ∷ []) (drive (m ∷ []) s) q ≡ all_called (m ∷ []) (finite.get m) (up_to_end (m ∷ []) s) q
drive_but_end m s q =
    ap (λ cs. all_called (m ∷ []) (finite.get m) cs q) (drive_is (m ∷ []) s)
    ∙ ap (λ (f : Path → Option Node). f q) (all_called-append (m ∷ []) (finite.get m) (up_to_end (m ∷ []) s) (call.CloseEdit ∷ []))

pub makes : (m wanted : PathMap) (k : Facts) (s : List Change) → AllByRecursion (Says m wanted) (up_to_end (m ∷ []) s) → ((q : Path) → option_map content (call_effect (m ∷ []) (drive (m ∷ []) s) q) ≡ option_map content (finite.get wanted q)) → Make m wanted (calls_told k (m ∷ []) s)
makes m wanted k s says h q =
    like_content (all_called (m ∷ []) (finite.get m) (up_to_end (m ∷ []) s) q) (all_called (m ∷ []) (finite.get m) (calls_told k (m ∷ []) s) q) (finite.get wanted q)
    (all_alike m wanted (m ∷ []) k (finite.get m) (finite.get m) (up_to_end (m ∷ []) s) says (starts m wanted) (λ p. alike_itself (finite.get m p)) q)
    (sym (ap (option_map content) (drive_but_end m s q)) ∙ h q)

-- what was written of changes between two trees is an update
pub is_update : {T F : Type 0} (contents : T → Option (List ℕ)) (m : PathMap) (k : Facts) (out : T) (s items : List Change) (r : Result T F) → s ≡ items → DriveHasTheEffect → AreBetween k.opens m k.target.now items → IsNormal items
    → ((q : Path) → option_map content (effect (m ∷ []) items q) ≡ option_map content (finite.get k.target.now q))
    → IfOk r (λ w. Appends (contents out) (contents w) (edit_bytes (calls_told k (m ∷ []) s) ++ spell end_item)) → OnOk r (fault (m ∷ []) s ≡ None) → IfOk r (IsUpdate contents m k out)
is_update contents m k out s items (Ok w) e law between normal makes_it bytes faultless = record {
  changes = s;
  between = subst (AreBetween k.opens m k.target.now) (sym e) between;
  makes = makes m k.target.now k s
      (subst (λ l. AllByRecursion (Says m k.target.now) (up_to_end (m ∷ []) l)) (sym (e ∙ between.2)) (calls_say_it m k.target.now k.opens (m ∷ []) between.0 between.1))
      (λ q. ap (option_map content) (law (m ∷ []) s (subst IsNormal (sym e) normal) faultless q ∙ ap (λ l. effect (m ∷ []) l q) e) ∙ makes_it q);
  bytes = bytes;
}
is_update contents m k out s items (Err f) e law between normal makes_it bytes faultless = tt

-- two parts of what is written, the first of a list of trees that is this one
pub both_written : {T F : Type 0} (contents : T → Option (List ℕ)) (k : Facts) (m : PathMap) (trees items : List PathMap) (s : List Change) (out mid : T) (r : Result T F) → trees ≡ items → items ≡ m ∷ [] → Appends (contents out) (contents mid) (edit_bytes (calls_told k trees s))
    → IfOk r (λ w. Appends (contents mid) (contents w) (spell end_item)) → IfOk r (λ w. Appends (contents out) (contents w) (edit_bytes (calls_told k (m ∷ []) s) ++ spell end_item))
both_written contents k m trees items s out mid (Ok w) e is first second =
    appends_join (contents out) (contents mid) (contents w) (edit_bytes (calls_told k (m ∷ []) s)) (spell end_item) (subst (λ l. Appends (contents out) (contents mid) (edit_bytes (calls_told k l s))) (e ∙ is) first) second
both_written contents k m trees items s out mid (Err f) e is first second = tt

-- changes between two trees have no fault
stops : (m : PathMap) (s items : List Change) (f : EditorFault) → s ≡ items → fault (m ∷ []) items ≡ None → IsUnsent (m ∷ []) s f → MayStop f
stops m s items f e n (OfMemory k) = inl k
stops m s items f e n (OfWriter k) = inr k
stops m s items f e n (OfChanges k) = absurd (none-some f (sym (ap (option_map refused) (ap (fault (m ∷ [])) e ∙ n)) ∙ k))

pub may_stop : {X : Type 0} (m : PathMap) (s items : List Change) (r : Result X EditorFault) → s ≡ items → fault (m ∷ []) items ≡ None → IfErr r (IsUnsent (m ∷ []) s) → IfErr r MayStop
may_stop m s items (Ok x) e n h = tt
may_stop m s items (Err f) e n h = stops m s items f e n h
