-- What a call adds to what an editor that builds a set was shown, and why it is refused.
use Rattle.std.proofs.Common.{◌≡◌, ℕ, ◌≤◌, Bool, true, false, cond, not, ◌&&◌, ◌||◌, List, [], ◌∷◌, ◌++◌, length, Option, Some, None, is_some, ◌⊎◌, inl, inr, refl, sym, ap, subst, ◌∙◌, append_assoc, append-nil}
use Rattle.std.specs.Prelude.{unwrap_or}
use Rattle.std.specs.Option.{option_map, option_map_or, option_or, option_and_then}
use Rattle.std.specs.List.{list_any, AllByRecursion}
use Rattle.std.proofs.lemmas.List.Folds.{list_any-append}
use Rattle.std.specs.FinMap as finite
use Rattle.std.specs.FinMap.{get}
use Rattle.node_base.specs.Path.{Path, Name, same_path, is_front}
use Rattle.node_base.proofs.PathLemmas.{same_path_itself, path_of_same}
use Rattle.node_base.specs.Tree.{PathMap, marked, changed_at, grafted, with_number, with_given, base, kind_of}
use Rattle.node_base.specs.NodeEdits.{with_prop, with_piece}
use Rattle.node_base.specs.declared.node.Node.{Node}
use Rattle.node_base.specs.declared.node.NodeKind.TheVariants.{File, Dir}
use Rattle.node_base.specs.declared.node.Action.TheVariants.{Modify, Add, Delete}
use Rattle.node_base.specs.declared.node.Source.{Source}
use Rattle.node_base.specs.declared.fault.TreeFault.TheVariants.{NoSuchPath, KindMismatch}
use Rattle.dump_load.specs.declared.change.Change.{Change}
use Rattle.dump_load.specs.Changes.{is_delete, change_at, IsNormal}
use Rattle.dump_load.specs.Effect.{effect, stepped}
use Rattle.dump_load.specs.Faults.{fault_if}
use Rattle.dump_load.proofs.EffectTrees.{effect_tree_is}
use Rattle.dump_load.proofs.Walk.{effect_none}
use Rattle.delta_editor.specs.declared.call.Call.{Call}
use Rattle.delta_editor.specs.declared.call.Call.TheVariants as call
use Rattle.delta_editor.specs.CallEffect.{called, call_effect}
use Rattle.delta_editor.specs.Nesting.{Stage, Before, Within, After, Opened, OpenDir, OpenFile, OpenText, TextDone, run, next, begun, within, innermost, is_dir, is_fresh, is_in_text, is_told}
use Rattle.delta_editor.specs.declared.fault.EditorFault.{EditorFault}
use Rattle.delta_editor.specs.declared.fault.EditorFault.TheVariants as refusal
use Rattle.delta_editor.proofs.CallLemmas.{all_called-append}
use Rattle.editor_ends.specs.BuildFaults.{is_below, takes, acts_below, gives, is_changed, begin_fault, beginning, call_fault, refusal_after, first_refusal, IsCallRefusal, OfMemory, OfCall, OfSize, RefusesWithin}
use Rattle.editor_ends.specs.BuildFaults as faults
use Rattle.editor_ends.specs.Built.{is_taken, is_above, is_given, is_full, is_needed, is_late_in, Made, Begins, Gives, IsFaultOr, IsSetOver, IsFinishRefusal, seen, giving_props, giving_text, AreBare, AreBlank, Builds, BuildsWithin, IsBuiltOf}
use Rattle.editor_ends.specs.Built as built
use Rattle.editor_ends.proofs.Asked.{or_none, or_assoc, AskedStep, AsksNothing, AsksFor, Tells, one_more, stays, begun_step, begun_bare, begun_blank, given_step, given_bare, given_blank, asked_end}
use Rattle.editor_ends.proofs.Filled.{Nodes, or_no, or_yes, all_of}

-- ---- lists of calls, by their last

refusal-end : (trees : List PathMap) (done cs : List Call) (c : Call) → refusal_after trees done (cs ++ c ∷ []) ≡ option_or (refusal_after trees done cs) (call_fault trees (done ++ cs) c)
refusal-end trees done [] c = or_none (call_fault trees done c) ∙ ap (λ ds. call_fault trees ds c) (sym (append-nil done))
refusal-end trees done (d ∷ cs) c =
    ap (option_or (call_fault trees done d)) (refusal-end trees (done ++ d ∷ []) cs c ∙ ap (λ ds. option_or (refusal_after trees (done ++ d ∷ []) cs) (call_fault trees ds c)) (append_assoc done (d ∷ []) cs))
    ∙ or_assoc (call_fault trees done d) (refusal_after trees (done ++ d ∷ []) cs) (call_fault trees (done ++ (d ∷ cs)) c)

first-end : (trees : List PathMap) (calls : List Call) (c : Call) → first_refusal trees calls ≡ None → call_fault trees calls c ≡ None → first_refusal trees (calls ++ c ∷ []) ≡ None
first-end trees calls c a b = refusal-end trees [] calls c ∙ (λ i. option_or (a i) (b i))

pub run-append : (s : Stage) (cs ds : List Call) → run s (cs ++ ds) ≡ option_and_then (λ t. run t ds) (run s cs)
run-append s [] ds = refl
run-append s (c ∷ cs) ds = elim (next s c) as (λ o. option_and_then (λ t. run t (cs ++ ds)) o ≡ option_and_then (λ t. run t ds) (option_and_then (λ t. run t cs) o)) [ None ↦ refl | Some t ↦ run-append t cs ds ]

-- the last of some calls
pub record Last (calls : List Call) (c : Call) (t : Stage) : Type 0 where
  pub stage : Stage
  pub ran : run Before calls ≡ Some stage
  pub goes : next stage c ≡ Some t

pub last : (calls : List Call) (c : Call) (t : Stage) → run Before (calls ++ c ∷ []) ≡ Some t → Last calls c t
last calls c t e = at (run Before calls) refl (sym (run-append Before calls (c ∷ [])) ∙ e)
  where
    ends : (o : Option Stage) → option_and_then (λ u. run u []) o ≡ o
    ends None = refl
    ends (Some u) = refl

    at : (o : Option Stage) → run Before calls ≡ o → option_and_then (λ s. run s (c ∷ [])) o ≡ Some t → Last calls c t
    at None h k = cc
    at (Some s) h k = record { stage = s; ran = h; goes = sym (ends (next s c)) ∙ k }

-- ---- stages

abbrev pub is_before : Stage → Bool
is_before Before = true
is_before (Within os) = false
is_before After = false

seen_later : (trees : List PathMap) (t : Stage) (f : Nodes) (q : Path) → is_before t ≡ false → seen t trees f q ≡ f q
seen_later trees Before f q e = cc
seen_later trees (Within os) f q e = refl
seen_later trees After f q e = refl

innermost_later : (test : Opened → Bool) (new : Opened → List Opened → List Opened) (os : List Opened) (t : Stage) → innermost test new os ≡ Some t → is_before t ≡ false
innermost_later test new [] t e = cc
innermost_later test new (o ∷ os) t e = elim (test o) as (λ b. cond b (Some (Within (new o os))) None ≡ Some t → is_before t ≡ false) [ true ↦ λ h. later h | false ↦ λ h. cc ] e
  where
    later : Some (Within (new o os)) ≡ Some t → is_before t ≡ false
    later h = ap (λ o. option_map_or is_before o false) (sym h)

within_later : (os : List Opened) (c : Call) (t : Stage) → within os c ≡ Some t → is_before t ≡ false
within_later os (call.Target n) t e = ap (λ o. option_map_or is_before o false) (sym e)
within_later os (call.OpenRoot b) t e = cc
within_later os (call.AddDir up p from) t e = innermost_later _ _ os t e
within_later os (call.OpenDir up p b) t e = innermost_later _ _ os t e
within_later os (call.DeleteEntry up p b) t e = innermost_later _ _ os t e
within_later os (call.AddFile up p from) t e = innermost_later _ _ os t e
within_later os (call.OpenFile up p b) t e = innermost_later _ _ os t e
within_later os (call.DirProp p name value) t e = elim (list_any (is_dir p) os) as (λ b. cond b (Some (Within os)) None ≡ Some t → is_before t ≡ false) [ true ↦ λ h. ap (λ o. option_map_or is_before o false) (sym h) | false ↦ λ h. cc ] e
within_later os (call.FileProp p name value) t e = innermost_later _ _ os t e
within_later os (call.TextStart p) t e = innermost_later _ _ os t e
within_later os (call.TextPiece p piece) t e = innermost_later _ _ os t e
within_later os (call.TextEnd p) t e = innermost_later _ _ os t e
within_later os (call.CloseFile p sum) t e = innermost_later _ _ os t e
within_later os (call.CloseDir p) t e = innermost_later _ _ os t e
within_later [] call.CloseEdit t e = ap (λ o. option_map_or is_before o false) (sym e)
within_later (o ∷ os) call.CloseEdit t e = cc

-- ---- one call more

module _ (trees : List PathMap) (tree new_tree : PathMap) (s new : List Change) (calls : List Call) (c : Call) where
  goes_on : (stage t : Stage) → Builds trees tree s calls stage → ((q : Path) → get new_tree q ≡ seen t trees (called trees (call_effect trees calls) c) q) → Made trees new_tree new → ((p : Path) → is_taken new p ≡ (is_taken s p || takes p c)) → ((p : Path) → is_above new p ≡ (is_above s p || acts_below p c)) → ((p : Path) → is_given new p ≡ (is_given s p || gives p c)) → ((p : Path) → AskedStep c p (change_at s p) (change_at new p)) → AreBare new → AreBlank new → call_fault trees calls c ≡ None → Builds trees new_tree new (calls ++ c ∷ []) t
  goes_on stage t b is made taken above given asked bare blank fault = record {
    called = λ q. is q ∙ (λ i. seen t trees (sym (all_called-append trees (base trees) calls (c ∷ [])) i) q);
    made = made;
    taken = λ p. taken p ∙ (λ i. b.taken p i || sym (or_no (takes p c)) i) ∙ sym (list_any-append (takes p) calls (c ∷ []));
    above = λ p. above p ∙ (λ i. b.above p i || sym (or_no (acts_below p c)) i) ∙ sym (list_any-append (acts_below p) calls (c ∷ []));
    given = λ p. given p ∙ (λ i. b.given p i || sym (or_no (gives p c)) i) ∙ sym (list_any-append (gives p) calls (c ∷ []));
    asked = λ p. one_more calls c p (change_at s p) (change_at new p) (b.asked p) (asked p);
    bare = bare;
    blank = blank;
    unrefused = first-end trees calls c b.unrefused fault;
  }

-- what a call says of the change that it begins
pub record BeginsAs (c : Call) (x : Change) : Type 0 where
  pub fault : (trees : List PathMap) (calls : List Call) → call_fault trees calls c ≡ beginning trees calls x
  pub effect_is : (trees : List PathMap) (f : Nodes) (q : Path) → called trees f c q ≡ stepped trees f x q
  pub takes_it : (p : Path) → takes p c ≡ (same_path x.path p && not (is_delete x.action))
  pub below : (p : Path) → acts_below p c ≡ is_below p x.path
  pub gives_it : (p : Path) → gives p c ≡ (same_path x.path p && is_full x)
  pub asks : AsksFor c x
  pub not_first : begun c ≡ None

kept_node : (b : Bool) (x : Node) → cond b (with_given None None x) x ≡ x
kept_node true x = refl
kept_node false x = refl

unchanged : (f : Nodes) (p q : Path) → f q ≡ changed_at f p (with_given None None) q
unchanged f p q = elim (f q) as (λ o. o ≡ option_map (λ x. cond (same_path p q) (with_given None None x) x) o) [ None ↦ refl | Some x ↦ ap Some (sym (kept_node (same_path p q) x)) ]

and_true : (b : Bool) → b ≡ (b && true)
and_true true = refl
and_true false = refl

and_false : (b : Bool) → false ≡ (b && false)
and_false true = refl
and_false false = refl

nothing : {A : Type 0} (b : Bool) → None ≡ cond {A = Option A} b None None
nothing true = refl
nothing false = refl

asks_opens_dir : (up p : Path) (b : Option ℕ) → AsksFor (call.OpenDir up p b) (faults.begun Modify (Some Dir) p None)
asks_opens_dir up p b = record { deleted = λ r. and_false (same_path p r); added = λ r. and_false (same_path p r); kind_is = λ r. refl; source_is = λ r. nothing (same_path p r); props_told = λ r. and_false (same_path p r); text_told = λ r. and_false (same_path p r); bare = λ e. cc; blank = record { props_are = refl; text_is = refl } }

asks_opens_file : (up p : Path) (b : Option ℕ) → AsksFor (call.OpenFile up p b) (faults.begun Modify (Some File) p None)
asks_opens_file up p b = record { deleted = λ r. and_false (same_path p r); added = λ r. and_false (same_path p r); kind_is = λ r. refl; source_is = λ r. nothing (same_path p r); props_told = λ r. and_false (same_path p r); text_told = λ r. and_false (same_path p r); bare = λ e. cc; blank = record { props_are = refl; text_is = refl } }

asks_root : (b : Option ℕ) → AsksFor (call.OpenRoot b) (faults.begun Modify (Some Dir) [] None)
asks_root b = record { deleted = λ r. and_false (same_path [] r); added = λ r. and_false (same_path [] r); kind_is = λ r. refl; source_is = λ r. nothing (same_path [] r); props_told = λ r. and_false (same_path [] r); text_told = λ r. and_false (same_path [] r); bare = λ e. cc; blank = record { props_are = refl; text_is = refl } }

asks_deletes : (up p : Path) (b : Option ℕ) → AsksFor (call.DeleteEntry up p b) (faults.begun Delete None p None)
asks_deletes up p b = record { deleted = λ r. and_true (same_path p r); added = λ r. and_false (same_path p r); kind_is = λ r. nothing (same_path p r); source_is = λ r. nothing (same_path p r); props_told = λ r. and_false (same_path p r); text_told = λ r. and_false (same_path p r); bare = λ e. refl; blank = record { props_are = refl; text_is = refl } }

asks_adds_dir : (up p : Path) (from : Option Source) → AsksFor (call.AddDir up p from) (faults.begun Add (Some Dir) p from)
asks_adds_dir up p None = record { deleted = λ r. and_false (same_path p r); added = λ r. and_true (same_path p r); kind_is = λ r. refl; source_is = λ r. refl; props_told = λ r. refl; text_told = λ r. and_false (same_path p r); bare = λ e. cc; blank = record { props_are = refl; text_is = refl } }
asks_adds_dir up p (Some s) = record { deleted = λ r. and_false (same_path p r); added = λ r. and_true (same_path p r); kind_is = λ r. refl; source_is = λ r. refl; props_told = λ r. refl; text_told = λ r. and_false (same_path p r); bare = λ e. cc; blank = record { props_are = refl; text_is = refl } }

asks_adds_file : (up p : Path) (from : Option Source) → AsksFor (call.AddFile up p from) (faults.begun Add (Some File) p from)
asks_adds_file up p None = record { deleted = λ r. and_false (same_path p r); added = λ r. and_true (same_path p r); kind_is = λ r. refl; source_is = λ r. refl; props_told = λ r. refl; text_told = λ r. refl; bare = λ e. cc; blank = record { props_are = refl; text_is = refl } }
asks_adds_file up p (Some s) = record { deleted = λ r. and_false (same_path p r); added = λ r. and_true (same_path p r); kind_is = λ r. refl; source_is = λ r. refl; props_told = λ r. refl; text_told = λ r. refl; bare = λ e. cc; blank = record { props_are = refl; text_is = refl } }

pub opens_dir : (up p : Path) (b : Option ℕ) → BeginsAs (call.OpenDir up p b) (faults.begun Modify (Some Dir) p None)
opens_dir up p b = record { fault = λ trees calls. refl; effect_is = λ trees f q. unchanged (marked f p (length trees)) p q; takes_it = λ r. and_true (same_path p r); below = λ r. refl; gives_it = λ r. and_false (same_path p r); asks = asks_opens_dir up p b; not_first = refl }

pub opens_file : (up p : Path) (b : Option ℕ) → BeginsAs (call.OpenFile up p b) (faults.begun Modify (Some File) p None)
opens_file up p b = record { fault = λ trees calls. refl; effect_is = λ trees f q. unchanged (marked f p (length trees)) p q; takes_it = λ r. and_true (same_path p r); below = λ r. refl; gives_it = λ r. and_false (same_path p r); asks = asks_opens_file up p b; not_first = refl }

pub deletes : (up p : Path) (b : Option ℕ) → BeginsAs (call.DeleteEntry up p b) (faults.begun Delete None p None)
deletes up p b = record { fault = λ trees calls. refl; effect_is = λ trees f q. refl; takes_it = λ r. and_false (same_path p r); below = λ r. refl; gives_it = λ r. and_true (same_path p r); asks = asks_deletes up p b; not_first = refl }

pub adds_dir : (up p : Path) (from : Option Source) → BeginsAs (call.AddDir up p from) (faults.begun Add (Some Dir) p from)
adds_dir up p None = record { fault = λ trees calls. refl; effect_is = λ trees f q. (λ i. grafted (marked f p (length trees)) p (λ r. top trees r i) q); takes_it = λ r. and_true (same_path p r); below = λ r. refl; gives_it = λ r. and_true (same_path p r); asks = asks_adds_dir up p None; not_first = refl }
  where
    top : (trees : List PathMap) (r : Path) → Rattle.delta_editor.specs.CallEffect.added trees Dir None r ≡ Rattle.dump_load.specs.Effect.arrives trees (faults.begun Add (Some Dir) p None) r
    top trees [] = refl
    top trees (n ∷ r) = refl
adds_dir up p (Some s) = record { fault = λ trees calls. refl; effect_is = λ trees f q. refl; takes_it = λ r. and_true (same_path p r); below = λ r. refl; gives_it = λ r. and_true (same_path p r); asks = asks_adds_dir up p (Some s); not_first = refl }

pub adds_file : (up p : Path) (from : Option Source) → BeginsAs (call.AddFile up p from) (faults.begun Add (Some File) p from)
adds_file up p None = record { fault = λ trees calls. refl; effect_is = λ trees f q. (λ i. grafted (marked f p (length trees)) p (λ r. top trees r i) q); takes_it = λ r. and_true (same_path p r); below = λ r. refl; gives_it = λ r. and_true (same_path p r); asks = asks_adds_file up p None; not_first = refl }
  where
    top : (trees : List PathMap) (r : Path) → Rattle.delta_editor.specs.CallEffect.added trees File None r ≡ Rattle.dump_load.specs.Effect.arrives trees (faults.begun Add (Some File) p None) r
    top trees [] = refl
    top trees (n ∷ r) = refl
adds_file up p (Some s) = record { fault = λ trees calls. refl; effect_is = λ trees f q. refl; takes_it = λ r. and_true (same_path p r); below = λ r. refl; gives_it = λ r. and_true (same_path p r); asks = asks_adds_file up p (Some s); not_first = refl }

-- what comes within an edit
pub record Inside (stage t : Stage) (c : Call) : Type 0 where
  pub opened : List Opened
  pub is : stage ≡ Within opened
  pub goes : within opened c ≡ Some t

inside : (stage t : Stage) (c : Call) → begun c ≡ None → next stage c ≡ Some t → Inside stage t c
inside Before t c none e = cc
inside (Within os) t c none e = record { opened = os; is = refl; goes = e }
inside After t c none e = cc

called_within : (trees : List PathMap) (tree : PathMap) (s : List Change) (calls : List Call) (stage : Stage) (os : List Opened) → stage ≡ Within os → Builds trees tree s calls stage → (q : Path) → get tree q ≡ call_effect trees calls q
called_within trees tree s calls stage os e b q = b.called q ∙ ap (λ (z : Stage). seen z trees (call_effect trees calls) q) e

same_fault : (trees : List PathMap) (tree : PathMap) (s : List Change) (calls : List Call) (stage : Stage) (x : Change) → Builds trees tree s calls stage → ((q : Path) → get tree q ≡ call_effect trees calls q) → begin_fault trees (get tree) (is_late_in s x) x ≡ beginning trees calls x
same_fault trees tree s calls stage x b is = λ i. begin_fault trees (λ q. is q i) (b.taken x.path i || (is_delete x.action && b.above x.path i)) x

pub adds_begun : (trees : List PathMap) (tree new_tree : PathMap) (s new : List Change) (c : Call) (x : Change) → BeginsAs c x → (Made trees tree s → Begins trees tree s new_tree new x) → (calls : List Call) → BuildsWithin trees tree s calls → BuildsWithin trees new_tree new (calls ++ c ∷ [])
adds_begun trees tree new_tree s new c x facts h calls builds t e =
    let l = last calls c t e in
    let b = builds l.stage l.ran in
    let w = inside l.stage t c facts.not_first l.goes in
    let is = called_within trees tree s calls l.stage w.opened w.is b in
    let g = h b.made in
    goes_on trees tree new_tree s new calls c l.stage t b
    (λ q. g.tree_is q ∙ (λ i. stepped trees (λ r. is r i) x q) ∙ sym (facts.effect_is trees (call_effect trees calls) q) ∙ sym (seen_later trees t (called trees (call_effect trees calls) c) q (within_later w.opened c t w.goes)))
    g.made (λ p. g.taken p ∙ ap (λ z. is_taken s p || z) (sym (facts.takes_it p))) (λ p. g.above p ∙ ap (λ z. is_above s p || z) (sym (facts.below p))) (λ p. g.given p ∙ ap (λ z. is_given s p || z) (sym (facts.gives_it p)))
    (begun_step c x facts.asks s new b.bare b.blank g.begins_at g.elsewhere) (begun_bare c x facts.asks s new b.bare b.blank g.begins_at g.elsewhere) (begun_blank c x facts.asks s new b.bare b.blank g.begins_at g.elsewhere)
    (facts.fault trees calls ∙ sym (same_fault trees tree s calls l.stage x b is) ∙ g.fault)

-- ---- refusals

pub either : (first : Option EditorFault) (e : EditorFault) → IsFaultOr first e → (e ≡ refusal.OutOfMemory) ⊎ (first ≡ Some e)
either first refusal.TooLong h = inr h
either first refusal.BadPath h = inr h
either first refusal.NoSuchPath h = inr h
either first refusal.PathThere h = inr h
either first refusal.NotDir h = inr h
either first refusal.NoSource h = inr h
either first refusal.OutOfOrder h = inr h
either first refusal.WrongNumber h = inr h
either first refusal.KindMismatch h = inr h
either first refusal.PeerFailed h = inr h
either first refusal.OutOfMemory h = inl refl

pub fault_or : (first : Option EditorFault) (e : EditorFault) → first ≡ Some e → IsFaultOr first e
fault_or first refusal.TooLong h = h
fault_or first refusal.BadPath h = h
fault_or first refusal.NoSuchPath h = h
fault_or first refusal.PathThere h = h
fault_or first refusal.NotDir h = h
fault_or first refusal.NoSource h = h
fault_or first refusal.OutOfOrder h = h
fault_or first refusal.WrongNumber h = h
fault_or first refusal.KindMismatch h = h
fault_or first refusal.PeerFailed h = h
fault_or first refusal.OutOfMemory h = tt

pub refused_as : (trees : List PathMap) (calls : List Call) (c : Call) (first : Option EditorFault) (e : EditorFault) → first ≡ call_fault trees calls c → IsFaultOr first e → IsCallRefusal trees calls c e
refused_as trees calls c first e is h = elim (either first e h) [ inl m ↦ OfMemory m | inr k ↦ OfCall (sym is ∙ k) ]

pub refuses_begun : (trees : List PathMap) (tree : PathMap) (s : List Change) (c : Call) (x : Change) (e : EditorFault) → BeginsAs c x → (Made trees tree s → IsFaultOr (begin_fault trees (get tree) (is_late_in s x) x) e) → (calls : List Call) → BuildsWithin trees tree s calls → RefusesWithin trees calls c e
refuses_begun trees tree s c x e facts h calls builds t r =
    let l = last calls c t r in
    let b = builds l.stage l.ran in
    let w = inside l.stage t c facts.not_first l.goes in
    refused_as trees calls c (begin_fault trees (get tree) (is_late_in s x) x) e (same_fault trees tree s calls l.stage x b (called_within trees tree s calls l.stage w.opened w.is b) ∙ sym (facts.fault trees calls)) (h b.made)

pub refuses_memory : (trees : List PathMap) (tree : PathMap) (s : List Change) (c : Call) (e : EditorFault) → e ≡ refusal.OutOfMemory → (calls : List Call) → BuildsWithin trees tree s calls → RefusesWithin trees calls c e
refuses_memory trees tree s c e m calls builds t r = OfMemory m

-- ---- the root

root_node : (n : ℕ) (b d : Bool) (x : Node) → cond d (with_given None None (cond b (with_number n (cond b (with_number n x) x)) (cond b (with_number n x) x))) (cond b (with_number n (cond b (with_number n x) x)) (cond b (with_number n x) x)) ≡ cond b (with_number n x) x
root_node n true true x = refl
root_node n true false x = refl
root_node n false true x = refl
root_node n false false x = refl

root_step : (trees : List PathMap) (f : Nodes) (q : Path) → stepped trees (marked f [] (length trees)) (faults.begun Modify (Some Dir) [] None) q ≡ marked f [] (length trees) q
root_step trees f q = elim (f q) as (λ o. option_map (λ x. cond (same_path [] q) (with_given None None x) x) (option_map (λ x. cond (is_front q []) (with_number (length trees) x) x) (option_map (λ x. cond (is_front q []) (with_number (length trees) x) x) o)) ≡ option_map (λ x. cond (is_front q []) (with_number (length trees) x) x) o) [ None ↦ refl | Some x ↦ ap Some (root_node (length trees) (is_front q []) (same_path [] q) x) ]

root_fault : (trees : List PathMap) (f : Nodes) (late : Bool) → begin_fault trees (marked f [] (length trees)) late (faults.begun Modify (Some Dir) [] None) ≡ begin_fault trees f late (faults.begun Modify (Some Dir) [] None)
root_fault trees f late = at (f [])
  where
    given : Option Node → Option EditorFault
    given o = option_or (fault_if late refusal.OutOfOrder) (option_or (option_map Rattle.delta_editor.specs.Faults.refused (option_or (fault_if (not (is_some o)) NoSuchPath) (option_or (fault_if (option_map_or (Rattle.dump_load.specs.Faults.mismatches (Some Dir) false) (option_map kind_of o) false) KindMismatch) None))) None)

    at : (o : Option Node) → option_or (fault_if late refusal.OutOfOrder) (option_or (option_map Rattle.delta_editor.specs.Faults.refused (option_or (fault_if (not (is_some (option_map (with_number (length trees)) o))) NoSuchPath) (option_or (fault_if (option_map_or (Rattle.dump_load.specs.Faults.mismatches (Some Dir) false) (option_map kind_of (option_map (with_number (length trees)) o)) false) KindMismatch) None))) None) ≡ option_or (fault_if late refusal.OutOfOrder) (option_or (option_map Rattle.delta_editor.specs.Faults.refused (option_or (fault_if (not (is_some o)) NoSuchPath) (option_or (fault_if (option_map_or (Rattle.dump_load.specs.Faults.mismatches (Some Dir) false) (option_map kind_of o) false) KindMismatch) None))) None)
    at None = refl
    at (Some x) = refl

-- the first call that opens something
pub record First (stage t : Stage) : Type 0 where
  pub is : stage ≡ Before
  pub later : is_before t ≡ false

first : (stage t : Stage) (b : Option ℕ) → next stage (call.OpenRoot b) ≡ Some t → First stage t
first Before t b e = record { is = refl; later = ap (λ o. option_map_or is_before o false) (sym e) }
first (Within os) t b e = cc
first After t b e = cc

called_before : (trees : List PathMap) (tree : PathMap) (s : List Change) (calls : List Call) (stage : Stage) → stage ≡ Before → Builds trees tree s calls stage → (q : Path) → get tree q ≡ marked (call_effect trees calls) [] (length trees) q
called_before trees tree s calls stage e b q = b.called q ∙ ap (λ (z : Stage). seen z trees (call_effect trees calls) q) e

root_same : (trees : List PathMap) (tree : PathMap) (s : List Change) (calls : List Call) (stage : Stage) → Builds trees tree s calls stage → ((q : Path) → get tree q ≡ marked (call_effect trees calls) [] (length trees) q) → begin_fault trees (get tree) (is_late_in s (faults.begun Modify (Some Dir) [] None)) (faults.begun Modify (Some Dir) [] None) ≡ beginning trees calls (faults.begun Modify (Some Dir) [] None)
root_same trees tree s calls stage b is = (λ i. begin_fault trees (λ q. is q i) (b.taken [] i || false) (faults.begun Modify (Some Dir) [] None)) ∙ root_fault trees (call_effect trees calls) (list_any (takes []) calls || false)

pub adds_root : (trees : List PathMap) (tree new_tree : PathMap) (s new : List Change) (base : Option ℕ) → (Made trees tree s → Begins trees tree s new_tree new (faults.begun Modify (Some Dir) [] None)) → (calls : List Call) → BuildsWithin trees tree s calls → BuildsWithin trees new_tree new (calls ++ call.OpenRoot base ∷ [])
adds_root trees tree new_tree s new base h calls builds t e =
    let x : Change = faults.begun Modify (Some Dir) [] None in
    let l = last calls (call.OpenRoot base) t e in
    let b = builds l.stage l.ran in
    let w = first l.stage t base l.goes in
    let is = called_before trees tree s calls l.stage w.is b in
    let g = h b.made in
    goes_on trees tree new_tree s new calls (call.OpenRoot base) l.stage t b
    (λ q. g.tree_is q ∙ (λ i. stepped trees (λ r. is r i) x q) ∙ root_step trees (call_effect trees calls) q ∙ sym (seen_later trees t (marked (call_effect trees calls) [] (length trees)) q w.later))
    g.made (λ p. g.taken p ∙ ap (λ z. is_taken s p || z) (sym (and_true (same_path [] p)))) (λ p. g.above p) (λ p. g.given p ∙ ap (λ z. is_given s p || z) (sym (and_false (same_path [] p))))
    (begun_step (call.OpenRoot base) x (asks_root base) s new b.bare b.blank g.begins_at g.elsewhere) (begun_bare (call.OpenRoot base) x (asks_root base) s new b.bare b.blank g.begins_at g.elsewhere) (begun_blank (call.OpenRoot base) x (asks_root base) s new b.bare b.blank g.begins_at g.elsewhere)
    (sym (root_same trees tree s calls l.stage b is) ∙ g.fault)

pub refuses_root : (trees : List PathMap) (tree : PathMap) (s : List Change) (base : Option ℕ) (e : EditorFault) → (Made trees tree s → IsFaultOr (begin_fault trees (get tree) (is_late_in s (faults.begun Modify (Some Dir) [] None)) (faults.begun Modify (Some Dir) [] None)) e) → (calls : List Call) → BuildsWithin trees tree s calls → RefusesWithin trees calls (call.OpenRoot base) e
refuses_root trees tree s base e h calls builds t r =
    let x : Change = faults.begun Modify (Some Dir) [] None in
    let l = last calls (call.OpenRoot base) t r in
    let b = builds l.stage l.ran in
    let w = first l.stage t base l.goes in
    refused_as trees calls (call.OpenRoot base) (begin_fault trees (get tree) (is_late_in s x) x) e (root_same trees tree s calls l.stage b (called_before trees tree s calls l.stage w.is b)) (h b.made)

-- ---- what says nothing of the set

pub record IsSilent (c : Call) : Type 0 where
  pub effect_is : (trees : List PathMap) (f : Nodes) → ◌≡◌ {A = Nodes} (called trees f c) f
  pub takes_none : (p : Path) → takes p c ≡ false
  pub below : (p : Path) → acts_below p c ≡ false
  pub gives_none : (p : Path) → gives p c ≡ false
  pub asks_nothing : (p : Path) → AsksNothing c p
  pub stage_stays : (s t : Stage) → next s c ≡ Some t → is_before t ≡ is_before s

within_same : (c : Call) → begun c ≡ None → (s t : Stage) → next s c ≡ Some t → is_before t ≡ is_before s
within_same c none Before t e = cc
within_same c none (Within os) t e = within_later os c t e
within_same c none After t e = cc

pub text_ends : (p : Path) → IsSilent (call.TextEnd p)
text_ends p = record { effect_is = λ trees f. refl; takes_none = λ q. refl; below = λ q. refl; gives_none = λ q. refl; asks_nothing = λ q. record { deleted = refl; added = refl; kind_is = refl; source_is = refl; props_told = refl; text_told = refl }; stage_stays = within_same (call.TextEnd p) refl }

pub closes_file : (p : Path) (sum : Option (List ℕ)) → IsSilent (call.CloseFile p sum)
closes_file p sum = record { effect_is = λ trees f. refl; takes_none = λ q. refl; below = λ q. refl; gives_none = λ q. refl; asks_nothing = λ q. record { deleted = refl; added = refl; kind_is = refl; source_is = refl; props_told = refl; text_told = refl }; stage_stays = within_same (call.CloseFile p sum) refl }

pub closes_dir : (p : Path) → IsSilent (call.CloseDir p)
closes_dir p = record { effect_is = λ trees f. refl; takes_none = λ q. refl; below = λ q. refl; gives_none = λ q. refl; asks_nothing = λ q. record { deleted = refl; added = refl; kind_is = refl; source_is = refl; props_told = refl; text_told = refl }; stage_stays = within_same (call.CloseDir p) refl }

pub targets : (n : ℕ) → IsSilent (call.Target n)
targets n = record { effect_is = λ trees f. refl; takes_none = λ q. refl; below = λ q. refl; gives_none = λ q. refl; asks_nothing = λ q. record { deleted = refl; added = refl; kind_is = refl; source_is = refl; props_told = refl; text_told = refl }; stage_stays = stays }
  where
    stays : (s t : Stage) → next s (call.Target n) ≡ Some t → is_before t ≡ is_before s
    stays Before t e = ap (λ o. option_map_or is_before o true) (sym e)
    stays (Within os) t e = ap (λ o. option_map_or is_before o false) (sym e)
    stays After t e = cc

seen_same : (trees : List PathMap) (s t : Stage) (f : Nodes) (q : Path) → is_before t ≡ is_before s → seen s trees f q ≡ seen t trees f q
seen_same trees Before Before f q e = refl
seen_same trees Before (Within os) f q e = cc
seen_same trees Before After f q e = cc
seen_same trees (Within os) t f q e = sym (seen_later trees t f q e)
seen_same trees After t f q e = sym (seen_later trees t f q e)

pub adds_silent : (trees : List PathMap) (tree : PathMap) (s : List Change) (c : Call) → IsSilent c → (calls : List Call) → call_fault trees calls c ≡ None → BuildsWithin trees tree s calls → BuildsWithin trees tree s (calls ++ c ∷ [])
adds_silent trees tree s c facts calls fault builds t e =
    let l = last calls c t e in
    let b = builds l.stage l.ran in
    goes_on trees tree tree s s calls c l.stage t b
    (λ q. b.called q ∙ seen_same trees l.stage t (call_effect trees calls) q (facts.stage_stays l.stage t l.goes) ∙ (λ i. seen t trees (sym (facts.effect_is trees (call_effect trees calls)) i) q))
    b.made (λ p. sym (ap (λ z. is_taken s p || z) (facts.takes_none p) ∙ or_no (is_taken s p))) (λ p. sym (ap (λ z. is_above s p || z) (facts.below p) ∙ or_no (is_above s p))) (λ p. sym (ap (λ z. is_given s p || z) (facts.gives_none p) ∙ or_no (is_given s p)))
    (λ p. stays c p (change_at s p) (change_at s p) (facts.asks_nothing p) refl) b.bare b.blank
    fault

-- ---- what gives parts

pub record GivesAs (c : Call) (p : Path) (g : Node → Node) (k : Change → Change) (props text : Bool) : Type 0 where
  pub effect_is : (trees : List PathMap) (f : Nodes) (q : Path) → called trees f c q ≡ changed_at f p g q
  pub takes_none : (q : Path) → takes q c ≡ false
  pub below : (q : Path) → acts_below q c ≡ false
  pub gives_own : (q : Path) → gives q c ≡ same_path p q
  pub tells : Tells c p k props text
  pub not_first : begun c ≡ None

blank_of : {A : Type 0} (o : Option A) (blank : A) → o ≡ option_map (λ _. blank) o → unwrap_or o blank ≡ blank
blank_of None blank e = refl
blank_of (Some x) blank e = ap (λ o. unwrap_or o blank) e

pub puts_dir : (p : Path) (name : Name) (value : Option (List ℕ)) → GivesAs (call.DirProp p name value) p (with_prop name value) giving_props true false
puts_dir p name value = record { effect_is = λ trees f q. same f value q; takes_none = λ q. refl; below = λ q. refl; gives_own = λ q. refl; tells = record { deleted = λ q. refl; added = λ q. refl; kind_is = λ q. refl; source_is = λ q. refl; props_told = λ q. and_true (same_path p q); text_told = λ q. and_false (same_path p q); same_action = λ d. refl; same_kind = λ d. refl; same_source = λ d. refl; props_are = λ d. sym (or_yes (is_some d.props)); text_is = λ d. sym (or_no (is_some d.text)); blank = λ d b. record { props_are = ap Some (blank_of d.props finite.empty b.props_are); text_is = b.text_is } }; not_first = refl }
  where
    same : (f : Nodes) (value : Option (List ℕ)) (q : Path) → changed_at f p (Rattle.delta_editor.specs.CallEffect.with_prop name value) q ≡ changed_at f p (with_prop name value) q
    same f None q = refl
    same f (Some v) q = refl

pub puts_file : (p : Path) (name : Name) (value : Option (List ℕ)) → GivesAs (call.FileProp p name value) p (with_prop name value) giving_props true false
puts_file p name value = record { effect_is = (puts_dir p name value).effect_is; takes_none = λ q. refl; below = λ q. refl; gives_own = λ q. refl; tells = record { deleted = λ q. refl; added = λ q. refl; kind_is = λ q. refl; source_is = λ q. refl; props_told = λ q. and_true (same_path p q); text_told = λ q. and_false (same_path p q); same_action = λ d. refl; same_kind = λ d. refl; same_source = λ d. refl; props_are = λ d. sym (or_yes (is_some d.props)); text_is = λ d. sym (or_no (is_some d.text)); blank = λ d b. record { props_are = ap Some (blank_of d.props finite.empty b.props_are); text_is = b.text_is } }; not_first = refl }

pub starts : (p : Path) → GivesAs (call.TextStart p) p (with_given (Some []) None) giving_text false true
starts p = record { effect_is = λ trees f q. refl; takes_none = λ q. refl; below = λ q. refl; gives_own = λ q. refl; tells = record { deleted = λ q. refl; added = λ q. refl; kind_is = λ q. refl; source_is = λ q. refl; props_told = λ q. and_false (same_path p q); text_told = λ q. and_true (same_path p q); same_action = λ d. refl; same_kind = λ d. refl; same_source = λ d. refl; props_are = λ d. sym (or_no (is_some d.props)); text_is = λ d. sym (or_yes (is_some d.text)); blank = λ d b. record { props_are = b.props_are; text_is = ap Some (blank_of d.text [] b.text_is) } }; not_first = refl }

pub pieces_on : (p : Path) (piece : List ℕ) → GivesAs (call.TextPiece p piece) p (with_piece piece) giving_text false true
pieces_on p piece = record { effect_is = λ trees f q. refl; takes_none = λ q. refl; below = λ q. refl; gives_own = λ q. refl; tells = record { deleted = λ q. refl; added = λ q. refl; kind_is = λ q. refl; source_is = λ q. refl; props_told = λ q. and_false (same_path p q); text_told = λ q. and_true (same_path p q); same_action = λ d. refl; same_kind = λ d. refl; same_source = λ d. refl; props_are = λ d. sym (or_no (is_some d.props)); text_is = λ d. sym (or_yes (is_some d.text)); blank = λ d b. record { props_are = b.props_are; text_is = ap Some (blank_of d.text [] b.text_is) } }; not_first = refl }

-- ---- what is open was opened or added

abbrev pub path_of : Opened → Path
path_of (OpenDir p) = p
path_of (OpenFile p) = p
path_of (OpenText p) = p
path_of (TextDone p) = p

abbrev pub AreTaken : List Call → List Opened → Type 0
AreTaken done os = AllByRecursion (λ o. list_any (takes (path_of o)) done ≡ true) os

abbrev pub StageTaken : List Call → Stage → Type 0
StageTaken done Before = Unit {0}
StageTaken done (Within os) = AreTaken done os
StageTaken done After = Unit {0}

taken_more : (done : List Call) (c : Call) (p : Path) → list_any (takes p) done ≡ true → list_any (takes p) (done ++ c ∷ []) ≡ true
taken_more done c p e = list_any-append (takes p) done (c ∷ []) ∙ ap (λ b. b || list_any (takes p) (c ∷ [])) e

taken_now : (done : List Call) (c : Call) (p : Path) → takes p c ≡ true → list_any (takes p) (done ++ c ∷ []) ≡ true
taken_now done c p e = list_any-append (takes p) done (c ∷ []) ∙ ap (λ b. list_any (takes p) done || (b || false)) e ∙ Rattle.editor_ends.proofs.Filled.or_yes (list_any (takes p) done)

all_more : (done : List Call) (c : Call) (os : List Opened) → AreTaken done os → AreTaken (done ++ c ∷ []) os
all_more done c [] h = tt
all_more done c (o ∷ os) h = (taken_more done c (path_of o) h.0, all_more done c os h.1)

pub same_stage : (s t : Stage) → Some s ≡ Some t → s ≡ t
same_stage s t e = ap (λ (z : Option Stage). option_map_or (λ x. x) z After) e

innermost_taken : (done : List Call) (c : Call) (test : Opened → Bool) (new : Opened → List Opened → List Opened) (os : List Opened) (t : Stage) → ((o : Opened) (out : List Opened) → test o ≡ true → AreTaken done (o ∷ out) → AreTaken (done ++ c ∷ []) (new o out)) → AreTaken done os → innermost test new os ≡ Some t → StageTaken (done ++ c ∷ []) t
innermost_taken done c test new [] t keep h e = cc
innermost_taken done c test new (o ∷ os) t keep h e =
    elim (test o) as (λ b. test o ≡ b → cond b (Some (Within (new o os))) None ≡ Some t → StageTaken (done ++ c ∷ []) t) [
      | true ↦ λ k e. subst (StageTaken (done ++ c ∷ [])) (same_stage (Within (new o os)) t e) (keep o os k h)
      | false ↦ λ k e. cc
    ] refl e

same_opened : (p : Path) (o : Opened) → (is_fresh p o ≡ true) ⊎ (is_in_text p o ≡ true) → path_of o ≡ p
same_opened p (OpenDir q) (inl e) = cc
same_opened p (OpenDir q) (inr e) = cc
same_opened p (OpenFile q) (inl e) = sym (path_of_same p q e)
same_opened p (OpenFile q) (inr e) = cc
same_opened p (OpenText q) (inl e) = cc
same_opened p (OpenText q) (inr e) = sym (path_of_same p q e)
same_opened p (TextDone q) (inl e) = cc
same_opened p (TextDone q) (inr e) = cc

taken_next : (done : List Call) (s t : Stage) (c : Call) → StageTaken done s → next s c ≡ Some t → StageTaken (done ++ c ∷ []) t
taken_next done Before t (call.Target n) h e = subst (StageTaken (done ++ call.Target n ∷ [])) (same_stage Before t e) tt
taken_next done Before t (call.OpenRoot b) h e = subst (StageTaken (done ++ call.OpenRoot b ∷ [])) (same_stage (Within (OpenDir [] ∷ [])) t e) (taken_now done (call.OpenRoot b) [] refl, tt)
taken_next done Before t (call.AddDir up p from) h e = cc
taken_next done Before t (call.OpenDir up p b) h e = cc
taken_next done Before t (call.DeleteEntry up p b) h e = cc
taken_next done Before t (call.AddFile up p from) h e = cc
taken_next done Before t (call.OpenFile up p b) h e = cc
taken_next done Before t (call.DirProp p name value) h e = cc
taken_next done Before t (call.FileProp p name value) h e = cc
taken_next done Before t (call.TextStart p) h e = cc
taken_next done Before t (call.TextPiece p piece) h e = cc
taken_next done Before t (call.TextEnd p) h e = cc
taken_next done Before t (call.CloseFile p sum) h e = cc
taken_next done Before t (call.CloseDir p) h e = cc
taken_next done Before t call.CloseEdit h e = cc
taken_next done (Within os) t (call.Target n) h e = subst (StageTaken (done ++ call.Target n ∷ [])) (same_stage (Within os) t e) (all_more done (call.Target n) os h)
taken_next done (Within os) t (call.OpenRoot b) h e = cc
taken_next done (Within os) t (call.AddDir up p from) h e = innermost_taken done (call.AddDir up p from) _ _ os t (λ o out k a. (taken_now done (call.AddDir up p from) p (same_path_itself p), all_more done (call.AddDir up p from) (o ∷ out) a)) h e
taken_next done (Within os) t (call.OpenDir up p b) h e = innermost_taken done (call.OpenDir up p b) _ _ os t (λ o out k a. (taken_now done (call.OpenDir up p b) p (same_path_itself p), all_more done (call.OpenDir up p b) (o ∷ out) a)) h e
taken_next done (Within os) t (call.DeleteEntry up p b) h e = innermost_taken done (call.DeleteEntry up p b) _ _ os t (λ o out k a. all_more done (call.DeleteEntry up p b) (o ∷ out) a) h e
taken_next done (Within os) t (call.AddFile up p from) h e = innermost_taken done (call.AddFile up p from) _ _ os t (λ o out k a. (taken_now done (call.AddFile up p from) p (same_path_itself p), all_more done (call.AddFile up p from) (o ∷ out) a)) h e
taken_next done (Within os) t (call.OpenFile up p b) h e = innermost_taken done (call.OpenFile up p b) _ _ os t (λ o out k a. (taken_now done (call.OpenFile up p b) p (same_path_itself p), all_more done (call.OpenFile up p b) (o ∷ out) a)) h e
taken_next done (Within os) t (call.DirProp p name value) h e = elim (list_any (is_dir p) os) as (λ b. cond b (Some (Within os)) None ≡ Some t → StageTaken (done ++ call.DirProp p name value ∷ []) t) [ true ↦ λ e. subst (StageTaken (done ++ call.DirProp p name value ∷ [])) (same_stage (Within os) t e) (all_more done (call.DirProp p name value) os h) | false ↦ λ e. cc ] e
taken_next done (Within os) t (call.FileProp p name value) h e = innermost_taken done (call.FileProp p name value) _ _ os t (λ o out k a. all_more done (call.FileProp p name value) (o ∷ out) a) h e
taken_next done (Within os) t (call.TextStart p) h e = innermost_taken done (call.TextStart p) _ _ os t (λ o out k a. let b = all_more done (call.TextStart p) (o ∷ out) a in (ap (λ z. list_any (takes z) (done ++ call.TextStart p ∷ [])) (sym (same_opened p o (inl k))) ∙ b.0, b.1)) h e
taken_next done (Within os) t (call.TextPiece p piece) h e = innermost_taken done (call.TextPiece p piece) _ _ os t (λ o out k a. all_more done (call.TextPiece p piece) (o ∷ out) a) h e
taken_next done (Within os) t (call.TextEnd p) h e = innermost_taken done (call.TextEnd p) _ _ os t (λ o out k a. let b = all_more done (call.TextEnd p) (o ∷ out) a in (ap (λ z. list_any (takes z) (done ++ call.TextEnd p ∷ [])) (sym (same_opened p o (inr k))) ∙ b.0, b.1)) h e
taken_next done (Within os) t (call.CloseFile p sum) h e = innermost_taken done (call.CloseFile p sum) _ _ os t (λ o out k a. all_more done (call.CloseFile p sum) out a.1) h e
taken_next done (Within os) t (call.CloseDir p) h e = innermost_taken done (call.CloseDir p) _ _ os t (λ o out k a. all_more done (call.CloseDir p) out a.1) h e
taken_next done (Within []) t call.CloseEdit h e = subst (StageTaken (done ++ call.CloseEdit ∷ [])) (same_stage After t e) tt
taken_next done (Within (o ∷ os)) t call.CloseEdit h e = cc
taken_next done After t c h e = cc

pub taken_run : (done cs : List Call) (s t : Stage) → StageTaken done s → run s cs ≡ Some t → StageTaken (done ++ cs) t
taken_run done [] s t h e = subst (λ ds. StageTaken ds t) (sym (append-nil done)) (subst (StageTaken done) (same_stage s t e) h)
taken_run done (c ∷ cs) s t h e = at (λ u k f. subst (λ ds. StageTaken ds t) (append_assoc done (c ∷ []) cs) (taken_run (done ++ c ∷ []) cs u t (taken_next done s u c h k) f)) (next s c) refl e
  where
    at : ((u : Stage) → next s c ≡ Some u → run u cs ≡ Some t → StageTaken (done ++ (c ∷ cs)) t) → (o : Option Stage) → next s c ≡ o → option_and_then (λ u. run u cs) o ≡ Some t → StageTaken (done ++ (c ∷ cs)) t
    at k None n e = cc
    at k (Some u) n e = k u n e

-- what is given something is open, and so it was opened or added
abbrev pub IsOpenAt : Call → Path → Type 0
IsOpenAt c p = (calls : List Call) (os : List Opened) (t : Stage) → AreTaken calls os → within os c ≡ Some t → list_any (takes p) calls ≡ true

open_inner : (p : Path) (test : Opened → Bool) (new : Opened → List Opened → List Opened) → ((o : Opened) → test o ≡ true → path_of o ≡ p) → (calls : List Call) (os : List Opened) (t : Stage) → AreTaken calls os → innermost test new os ≡ Some t → list_any (takes p) calls ≡ true
open_inner p test new is calls [] t h e = cc
open_inner p test new is calls (o ∷ os) t h e =
    elim (test o) as (λ b. test o ≡ b → cond b (Some (Within (new o os))) None ≡ Some t → list_any (takes p) calls ≡ true) [
      | true ↦ λ k _. ap (λ z. list_any (takes z) calls) (sym (is o k)) ∙ h.0
      | false ↦ λ k e. cc
    ] refl e

pub dir_open : (p : Path) (name : Name) (value : Option (List ℕ)) → IsOpenAt (call.DirProp p name value) p
dir_open p name value calls os t h e = any os h (elim (list_any (is_dir p) os) as (λ b. cond b (Some (Within os)) None ≡ Some t → b ≡ true) [ true ↦ λ _. refl | false ↦ λ e. cc ] e)
  where
    at : (o : Opened) → is_dir p o ≡ true → path_of o ≡ p
    at (OpenDir q) e = sym (path_of_same p q e)
    at (OpenFile q) e = cc
    at (OpenText q) e = cc
    at (TextDone q) e = cc

    any : (os : List Opened) → AreTaken calls os → list_any (is_dir p) os ≡ true → list_any (takes p) calls ≡ true
    any [] h e = cc
    any (o ∷ os) h e = elim (is_dir p o) as (λ b. is_dir p o ≡ b → (b || list_any (is_dir p) os) ≡ true → list_any (takes p) calls ≡ true) [
      | true ↦ λ k _. ap (λ z. list_any (takes z) calls) (sym (at o k)) ∙ h.0
      | false ↦ λ k e. any os h.1 e
    ] refl e

pub file_open : (p : Path) (name : Name) (value : Option (List ℕ)) → IsOpenAt (call.FileProp p name value) p
file_open p name value calls os t h e = open_inner p (λ o. is_fresh p o || is_in_text p o || is_told p o) (λ o out. o ∷ out) at calls os t h e
  where
    at : (o : Opened) → (is_fresh p o || is_in_text p o || is_told p o) ≡ true → path_of o ≡ p
    at (OpenDir q) e = cc
    at (OpenFile q) e = sym (path_of_same p q (sym (or_no (same_path p q)) ∙ (sym (or_no (same_path p q || false)) ∙ e)))
    at (OpenText q) e = sym (path_of_same p q (sym (or_no (same_path p q)) ∙ e))
    at (TextDone q) e = sym (path_of_same p q e)

pub start_open : (p : Path) → IsOpenAt (call.TextStart p) p
start_open p = open_inner p _ _ (λ o k. same_opened p o (inl k))

pub piece_open : (p : Path) (piece : List ℕ) → IsOpenAt (call.TextPiece p piece) p
piece_open p piece = open_inner p _ _ (λ o k. same_opened p o (inr k))

pub adds_given : (trees : List PathMap) (tree new_tree : PathMap) (s new : List Change) (c : Call) (p : Path) (g : Node → Node) (k : Change → Change) (props text : Bool) (fault : Nodes → Option EditorFault) → GivesAs c p g k props text → IsOpenAt c p → ((calls : List Call) → call_fault trees calls c ≡ fault (call_effect trees calls)) → fault (get tree) ≡ None → (Made trees tree s → Gives trees tree s new_tree new p g k) → (calls : List Call) → BuildsWithin trees tree s calls → BuildsWithin trees new_tree new (calls ++ c ∷ [])
adds_given trees tree new_tree s new c p g k props text fault facts open_at same none h calls builds t e =
    let l = last calls c t e in
    let b = builds l.stage l.ran in
    let w = inside l.stage t c facts.not_first l.goes in
    let is = called_within trees tree s calls l.stage w.opened w.is b in
    let d = h b.made in
    let all = taken_run [] calls Before (Within w.opened) tt (l.ran ∙ ap (λ (z : Stage). Some z) w.is) in
    let taken = b.taken p ∙ open_at calls w.opened t all w.goes in
    goes_on trees tree new_tree s new calls c l.stage t b
    (λ q. d.tree_is q ∙ (λ i. changed_at (λ r. is r i) p g q) ∙ sym (facts.effect_is trees (call_effect trees calls) q) ∙ sym (seen_later trees t (called trees (call_effect trees calls) c) q (within_later w.opened c t w.goes)))
    d.made (λ q. d.taken q ∙ sym (ap (λ z. is_taken s q || z) (facts.takes_none q) ∙ or_no (is_taken s q))) (λ q. d.above q ∙ sym (ap (λ z. is_above s q || z) (facts.below q) ∙ or_no (is_above s q))) (λ q. d.given q ∙ ap (λ z. is_given s q || z) (sym (facts.gives_own q)))
    (given_step c p k props text facts.tells s new b.bare b.blank taken d.became) (given_bare c p k props text facts.tells s new b.bare b.blank taken d.became) (given_blank c p k props text facts.tells s new b.bare b.blank taken d.became)
    (same calls ∙ (λ i. fault (λ r. sym (is r) i)) ∙ none)

pub refuses_given : (trees : List PathMap) (tree : PathMap) (s : List Change) (c : Call) (p : Path) (e : EditorFault) (fault : Nodes → Option EditorFault) → begun c ≡ None → IsOpenAt c p → ((calls : List Call) → call_fault trees calls c ≡ fault (call_effect trees calls)) → (IsNormal s → is_taken s p ≡ true → IsFaultOr (fault (get tree)) e) → (calls : List Call) → BuildsWithin trees tree s calls → RefusesWithin trees calls c e
refuses_given trees tree s c p e fault none open_at same h calls builds t r =
    let l = last calls c t r in
    let b = builds l.stage l.ran in
    let w = inside l.stage t c none l.goes in
    let is = called_within trees tree s calls l.stage w.opened w.is b in
    let all = taken_run [] calls Before (Within w.opened) tt (l.ran ∙ ap (λ (z : Stage). Some z) w.is) in
    refused_as trees calls c (fault (get tree)) e ((λ i. fault (λ q. is q i)) ∙ sym (same calls)) (h b.made.normal (b.taken p ∙ open_at calls w.opened t all w.goes))

-- ---- the end

pub new_shown : (trees : List PathMap) (tree : PathMap) → length trees ≤ 65535 → ((q : Path) → get tree q ≡ effect trees [] q) → BuildsWithin trees tree [] []
new_shown trees tree few is stage e = subst (Builds trees tree [] []) (same_stage Before stage e) (record {
  called = λ q. is q ∙ effect_none trees q;
  made = record { numbered = few; made = λ q. sym (is q); normal = tt; faultless = refl; stands = λ p h. cc };
  taken = λ p. refl;
  above = λ p. refl;
  given = λ p. refl;
  asked = λ p. record { deleted = refl; added = refl; kind_is = refl; source_is = refl; props_told = refl; text_told = refl };
  bare = λ p d h gone. cc h;
  blank = λ p d h. cc h;
  unrefused = refl;
})

ends_within : (stage : Stage) → next stage call.CloseEdit ≡ Some After → (trees : List PathMap) (f : Nodes) (q : Path) → seen stage trees f q ≡ f q
ends_within Before e trees f q = cc
ends_within (Within os) e trees f q = refl
ends_within After e trees f q = cc

-- what is needed of the changes is what the calls change
needs_change : (trees : List PathMap) (tree : PathMap) (s : List Change) (calls : List Call) (stage : Stage) → Builds trees tree s calls stage → (p : Path) → is_needed s p ≡ is_changed calls p
needs_change trees tree s calls stage b p = λ i. b.given p i || (b.taken p i && not (b.above p i))

pub change_end : (calls : List Call) (p : Path) → is_changed (calls ++ call.CloseEdit ∷ []) p ≡ is_changed calls p
change_end calls p = λ i. none (gives p) refl i || (none (takes p) refl i && not (none (acts_below p) refl i))
  where
    none : (test : Call → Bool) → test call.CloseEdit ≡ false → list_any test (calls ++ call.CloseEdit ∷ []) ≡ list_any test calls
    none test e = list_any-append test calls (call.CloseEdit ∷ []) ∙ ap (λ b. list_any test calls || (b || false)) e ∙ or_no (list_any test calls)

pub adds_end : (trees : List PathMap) (tree : PathMap) (s set : List Change) → (Made trees tree s → IsSetOver trees (get tree) s set) → (calls : List Call) → BuildsWithin trees tree s calls → IsBuiltOf trees set tree (calls ++ call.CloseEdit ∷ [])
adds_end trees tree s set h calls builds e =
    let l = last calls call.CloseEdit After e in
    let b = builds l.stage l.ran in
    let o = h b.made in
    let nodes : (q : Path) → get tree q ≡ call_effect trees (calls ++ call.CloseEdit ∷ []) q = λ q. b.called q ∙ ends_within l.stage l.goes trees (call_effect trees calls) q ∙ (λ i. sym (all_called-append trees (base trees) calls (call.CloseEdit ∷ [])) i q) in (
      record {
        unrefused = first-end trees calls call.CloseEdit b.unrefused refl;
        normal = o.normal;
        faultless = o.faultless;
        effect_is = λ q. o.effect_is q ∙ nodes q;
        changed = all_of set (λ c k. change_end calls c.path ∙ sym (needs_change trees tree s calls l.stage b c.path) ∙ k) o.needed;
        whole = λ p k. o.whole p (needs_change trees tree s calls l.stage b p ∙ sym (change_end calls p) ∙ k);
        asked = all_of set (λ c stem. asked_end trees calls s (get tree) c b.asked b.blank nodes stem) o.stems;
        few = o.few;
      },
      record { faultless = o.faultless; effect = effect_tree_is trees set tree (λ q. sym (o.effect_is q)) },
    )

pub refuses_end : (trees : List PathMap) (tree : PathMap) (s : List Change) (e : EditorFault) → (Made trees tree s → IsFinishRefusal trees (get tree) s e) → (calls : List Call) → BuildsWithin trees tree s calls → RefusesWithin trees calls call.CloseEdit e
refuses_end trees tree s e h calls builds t r = at (h b.made)
  where
    l : Last calls call.CloseEdit t
    l = last calls call.CloseEdit t r

    b : Builds trees tree s calls l.stage
    b = builds l.stage l.ran

    w : Inside l.stage t call.CloseEdit
    w = inside l.stage t call.CloseEdit refl l.goes

    at : IsFinishRefusal trees (get tree) s e → IsCallRefusal trees calls call.CloseEdit e
    at (built.OfMemory m) = OfMemory m
    at (built.OfSize k large) = OfSize refl k (record { set = large.set; normal = large.normal; is = λ q. large.is q ∙ called_within trees tree s calls l.stage w.opened w.is b q; changed = all_of large.set (λ c n. sym (needs_change trees tree s calls l.stage b c.path) ∙ n) large.needed; many = large.many })
