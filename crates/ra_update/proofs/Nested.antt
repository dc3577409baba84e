-- What is told beside the calls of a drive keeps the nesting, and how calls are carried over.
use Rattle.std.proofs.Common.{◌≡◌, inl, inr, ℕ, ◌+◌, nat_lt, arith, length-append, Bool, true, false, cond, ◌&&◌, ◌||◌, List, [], ◌∷◌, ◌++◌, length, Option, Some, None, Result, Ok, Err, IfErr, OnOk, refl, sym, ap, subst, ◌∙◌, append_assoc, append-nil}
use Rattle.std.proofs.lemmas.Bool.Decides.{nat_tests}
use Rattle.std.specs.Option.{option_map_or, option_and_then}
use Rattle.std.specs.List.{list_any, list_all, AllByRecursion}
use Rattle.editor_ends.specs.Laws.{GoesDown}
use Rattle.editor_ends.specs.Shown.{Halts, Memory, Faulty, Refusal}
use Rattle.delta_editor.specs.declared.fault.EditorFault.{EditorFault}
use Rattle.std.specs.FinMap as finite
use Rattle.node_base.specs.Path.{Name, Path}
use Rattle.node_base.specs.declared.node.Node.{Node}
use Rattle.node_base.proofs.PathLemmas.{same_path_itself}
use Rattle.delta_editor.specs.Calls.{Adds, StaysShown}
use Rattle.delta_editor.specs.declared.call.Call.{Call}
use Rattle.delta_editor.specs.declared.call.Call.TheVariants as call
use Rattle.std.specs.Io.KnownBytes.{Appends}
use Rattle.node_base.specs.Tree.{PathMap}
use Rattle.dump_load.specs.declared.change.Change.{Change}
use Rattle.editor_ends.specs.Drive.{base_number, walk, drive}
use Rattle.ra_edit.specs.Commands.{edit_bytes}
use Rattle.ra_update.specs.Updates.{MayStop}
use Rattle.ra_update.specs.Reported.{dir_in, file_in, has_already}
use Rattle.ra_update.specs.Sent.{up_to_end, calls_told, newest, IsUnsent, OfMemory, OfWriter, OfChanges}
use Rattle.ra_update.specs.Updated.{Stopped, ShowsUpdated, begun, begun_with, written_by}
use Rattle.ra_update.specs.declared.editor.UpdateEditor.{UpdateEditor}
use Rattle.delta_editor.specs.Nesting.{IsNested, Opened, OpenDir, OpenFile, Stage, Before, Within, After, is_dir, is_fresh, is_in_text, is_told, innermost, next, run}
use Rattle.ra_edit.specs.Wire.{Shows, is_deeper, AllDeeper}
use Rattle.ra_edit.specs.declared.wire.WireEditor.{WireEditor}
use Rattle.ra_update.specs.declared.facts.Facts.{Facts}
use Rattle.std.specs.Prelude.{codes}
use Rattle.std.specs.Fmt.{decimal}
use Rattle.ra_update.specs.Entries.{revision_prop, given, entry_props, entry_calls, root_calls, updated, all_updated}

all_joined : (k : Facts) (m : PathMap) (xs ys : List Call) → all_updated k m (xs ++ ys) ≡ all_updated k m xs ++ all_updated k m ys
all_joined k m [] ys = refl
all_joined k m (x ∷ xs) ys = ap (λ l. updated k m x ++ l) (all_joined k m xs ys) ∙ sym (append_assoc (updated k m x) (all_updated k m xs) (all_updated k m ys))

-- an editor that was shown what one call is carried over as was shown the call
pub carried : {T : Type 0} (contents : T → Option (List ℕ)) (old new : WireEditor T) (k : Facts) (m : PathMap) (c : Call) → Adds (Shows contents) old new (updated k m c)
    → (calls : List Call) → Shows contents old (all_updated k m calls) → Shows contents new (all_updated k m (calls ++ c ∷ []))
carried contents old new k m c h calls s =
    subst (Shows contents new) (sym (all_joined k m calls (c ∷ []) ∙ ap (λ l. all_updated k m calls ++ l) (append-nil (updated k m c)))) (h (all_updated k m calls) s)

-- one that may be left out, where it isn't
pub carried_unless : {T X F : Type 0} (contents : T → Option (List ℕ)) (old new : WireEditor T) (k : Facts) (m : PathMap) (c : Call) (b : Bool) (r : Result X F) → updated k m c ≡ cond b [] (c ∷ []) → b ≡ false → OnOk r (Adds (Shows contents) old new (c ∷ []))
    → OnOk r ((calls : List Call) → Shows contents old (all_updated k m calls) → Shows contents new (all_updated k m (calls ++ c ∷ [])))
carried_unless contents old new k m c b (Ok x) is e h = carried contents old new k m c (subst (Adds (Shows contents) old new) (sym (is ∙ ap (λ b. cond b [] (c ∷ [])) e)) h)
carried_unless contents old new k m c b (Err f) is e h = tt

-- and where it is
pub left_out : {T : Type 0} (contents : T → Option (List ℕ)) (e : WireEditor T) (k : Facts) (m : PathMap) (c : Call) (b : Bool) → updated k m c ≡ cond b [] (c ∷ []) → b ≡ true
    → (calls : List Call) → Shows contents e (all_updated k m calls) → Shows contents e (all_updated k m (calls ++ c ∷ []))
left_out contents e k m c b is t = carried contents e e k m c (subst (Adds (Shows contents) e e) (sym (is ∙ ap (λ b. cond b [] (c ∷ [])) t)) (λ calls s. subst (Shows contents e) (sym (append-nil calls)) s))

-- what is discarded adds nothing
pub carried_no_more : {T : Type 0} (contents : T → Option (List ℕ)) (old new : WireEditor T) (k : Facts) (m : PathMap) → StaysShown (Shows contents) old new
    → (calls : List Call) → Shows contents old (all_updated k m calls) → Shows contents new (all_updated k m calls)
carried_no_more contents old new k m h calls s = h (all_updated k m calls) s

-- two steps are one
pub both_added : {T : Type 0} (shows : T → List Call → Type 0) (one two three : T) (xs ys : List Call) → Adds shows one two xs → Adds shows two three ys → Adds shows one three (xs ++ ys)
both_added shows one two three xs ys h k calls s = subst (shows three) (append_assoc calls xs ys) (k (calls ++ xs) (h calls s))

-- ---- the nesting

run-through : (s t : Stage) (xs ys : List Call) → run s xs ≡ Some t → run s (xs ++ ys) ≡ run t ys
run-through s t [] ys e = ap (option_and_then (λ t. run t ys)) e
run-through s t (x ∷ xs) ys e = by (next s x) e (λ u h. run-through u t xs ys h)
  where
    by : (o : Option Stage) → option_and_then (λ u. run u xs) o ≡ Some t → ((u : Stage) → run u xs ≡ Some t → run u (xs ++ ys) ≡ run t ys) → option_and_then (λ u. run u (xs ++ ys)) o ≡ run t ys
    by None e f = cc
    by (Some u) e f = f u e

run-one : (s t : Stage) (x : Call) (xs : List Call) → next s x ≡ Some t → run s (x ∷ xs) ≡ run t xs
run-one s t x xs e = ap (option_and_then (λ t. run t xs)) e

-- what comes before some calls that may come may come
pub run-front : (s t : Stage) (xs ys : List Call) → run s (xs ++ ys) ≡ Some t → (to : Stage) × (run s xs ≡ Some to)
run-front s t [] ys e = (s, refl)
run-front s t (x ∷ xs) ys e = by (next s x) e (λ u h. run-front u t xs ys h)
  where
    by : (o : Option Stage) → option_and_then (λ u. run u (xs ++ ys)) o ≡ Some t → ((u : Stage) → run u (xs ++ ys) ≡ Some t → (to : Stage) × (run u xs ≡ Some to)) → (to : Stage) × (option_and_then (λ u. run u xs) o ≡ Some to)
    by None e f = cc
    by (Some u) e f = f u e

-- properties of the innermost thing leave what is open as it is
dir_stays : (p : Path) (os : List Opened) (es : List (Name × Option (List ℕ))) → run (Within (OpenDir p ∷ os)) (given (call.DirProp p) es) ≡ Some (Within (OpenDir p ∷ os))
dir_stays p os [] = refl
dir_stays p os (e ∷ es) =
    run-one (Within (OpenDir p ∷ os)) (Within (OpenDir p ∷ os)) (call.DirProp p e.0 e.1) (given (call.DirProp p) es) (ap (λ b. cond {A = Option Stage} (b || list_any (is_dir p) os) (Some (Within (OpenDir p ∷ os))) None) (same_path_itself p))
    ∙ dir_stays p os es

file_stays : (p : Path) (os : List Opened) (es : List (Name × Option (List ℕ))) → run (Within (OpenFile p ∷ os)) (given (call.FileProp p) es) ≡ Some (Within (OpenFile p ∷ os))
file_stays p os [] = refl
file_stays p os (e ∷ es) =
    run-one (Within (OpenFile p ∷ os)) (Within (OpenFile p ∷ os)) (call.FileProp p e.0 e.1) (given (call.FileProp p) es) (ap (λ b. cond {A = Option Stage} (b || false || false) (Some (Within (OpenFile p ∷ os))) None) (same_path_itself p))
    ∙ file_stays p os es

dir_entries_stay : (k : Facts) (p : Path) (os : List Opened) → run (Within (OpenDir p ∷ os)) (entry_calls k call.DirProp p) ≡ Some (Within (OpenDir p ∷ os))
dir_entries_stay k p os = elim (finite.get k.target.now p) as (λ o. run (Within (OpenDir p ∷ os)) (option_map_or (λ x. given (call.DirProp p) (entry_props k x)) o []) ≡ Some (Within (OpenDir p ∷ os))) [
  | None ↦ refl
  | Some x ↦ dir_stays p os (entry_props k x)
]

file_entries_stay : (k : Facts) (p : Path) (os : List Opened) → run (Within (OpenFile p ∷ os)) (entry_calls k call.FileProp p) ≡ Some (Within (OpenFile p ∷ os))
file_entries_stay k p os = elim (finite.get k.target.now p) as (λ o. run (Within (OpenFile p ∷ os)) (option_map_or (λ x. given (call.FileProp p) (entry_props k x)) o []) ≡ Some (Within (OpenFile p ∷ os))) [
  | None ↦ refl
  | Some x ↦ file_stays p os (entry_props k x)
]

root_entries_stay : (k : Facts) (os : List Opened) → run (Within (OpenDir [] ∷ os)) (root_calls k) ≡ Some (Within (OpenDir [] ∷ os))
root_entries_stay k os = elim k.tells_root as (λ b. run (Within (OpenDir [] ∷ os)) (cond b (entry_calls k call.DirProp []) []) ≡ Some (Within (OpenDir [] ∷ os))) [
  | true ↦ dir_entries_stay k [] os
  | false ↦ refl
]

-- a call that may come
plain : (s u : Stage) (c : Call) → next s c ≡ Some u → run s (c ∷ []) ≡ Some u
plain s u c e = ap (option_and_then (λ t. run t [])) e

-- one that opens something, and properties of that behind it
opens : (s u : Stage) (c : Call) (o : Opened) (es : List Call) → next s c ≡ Some u → ((os : List Opened) → run (Within (o ∷ os)) es ≡ Some (Within (o ∷ os))) → (os : List Opened) × (u ≡ Within (o ∷ os)) → run s (c ∷ es) ≡ Some u
opens s u c o es e h is = run-one s u c es e ∙ ap (λ t. run t es) is.1 ∙ h is.0 ∙ ap (λ t. Some t) (sym is.1)

-- what is opened is the innermost thing then
innermost_is : (test : Opened → Bool) (new : Opened) (os : List Opened) (u : Stage) → innermost test (λ o out. new ∷ o ∷ out) os ≡ Some u → (rest : List Opened) × (u ≡ Within (new ∷ rest))
innermost_is test new [] u e = cc
innermost_is test new (o ∷ os) u e = by (test o) e
  where
    by : (b : Bool) → cond {A = Option Stage} b (Some (Within (new ∷ o ∷ os))) None ≡ Some u → (rest : List Opened) × (u ≡ Within (new ∷ rest))
    by true e = (o ∷ os, cc)
    by false e = cc

-- a call that leaves what is open as it is may be left out
left_or_plain : (s u : Stage) (c : Call) (b : Bool) → next s c ≡ Some u → u ≡ s → run s (cond b [] (c ∷ [])) ≡ Some u
left_or_plain s u c true e is = ap (λ t. Some t) (sym is)
left_or_plain s u c false e is = plain s u c e

stage_stays : (b : Bool) (os : List Opened) (u : Stage) → cond {A = Option Stage} b (Some (Within os)) None ≡ Some u → u ≡ Within os
stage_stays true os u e = cc
stage_stays false os u e = cc

innermost_stays : (test : Opened → Bool) (os : List Opened) (u : Stage) → innermost test (λ o out. o ∷ out) os ≡ Some u → u ≡ Within os
innermost_stays test [] u e = cc
innermost_stays test (o ∷ os) u e = stage_stays (test o) (o ∷ os) u e

next_updated : (k : Facts) (m : PathMap) (s u : Stage) (c : Call) → next s c ≡ Some u → run s (updated k m c) ≡ Some u
next_updated k m Before u (call.Target n) e = plain Before u (call.Target k.number) e
next_updated k m (Within os) u (call.Target n) e = plain (Within os) u (call.Target k.number) e
next_updated k m After u (call.Target n) e = cc
next_updated k m Before u (call.OpenRoot base) e = opens Before u (call.OpenRoot k.base) (OpenDir []) (root_calls k) e (root_entries_stay k) ([], some_is e)
  where
    some_is : {X : Type 0} {a b : X} → Some a ≡ Some b → b ≡ a
    some_is e = cc
next_updated k m (Within os) u (call.OpenRoot base) e = cc
next_updated k m After u (call.OpenRoot base) e = cc
next_updated k m Before u (call.AddDir up p from) e = cc
next_updated k m (Within os) u (call.AddDir up p from) e = opens (Within os) u (call.AddDir up p from) (OpenDir p) (entry_calls k call.DirProp p) e (dir_entries_stay k p) (innermost_is (is_dir up) (OpenDir p) os u e)
next_updated k m After u (call.AddDir up p from) e = cc
next_updated k m Before u (call.OpenDir up p base) e = cc
next_updated k m (Within os) u (call.OpenDir up p base) e = opens (Within os) u (call.OpenDir up p k.base) (OpenDir p) (entry_calls k call.DirProp p) e (dir_entries_stay k p) (innermost_is (is_dir up) (OpenDir p) os u e)
next_updated k m After u (call.OpenDir up p base) e = cc
next_updated k m Before u (call.DeleteEntry up p base) e = cc
next_updated k m (Within os) u (call.DeleteEntry up p base) e = plain (Within os) u (call.DeleteEntry up p k.base) e
next_updated k m After u (call.DeleteEntry up p base) e = cc
next_updated k m Before u (call.AddFile up p from) e = cc
next_updated k m (Within os) u (call.AddFile up p from) e = opens (Within os) u (call.AddFile up p from) (OpenFile p) (entry_calls k call.FileProp p) e (file_entries_stay k p) (innermost_is (is_dir up) (OpenFile p) os u e)
next_updated k m After u (call.AddFile up p from) e = cc
next_updated k m Before u (call.OpenFile up p base) e = cc
next_updated k m (Within os) u (call.OpenFile up p base) e = opens (Within os) u (call.OpenFile up p k.base) (OpenFile p) (entry_calls k call.FileProp p) e (file_entries_stay k p) (innermost_is (is_dir up) (OpenFile p) os u e)
next_updated k m After u (call.OpenFile up p base) e = cc
next_updated k m Before u (call.DirProp p name value) e = cc
next_updated k m (Within os) u (call.DirProp p name value) e = left_or_plain (Within os) u (call.DirProp p name value) (has_already (dir_in m p) name value) e (stage_stays (list_any (is_dir p) os) os u e)
next_updated k m After u (call.DirProp p name value) e = cc
next_updated k m Before u (call.FileProp p name value) e = cc
next_updated k m (Within os) u (call.FileProp p name value) e = left_or_plain (Within os) u (call.FileProp p name value) (has_already (file_in m p) name value) e (innermost_stays (λ o. is_fresh p o || is_in_text p o || is_told p o) os u e)
next_updated k m After u (call.FileProp p name value) e = cc
next_updated k m s u (call.TextStart p) e = plain s u (call.TextStart p) e
next_updated k m s u (call.TextPiece p piece) e = plain s u (call.TextPiece p piece) e
next_updated k m s u (call.TextEnd p) e = plain s u (call.TextEnd p) e
next_updated k m s u (call.CloseFile p sum) e = plain s u (call.CloseFile p sum) e
next_updated k m s u (call.CloseDir p) e = plain s u (call.CloseDir p) e
next_updated k m s u call.CloseEdit e = plain s u call.CloseEdit e

pub run_updated : (k : Facts) (m : PathMap) (s t : Stage) (cs : List Call) → run s cs ≡ Some t → run s (all_updated k m cs) ≡ Some t
run_updated k m s t [] e = e
run_updated k m s t (c ∷ cs) e = by (next s c) refl e (λ u. run_updated k m u t cs)
  where
    by : (o : Option Stage) → next s c ≡ o → option_and_then (λ u. run u cs) o ≡ Some t → ((u : Stage) → run u cs ≡ Some t → run u (all_updated k m cs) ≡ Some t) → run s (updated k m c ++ all_updated k m cs) ≡ Some t
    by None is e rest = cc
    by (Some u) is e rest = run-through s u (updated k m c) (all_updated k m cs) (next_updated k m s u c is) ∙ rest u e

-- ---- what is opened is deeper than what is around it

given_deeper : (prop : Name → Option (List ℕ) → Call) → ((n : Name) (v : Option (List ℕ)) → is_deeper (prop n v) ≡ true) → (es : List (Name × Option (List ℕ))) → AllDeeper (given prop es)
given_deeper prop h [] = refl
given_deeper prop h (e ∷ es) = ap (λ b. b && list_all is_deeper (given prop es)) (h e.0 e.1) ∙ given_deeper prop h es

entries_deeper : (k : Facts) (prop : Path → Name → Option (List ℕ) → Call) → ((p : Path) (n : Name) (v : Option (List ℕ)) → is_deeper (prop p n v) ≡ true) → (p : Path) → AllDeeper (entry_calls k prop p)
entries_deeper k prop h p = elim (finite.get k.target.now p) as (λ o. AllDeeper (option_map_or (λ x. given (prop p) (entry_props k x)) o [])) [
  | None ↦ refl
  | Some x ↦ given_deeper (prop p) (h p) (entry_props k x)
]

both_deeper : (xs ys : List Call) → AllDeeper xs → AllDeeper ys → AllDeeper (xs ++ ys)
both_deeper [] ys h k = k
both_deeper (x ∷ xs) ys h k = by (is_deeper x) h (λ i. both_deeper xs ys i k)
  where
    by : (b : Bool) → (b && list_all is_deeper xs) ≡ true → (AllDeeper xs → AllDeeper (xs ++ ys)) → (b && list_all is_deeper (xs ++ ys)) ≡ true
    by true h f = f h
    by false h f = cc

with_entries : (c : Call) (es : List Call) → is_deeper c ≡ true → AllDeeper es → AllDeeper (c ∷ es)
with_entries c es h k = ap (λ b. b && list_all is_deeper es) h ∙ k

left_deeper : (c : Call) (b : Bool) → is_deeper c ≡ true → AllDeeper (cond b [] (c ∷ []))
left_deeper c true h = refl
left_deeper c false h = ap (λ b. b && true) h

one_deeper : (k : Facts) (m : PathMap) (c : Call) → is_deeper c ≡ true → AllDeeper (updated k m c)
one_deeper k m (call.Target n) h = refl
one_deeper k m (call.OpenRoot base) h = elim k.tells_root as (λ b. AllDeeper (cond b (entry_calls k call.DirProp []) [])) [
  | true ↦ entries_deeper k call.DirProp (λ p n v. refl) []
  | false ↦ refl
]
one_deeper k m (call.AddDir up p from) h = with_entries (call.AddDir up p from) (entry_calls k call.DirProp p) h (entries_deeper k call.DirProp (λ p n v. refl) p)
one_deeper k m (call.OpenDir up p base) h = with_entries (call.OpenDir up p k.base) (entry_calls k call.DirProp p) h (entries_deeper k call.DirProp (λ p n v. refl) p)
one_deeper k m (call.DeleteEntry up p base) h = refl
one_deeper k m (call.AddFile up p from) h = with_entries (call.AddFile up p from) (entry_calls k call.FileProp p) h (entries_deeper k call.FileProp (λ p n v. refl) p)
one_deeper k m (call.OpenFile up p base) h = with_entries (call.OpenFile up p k.base) (entry_calls k call.FileProp p) h (entries_deeper k call.FileProp (λ p n v. refl) p)
one_deeper k m (call.DirProp p name value) h = left_deeper (call.DirProp p name value) (has_already (dir_in m p) name value) refl
one_deeper k m (call.FileProp p name value) h = left_deeper (call.FileProp p name value) (has_already (file_in m p) name value) refl
one_deeper k m (call.TextStart p) h = refl
one_deeper k m (call.TextPiece p piece) h = refl
one_deeper k m (call.TextEnd p) h = refl
one_deeper k m (call.CloseFile p sum) h = refl
one_deeper k m (call.CloseDir p) h = refl
one_deeper k m call.CloseEdit h = refl

pub deeper_updated : (k : Facts) (m : PathMap) (cs : List Call) → AllDeeper cs → AllDeeper (all_updated k m cs)
deeper_updated k m [] h = refl
deeper_updated k m (c ∷ cs) h = by (is_deeper c) refl h (deeper_updated k m cs)
  where
    by : (b : Bool) → is_deeper c ≡ b → (b && list_all is_deeper cs) ≡ true → (AllDeeper cs → AllDeeper (all_updated k m cs)) → AllDeeper (updated k m c ++ all_updated k m cs)
    by true is h rest = both_deeper (updated k m c) (all_updated k m cs) (one_deeper k m c is) (rest h)
    by false is h rest = cc

-- the first of deeper calls
pub deeper_front : (xs ys : List Call) → AllDeeper (xs ++ ys) → AllDeeper xs
deeper_front [] ys h = refl
deeper_front (x ∷ xs) ys h = by (is_deeper x) h (deeper_front xs ys)
  where
    by : (b : Bool) → (b && list_all is_deeper (xs ++ ys)) ≡ true → (AllDeeper (xs ++ ys) → AllDeeper xs) → (b && list_all is_deeper xs) ≡ true
    by true h f = f h
    by false h f = cc

-- ---- what methods show

-- a call that is carried over
pub carried_ok : {T X F : Type 0} (contents : T → Option (List ℕ)) (old new : WireEditor T) (k : Facts) (m : PathMap) (c : Call) (r : Result X F) → OnOk r (Adds (Shows contents) old new (updated k m c))
    → OnOk r ((calls : List Call) → Shows contents old (all_updated k m calls) → Shows contents new (all_updated k m (calls ++ c ∷ [])))
carried_ok contents old new k m c (Ok x) h = carried contents old new k m c h
carried_ok contents old new k m c (Err e) h = tt

-- nothing is told of what isn't there
pub none_told : {T : Type 0} (contents : T → Option (List ℕ)) (e : WireEditor T) (k : Facts) (prop : Path → Name → Option (List ℕ) → Call) (p : Path) → finite.get k.target.now p ≡ None → Adds (Shows contents) e e (entry_calls k prop p)
none_told contents e k prop p is calls s =
    subst (λ o. Shows contents e (calls ++ option_map_or (λ x. given (prop p) (entry_props k x)) o [])) (sym is) (subst (Shows contents e) (sym (append-nil calls)) s)

-- what is told of a node is told of what is there
pub node_told : {T X F : Type 0} (contents : T → Option (List ℕ)) (old new : WireEditor T) (k : Facts) (prop : Path → Name → Option (List ℕ) → Call) (p q : Path) (x : Node) (r : Result X F) → q ≡ p → finite.get k.target.now p ≡ Some x → OnOk r (Adds (Shows contents) old new (given (prop q) (entry_props k x))) → OnOk r (Adds (Shows contents) old new (entry_calls k prop p))
node_told contents old new k prop p q x r e is h = subst (λ o. OnOk r (Adds (Shows contents) old new (option_map_or (λ x. given (prop p) (entry_props k x)) o []))) (sym is) (subst (λ z. OnOk r (Adds (Shows contents) old new (given (prop z) (entry_props k x)))) e h)

-- what is told of the root
pub root_told : {T X F : Type 0} (contents : T → Option (List ℕ)) (old new : WireEditor T) (k : Facts) (p : Path) (r : Result X F) → k.tells_root ≡ true → p ≡ [] → OnOk r (Adds (Shows contents) old new (entry_calls k call.DirProp p)) → OnOk r (Adds (Shows contents) old new (root_calls k))
root_told contents old new k p r t e h = subst (λ b. OnOk r (Adds (Shows contents) old new (cond b (entry_calls k call.DirProp []) []))) (sym t) (subst (λ q. OnOk r (Adds (Shows contents) old new (entry_calls k call.DirProp q))) e h)

pub root_untold : {T : Type 0} (contents : T → Option (List ℕ)) (e : WireEditor T) (k : Facts) → k.tells_root ≡ false → Adds (Shows contents) e e (root_calls k)
root_untold contents e k t calls s = subst (λ b. Shows contents e (calls ++ cond b (entry_calls k call.DirProp []) [])) (sym t) (subst (Shows contents e) (sym (append-nil calls)) s)

-- four calls, one after the other
pub four_told : {T X F : Type 0} (shows : T → List Call → Type 0) (one two three four five : T) (a b c d : Call) (all : List Call) (r : Result X F) → all ≡ a ∷ b ∷ c ∷ d ∷ [] → Adds shows one two (a ∷ []) → Adds shows two three (b ∷ []) → Adds shows three four (c ∷ []) → OnOk r (Adds shows four five (d ∷ [])) → OnOk r (Adds shows one five all)
four_told shows one two three four five a b c d all (Ok x) is h i j k =
    subst (Adds shows one five) (sym is) (both_added shows one two five (a ∷ []) (b ∷ c ∷ d ∷ []) h (both_added shows two three five (b ∷ []) (c ∷ d ∷ []) i (both_added shows three four five (c ∷ []) (d ∷ []) j k)))
four_told shows one two three four five a b c d all (Err e) is h i j k = tt

-- what is told of a node, call by call
pub entries_are : (prop : Path → Name → Option (List ℕ) → Call) (k : Facts) (x : Node) (p q r s : Path) (a b c d : Name) (v w y z : Option (List ℕ)) → q ≡ p → r ≡ p → s ≡ p
    → a ≡ codes "svn:entry:committed-rev" → b ≡ codes "svn:entry:committed-date" → c ≡ codes "svn:entry:last-author" → d ≡ codes "svn:entry:uuid"
    → v ≡ Some (decimal x.changed) → w ≡ revision_prop k x (codes "svn:date") → y ≡ revision_prop k x (codes "svn:author") → z ≡ Some k.identity.now
    → given (prop p) (entry_props k x) ≡ prop p a v ∷ prop q b w ∷ prop r c y ∷ prop s d z ∷ []
entries_are prop k x p q r s a b c d v w y z qe re se ae be ce de ve we ye ze =
    λ i. prop p (sym ae i) (sym ve i) ∷ prop (sym qe i) (sym be i) (sym we i) ∷ prop (sym re i) (sym ce i) (sym ye i) ∷ prop (sym se i) (sym de i) (sym ze i) ∷ []

-- a call that opens something, and what is told of that
pub opened_shown : {T D F : Type 0} (contents : T → Option (List ℕ)) (old mid new : WireEditor T) (k : Facts) (m : PathMap) (c head : Call) (es : List Call) (r : Result D F) → updated k m c ≡ head ∷ es → Adds (Shows contents) old mid (head ∷ [])
    → OnOk r (Adds (Shows contents) mid new es) → OnOk r ((calls : List Call) → Shows contents old (all_updated k m calls) → Shows contents new (all_updated k m (calls ++ c ∷ [])))
opened_shown contents old mid new k m c head es (Ok x) is one more = carried contents old new k m c (subst (Adds (Shows contents) old new) (sym is) (both_added (Shows contents) old mid new (head ∷ []) es one more))
opened_shown contents old mid new k m c head es (Err e) is one more = tt

-- ---- why a call is refused

pub stopped_from : {T X : Type 0} (contents : T → Option (List ℕ)) (old mid : WireEditor T) (r : Result X EditorFault) → ((calls : List Call) → Shows contents old calls → (later : List Call) × Shows contents mid later) → IfErr r (Stopped contents mid) → IfErr r (Stopped contents old)
stopped_from contents old mid (Ok x) go h = tt
stopped_from contents old mid (Err f) go h = λ calls. λ s. h (go calls s).0 (go calls s).1

pub opened_refused : {T X : Type 0} (contents : T → Option (List ℕ)) (old mid : WireEditor T) (k : Facts) (m : PathMap) (head : Call) (r : Result X EditorFault) → Adds (Shows contents) old mid (head ∷ []) → IfErr r (Stopped contents mid)
    → IfErr r (λ f. (calls : List Call) → Shows contents old (all_updated k m calls) → MayStop f)
opened_refused contents old mid k m head (Ok x) one h = tt
opened_refused contents old mid k m head (Err f) one h = λ calls. λ s. inr (h (all_updated k m calls ++ head ∷ []) (one (all_updated k m calls) s))

-- one that is carried over
pub carried_refused : {T X : Type 0} (contents : T → Option (List ℕ)) (old : WireEditor T) (k : Facts) (m : PathMap) (r : Result X EditorFault) → IfErr r (Stopped contents old) → IfErr r (λ f. (calls : List Call) → Shows contents old (all_updated k m calls) → MayStop f)
carried_refused contents old k m (Ok x) h = tt
carried_refused contents old k m (Err f) h = λ calls. λ s. inr (h (all_updated k m calls) s)

pub halts_is : {T : Type 0} (contents : T → Option (List ℕ)) (first : UpdateEditor T) (trees : List PathMap) (s : List Change) (left : List Call) (f : EditorFault) → ShowsUpdated contents first []
    → Halts (ShowsUpdated contents) (begun_with contents) (λ b calls c e. MayStop e) trees s first left f → IsUnsent trees s f
halts_is contents first trees s left f new (Memory e) = OfMemory e
halts_is contents first trees s left f new (Faulty e) = OfChanges e
halts_is contents first trees s left f new (Refusal stops) = by (stops.cause [] new)
  where
    by : MayStop f → IsUnsent trees s f
    by (inl e) = OfMemory e
    by (inr e) = OfWriter e

-- ---- what is written

longer : (up p : Path) (n : Name) → p ≡ up ++ n ∷ [] → nat_lt (length up) (length p) ≡ true
longer up p n e = test (length up) (length p) (ap length e ∙ length-append up (n ∷ []))
  where
    test : (a b : ℕ) → b ≡ a + 1 → nat_lt a b ≡ true
    test a b e = grind (arith, nat_tests)

deeper : (c : Call) → GoesDown c → is_deeper c ≡ true
deeper (call.AddDir up p from) h = longer up p h.name h.is
deeper (call.OpenDir up p base) h = longer up p h.name h.is
deeper (call.AddFile up p from) h = longer up p h.name h.is
deeper (call.OpenFile up p base) h = longer up p h.name h.is
deeper (call.Target n) h = refl
deeper (call.OpenRoot base) h = refl
deeper (call.DeleteEntry up p base) h = refl
deeper (call.DirProp p name value) h = refl
deeper (call.FileProp p name value) h = refl
deeper (call.TextStart p) h = refl
deeper (call.TextPiece p piece) h = refl
deeper (call.TextEnd p) h = refl
deeper (call.CloseFile p sum) h = refl
deeper (call.CloseDir p) h = refl
deeper call.CloseEdit h = refl

all_deeper : (cs : List Call) → AllByRecursion GoesDown cs → AllDeeper cs
all_deeper [] h = refl
all_deeper (c ∷ cs) h = λ i. deeper c h.0 i && all_deeper cs h.1 i

pub drive_is : (trees : List PathMap) (s : List Change) → drive trees s ≡ up_to_end trees s ++ call.CloseEdit ∷ []
drive_is trees s = ap (λ l. call.Target (length trees) ∷ call.OpenRoot (base_number trees) ∷ l) (sym (append_assoc (walk trees [] [] s) (call.CloseDir [] ∷ []) (call.CloseEdit ∷ [])))

pub sent_bytes : {T : Type 0} (contents : T → Option (List ℕ)) (first last : UpdateEditor T) (k : Facts) (trees : List PathMap) (s : List Change) (out written : T) → ShowsUpdated contents first []
    → begun_with contents first ≡ begun (contents out) k (newest trees) → begun_with contents last ≡ begun_with contents first → Adds (ShowsUpdated contents) first last (up_to_end trees s)
    → IsNested (drive trees s) → AllByRecursion GoesDown (drive trees s) → written ≡ written_by last → Appends (contents out) (contents written) (edit_bytes (calls_told k trees s))
sent_bytes contents first last k trees s out written new began same adds nested down is =
    let calls = up_to_end trees s in
    let ran = run-front Before After calls (call.CloseEdit ∷ []) (subst (λ l. run Before l ≡ Some After) (drive_is trees s) nested) in
    let deep = deeper_front calls (call.CloseEdit ∷ []) (subst AllDeeper (drive_is trees s) (all_deeper (drive trees s) down)) in
    let stands = adds [] new ran.0 (run_updated last.facts.now last.reported.now Before ran.0 calls ran.1) (deeper_updated last.facts.now last.reported.now calls deep) in
    subst (λ w. Appends (contents out) (contents w) (edit_bytes (calls_told k trees s))) (sym is)
    (subst (λ b. Appends b.held (contents (written_by last)) (edit_bytes (all_updated b.facts b.reported calls))) (same ∙ began) stands.bytes)
