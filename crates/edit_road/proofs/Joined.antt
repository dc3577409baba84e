-- A drive over the wire.
use Rattle.std.proofs.Common.{◌≡◌, ℕ, zero, suc, ◌≤◌, Bool, true, false, not, ◌||◌, ◌&&◌, List, [], ◌∷◌, ◌++◌, map, length, take, drop, Option, Some, None, refl, sym, ap, subst, ◌∙◌, append_assoc, append-nil, arith}
use Rattle.std.proofs.lemmas.List.{take-append-drop, length-drop, map-append}
use Rattle.std.proofs.lemmas.List.Folds.{list_any-append}
use Rattle.std.specs.Option.{option_and_then}
use Rattle.std.specs.List.{AllByRecursion, list_any}
use Rattle.node_base.specs.Path.{Path}
use Rattle.node_base.specs.Tree.{PathMap, base}
use Rattle.dump_load.specs.declared.change.Change.{Change}
use Rattle.delta_editor.specs.CallEffect.{call_effect}
use Rattle.delta_editor.specs.Nesting.{Stage, Before, Within, After, run, IsNested}
use Rattle.delta_editor.specs.declared.call.Call.{Call}
use Rattle.delta_editor.specs.declared.call.Call.TheVariants as call
use Rattle.delta_editor.specs.declared.fault.EditorFault.{EditorFault}
use Rattle.delta_editor.specs.declared.fault.EditorFault.TheVariants as refusal
use Rattle.delta_editor.proofs.CallLemmas.{all_called-append}
use Rattle.dump_load.specs.Bounds.{IsWithin}
use Rattle.dump_load.proofs.Within.{within_of}
use Rattle.editor_ends.specs.BuildFaults.{call_fault, refusal_after, takes, gives, acts_below, is_changed, IsCallRefusal, RefusesWithin}
use Rattle.editor_ends.specs.BuildFaults as faults
use Rattle.editor_ends.specs.Drive.{base_number, walk, drive}
use Rattle.editor_ends.specs.Refusals.{OfEditor}
use Rattle.editor_ends.proofs.CallEffects.{called-drive, none_first, none_rest}
use Rattle.editor_ends.proofs.Nested.{nested-drive}
use Rattle.editor_ends.proofs.Unrefused.{free-drive}
use Rattle.editor_ends.proofs.Memory.{memory_alone}
use Rattle.ra_item.specs.Laws.{WrittenIsRead}
use Rattle.ra_edit.specs.Commands.{parts_within}
use Rattle.ra_edit.specs.EditLaws.{cut, cut_all, each_byte, byte_by_byte, AreSameCalls}
use Rattle.ra_edit.specs.Refusals.{RefusesOne}
use Rattle.ra_edit.proofs.WrittenReceived.{written_is_received}
use Rattle.ra_edit.proofs.NotRefused.{known, written_is_not_refused}
use Rattle.edit_road.specs.Laws.{HaveBytes}
use Rattle.edit_road.specs.Sent.{IsSent, IsNew, body_of, DriveIsWritten, DriveIsReceived, DriveIsNotRefused}
use Rattle.edit_road.proofs.Pieces.{one, run_both, same_effect, same_nesting}
use Rattle.edit_road.proofs.Refused.{bytes_join, any_by_bytes, same_refusal}
use Rattle.edit_road.proofs.Driven.{cut_bytes, drive_bytes}

-- ---- what was cut is the same calls

parts_same : (p : Path) (k : ℕ) (text : List ℕ) → length text ≤ k → byte_by_byte (map (call.TextPiece p) (parts_within k text)) ≡ map (one p) text
parts_same p zero [] l = refl
parts_same p zero (b ∷ text) l = absurd (omega (arith, l))
parts_same p (suc k) [] l = refl
parts_same p (suc k) (b ∷ text) l =
    let d = length-drop 65536 (b ∷ text) in
    ap (λ z. map (one p) (take 65536 (b ∷ text)) ++ z) (parts_same p k (drop 65536 (b ∷ text)) (omega (arith, d, l)))
    ∙ sym (map-append (one p) (take 65536 (b ∷ text)) (drop 65536 (b ∷ text)))
    ∙ ap (map (one p)) (take-append-drop 65536 (b ∷ text))

one_same : (c : Call) → byte_by_byte (cut c) ≡ each_byte c
one_same (call.TextPiece p piece) = parts_same p (length piece) piece (omega arith)
one_same (call.Target n) = refl
one_same (call.OpenRoot base) = refl
one_same (call.AddDir up p from) = refl
one_same (call.OpenDir up p base) = refl
one_same (call.DeleteEntry up p base) = refl
one_same (call.AddFile up p from) = refl
one_same (call.OpenFile up p base) = refl
one_same (call.DirProp p name value) = refl
one_same (call.FileProp p name value) = refl
one_same (call.TextStart p) = refl
one_same (call.TextEnd p) = refl
one_same (call.CloseFile p sum) = refl
one_same (call.CloseDir p) = refl
one_same call.CloseEdit = refl

cut_same : (cs : List Call) → AreSameCalls (cut_all cs) cs
cut_same [] = refl
cut_same (c ∷ cs) = bytes_join (cut c) (cut_all cs) ∙ (λ i. one_same c i ++ cut_same cs i)

-- ---- what is received

pub received : WrittenIsRead → DriveIsWritten → DriveIsReceived
received law written trees s set more before after was is items calls sent at taken spelled made =
    let got = written_is_received law (length trees) (base_number trees) (body_of trees s) more before after was is items calls (written trees s sent) at taken spelled in
    let bytes : HaveBytes calls = subst HaveBytes (sym got.0) (cut_bytes (drive trees s)) in
    let nested : IsNested calls = same_nesting Before calls (drive trees s) bytes (drive_bytes trees s) got.1 ∙ nested-drive trees s sent.bounded.set.0 sent.faultless sent.root in
    let effects = same_effect trees (base trees) calls (drive trees s) got.1 in
    ((λ q. (made nested).effect_is q ∙ (λ i. effects i q) ∙ (λ i. called-drive trees s sent.bounded.set.0 sent.faultless i q)), got.2)

-- ---- what is refused

free_amid : (trees : List PathMap) (done xs : List Call) (c : Call) (ys : List Call) → refusal_after trees done (xs ++ c ∷ ys) ≡ None → call_fault trees (done ++ xs) c ≡ None
free_amid trees done [] c ys h = ap (λ z. call_fault trees z c) (append-nil done) ∙ none_first (call_fault trees done c) (refusal_after trees (done ++ c ∷ []) ys) h
free_amid trees done (x ∷ xs) c ys h = ap (λ z. call_fault trees z c) (sym (append_assoc done (x ∷ []) xs)) ∙ free_amid trees (done ++ x ∷ []) xs c ys (none_rest (call_fault trees done x) (refusal_after trees (done ++ x ∷ []) (xs ++ c ∷ ys)) h)

record Goes (s : Stage) (xs ys : List Call) (t : Stage) : Type 0 where
  stage : Stage
  ran : run s xs ≡ Some stage
  on : run stage ys ≡ Some t

goes : (s : Stage) (xs ys : List Call) (t : Stage) → run s (xs ++ ys) ≡ Some t → Goes s xs ys t
goes s xs ys t e = at (run s xs) refl (sym (run_both s xs ys) ∙ e)
  where
    at : (o : Option Stage) → run s xs ≡ o → option_and_then (λ t. run t ys) o ≡ Some t → Goes s xs ys t
    at None h k = cc
    at (Some u) h k = record { stage = u; ran = h; on = k }

ends : (s : Stage) (ys : List Call) → run s (call.CloseEdit ∷ ys) ≡ Some After → ys ≡ []
ends s [] e = refl
ends Before (y ∷ ys) e = cc
ends (Within []) (y ∷ ys) e = cc
ends (Within (o ∷ os)) (y ∷ ys) e = cc
ends After (y ∷ ys) e = cc

or_false : (b : Bool) → (b || false) ≡ b
or_false true = refl
or_false false = refl

any_end : (test : Call → Bool) → test call.CloseEdit ≡ false → (xs : List Call) → list_any test (xs ++ call.CloseEdit ∷ []) ≡ list_any test xs
any_end test e xs = list_any-append test xs (call.CloseEdit ∷ []) ∙ (λ i. list_any test xs || (e i || false)) ∙ or_false (list_any test xs)

same_any : (test : Call → Bool) → ((p : Path) (x y : List ℕ) → test (call.TextPiece p x) ≡ test (call.TextPiece p y)) → (xs ys : List Call) → HaveBytes xs → HaveBytes ys → AreSameCalls xs ys → list_any test xs ≡ list_any test ys
same_any test alike xs ys h k e = sym (any_by_bytes test alike xs h) ∙ ap (list_any test) e ∙ any_by_bytes test alike ys k

same_changed : (xs ys : List Call) (p : Path) → HaveBytes xs → HaveBytes ys → AreSameCalls xs ys → is_changed xs p ≡ is_changed ys p
same_changed xs ys p h k e = λ i. same_any (gives p) (λ q x y. refl) xs ys h k e i || (same_any (takes p) (λ q x y. refl) xs ys h k e i && not (same_any (acts_below p) (λ q x y. refl) xs ys h k e i))

changed_end : (xs : List Call) (p : Path) → is_changed (xs ++ call.CloseEdit ∷ []) p ≡ is_changed xs p
changed_end xs p = λ i. any_end (gives p) refl xs i || (any_end (takes p) refl xs i && not (any_end (acts_below p) refl xs i))

each : {P Q : Change → Type 0} (s : List Change) → ((c : Change) → P c → Q c) → AllByRecursion P s → AllByRecursion Q s
each [] g h = tt
each (c ∷ s) g h = (g c h.0, each s g h.1)

-- a refusal of one of the calls as they are received is want of memory
one_for_memory : (trees : List PathMap) (s : List Change) (e : EditorFault) (before : List Call) (c : Call) (rest : List Call) → IsSent trees s → before ++ c ∷ rest ≡ cut_all (drive trees s) → RefusesWithin trees before c e → e ≡ refusal.OutOfMemory
one_for_memory trees s e before c rest sent among h = at (h there.stage there.ran)
  where
    calls : List Call
    calls = cut_all (drive trees s)

    within : AllByRecursion IsWithin s
    within = within_of s sent.bounded.small

    nested : IsNested calls
    nested = same_nesting Before calls (drive trees s) (cut_bytes (drive trees s)) (drive_bytes trees s) (cut_same (drive trees s)) ∙ nested-drive trees s sent.bounded.set.0 sent.faultless sent.root

    there : Goes Before (before ++ c ∷ []) rest After
    there = goes Before (before ++ c ∷ []) rest After (ap (run Before) (append_assoc before (c ∷ []) rest ∙ among) ∙ nested)

    free : call_fault trees before c ≡ None
    free = free_amid trees [] before c rest (ap (refusal_after trees []) among ∙ same_refusal trees calls (drive trees s) (cut_bytes (drive trees s)) (drive_bytes trees s) (cut_same (drive trees s)) ∙ free-drive trees s sent.bounded.set.0 sent.faultless sent.root within)

    whole : c ≡ call.CloseEdit → calls ≡ before ++ call.CloseEdit ∷ []
    whole k =
        let g = goes Before before (c ∷ rest) After (ap (run Before) among ∙ nested) in
        let last : rest ≡ [] = ends g.stage rest (ap (λ z. run g.stage (z ∷ rest)) (sym k) ∙ g.on) in
        sym among ∙ (λ i. before ++ k i ∷ last i)

    -- the calls of the drive but the last
    front : List Call
    front = call.Target (length trees) ∷ call.OpenRoot (base_number trees) ∷ (walk trees [] [] s ++ call.CloseDir [] ∷ [])

    is_front : drive trees s ≡ front ++ call.CloseEdit ∷ []
    is_front = ap (λ l. call.Target (length trees) ∷ call.OpenRoot (base_number trees) ∷ l) (sym (append_assoc (walk trees [] [] s) (call.CloseDir [] ∷ []) (call.CloseEdit ∷ [])))

    same_paths : c ≡ call.CloseEdit → (p : Path) → is_changed before p ≡ true → is_changed front p ≡ true
    same_paths k p h =
        sym (changed_end front p)
        ∙ ap (λ l. is_changed l p) (sym is_front)
        ∙ sym (same_changed calls (drive trees s) p (cut_bytes (drive trees s)) (drive_bytes trees s) (cut_same (drive trees s)))
        ∙ ap (λ l. is_changed l p) (whole k)
        ∙ changed_end before p
        ∙ h

    same_effects : c ≡ call.CloseEdit → (q : Path) → call_effect trees before q ≡ call_effect trees front q
    same_effects k q =
        (λ i. sym (all_called-append trees (base trees) before (call.CloseEdit ∷ [])) i q)
        ∙ ap (λ l. call_effect trees l q) (sym (whole k))
        ∙ (λ i. same_effect trees (base trees) calls (drive trees s) (cut_same (drive trees s)) i q)
        ∙ ap (λ l. call_effect trees l q) is_front
        ∙ (λ i. all_called-append trees (base trees) front (call.CloseEdit ∷ []) i q)

    at : IsCallRefusal trees before c e → e ≡ refusal.OutOfMemory
    at (faults.OfMemory m) = m
    at (faults.OfCall k) = cc (free, k)
    at (faults.OfSize k big large) =
        big
        ∙ memory_alone trees s refusal.TooLong sent.bounded.set.0 sent.faultless sent.root within sent.bounded.set.1 (OfEditor front call.CloseEdit [] is_front (λ stage ran. faults.OfSize refl refl (record {
          set = large.set;
          normal = large.normal;
          is = λ q. large.is q ∙ same_effects k q;
          changed = each large.set (λ x d. same_paths k x.path d) large.changed;
          many = large.many;
        })))

pub not_refused : WrittenIsRead → DriveIsWritten → DriveIsNotRefused
not_refused law written trees s more before after was spent failed f sent at fresh refuses =
    known (RefusesOne IsNew (λ t. t) RefusesWithin trees (cut_all (drive trees s))) (λ e. e ≡ refusal.OutOfMemory) failed f
    (λ e r. one_for_memory trees s e r.before r.next r.rest sent r.among (r.met [] refl))
    (written_is_not_refused IsNew (λ t. t) RefusesWithin law trees (length trees) (base_number trees) (body_of trees s) more before after was spent failed f (written trees s sent) at fresh refuses)
