-- A whole edit, shown or refused.
use Rattle.std.proofs.Common.{◌≡◌, ℕ, zero, suc, ◌≤◌, false, List, [], ◌∷◌, ◌++◌, length, None, refl, sym, ap, subst, ◌∙◌, append_assoc, arith}
use Rattle.std.specs.Prelude.{OnOk, IfErr, Result, Ok, Err}
use Rattle.node_base.specs.Tree.{PathMap}
use Rattle.dump_load.specs.declared.change.Change.{Change}
use Rattle.dump_load.specs.Faults.{fault}
use Rattle.dump_load.specs.Walk.{Walked}
use Rattle.dump_load.proofs.Walk.{walked_no_fault}
use Rattle.delta_editor.specs.declared.call.Call.{Call}
use Rattle.delta_editor.specs.declared.call.Call.TheVariants as call
use Rattle.delta_editor.specs.declared.fault.EditorFault.{EditorFault}
use Rattle.delta_editor.specs.Calls.{Adds, Refused}
use Rattle.editor_ends.specs.Drive.{base_number, walk, drive}
use Rattle.editor_ends.specs.Refusals.{IsDriveRefusal, OfMemory, OfSet, OfEditor}
use Rattle.editor_ends.specs.Shown.{Shown, Halts, Memory, Faulty, Refusal, left, is_under}
use Rattle.editor_ends.proofs.Showing.{shown_twice, shown_adds, shown_all, stops_first, stops_later}
use Rattle.editor_ends.proofs.Walks.{left-end, halts_behind, halts_before}

-- ---- all changes

all_done : (set : List Change) (k : ℕ) → is_under set k [] ≡ false → length set ≤ k
all_done [] k h = omega arith
all_done (c ∷ set) zero h = cc
all_done (c ∷ set) (suc k) h = omega (arith, all_done set k h)

pub end_faultless : {A F : Type 0} (r : Result A F) (trees : List PathMap) (set : List Change) (k : ℕ) (tree : PathMap) → OnOk r (Walked trees set k tree) → OnOk r (is_under set k [] ≡ false) → OnOk r (fault trees set ≡ None)
end_faultless (Ok x) trees set k tree w h = walked_no_fault trees set k tree w (all_done set k h)
end_faultless (Err f) trees set k tree w h = tt

pub end_shown : {A F E : Type 0} (r : Result A F) (shows : E → List Call → Type 0) (trees : List PathMap) (set : List Change) (k : ℕ) (a b c : E) (x y : List Call) → Shown shows a b x y → OnOk r (Shown shows b c y (left trees set k [])) → OnOk r (is_under set k [] ≡ false) → OnOk r (Adds shows a c x)
end_shown (Ok u) shows trees set k a b c x y s t h = shown_all shows a c x (left trees set k []) (shown_twice shows a b c x y (left trees set k []) s t) (left-end trees set k h)
end_shown (Err f) shows trees set k a b c x y s t h = tt

module _ {E O : Type 0} (shows : E → List Call → Type 0) (began : E → O) (refuses : O → List Call → Call → EditorFault → Type 0) (trees : List PathMap) (set : List Change) where
  pub halt_behind : {A : Type 0} (r : Result A EditorFault) (a b : E) (x y : List Call) → Shown shows a b x y → began b ≡ began a → IfErr r (Halts shows began refuses trees set b y) → IfErr r (Halts shows began refuses trees set a x)
  halt_behind (Ok u) a b x y s same h = tt
  halt_behind (Err f) a b x y s same h = halts_behind shows began refuses trees set a b x y f s same h

  -- ---- the edit round them

  abbrev target : Call
  target = call.Target (length trees)

  abbrev root : Call
  root = call.OpenRoot (base_number trees)

  abbrev changes : List Call
  changes = walk trees [] [] set

  abbrev ending : List Call
  ending = call.CloseDir [] ∷ call.CloseEdit ∷ []

  module _ (a b : E) (one : Adds shows a b (target ∷ [])) (over1 : began b ≡ began a) where
    pub halts_at_root : (f : EditorFault) → Refused shows began refuses b root f → Halts shows began refuses trees set a (drive trees set) f
    halts_at_root f h = Refusal (stops_later shows began refuses a b (target ∷ []) (root ∷ (changes ++ ending)) (drive trees set) f one over1 (stops_first shows began refuses b root (changes ++ ending) (root ∷ (changes ++ ending)) f h refl) refl)

    module _ (e : E) (two : Adds shows b e (root ∷ [])) (over2 : began e ≡ began b) where
      begun : Adds shows a e (target ∷ root ∷ [])
      begun calls h = subst (shows e) (append_assoc calls (target ∷ []) (root ∷ [])) (two (calls ++ target ∷ []) (one calls h))

      pub halts_inside : (f : EditorFault) → Halts shows began refuses trees set e changes f → Halts shows began refuses trees set a (drive trees set) f
      halts_inside f h = halts_behind shows began refuses trees set a e (drive trees set) (changes ++ ending) f (shown_adds shows a e (target ∷ root ∷ []) (drive trees set) (changes ++ ending) begun refl) (over2 ∙ over1) (halts_before shows began refuses trees set e changes ending (changes ++ ending) f h refl)

      pub halts_at_close : {A : Type 0} (d : E) (r : Result A EditorFault) → Adds shows e d changes → began d ≡ began e → IfErr r (Refused shows began refuses d (call.CloseDir [])) → IfErr r (Halts shows began refuses trees set a (drive trees set))
      halts_at_close d (Ok u) three over3 h = tt
      halts_at_close d (Err f) three over3 h =
          halts_inside2 f (Refusal (stops_later shows began refuses e d changes ending (changes ++ ending) f three over3 (stops_first shows began refuses d (call.CloseDir []) (call.CloseEdit ∷ []) ending f h refl) refl))
        where
          halts_inside2 : (f : EditorFault) → Halts shows began refuses trees set e (changes ++ ending) f → Halts shows began refuses trees set a (drive trees set) f
          halts_inside2 f h = halts_behind shows began refuses trees set a e (drive trees set) (changes ++ ending) f (shown_adds shows a e (target ∷ root ∷ []) (drive trees set) (changes ++ ending) begun refl) (over2 ∙ over1) h

  -- ---- the refusal of a drive

  pub refused_inside : (a : E) (f : EditorFault) → shows a [] → Halts shows began refuses trees set a (drive trees set) f → IsDriveRefusal refuses (began a) trees set f
  refused_inside a f new (Memory h) = OfMemory h
  refused_inside a f new (Faulty h) = OfSet h
  refused_inside a f new (Refusal s) = OfEditor s.front s.refused s.rest s.is (s.cause [] new)

  pub refused_at_end : {A : Type 0} (a d : E) (r : Result A EditorFault) → shows a [] → Adds shows a d (target ∷ root ∷ (changes ++ call.CloseDir [] ∷ [])) → began d ≡ began a → IfErr r (Refused shows began refuses d call.CloseEdit) → IfErr r (IsDriveRefusal refuses (began a) trees set)
  refused_at_end a d (Ok u) new adds same h = tt
  refused_at_end a d (Err f) new adds same h =
      OfEditor (target ∷ root ∷ (changes ++ call.CloseDir [] ∷ [])) call.CloseEdit [] (ap (λ l. target ∷ root ∷ l) (sym (append_assoc changes (call.CloseDir [] ∷ []) (call.CloseEdit ∷ []))))
      (subst (λ o. refuses o (target ∷ root ∷ (changes ++ call.CloseDir [] ∷ [])) call.CloseEdit f) same (h (target ∷ root ∷ (changes ++ call.CloseDir [] ∷ [])) (adds [] new)))
