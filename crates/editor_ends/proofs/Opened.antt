-- A change that a call begins, where a search has found its place.
use Rattle.std.proofs.Common.{◌≡◌, ℕ, ◌<◌, ◌+◌, Bool, true, false, cond, not, ◌&&◌, ◌||◌, List, [], ◌∷◌, ◌++◌, length, take, drop, get_or, Option, Some, None, IsSome, is_some, Ok, Err, refl, sym, ap, subst, ◌∙◌, suc, zero}
use Rattle.std.specs.Prelude.{slice_set, is_none}
use Rattle.std.specs.Option.{option_map, option_map_or}
use Rattle.std.specs.List.{AllByRecursion, slice_get}
use Rattle.std.proofs.lemmas.List.{take-append-drop}
use Rattle.std.proofs.lemmas.List.Folds.{list_any-append}
use Rattle.std.proofs.lemmas.Option.{slice_get-get_or}
use Rattle.std.specs.FinMap.{get}
use Rattle.std.specs.declared.cmp.Ordering.TheVariants.{Less}
use Rattle.node_base.specs.Path.{Path, path_cmp, same_path, is_front, rest_after}
use Rattle.node_base.specs.Tree.{PathMap}
use Rattle.node_base.specs.declared.node.Node.{Node}
use Rattle.node_base.specs.declared.node.Action.{Action}
use Rattle.node_base.specs.declared.node.Action.TheVariants.{Modify, Add, Delete, Replace}
use Rattle.node_base.proofs.PathLemmas.{later_is_no_front}
use Rattle.dump_load.specs.declared.change.Change.{Change}
use Rattle.dump_load.specs.Changes.{settles, is_delete, is_add, change_at, IsWhole, IsNormal, Precedes}
use Rattle.dump_load.specs.Effect.{stepped}
use Rattle.dump_load.specs.Faults.{fault_of, place_fault}
use Rattle.dump_load.proofs.PathOrder.{between, no_front_none, less_differs}
use Rattle.dump_load.proofs.Faultless.{faultless}
use Rattle.delta_editor.specs.Faults.{refused}
use Rattle.delta_editor.specs.declared.fault.EditorFault.{EditorFault}
use Rattle.delta_editor.specs.declared.fault.EditorFault.TheVariants as refusal
use Rattle.editor_ends.specs.BuildFaults.{is_below, blank_text, begin_fault}
use Rattle.editor_ends.specs.Built.{filled, is_taken, is_above, is_late_in, Made, Begins, IsFresh, IsFaultOr, Placed}
use Rattle.editor_ends.proofs.Filled.{Nodes, none_in_gap, deleted_gone, or_yes}
use Rattle.editor_ends.proofs.Began.{fresh_begun, begin_late, begin_faulty, begins_new, begins_again}
use Rattle.editor_ends.proofs.Places.{split_at, set_at, taken_at}
use Rattle.editor_ends.proofs.Shows.{either, fault_or}

fresh_now : (trees : List PathMap) (f g : Nodes) (x : Change) → IsFresh x → g x.path ≡ stepped trees f x x.path → filled g x ≡ x
fresh_now trees f g x is step = ap (filled g) is ∙ fresh_begun trees f g x.action x.kind x.path x.source (step ∙ ap (λ z. stepped trees f z x.path) is) ∙ sym is

-- a change of what is there begins without a text
fresh_bare : (x : Change) → IsFresh x → settles x.action ≡ false → x.text ≡ None
fresh_bare x is stays = ap (λ (c : Change). c.text) is ∙ ap (λ b. cond (b && is_none x.source) (blank_text x.kind) None) (no_add x.action stays)
  where
    no_add : (a : Action) → settles a ≡ false → is_add a ≡ false
    no_add Modify e = refl
    no_add Add e = cc
    no_add Delete e = cc
    no_add Replace e = cc

no_deletion : (a : Action) → (is_add a || not (settles a)) ≡ true → is_delete a ≡ false
no_deletion Modify e = refl
no_deletion Add e = refl
no_deletion Delete e = cc
no_deletion Replace e = refl

-- ---- where there is no change at the path

late_gap : (s : List Change) (i : ℕ) (x : Change) → Placed s x.path (Err i) → is_taken s x.path ≡ false
late_gap s i x p = ap (λ o. option_map_or (λ (c : Change). not (is_delete c.action)) o false) (subst (λ z. change_at z x.path ≡ None) (take-append-drop i s) (none_in_gap (take i s) (drop i s) x.path p))

module _ (trees : List PathMap) (tree new_tree : PathMap) (s : List Change) (i : ℕ) (x : Change) (m : Made trees tree s) (p : Placed s x.path (Err i)) where
  spread : Made trees tree (take i s ++ drop i s)
  spread = subst (Made trees tree) (sym (take-append-drop i s)) m

  put_new : (settles x.action ≡ true → is_above s x.path ≡ false) → is_late_in s x ≡ false → IsWhole x → IsFresh x → (same_path x.path [] && settles x.action) ≡ false → ((q : Path) → get new_tree q ≡ stepped trees (get tree) x q) → fault_of trees (get tree) x ≡ None → (new : List Change) → new ≡ take i s ++ x ∷ drop i s → Begins trees tree s new_tree new x
  put_new clear late w fresh root step fault new e =
      subst (λ z. Begins trees tree s new_tree z x) (sym e)
      (subst (λ z. Begins trees tree z new_tree (take i s ++ x ∷ drop i s) x) (take-append-drop i s)
      (begins_new trees tree new_tree x step w (fresh_now trees (get tree) (get new_tree) x fresh (step x.path)) fault (take i s) (drop i s) spread p (λ k. ap (λ z. is_above z x.path) (take-append-drop i s) ∙ clear k) (ap (λ z. is_late_in z x) (take-append-drop i s) ∙ late) root (fresh_bare x fresh)))

  -- what is added isn't there, so nothing is changed below it
  free_below : (is_add x.action || not (settles x.action)) ≡ true → fault_of trees (get tree) x ≡ None → settles x.action ≡ true → is_above s x.path ≡ false
  free_below known fault k =
      elim (is_above s x.path) as (λ b. is_above s x.path ≡ b → b ≡ false) [
        | true ↦ λ e. absurd (found x.action known k (get tree x.path) (m.stands x.path e) (faultless trees (get tree) x fault).place)
        | false ↦ λ e. refl
      ] refl
    where
      found : (a : Action) → (is_add a || not (settles a)) ≡ true → settles a ≡ true → (o : Option Node) → IsSome o → place_fault a (is_some o) ≡ None → ⊥
      found Modify e k o h n = cc
      found Add e k None h n = cc h
      found Add e k (Some y) h n = cc
      found Delete e k o h n = cc
      found Replace e k o h n = cc

  late_new : (is_add x.action || not (settles x.action)) ≡ true → is_late_in s x ≡ false
  late_new known = (λ j. late_gap s i x p j || (no_deletion x.action known j && is_above s x.path))

  pub open_new : (is_add x.action || not (settles x.action)) ≡ true → IsWhole x → IsFresh x → (same_path x.path [] && settles x.action) ≡ false → ((q : Path) → get new_tree q ≡ stepped trees (get tree) x q) → fault_of trees (get tree) x ≡ None → (new : List Change) → new ≡ take i s ++ x ∷ drop i s → Begins trees tree s new_tree new x
  open_new known w fresh root step fault new e = put_new (free_below known fault) (late_new known) w fresh root step fault new e

  pub refuse_new : (is_add x.action || not (settles x.action)) ≡ true → (same_path x.path [] && settles x.action) ≡ false → (e : EditorFault) → IsFaultOr (option_map refused (fault_of trees (get tree) x)) e → IsFaultOr (begin_fault trees (get tree) (is_late_in s x) x) e
  refuse_new known root e h = passed (late_new known) h
    where
      passed : is_late_in s x ≡ false → IsFaultOr (option_map refused (fault_of trees (get tree) x)) e → IsFaultOr (begin_fault trees (get tree) (is_late_in s x) x) e
      passed late h = elim (either _ e h) [ Rattle.std.proofs.Common.inl k ↦ subst (IsFaultOr (begin_fault trees (get tree) (is_late_in s x) x)) (sym k) tt | Rattle.std.proofs.Common.inr k ↦ fault_or _ e (begin_faulty trees (get tree) (is_late_in s x) x e root late k) ]

  -- a deletion, where the next change isn't below
  none_before : (t : List Change) → AllByRecursion (λ c. path_cmp c.path x.path ≡ Less) t → is_above t x.path ≡ false
  none_before [] h = refl
  none_before (c ∷ t) h = (λ j. (is_some (later_is_no_front x.path c.path h.0 j) && not (same_path x.path c.path)) || none_before t h.1 j)

  none_after : (e : Change) (t : List Change) → path_cmp x.path e.path ≡ Less → rest_after x.path e.path ≡ None → AllByRecursion (λ c. path_cmp e.path c.path ≡ Less) t → is_above t x.path ≡ false
  none_after e [] less none h = refl
  none_after e (c ∷ t) less none h = (λ j. (is_some (between x.path e.path c.path less h.0 none j) && not (same_path x.path c.path)) || none_after e t less none h.1 j)

  first_below : (t : List Change) → Bool
  first_below [] = false
  first_below (e ∷ t) = is_front x.path e.path

  first_at : (s : List Change) (i : ℕ) → option_map_or (λ (c : Change). is_front x.path c.path) (slice_get s i) false ≡ first_below (drop i s)
  unfolding first_below
  first_at [] zero = refl
  first_at [] (suc i) = refl
  first_at (c ∷ s) zero = refl
  first_at (c ∷ s) (suc i) = first_at s i

  rest_none : (t : List Change) → IsNormal t → AllByRecursion (λ c. path_cmp x.path c.path ≡ Less) t → first_below t ≡ false → is_above t x.path ≡ false
  unfolding first_below
  rest_none [] n h e = refl
  rest_none (c ∷ t) n h e = (λ j. (is_some (no_front_none x.path c.path e j) && not (same_path x.path c.path)) || none_after c t h.0 (no_front_none x.path c.path e) (rises t n.1) j)
    where
      rises : (t : List Change) → AllByRecursion (Precedes c) t → AllByRecursion (λ d. path_cmp c.path d.path ≡ Less) t
      rises [] h = tt
      rises (d ∷ t) h = (h.0.rises, rises t h.1)

  rest_some : (t : List Change) → AllByRecursion (λ c. path_cmp x.path c.path ≡ Less) t → first_below t ≡ true → is_above t x.path ≡ true
  unfolding first_below
  rest_some [] h e = cc
  rest_some (c ∷ t) h e = (λ j. (e j && not (less_differs x.path c.path h.0 j)) || is_above t x.path)

  normal_rest : (k : ℕ) (t : List Change) → IsNormal t → IsNormal (drop k t)
  normal_rest zero [] n = tt
  normal_rest (suc k) [] n = tt
  normal_rest zero (c ∷ t) n = n
  normal_rest (suc k) (c ∷ t) n = normal_rest k t n.2

  clear_next : option_map_or (λ (c : Change). is_front x.path c.path) (slice_get s i) false ≡ false → is_above s x.path ≡ false
  clear_next e =
      ap (λ z. is_above z x.path) (sym (take-append-drop i s)) ∙ list_any-append _ (take i s) (drop i s)
      ∙ (λ j. none_before (take i s) p.0 j || rest_none (drop i s) (normal_rest i s m.normal) p.1 (sym (first_at s i) ∙ e) j)

  above_next : option_map_or (λ (c : Change). is_front x.path c.path) (slice_get s i) false ≡ true → is_above s x.path ≡ true
  above_next e =
      ap (λ z. is_above z x.path) (sym (take-append-drop i s)) ∙ list_any-append _ (take i s) (drop i s)
      ∙ ap (λ b. is_above (take i s) x.path || b) (rest_some (drop i s) p.1 (sym (first_at s i) ∙ e)) ∙ or_yes (is_above (take i s) x.path)

  late_deleted : (b : Bool) → is_above s x.path ≡ b → is_delete x.action ≡ true → is_late_in s x ≡ b
  late_deleted b e del = (λ j. late_gap s i x p j || (del j && e j))

  pub delete_new : is_delete x.action ≡ true → option_map_or (λ (c : Change). is_front x.path c.path) (slice_get s i) false ≡ false → IsWhole x → IsFresh x → (same_path x.path [] && settles x.action) ≡ false → ((q : Path) → get new_tree q ≡ stepped trees (get tree) x q) → fault_of trees (get tree) x ≡ None → (new : List Change) → new ≡ take i s ++ x ∷ drop i s → Begins trees tree s new_tree new x
  delete_new del next w fresh root step fault new e = put_new (λ _. clear_next next) (late_deleted false (clear_next next) del) w fresh root step fault new e

  pub late_delete : is_delete x.action ≡ true → option_map_or (λ (c : Change). is_front x.path c.path) (slice_get s i) false ≡ true → (same_path x.path [] && settles x.action) ≡ false → begin_fault trees (get tree) (is_late_in s x) x ≡ Some refusal.OutOfOrder
  late_delete del next root = begin_late trees (get tree) (is_late_in s x) x root (late_deleted true (above_next next) del)

  pub refuse_delete : is_delete x.action ≡ true → option_map_or (λ (c : Change). is_front x.path c.path) (slice_get s i) false ≡ false → (same_path x.path [] && settles x.action) ≡ false → (e : EditorFault) → IsFaultOr (option_map refused (fault_of trees (get tree) x)) e → IsFaultOr (begin_fault trees (get tree) (is_late_in s x) x) e
  refuse_delete del next root e h = elim (either _ e h) [ Rattle.std.proofs.Common.inl k ↦ subst (IsFaultOr (begin_fault trees (get tree) (is_late_in s x) x)) (sym k) tt | Rattle.std.proofs.Common.inr k ↦ fault_or _ e (begin_faulty trees (get tree) (is_late_in s x) x e root (late_deleted false (clear_next next) del) k) ]

-- ---- where there is one

module _ (trees : List PathMap) (tree new_tree : PathMap) (s : List Change) (i : ℕ) (x d : Change) (m : Made trees tree s) (here : i < length s) (is : d ≡ get_or s i d) (p : Placed s x.path (Ok i)) where
  split : s ≡ take i s ++ d ∷ drop (i + 1) s
  split = split_at s i d here is

  same : d.path ≡ x.path
  same = p d (slice_get-get_or s i d here ∙ ap Some (sym is))

  normal : IsNormal (take i s ++ d ∷ drop (i + 1) s)
  normal = subst IsNormal split m.normal

  taken : is_taken s x.path ≡ not (is_delete d.action)
  taken = (λ j. is_taken (split j) (sym same j)) ∙ taken_at (take i s) (drop (i + 1) s) d normal

  pub late_again : is_delete d.action ≡ false → (same_path x.path [] && settles x.action) ≡ false → begin_fault trees (get tree) (is_late_in s x) x ≡ Some refusal.OutOfOrder
  late_again e root = begin_late trees (get tree) (is_late_in s x) x root (ap (λ b. b || (is_delete x.action && is_above s x.path)) (taken ∙ ap not e))

  not_late : (is_add x.action || not (settles x.action)) ≡ true → is_delete d.action ≡ true → is_late_in s x ≡ false
  not_late known del = (λ j. (taken ∙ ap not del) j || (no_deletion x.action known j && is_above s x.path))

  pub refuse_again : (is_add x.action || not (settles x.action)) ≡ true → is_delete d.action ≡ true → (same_path x.path [] && settles x.action) ≡ false → (e : EditorFault) → IsFaultOr (option_map refused (fault_of trees (get tree) x)) e → IsFaultOr (begin_fault trees (get tree) (is_late_in s x) x) e
  refuse_again known del root e h = elim (either _ e h) [ Rattle.std.proofs.Common.inl k ↦ subst (IsFaultOr (begin_fault trees (get tree) (is_late_in s x) x)) (sym k) tt | Rattle.std.proofs.Common.inr k ↦ fault_or _ e (begin_faulty trees (get tree) (is_late_in s x) x e root (not_late known del) k) ]

  gone : is_delete d.action ≡ true → get tree x.path ≡ None
  gone del = ap (get tree) (sym same) ∙ deleted_gone trees tree (take i s) (drop (i + 1) s) d (subst (Made trees tree) split m) del

  is_adding : (is_add x.action || not (settles x.action)) ≡ true → is_delete d.action ≡ true → fault_of trees (get tree) x ≡ None → is_add x.action ≡ true
  is_adding known del fault = found x.action known (get tree x.path) (gone del) (faultless trees (get tree) x fault).place
    where
      found : (a : Action) → (is_add a || not (settles a)) ≡ true → (o : Option Node) → o ≡ None → place_fault a (is_some o) ≡ None → is_add a ≡ true
      found Modify e None h n = cc
      found Modify e (Some y) h n = cc
      found Add e o h n = refl
      found Delete e o h n = cc
      found Replace e o h n = cc

  pub open_again : (is_add x.action || not (settles x.action)) ≡ true → is_delete d.action ≡ true → IsWhole x → IsFresh x → (same_path x.path [] && settles x.action) ≡ false → ((q : Path) → get new_tree q ≡ stepped trees (get tree) x q) → fault_of trees (get tree) x ≡ None → (new : List Change) → new ≡ slice_set s i (record x { action = Replace }) → Begins trees tree s new_tree new x
  open_again known del w fresh root step fault new e =
      subst (λ z. Begins trees tree s new_tree z x) (sym (e ∙ set_at s i (record x { action = Replace }) here))
      (subst (λ z. Begins trees tree z new_tree (take i s ++ record x { action = Replace } ∷ drop (i + 1) s) x) (sym split)
      (begins_again trees tree new_tree x step w (fresh_now trees (get tree) (get new_tree) x fresh (step x.path)) fault (take i s) (drop (i + 1) s) d (subst (Made trees tree) split m) same del (is_adding known del fault) root))

  -- what was deleted isn't deleted once more
  pub never_deleted : is_delete x.action ≡ true → is_delete d.action ≡ true → fault_of trees (get tree) x ≡ None → ⊥
  never_deleted gone_too del fault = found x.action gone_too (get tree x.path) (gone del) (faultless trees (get tree) x fault).place
    where
      found : (a : Action) → is_delete a ≡ true → (o : Option Node) → o ≡ None → place_fault a (is_some o) ≡ None → ⊥
      found Modify e o h n = cc
      found Add e o h n = cc
      found Delete e None h n = cc
      found Delete e (Some y) h n = cc
      found Replace e o h n = cc

  -- what is deleted once more after a deletion: late only where something below was touched, and nothing below a deletion is
  not_late_gone : is_delete x.action ≡ true → is_delete d.action ≡ true → is_late_in s x ≡ false
  not_late_gone del gone_too = (λ j. (taken ∙ ap not gone_too) j || (del j && nothing j))
    where
      clear : Rattle.dump_load.specs.Changes.IsClear (take i s ++ drop (i + 1) s) d
      clear = Rattle.editor_ends.proofs.Filled.clear_of_deleted (take i s) (drop (i + 1) s) d normal gone_too

      none : (t : List Change) → Rattle.dump_load.specs.Changes.IsClear t d → is_above t d.path ≡ false
      none [] h = refl
      none (e ∷ t) h = (λ j. (is_some (h.0 j) && not (same_path d.path e.path)) || none t h.1 j)

      itself : is_below d.path d.path ≡ false
      itself = ap (λ b. is_front d.path d.path && not b) (Rattle.node_base.proofs.PathLemmas.same_path_itself d.path) ∙ ends (is_front d.path d.path)
        where
          ends : (b : Bool) → (b && false) ≡ false
          ends true = refl
          ends false = refl

      nothing : is_above s x.path ≡ false
      nothing = (λ j. is_above (split j) (sym same j)) ∙ Rattle.editor_ends.proofs.Began.above-amid (take i s) (drop (i + 1) s) d d.path ∙ (λ j. none (take i s ++ drop (i + 1) s) clear j || itself j)

  pub refuse_gone : is_delete x.action ≡ true → is_delete d.action ≡ true → (same_path x.path [] && settles x.action) ≡ false → (e : EditorFault) → option_map refused (fault_of trees (get tree) x) ≡ Some e → IsFaultOr (begin_fault trees (get tree) (is_late_in s x) x) e
  refuse_gone del gone_too root e h = fault_or _ e (begin_faulty trees (get tree) (is_late_in s x) x e root (not_late_gone del gone_too) h)

-- whether a path is taken, by what the search finds
pub taken_place : (s : List Change) (i : ℕ) (p : Path) (d : Change) → i < length s → d ≡ get_or s i d → Placed s p (Ok i) → IsNormal s → is_taken s p ≡ not (is_delete d.action)
taken_place s i p d here is at n = (λ j. is_taken (split_at s i d here is j) (sym (at d (slice_get-get_or s i d here ∙ ap Some (sym is))) j)) ∙ taken_at (take i s) (drop (i + 1) s) d (subst IsNormal (split_at s i d here is) n)

pub taken_gap : (s : List Change) (i : ℕ) (p : Path) → Placed s p (Err i) → is_taken s p ≡ false
taken_gap s i p g = ap (λ o. option_map_or (λ (c : Change). not (is_delete c.action)) o false) (subst (λ z. change_at z p ≡ None) (take-append-drop i s) (none_in_gap (take i s) (drop i s) p g))
