-- Calls come to one set at most.
use Rattle.std.proofs.Common.{◌≡◌, ℕ, cond, true, false, not, ◌&&◌, List, [], ◌∷◌, Option, Some, None, IsSome, refl, sym, ap, subst, ◌∙◌}
use Rattle.std.specs.Prelude.{unwrap_or}
use Rattle.std.specs.Option.{option_map_or}
use Rattle.std.specs.FinMap.{empty}
use Rattle.std.specs.List.{list_any, AllByRecursion}
use Rattle.std.specs.Ordering.{ordering_reverse}
use Rattle.std.specs.declared.cmp.Ordering.TheVariants.{Less, Equal, Greater}
use Rattle.node_base.specs.Path.{Path, path_cmp, same_path, paths_total, paths_exact}
use Rattle.node_base.proofs.PathLemmas.{same_path_itself, path_of_same}
use Rattle.node_base.specs.Props.{PropMap}
use Rattle.node_base.specs.Tree.{PathMap}
use Rattle.node_base.specs.declared.node.Action.{Action}
use Rattle.node_base.specs.declared.node.Action.TheVariants.{Modify, Add, Delete, Replace}
use Rattle.dump_load.specs.declared.change.Change.{Change}
use Rattle.dump_load.specs.Changes.{settles, is_delete, change_at, Precedes, IsInOrder}
use Rattle.dump_load.proofs.PathOrder.{greater_differs}
use Rattle.dump_load.proofs.Again.{order_of}
use Rattle.delta_editor.specs.CallEffect.{call_effect}
use Rattle.delta_editor.specs.declared.call.Call.{Call}
use Rattle.editor_ends.specs.Asked.{removes, deletes, adds, kind_at, source_at, tells_props, tells_text, last_of, IsAsked}
use Rattle.editor_ends.specs.BuildFaults.{is_changed}
use Rattle.editor_ends.specs.Built.{IsSetOf}

-- ---- what calls ask for at a path is one change

same_action : (a b : Action) → removes a ≡ removes b → (settles a && not (is_delete a)) ≡ (settles b && not (is_delete b)) → a ≡ b
same_action Modify Modify r k = refl
same_action Modify Add r k = cc
same_action Modify Delete r k = cc
same_action Modify Replace r k = cc
same_action Add Modify r k = cc
same_action Add Add r k = refl
same_action Add Delete r k = cc
same_action Add Replace r k = cc
same_action Delete Modify r k = cc
same_action Delete Add r k = cc
same_action Delete Delete r k = refl
same_action Delete Replace r k = cc
same_action Replace Modify r k = cc
same_action Replace Add r k = cc
same_action Replace Delete r k = cc
same_action Replace Replace r k = refl

abbrev props_at : List PathMap → List Call → Path → Option PropMap
props_at trees calls p = cond (list_any (tells_props p) calls) (Some (option_map_or (λ x. x.props) (call_effect trees calls p) empty)) None

abbrev text_at : List PathMap → List Call → Path → Option (List ℕ)
text_at trees calls p = cond (list_any (tells_text p) calls) (Some (option_map_or (λ x. unwrap_or x.text []) (call_effect trees calls p) [])) None

same_change : (trees : List PathMap) (calls : List Call) (c d : Change) → c.path ≡ d.path → IsAsked trees calls c → IsAsked trees calls d → c ≡ d
same_change trees calls c d same a b =
    let action : c.action ≡ d.action = same_action c.action d.action (a.deleted ∙ ap (λ p. list_any (deletes p) calls) same ∙ sym b.deleted) (a.added ∙ ap (λ p. list_any (adds p) calls) same ∙ sym b.added) in
    let kind : c.kind ≡ d.kind = a.kind_is ∙ ap (λ p. last_of (kind_at p) calls) same ∙ sym b.kind_is in
    let source : c.source ≡ d.source = a.source_is ∙ ap (λ p. last_of (source_at p) calls) same ∙ sym b.source_is in
    let props : c.props ≡ d.props = a.props_are ∙ ap (props_at trees calls) same ∙ sym b.props_are in
    let text : c.text ≡ d.text = a.text_is ∙ ap (text_at trees calls) same ∙ sym b.text_is in
    λ i. record { path = same i; action = action i; kind = kind i; source = source i; props = props i; text = text i }

-- ---- changes in order that are alike at each path

own_change : (c : Change) (s : List Change) → change_at (c ∷ s) c.path ≡ Some c
own_change c s = ap (λ b. cond b (Some c) (change_at s c.path)) (same_path_itself c.path)

none_own : (c : Change) (s : List Change) → AllByRecursion (Precedes c) s → change_at s c.path ≡ None
none_own c [] h = refl
none_own c (d ∷ s) h = ap (λ b. cond b (Some d) (change_at s c.path)) (greater_differs c.path d.path h.0.rises) ∙ none_own c s h.1

none_later : (c : Change) (s : List Change) (p : Path) → path_cmp p c.path ≡ Less → AllByRecursion (Precedes c) s → change_at (c ∷ s) p ≡ None
none_later c s p e h = ap (λ b. cond b (Some c) (change_at s p)) (greater_differs p c.path e) ∙ rest s h
  where
    rest : (s : List Change) → AllByRecursion (Precedes c) s → change_at s p ≡ None
    rest [] h = refl
    rest (d ∷ s) h = ap (λ b. cond b (Some d) (change_at s p)) (greater_differs p d.path (paths_total.trans p c.path d.path e h.0.rises)) ∙ rest s h.1

some_is : (a b : Change) → Some a ≡ Some b → a ≡ b
some_is a b e = cc

same_changes : (s t : List Change) → IsInOrder s → IsInOrder t → ((p : Path) → change_at s p ≡ change_at t p) → s ≡ t
same_changes [] [] a b h = refl
same_changes [] (d ∷ t) a b h = cc (h d.path, own_change d t)
same_changes (c ∷ s) [] a b h = cc (h c.path, own_change c s)
same_changes (c ∷ s) (d ∷ t) a b h =
    elim (path_cmp c.path d.path) as (λ r. path_cmp c.path d.path ≡ r → c ∷ s ≡ d ∷ t) [
      | Less ↦ λ e. cc (h c.path, own_change c s, none_later d t c.path e b.0)
      | Equal ↦ λ e.
          let path = paths_exact c.path d.path e in
          let same : c ≡ d = some_is c d (sym (own_change c s) ∙ h c.path ∙ ap (change_at (d ∷ t)) path ∙ own_change d t) in
          (λ i. same i ∷ same_changes s t a.1 b.1 (rest path) i)
      | Greater ↦ λ e. cc (h d.path, own_change d t, none_later c s d.path (paths_total.antisymm d.path c.path ∙ ap ordering_reverse e) a.0)
    ] refl
  where
    rest : c.path ≡ d.path → (p : Path) → change_at s p ≡ change_at t p
    rest path p =
        elim (same_path c.path p) as (λ z. same_path c.path p ≡ z → change_at s p ≡ change_at t p) [
          | true ↦ λ k. let here = sym (path_of_same c.path p k) in ap (change_at s) here ∙ none_own c s a.0 ∙ sym (none_own d t b.0) ∙ ap (change_at t) (sym path) ∙ ap (change_at t) (sym here)
          | false ↦ λ k. sym (ap (λ z. cond z (Some c) (change_at s p)) k) ∙ h p ∙ ap (λ z. cond z (Some d) (change_at t p)) (ap (λ q. same_path q p) (sym path) ∙ k)
        ] refl

-- ---- the set

-- what holds of each change holds of the one at a path
record Found (P : Change → Type 0) (p : Path) (c : Change) : Type 0 where
  pub holds : P c
  pub here : c.path ≡ p

found : (P : Change → Type 0) (s : List Change) (p : Path) (c : Change) → AllByRecursion P s → change_at s p ≡ Some c → Found P p c
found P [] p c h e = cc
found P (d ∷ s) p c h e = elim (same_path d.path p) as (λ b. same_path d.path p ≡ b → cond b (Some d) (change_at s p) ≡ Some c → Found P p c) [
  | true ↦ λ k e. subst (Found P p) (some_is d c e) (record { holds = h.0; here = path_of_same d.path p k })
  | false ↦ λ k e. found P s p c h.1 e
] refl e

module _ (trees : List PathMap) (calls : List Call) (s t : List Change) (a : IsSetOf trees s calls) (b : IsSetOf trees t calls) where
  changed_here : (s : List Change) → IsSetOf trees s calls → (p : Path) (c : Change) → change_at s p ≡ Some c → is_changed calls p ≡ true
  changed_here s a p c e = let f = found (λ d. is_changed calls d.path ≡ true) s p c a.changed e in sym (ap (is_changed calls) f.here) ∙ f.holds

  both : (p : Path) (o q : Option Change) → change_at s p ≡ o → change_at t p ≡ q → o ≡ q
  both p None None e k = refl
  both p None (Some d) e k = cc (subst IsSome e (a.whole p (changed_here t b p d k)))
  both p (Some c) None e k = cc (subst IsSome k (b.whole p (changed_here s a p c e)))
  both p (Some c) (Some d) e k =
      let f = found (IsAsked trees calls) s p c a.asked e in
      let g = found (IsAsked trees calls) t p d b.asked k in
      ap Some (same_change trees calls c d (f.here ∙ sym g.here) f.holds g.holds)

  pub one_built : s ≡ t
  one_built = same_changes s t (order_of s a.normal) (order_of t b.normal) (λ p. both p (change_at s p) (change_at t p) refl refl)
