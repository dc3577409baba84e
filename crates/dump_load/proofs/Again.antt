-- The records that state a set give that set again.
use Rattle.std.proofs.Common.{◌≡◌, ℕ, Bool, true, false, cond, ◌&&◌, List, [], ◌∷◌, ◌++◌, map, Option, Some, None, refl, sym, ap, subst, ◌∙◌}
use Rattle.std.specs.Option.{is_none, is_some, option_or, option_map, option_map_or}
use Rattle.std.specs.List.{AllByRecursion}
use Rattle.node_base.specs.Path.{Path, same_path}
use Rattle.node_base.specs.Props.{PropMap}
use Rattle.node_base.specs.Tree.{PathMap, kind_of, source_at}
use Rattle.node_base.specs.declared.node.Node.{Node}
use Rattle.node_base.specs.declared.node.NodeKind.{NodeKind}
use Rattle.node_base.specs.declared.node.NodeKind.TheVariants.{File, Dir}
use Rattle.node_base.specs.declared.node.Source.{Source}
use Rattle.dump_text.specs.declared.record.NodeRecord.{NodeRecord}
use Rattle.dump_text.specs.declared.record.PropPart.TheVariants.{Whole}
use Rattle.dump_text.specs.Written.{map_of}
use Rattle.dump_load.specs.declared.change.Change.{Change}
use Rattle.dump_load.specs.Changes.{is_delete, is_plain, brings, change_at, Precedes, IsInOrder, IsNormal}
use Rattle.dump_load.specs.Effect.{effect}
use Rattle.dump_load.specs.Faults.{judged}
use Rattle.dump_load.specs.Deltas.{part_delta, delta_in, deltas_of, delta_at, found_props, with_delta, delta_fault_after, delta_fault, sound}
use Rattle.dump_load.specs.Records.{change_of, record_of, stated_at, combined, stated, blank_text, blanked, with_blanks, with_kind, filled_in, earlier, IsSetOf, IsNormalSetOf}
use Rattle.node_base.specs.PropDeltas.{applied}
use Rattle.node_base.specs.declared.prop_delta.PropDelta.{PropDelta}
use Rattle.std.specs.FinMap as finite
use Rattle.std.specs.Prelude.{unwrap_or}
use Rattle.dump_load.proofs.PathOrder.{greater_differs}
use Rattle.node_base.proofs.PathLemmas.{path_of_same}

-- ---- records and changes

same_change : (c : Change) → change_of (record_of c) ≡ c
same_change c = ap (λ props. record { path = c.path; action = c.action; kind = c.kind; source = c.source; props = props; text = c.text }) (at c.props)
  where
    at : (o : Option PropMap) → option_map map_of (option_map Whole o) ≡ o
    at None = refl
    at (Some p) = refl

same_changes : (s : List Change) → map change_of (map record_of s) ≡ s
same_changes [] = refl
same_changes (c ∷ s) = λ i. same_change c i ∷ same_changes s i

-- in order nothing is stated twice
none_stated_after : (c : Change) (s : List Change) (p : Path) → same_path c.path p ≡ true → AllByRecursion (Precedes c) s → stated_at s p ≡ []
none_stated_after c [] p e h = refl
none_stated_after c (d ∷ s) p e h =
    ap (λ b. cond b (d ∷ stated_at s p) (stated_at s p)) (ap (same_path d.path) (sym (path_of_same c.path p e)) ∙ greater_differs c.path d.path h.0.rises)
    ∙ none_stated_after c s p e h.1

stated_once : (s : List Change) (p : Path) → IsInOrder s → stated s p ≡ change_at s p
stated_once [] p h = refl
stated_once (c ∷ s) p h =
    elim (same_path c.path p) as (λ b. same_path c.path p ≡ b → combined (cond b (c ∷ stated_at s p) (stated_at s p)) ≡ cond b (Some c) (change_at s p)) [
      | true ↦ λ e. ap (λ xs. combined (c ∷ xs)) (none_stated_after c s p e h.0)
      | false ↦ λ e. stated_once s p h.1
    ] refl

pub order_of : (s : List Change) → IsNormal s → IsInOrder s
order_of [] h = tt
order_of (c ∷ s) h = (h.1, order_of s h.2)

-- ---- what is filled in stays as it is

text_twice : (k : Option NodeKind) (t : Option (List ℕ)) → blank_text k (blank_text k t) ≡ blank_text k t
text_twice None t = refl
text_twice (Some File) t = refl
text_twice (Some Dir) t = refl

kind_twice : (k j : Option NodeKind) → option_or (option_or k j) j ≡ option_or k j
kind_twice None None = refl
kind_twice None (Some x) = refl
kind_twice (Some x) j = refl

kind_itself : (k : Option NodeKind) → option_or k k ≡ k
kind_itself None = refl
kind_itself (Some x) = refl

-- a change with another kind, and with another text
abbrev of_kind : Change → Option NodeKind → Change
of_kind c k = record { path = c.path; action = c.action; kind = k; source = c.source; props = c.props; text = c.text }

abbrev of_text : Change → Option (List ℕ) → Change
of_text c t = record { path = c.path; action = c.action; kind = c.kind; source = c.source; props = c.props; text = t }

module _ (trees : List PathMap) (before : Path → Option Node) where
  abbrev brought_kind : Change → Option NodeKind → Option NodeKind
  brought_kind x k = option_map_or (λ s. option_map kind_of (source_at trees s [])) x.source k

  -- of an add or a replace that copies nothing the kind that is given counts
  plain_kind : (x : Change) → is_plain x ≡ true → judged trees before x ≡ x.kind
  plain_kind x e = at (brings x) x.source e
    where
      at : (b : Bool) (o : Option Source) → (b && is_none o) ≡ true → cond b (option_map_or (λ s. option_map kind_of (source_at trees s [])) o x.kind) (option_map kind_of (before x.path)) ≡ x.kind
      at true None e = refl
      at true (Some s) e = cc
      at false o e = cc

  -- of the others another does
  other_kind : (x : Change) (k : Option NodeKind) → is_plain x ≡ false → judged trees before (of_kind x k) ≡ judged trees before x
  other_kind x k e = at (brings x) x.source e
    where
      at : (b : Bool) (o : Option Source) → (b && is_none o) ≡ false
          → cond b (option_map_or (λ s. option_map kind_of (source_at trees s [])) o k) (option_map kind_of (before x.path)) ≡ cond b (option_map_or (λ s. option_map kind_of (source_at trees s [])) o x.kind) (option_map kind_of (before x.path))
      at true None e = cc
      at true (Some s) e = refl
      at false o e = refl

  filled_plain : (c : Change) → is_plain c ≡ true → with_kind trees before (with_blanks c) ≡ blanked c
  filled_plain c e =
      ap (λ b. with_kind trees before (cond b (blanked c) c)) e
      ∙ ap (of_kind (blanked c)) (ap (option_or c.kind) (plain_kind (blanked c) e) ∙ kind_itself c.kind)

  filled_other : (c : Change) → is_plain c ≡ false → with_kind trees before (with_blanks c) ≡ with_kind trees before c
  filled_other c e = ap (λ b. with_kind trees before (cond b (blanked c) c)) e

  pub filled_twice : (c : Change) → with_kind trees before (with_blanks (with_kind trees before (with_blanks c))) ≡ with_kind trees before (with_blanks c)
  filled_twice c = at (is_plain c) refl
    where
      at : (b : Bool) → is_plain c ≡ b → with_kind trees before (with_blanks (with_kind trees before (with_blanks c))) ≡ with_kind trees before (with_blanks c)
      at true e =
          ap (λ x. with_kind trees before (with_blanks x)) (filled_plain c e)
          ∙ filled_plain (blanked c) e
          ∙ ap (of_text (blanked c)) (text_twice c.kind c.text)
          ∙ sym (filled_plain c e)
      at false e =
          ap (λ x. with_kind trees before (with_blanks x)) (filled_other c e)
          ∙ filled_other (with_kind trees before c) e
          ∙ ap (of_kind c) (ap (option_or (option_or c.kind (judged trees before c))) (other_kind c (option_or c.kind (judged trees before c)) e) ∙ kind_twice c.kind (judged trees before c))
          ∙ sym (filled_other c e)

  -- another list of properties changes nothing of that
  abbrev of_props : Change → Option PropMap → Change
  of_props c p = record { path = c.path; action = c.action; kind = c.kind; source = c.source; props = p; text = c.text }

  there : (p : Option PropMap) → is_some p ≡ true → Some (unwrap_or p finite.empty) ≡ p
  there None e = cc
  there (Some m) e = refl

  pub props_twice : (c : Change) (p : Option PropMap) → (is_plain c ≡ true → is_some p ≡ true) → with_kind trees before (with_blanks (of_props (with_kind trees before (with_blanks c)) p)) ≡ of_props (with_kind trees before (with_blanks c)) p
  props_twice c p some = at (is_plain c) refl
    where
      at : (b : Bool) → is_plain c ≡ b → with_kind trees before (with_blanks (of_props (with_kind trees before (with_blanks c)) p)) ≡ of_props (with_kind trees before (with_blanks c)) p
      at true e =
          ap (λ x. with_kind trees before (with_blanks (of_props x p))) (filled_plain c e)
          ∙ filled_plain (of_props (blanked c) p) e
          ∙ (λ i. of_props (of_text (blanked c) (text_twice c.kind c.text i)) (there p (some e) i))
          ∙ ap (λ x. of_props x p) (sym (filled_plain c e))
      at false e =
          ap (λ x. with_kind trees before (with_blanks (of_props x p))) (filled_other c e)
          ∙ filled_other (of_props (with_kind trees before c) p) e
          ∙ ap (λ k. of_props (of_kind c k) p) (ap (option_or (option_or c.kind (judged trees before c))) (other_kind c (option_or c.kind (judged trees before c)) e) ∙ kind_twice c.kind (judged trees before c))
          ∙ ap (λ x. of_props x p) (sym (filled_other c e))

  still_some : (o : Option PropMap) (g : PropMap → PropMap) → is_some o ≡ true → is_some (option_map g o) ≡ true
  still_some None g e = e
  still_some (Some m) g e = refl

  pub delta_twice : (o : Option PropDelta) (c : Change) → with_kind trees before (with_blanks (with_delta trees before o (with_kind trees before (with_blanks c)))) ≡ with_delta trees before o (with_kind trees before (with_blanks c))
  delta_twice None c = filled_twice c
  delta_twice (Some d) c =
      let k = with_kind trees before (with_blanks c) in
      let g = λ (given : PropMap). option_map_or (applied d) (found_props trees before k) given in
      props_twice c (option_map g k.props) (λ e. still_some k.props g (ap (λ (x : Change). is_some x.props) (filled_plain c e)))

-- ---- the set once more

no_delta : (c : Change) → delta_in (record_of c) ≡ None
no_delta c = at (is_delete c.action) c.props
  where
    at : (b : Bool) (o : Option PropMap) → cond b None (part_delta (option_map Whole o)) ≡ None
    at true o = refl
    at false None = refl
    at false (Some m) = refl

no_deltas : (s : List Change) → deltas_of (map record_of s) ≡ []
no_deltas [] = refl
no_deltas (c ∷ s) = ap (λ o. option_map_or (λ d. (c.path, d) ∷ deltas_of (map record_of s)) o (deltas_of (map record_of s))) (no_delta c) ∙ no_deltas s

no_delta_fault : (trees : List PathMap) (done s : List Change) → delta_fault_after trees [] done s ≡ None
no_delta_fault trees done [] = refl
no_delta_fault trees done (c ∷ s) = no_delta_fault trees (done ++ c ∷ []) s

pub set_again : (trees : List PathMap) (rs : List NodeRecord) (s : List Change) → IsNormalSetOf trees rs s → IsNormalSetOf trees (map record_of s) s
set_again trees rs s w =
    let none = no_deltas s in
    record {
      set = subst (λ ds. IsSetOf trees ds (map change_of (map record_of s)) s) (sym none) (record { normal = h.normal; changes = changes });
      deltas = ap (λ ds. delta_fault trees ds s) none ∙ no_delta_fault trees [] s;
    }
  where
    h : IsSetOf trees (deltas_of rs) (map change_of rs) s
    h = w.set

    twice : (p : Path) (o : Option Change) → option_map (filled_in trees (deltas_of rs) (earlier s p)) o ≡ option_map (filled_in trees [] (earlier s p)) (option_map (filled_in trees (deltas_of rs) (earlier s p)) o)
    twice p None = refl
    twice p (Some c) = ap Some (sym (delta_twice trees (effect trees (sound trees (earlier s p))) (delta_at (deltas_of rs) c.path) c))

    changes : (p : Path) → change_at s p ≡ option_map (filled_in trees [] (earlier s p)) (stated (map change_of (map record_of s)) p)
    changes p =
        h.changes p ∙ twice p (stated (map change_of rs) p)
        ∙ ap (option_map (filled_in trees [] (earlier s p))) (sym (h.changes p) ∙ sym (stated_once s p (order_of s h.normal)) ∙ ap (λ xs. stated xs p) (sym (same_changes s)))

pub records_again : (trees : List PathMap) (rs out : List NodeRecord) (s : List Change) → out ≡ map record_of s → IsNormalSetOf trees rs s → IsNormalSetOf trees out s
records_again trees rs out s e h = subst (λ xs. IsNormalSetOf trees xs s) (sym e) (set_again trees rs s h)
