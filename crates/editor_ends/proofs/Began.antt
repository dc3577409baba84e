-- A change that begins among others.
use Rattle.std.proofs.Common.{◌≡◌, Bool, true, false, cond, not, ◌&&◌, ◌||◌, List, [], ◌∷◌, ◌++◌, length, map, Option, Some, None, IsSome, is_some, refl, sym, ap, subst, ◌∙◌}
use Rattle.std.specs.Option.{option_map, option_map_or, option_or}
use Rattle.std.specs.List.{AllByRecursion}
use Rattle.std.proofs.lemmas.List.{map-append}
use Rattle.std.proofs.lemmas.List.Folds.{list_any-append}
use Rattle.std.specs.FinMap.{get}
use Rattle.std.specs.declared.cmp.Ordering.TheVariants.{Less}
use Rattle.node_base.specs.Path.{Path, path_cmp, same_path, is_front, rest_after}
use Rattle.node_base.proofs.PathLemmas.{same_path_itself, path_of_same}
use Rattle.node_base.specs.Tree.{PathMap, blocked, marked}
use Rattle.node_base.specs.declared.node.Node.{Node}
use Rattle.node_base.specs.declared.node.Action.{Action}
use Rattle.node_base.specs.declared.node.Action.TheVariants.{Modify, Add, Delete, Replace}
use Rattle.node_base.specs.declared.node.NodeKind.{NodeKind}
use Rattle.node_base.specs.declared.node.NodeKind.TheVariants.{File, Dir}
use Rattle.node_base.specs.declared.node.Source.{Source}
use Rattle.dump_load.specs.declared.change.Change.{Change}
use Rattle.dump_load.specs.Changes.{settles, is_delete, is_add, change_at, IsClear, IsWhole, IsNormal, Precedes, Follows}
use Rattle.dump_load.specs.Effect.{effect, stepped, arrives}
use Rattle.dump_load.specs.Faults.{fault_of, place_fault, fault_if}
use Rattle.dump_load.proofs.PathOrder.{less_differs, greater_differs}
use Rattle.dump_load.proofs.Permuted.{effect_one_more}
use Rattle.dump_load.proofs.Reparted.{effect_replaced}
use Rattle.dump_load.proofs.Faultless.{faultless}
use Rattle.dump_load.proofs.Walk.{normal_follows}
use Rattle.delta_editor.specs.Faults.{refused}
use Rattle.delta_editor.specs.declared.fault.EditorFault.{EditorFault}
use Rattle.delta_editor.specs.declared.fault.EditorFault.TheVariants as refusal
use Rattle.editor_ends.specs.BuildFaults.{is_below, begun, begin_fault}
use Rattle.editor_ends.specs.Built.{filled, is_taken, is_above, is_given, is_full, is_late_in, Made, Begins, First, Again}
use Rattle.editor_ends.proofs.Filled.{Nodes, Gap, or_no, or_yes, or_swap, rest_itself, parts_stay, some_stays, none_in_gap, clear_in_gap, clear_of_deleted, all_of, all_two, all_front, all_rest, deleted_gone, there_above, not_both, above_through, not_below, normal_amid, normal_without, later_than, gap_of}
use Rattle.editor_ends.proofs.Sound.{sound_more, sound_again}

-- ---- what is fresh

pub fresh_begun : (trees : List PathMap) (f g : Nodes) (a : Action) (k : Option NodeKind) (p : Path) (s : Option Source) → g p ≡ stepped trees f (begun a k p s) p → filled g (begun a k p s) ≡ begun a k p s
fresh_begun trees f g Modify k p s e = refl
fresh_begun trees f g Delete k p s e = refl
fresh_begun trees f g Replace k p s e = refl
fresh_begun trees f g Add k p (Some s) e = refl
fresh_begun trees f g Add None p None e = ap (λ o. record (begun Add None p None) { props = option_map (λ m. option_map_or (λ x. x.props) o m) (begun Add None p None).props; text = option_map (λ t. option_map_or (λ x. Rattle.std.specs.Prelude.unwrap_or x.text t) o t) (begun Add None p None).text }) (e ∙ ap (λ o. option_map_or (arrives trees (begun Add None p None)) o (marked f p (length trees) p)) (rest_itself p))
fresh_begun trees f g Add (Some Dir) p None e = ap (λ o. record (begun Add (Some Dir) p None) { props = option_map (λ m. option_map_or (λ x. x.props) o m) (begun Add (Some Dir) p None).props; text = option_map (λ t. option_map_or (λ x. Rattle.std.specs.Prelude.unwrap_or x.text t) o t) (begun Add (Some Dir) p None).text }) (e ∙ ap (λ o. option_map_or (arrives trees (begun Add (Some Dir) p None)) o (marked f p (length trees) p)) (rest_itself p))
fresh_begun trees f g Add (Some File) p None e = ap (λ o. record (begun Add (Some File) p None) { props = option_map (λ m. option_map_or (λ x. x.props) o m) (begun Add (Some File) p None).props; text = option_map (λ t. option_map_or (λ x. Rattle.std.specs.Prelude.unwrap_or x.text t) o t) (begun Add (Some File) p None).text }) (e ∙ ap (λ o. option_map_or (arrives trees (begun Add (Some File) p None)) o (marked f p (length trees) p)) (rest_itself p))

-- ---- faults

pub begin_none : (trees : List PathMap) (f : Nodes) (late : Bool) (x : Change) → (same_path x.path [] && settles x.action) ≡ false → late ≡ false → fault_of trees f x ≡ None → begin_fault trees f late x ≡ None
begin_none trees f late x root l e =
    (λ i. option_or (fault_if (root i) refusal.BadPath) (option_or (fault_if (l i) refusal.OutOfOrder) (option_or (option_map refused (e i)) None)))

pub begin_late : (trees : List PathMap) (f : Nodes) (late : Bool) (x : Change) → (same_path x.path [] && settles x.action) ≡ false → late ≡ true → begin_fault trees f late x ≡ Some refusal.OutOfOrder
begin_late trees f late x root l = (λ i. option_or (fault_if (root i) refusal.BadPath) (option_or (fault_if (l i) refusal.OutOfOrder) (option_or (option_map refused (fault_of trees f x)) None)))

pub begin_faulty : (trees : List PathMap) (f : Nodes) (late : Bool) (x : Change) (e : EditorFault) → (same_path x.path [] && settles x.action) ≡ false → late ≡ false → option_map refused (fault_of trees f x) ≡ Some e → begin_fault trees f late x ≡ Some e
begin_faulty trees f late x e root l h = (λ i. option_or (fault_if (root i) refusal.BadPath) (option_or (fault_if (l i) refusal.OutOfOrder) (option_or (h i) None)))

-- ---- the set with one more, or with another in one's place

-- the change at a path where there was none
pub change_at-amid : (front rest : List Change) (x : Change) → change_at (front ++ rest) x.path ≡ None → (p : Path) → change_at (front ++ x ∷ rest) p ≡ cond (same_path x.path p) (Some x) (change_at (front ++ rest) p)
change_at-amid [] rest x none p = refl
change_at-amid (c ∷ front) rest x none p =
    elim (same_path c.path p) as (λ b. same_path c.path p ≡ b → cond b (Some c) (change_at (front ++ x ∷ rest) p) ≡ cond (same_path x.path p) (Some x) (cond b (Some c) (change_at (front ++ rest) p))) [
      | true ↦ λ e. sym (ap (λ b. cond b (Some x) (Some c)) (apart e))
      | false ↦ λ e. change_at-amid front rest x (others none) p
    ] refl
  where
    others : cond (same_path c.path x.path) (Some c) (change_at (front ++ rest) x.path) ≡ None → change_at (front ++ rest) x.path ≡ None
    others h = elim (same_path c.path x.path) as (λ b. cond b (Some c) (change_at (front ++ rest) x.path) ≡ None → change_at (front ++ rest) x.path ≡ None) [ true ↦ λ e. cc | false ↦ λ e. e ] h

    apart : same_path c.path p ≡ true → same_path x.path p ≡ false
    apart e =
        elim (same_path x.path p) as (λ b. same_path x.path p ≡ b → b ≡ false) [
          | true ↦ λ k. cc (none, ap (λ z. cond (same_path z x.path) (Some c) (change_at (front ++ rest) x.path)) (path_of_same c.path p e ∙ sym (path_of_same x.path p k)), same_path_itself x.path)
          | false ↦ λ k. refl
        ] refl

pub taken-amid : (front rest : List Change) (x : Change) → change_at (front ++ rest) x.path ≡ None → (p : Path) → is_taken (front ++ x ∷ rest) p ≡ (is_taken (front ++ rest) p || (same_path x.path p && not (is_delete x.action)))
taken-amid front rest x none p =
    ap (λ o. option_map_or (λ (c : Change). not (is_delete c.action)) o false) (change_at-amid front rest x none p)
    ∙ elim (same_path x.path p) as (λ b. same_path x.path p ≡ b → option_map_or (λ (c : Change). not (is_delete c.action)) (cond b (Some x) (change_at (front ++ rest) p)) false ≡ (is_taken (front ++ rest) p || (b && not (is_delete x.action)))) [
      | true ↦ λ e. sym (ap (λ o. option_map_or (λ (c : Change). not (is_delete c.action)) o false || not (is_delete x.action)) (ap (change_at (front ++ rest)) (sym (path_of_same x.path p e)) ∙ none))
      | false ↦ λ e. sym (or_no (is_taken (front ++ rest) p))
    ] refl

pub given-amid : (front rest : List Change) (x : Change) (p : Path) → is_given (front ++ x ∷ rest) p ≡ (is_given (front ++ rest) p || (same_path x.path p && is_full x))
given-amid front rest x p =
    list_any-append (λ c. same_path c.path p && is_full c) front (x ∷ rest)
    ∙ or_swap (is_given front p) (same_path x.path p && is_full x) (is_given rest p)
    ∙ ap (λ b. b || (same_path x.path p && is_full x)) (sym (list_any-append (λ c. same_path c.path p && is_full c) front rest))

pub above-amid : (front rest : List Change) (x : Change) (p : Path) → is_above (front ++ x ∷ rest) p ≡ (is_above (front ++ rest) p || is_below p x.path)
above-amid front rest x p =
    list_any-append _ front (x ∷ rest) ∙ swap (is_above front p) (is_below p x.path) (is_above rest p) ∙ ap (λ b. b || is_below p x.path) (sym (list_any-append _ front rest))
  where
    swap : (a b c : Bool) → (a || (b || c)) ≡ ((a || c) || b)
    swap true b c = refl
    swap false true c = sym (or_yes c)
    swap false false c = sym (or_no c)

-- what is above the changes is there after a step too
stands_on : (trees : List PathMap) (tree new_tree : PathMap) (s new : List Change) (x : Change) → ((p : Path) → is_above s p ≡ true → IsSome (get tree p)) → blocked (get tree) x.path ≡ None → (settles x.action ≡ true → is_above s x.path ≡ false) → ((q : Path) → get new_tree q ≡ stepped trees (get tree) x q) → ((p : Path) → is_above new p ≡ (is_above s p || is_below p x.path)) → (p : Path) → is_above new p ≡ true → IsSome (get new_tree p)
stands_on trees tree new_tree s new x stands free clear step above p e =
    subst IsSome (sym (step p))
    (elim (is_below p x.path) as (λ b. is_below p x.path ≡ b → (is_above s p || b) ≡ true → IsSome (stepped trees (get tree) x p)) [
      | true ↦ λ k _. some_stays trees (get tree) x p (λ _. not_both p x.path k) (there_above (get tree) p x.path k free)
      | false ↦ λ k h. some_stays trees (get tree) x p (λ z. out (or_no (is_above s p)) h (clear z)) (stands p (sym (or_no (is_above s p)) ∙ h))
    ] refl (sym (above p) ∙ e))
  where
    out : (is_above s p || false) ≡ is_above s p → (is_above s p || false) ≡ true → is_above s x.path ≡ false → rest_after x.path p ≡ None
    out a h c = at (rest_after x.path p) refl
      where
        at : (o : Option Path) → rest_after x.path p ≡ o → o ≡ None
        at None r = refl
        at (Some r) k = cc (c, above_through s x.path p r k (sym a ∙ h))

module _ (trees : List PathMap) (tree new_tree : PathMap) (x : Change) (step : (q : Path) → get new_tree q ≡ stepped trees (get tree) x q) (w : IsWhole x) (fresh : filled (get new_tree) x ≡ x) (fault : fault_of trees (get tree) x ≡ None) where
  free : blocked (get tree) x.path ≡ None
  free = (faultless trees (get tree) x fault).free

  module _ (front rest : List Change) (m : Made trees tree (front ++ rest)) (g : Gap front rest x.path) (clear : settles x.action ≡ true → is_above (front ++ rest) x.path ≡ false) where
    none : change_at (front ++ rest) x.path ≡ None
    none = none_in_gap front rest x.path g

    cleared : settles x.action ≡ true → IsClear (front ++ rest) x
    cleared e = clear_in_gap front rest x g (clear e)

    before : Follows front x
    before = each front [] refl
      where
        no_front : (d : Change) (s t : List Change) → front ≡ s ++ d ∷ t → is_delete d.action ≡ true → path_cmp d.path x.path ≡ Less → is_front d.path x.path ≡ false
        no_front d s t e del less =
            elim (is_front d.path x.path) as (λ b. is_front d.path x.path ≡ b → b ≡ false) [
              | true ↦ λ k. cc (deleted_gone trees tree s (t ++ rest) d (subst (Made trees tree) (ap (λ z. z ++ rest) e ∙ Rattle.std.proofs.Common.append_assoc s (d ∷ t) rest) m) del, there_above (get tree) d.path x.path (ap (λ b. b && not (same_path d.path x.path)) k ∙ ap not (less_differs d.path x.path less)) free)
              | false ↦ λ k. refl
            ] refl

        each : (t s : List Change) → front ≡ s ++ t → Follows t x
        each [] s e = tt
        each (d ∷ t) s e = (record { rises = (less d s t e); stands = λ del. no_front d s t e del (less d s t e) }, each t (s ++ d ∷ []) (e ∙ sym (Rattle.std.proofs.Common.append_assoc s (d ∷ []) t)))
          where
            less : (d : Change) (s t : List Change) → front ≡ s ++ d ∷ t → path_cmp d.path x.path ≡ Less
            less d s t e = (all_rest (λ (c : Change). path_cmp c.path x.path ≡ Less) s (d ∷ t) (subst (AllByRecursion (λ (c : Change). path_cmp c.path x.path ≡ Less)) e g.0)).0

    after : AllByRecursion (Precedes x) rest
    after = all_two rest (λ d less h. record { rises = less; stands = λ del. only del d less h }) g.1 (all_rest _ front rest below)
      where
        below : AllByRecursion (λ d. is_delete x.action ≡ true → is_below x.path d.path ≡ false) (front ++ rest)
        below = elim (is_delete x.action) as (λ b. is_delete x.action ≡ b → AllByRecursion (λ d. b ≡ true → is_below x.path d.path ≡ false) (front ++ rest)) [
          | true ↦ λ e. all_of (front ++ rest) (λ d h _. h) (not_below (front ++ rest) x.path (clear (Rattle.dump_load.proofs.Faultless.deletes_settle x.action e)))
          | false ↦ λ e. all_trivial (front ++ rest)
        ] refl
          where
            all_trivial : (s : List Change) → AllByRecursion (λ d. false ≡ true → is_below x.path d.path ≡ false) s
            all_trivial [] = tt
            all_trivial (d ∷ s) = (λ e. cc e, all_trivial s)

        only : is_delete x.action ≡ true → (d : Change) → path_cmp x.path d.path ≡ Less → (is_delete x.action ≡ true → is_below x.path d.path ≡ false) → is_front x.path d.path ≡ false
        only del d less h = at (is_front x.path d.path) (ap (λ b. is_front x.path d.path && not b) (sym (less_differs x.path d.path less)) ∙ h del)
          where
            at : (b : Bool) → (b && true) ≡ false → b ≡ false
            at true h = h
            at false h = refl

    normal_new : IsNormal (front ++ x ∷ rest)
    normal_new = normal_amid front rest x m.normal before after w

    pub begins_new : (late : is_late_in (front ++ rest) x ≡ false) → (same_path x.path [] && settles x.action) ≡ false → (settles x.action ≡ false → x.text ≡ None) → Begins trees tree (front ++ rest) new_tree (front ++ x ∷ rest) x
    begins_new late root bare = record {
      fault = begin_none trees (get tree) (is_late_in (front ++ rest) x) x root late fault;
      tree_is = step;
      made = record {
        numbered = m.numbered;
        made = λ q. ap (λ s. effect trees s q) (map-append (filled (get new_tree)) front (x ∷ rest) ∙ shape)
            ∙ effect_one_more (map (filled (get tree)) front) (map (filled (get tree)) rest) x spread_none trees spread q
            ∙ (λ i. stepped trees (λ r. (ap (λ s. effect trees s r) (sym (map-append (filled (get tree)) front rest)) ∙ m.made r) i) x q)
            ∙ sym (step q);
        normal = normal_new;
        faultless = sound_more trees front rest tree x m normal_new fault cleared bare;
        stands = stands_on trees tree new_tree (front ++ rest) (front ++ x ∷ rest) x m.stands free clear step (above-amid front rest x);
      };
      taken = taken-amid front rest x none;
      above = above-amid front rest x;
      given = given-amid front rest x;
      begins_at = First none (change_at-amid front rest x none x.path ∙ ap (λ b. cond b (Some x) (change_at (front ++ rest) x.path)) (same_path_itself x.path));
      elsewhere = λ p e. change_at-amid front rest x none p ∙ ap (λ b. cond b (Some x) (change_at (front ++ rest) p)) e;
    }
      where
        shape : map (filled (get new_tree)) front ++ filled (get new_tree) x ∷ map (filled (get new_tree)) rest ≡ map (filled (get tree)) front ++ x ∷ map (filled (get tree)) rest
        shape = λ i. parts_stay trees (get tree) x front (all_of front (λ c h. greater_differs c.path x.path h) g.0) (λ e. all_front _ front rest (cleared e)) (get new_tree) step i ++ fresh i ∷ parts_stay trees (get tree) x rest (all_of rest (λ c h. less_differs x.path c.path h) g.1) (λ e. all_rest _ front rest (cleared e)) (get new_tree) step i

        spread_none : change_at (map (filled (get tree)) front ++ map (filled (get tree)) rest) x.path ≡ None
        spread_none = ap (λ s. change_at s x.path) (sym (map-append (filled (get tree)) front rest)) ∙ Rattle.editor_ends.proofs.Filled.change_at-filled (get tree) (front ++ rest) x.path none

        spread : settles x.action ≡ true → IsClear (map (filled (get tree)) front ++ map (filled (get tree)) rest) x
        spread e = subst (λ s. IsClear s x) (map-append (filled (get tree)) front rest) (Rattle.editor_ends.proofs.Filled.clear-filled (get tree) (front ++ rest) x (cleared e))

  -- what a deletion and then an add make a replace
  module _ (front rest : List Change) (d : Change) (m : Made trees tree (front ++ d ∷ rest)) (same : d.path ≡ x.path) (gone : is_delete d.action ≡ true) (adds : is_add x.action ≡ true) where
    abbrev pub replacing : Change
    replacing = record x { action = Replace }

    clear_both : IsClear (front ++ rest) d
    clear_both = clear_of_deleted front rest d m.normal gone

    brought_on : (s : List Change) → IsClear s d → IsClear s replacing
    brought_on [] h = tt
    brought_on (c ∷ s) h = (ap (λ p. rest_after p c.path) (sym same) ∙ h.0, brought_on s h.1)

    -- an add finds nothing, so nothing was changed below
    nothing_below : is_above (front ++ d ∷ rest) x.path ≡ false
    nothing_below =
        elim (is_above (front ++ d ∷ rest) x.path) as (λ b. is_above (front ++ d ∷ rest) x.path ≡ b → b ≡ false) [
          | true ↦ λ e. found (x.action) adds (get tree x.path) (m.stands x.path e) (faultless trees (get tree) x fault).place
          | false ↦ λ e. refl
        ] refl
      where
        found : (a : Action) → is_add a ≡ true → (o : Option Node) → IsSome o → place_fault a (is_some o) ≡ None → true ≡ false
        found Modify e o h k = cc
        found Add e None h k = cc h
        found Add e (Some y) h k = cc
        found Delete e o h k = cc
        found Replace e o h k = cc

    pub begins_again : (same_path x.path [] && settles x.action) ≡ false → Begins trees tree (front ++ d ∷ rest) new_tree (front ++ replacing ∷ rest) x
    begins_again root = record {
      fault = begin_none trees (get tree) (is_late_in (front ++ d ∷ rest) x) x root late fault;
      tree_is = step;
      made = record {
        numbered = m.numbered;
        made = λ q. ap (λ s. effect trees s q) (map-append (filled (get new_tree)) front (replacing ∷ rest) ∙ shape)
            ∙ effect_replaced trees (map (filled (get tree)) front) (map (filled (get tree)) rest) (filled (get tree) d) replacing same spread (Rattle.dump_load.proofs.Faultless.deletes_settle d.action gone) refl q
            ∙ (λ i. stepped trees (λ r. (ap (λ s. effect trees s r) (sym (map-append (filled (get tree)) front (d ∷ rest))) ∙ m.made r) i) replacing q)
            ∙ same_step q x.action adds
            ∙ sym (step q);
        normal = normal_again;
        faultless = sound_again trees front rest tree d x m same gone adds fault normal_again;
        stands = stands_on trees tree new_tree (front ++ d ∷ rest) (front ++ replacing ∷ rest) x m.stands free (λ _. nothing_below) step above;
      };
      taken = taken;
      above = above;
      given = λ p.
          given-amid front rest replacing p
          ∙ again (is_given (front ++ rest) p) (same_path x.path p)
          ∙ (λ i. (is_given (front ++ rest) p || (same_path (sym same i) p && sym full_deletion i)) || (same_path x.path p && sym (full x.action adds) i))
          ∙ ap (λ b. b || (same_path x.path p && is_full x)) (sym (given-amid front rest d p));
      begins_at =
          Again d
          (change_at-amid front rest d none_of_d x.path ∙ ap (λ b. cond b (Some d) (change_at (front ++ rest) x.path)) (ap (λ z. same_path z x.path) same ∙ same_path_itself x.path))
          gone adds
          (change_at-amid front rest replacing none x.path ∙ ap (λ b. cond b (Some replacing) (change_at (front ++ rest) x.path)) (same_path_itself x.path));
      elsewhere = λ p e.
          change_at-amid front rest replacing none p
          ∙ ap (λ b. cond b (Some replacing) (change_at (front ++ rest) p)) e
          ∙ sym (change_at-amid front rest d none_of_d p ∙ ap (λ b. cond b (Some d) (change_at (front ++ rest) p)) (ap (λ z. same_path z p) same ∙ e));
    }
      where
        full : (a : Action) → is_add a ≡ true → (settles a || (is_some x.props || is_some x.text)) ≡ true
        full Modify e = cc
        full Add e = refl
        full Delete e = cc
        full Replace e = cc

        full_deletion : is_full d ≡ true
        full_deletion = ap (λ b. b || (is_some d.props || is_some d.text)) (Rattle.dump_load.proofs.Faultless.deletes_settle d.action gone)

        again : (r s : Bool) → (r || (s && true)) ≡ ((r || (s && true)) || (s && true))
        again true s = refl
        again false true = refl
        again false false = refl

        none : change_at (front ++ rest) x.path ≡ None
        none = none_in_gap front rest x.path (subst (Gap front rest) same (gap_of front rest d m.normal))

        none_of_d : change_at (front ++ rest) d.path ≡ None
        none_of_d = ap (change_at (front ++ rest)) same ∙ none

        late : is_late_in (front ++ d ∷ rest) x ≡ false
        late = (λ i. (taken-amid front rest d none_of_d x.path ∙ (λ j. option_map_or (λ (c : Change). not (is_delete c.action)) (none j) false || (same_path d.path x.path && not (gone j))) ∙ ends (same_path d.path x.path)) i || (no_delete x.action adds i && is_above (front ++ d ∷ rest) x.path))
          where
            ends : (b : Bool) → (b && false) ≡ false
            ends true = refl
            ends false = refl

            no_delete : (a : Action) → is_add a ≡ true → is_delete a ≡ false
            no_delete Modify e = refl
            no_delete Add e = refl
            no_delete Delete e = cc
            no_delete Replace e = refl

        same_step : (q : Path) (a : Action) → is_add a ≡ true → stepped trees (get tree) replacing q ≡ stepped trees (get tree) (record x { action = a }) q
        same_step q Modify e = cc
        same_step q Add e = refl
        same_step q Delete e = cc
        same_step q Replace e = cc

        whole_again : (a : Action) → is_add a ≡ true → IsWhole (record x { action = a }) → IsWhole replacing
        whole_again Modify e w = cc
        whole_again Add e w = w
        whole_again Delete e w = cc
        whole_again Replace e w = cc

        normal_again : IsNormal (front ++ replacing ∷ rest)
        normal_again = normal_amid front rest replacing (normal_without front rest d m.normal) (all_of front (λ c h. record { rises = ap (path_cmp c.path) (sym same) ∙ h.rises; stands = λ e. ap (is_front c.path) (sym same) ∙ h.stands e }) (normal_follows front rest d m.normal)) (all_of rest (λ c h. record { rises = ap (λ p. path_cmp p c.path) (sym same) ∙ h.rises; stands = λ e. cc e }) (later_than front rest d m.normal)) (whole_again x.action adds w)

        filled_again : filled (get new_tree) replacing ≡ replacing
        filled_again = λ i. record (fresh i) { action = Replace }

        shape : map (filled (get new_tree)) front ++ filled (get new_tree) replacing ∷ map (filled (get new_tree)) rest ≡ map (filled (get tree)) front ++ replacing ∷ map (filled (get tree)) rest
        shape =
            let g = subst (Gap front rest) same (gap_of front rest d m.normal) in
            let clear = brought_on (front ++ rest) clear_both in
            λ i. parts_stay trees (get tree) x front (all_of front (λ c h. greater_differs c.path x.path h) g.0) (λ _. all_front _ front rest clear) (get new_tree) step i ++ filled_again i ∷ parts_stay trees (get tree) x rest (all_of rest (λ c h. less_differs x.path c.path h) g.1) (λ _. all_rest _ front rest clear) (get new_tree) step i

        spread : IsClear (map (filled (get tree)) front ++ map (filled (get tree)) rest) replacing
        spread = subst (λ s. IsClear s replacing) (map-append (filled (get tree)) front rest) (Rattle.editor_ends.proofs.Filled.clear-filled (get tree) (front ++ rest) replacing (brought_on (front ++ rest) clear_both))

        above : (p : Path) → is_above (front ++ replacing ∷ rest) p ≡ (is_above (front ++ d ∷ rest) p || is_below p x.path)
        above p =
            above-amid front rest replacing p
            ∙ again (is_above (front ++ rest) p) (is_below p x.path)
            ∙ ap (λ b. b || is_below p x.path) (sym (above-amid front rest d p ∙ ap (λ z. is_above (front ++ rest) p || is_below p z) same))
          where
            again : (a b : Bool) → (a || b) ≡ ((a || b) || b)
            again true b = refl
            again false true = refl
            again false false = refl

        taken : (p : Path) → is_taken (front ++ replacing ∷ rest) p ≡ (is_taken (front ++ d ∷ rest) p || (same_path x.path p && not (is_delete x.action)))
        taken p =
            taken-amid front rest replacing none p
            ∙ (λ i. is_taken_before i || (same_path x.path p && not (sym (no_delete x.action adds) i)))
          where
            no_delete : (a : Action) → is_add a ≡ true → is_delete a ≡ false
            no_delete Modify e = refl
            no_delete Add e = refl
            no_delete Delete e = cc
            no_delete Replace e = refl

            ends : (a b : Bool) → (a || (b && false)) ≡ a
            ends true b = refl
            ends false true = refl
            ends false false = refl

            is_taken_before : is_taken (front ++ rest) p ≡ is_taken (front ++ d ∷ rest) p
            is_taken_before = sym (taken-amid front rest d none_of_d p ∙ (λ j. is_taken (front ++ rest) p || (same_path d.path p && not (gone j))) ∙ ends (is_taken (front ++ rest) p) (same_path d.path p))
