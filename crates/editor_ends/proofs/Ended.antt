-- The set that changes come to once the edit ends.
use Rattle.std.proofs.Common.{◌≡◌, ◌≤◌, ◌<◌, Bool, true, false, not, ◌&&◌, ◌||◌, List, [], ◌∷◌, ◌++◌, length, map, Option, Some, None, is_some, IsSome, cond, ◌⊎◌, inl, inr, refl, sym, ap, subst, ◌∙◌, append_assoc, append-nil}
use Rattle.std.specs.Prelude.{is_none}
use Rattle.std.specs.Option.{option_map, option_map_or}
use Rattle.std.specs.List.{list_any, AllByRecursion}
use Rattle.std.proofs.lemmas.List.Folds.{list_any-append}
use Rattle.std.specs.FinMap.{get}
use Rattle.node_base.specs.Path.{Path, same_path, is_front, rest_after}
use Rattle.node_base.specs.declared.node.Action.{Action}
use Rattle.node_base.specs.declared.node.Action.TheVariants.{Modify, Add, Delete, Replace}
use Rattle.node_base.proofs.PathLemmas.{same_path_itself, path_of_same, later_is_no_front, rest_after-append}
use Rattle.node_base.specs.Tree.{PathMap}
use Rattle.dump_load.specs.declared.change.Change.{Change}
use Rattle.dump_load.specs.Changes.{settles, is_delete, change_at, IsNormal, IsBare, Precedes}
use Rattle.dump_load.proofs.PathOrder.{less_differs, greater_differs, no_front_none, between}
use Rattle.dump_load.proofs.Bare.{effect_bare, counted_from_below}
use Rattle.editor_ends.specs.BuildFaults.{is_below}
use Rattle.editor_ends.specs.Built.{filled, is_full, is_given, is_taken, is_above, is_needed, is_idle, leads_on, IsLean, Keeps, Made, IsFilledOf, IsSetOver, IsTooMany}
use Rattle.editor_ends.proofs.Filled.{Nodes, and_split, none_in_gap, normal-filled, or_no, or_yes, all_of, all_two, above_through, gap_of, normal_without}
use Rattle.editor_ends.proofs.Began.{change_at-amid, above-amid}
use Rattle.editor_ends.proofs.Sound.{fault_filled, sound_less}
use Rattle.editor_ends.proofs.Walks.{front_rest}

pub keeps_twice : (trees : List PathMap) (s t u : List Change) → Keeps trees s t → Keeps trees t u → Keeps trees s u
keeps_twice trees s t u a b = record { normal = b.normal; faultless = λ h. b.faultless (a.faultless h); effect_is = λ q. b.effect_is q ∙ a.effect_is q; above = λ p. b.above p ∙ a.above p; stays = λ p c h. a.stays p c (b.stays p c h); keeps = λ p c h k. b.keeps p c (a.keeps p c h k) (elim k as (λ _. (is_full c ≡ true) ⊎ (is_above t p ≡ false)) [ inl e ↦ inl e | inr e ↦ inr (a.above p ∙ e) ]) }

none_of : {A : Type 0} (o : Option A) → is_none o ≡ true → o ≡ None
none_of None e = refl
none_of (Some x) e = cc

not_true : (b : Bool) → not b ≡ true → b ≡ false
not_true true e = cc
not_true false e = refl

-- one in the place of another that only led to it
pub keeps_idle : (trees : List PathMap) (rest old front new : List Change) (l c : Change) → old ≡ front ++ l ∷ [] → new ≡ front ++ c ∷ [] → is_idle l c ≡ true → IsNormal (old ++ c ∷ rest) → Keeps trees (old ++ c ∷ rest) (new ++ rest)
keeps_idle trees rest old front new l c o e idle n =
    subst (λ z. Keeps trees z (new ++ rest)) (sym shape) (subst (Keeps trees (front ++ l ∷ (c ∷ rest))) (sym (ap (λ z. z ++ rest) e ∙ append_assoc front (c ∷ []) rest)) kept)
  where
    shape : old ++ c ∷ rest ≡ front ++ l ∷ (c ∷ rest)
    shape = ap (λ z. z ++ c ∷ rest) o ∙ append_assoc front (l ∷ []) (c ∷ rest)

    normal : IsNormal (front ++ l ∷ (c ∷ rest))
    normal = subst IsNormal shape n

    first : (front : List Change) → IsNormal (front ++ l ∷ (c ∷ rest)) → Precedes l c
    first [] n = n.1.0
    first (d ∷ front) n = first front n.2

    parts : (a b d g : Bool) → (a && (b && (d && g))) ≡ true → (a ≡ true) × (b ≡ true) × (d ≡ true) × (g ≡ true)
    parts a b d g h = let x = and_split a _ h in let y = and_split b _ x.1 in let z = and_split d g y.1 in (x.0, y.0, z.0, z.1)

    facts : (not (settles l.action) ≡ true) × (is_none l.props ≡ true) × (is_none l.text ≡ true) × (is_front l.path c.path ≡ true)
    facts = parts (not (settles l.action)) (is_none l.props) (is_none l.text) (is_front l.path c.path) idle

    bare : IsBare l
    bare = record { stays = not_true _ facts.0; text = none_of l.text facts.2; props = none_of l.props facts.1 }

    below : list_any (λ d. is_front l.path d.path && not (same_path l.path d.path)) (front ++ c ∷ rest) ≡ true
    below =
        list_any-append _ front (c ∷ rest)
        ∙ ap (λ b. list_any (λ d. is_front l.path d.path && not (same_path l.path d.path)) front || (b || list_any (λ d. is_front l.path d.path && not (same_path l.path d.path)) rest)) (λ i. facts.3 i && not (less_differs l.path c.path (first front normal).rises i))
        ∙ or_yes _

    none : change_at (front ++ c ∷ rest) l.path ≡ None
    none = none_in_gap front (c ∷ rest) l.path (gap_of front (c ∷ rest) l normal)

    -- what is below the one that goes is below what is above it
    absorbed : (p : Path) → (b : Bool) → is_below p l.path ≡ b → is_above (front ++ c ∷ rest) p ≡ (is_above (front ++ c ∷ rest) p || b)
    absorbed p false e = sym (or_no (is_above (front ++ c ∷ rest) p))
    absorbed p true e = let f = front_rest p l.path (and_split (is_front p l.path) _ e).0 in above_through (front ++ c ∷ rest) p l.path f.rest (ap (rest_after p) f.is ∙ rest_after-append p f.rest) below ∙ sym (or_yes (is_above (front ++ c ∷ rest) p))

    stays : (p : Path) (x : Change) → change_at (front ++ c ∷ rest) p ≡ Some x → change_at (front ++ l ∷ (c ∷ rest)) p ≡ Some x
    stays p x h =
        change_at-amid front (c ∷ rest) l none p
        ∙ elim (same_path l.path p) as (λ b. same_path l.path p ≡ b → cond b (Some l) (change_at (front ++ c ∷ rest) p) ≡ Some x) [
          | true ↦ λ e. cc (none, ap (change_at (front ++ c ∷ rest)) (path_of_same l.path p e), h)
          | false ↦ λ e. h
        ] refl

    not_full : is_full l ≡ false
    not_full = λ i. bare.stays i || (is_some (bare.props i) || is_some (bare.text i))

    over : is_above (front ++ l ∷ (c ∷ rest)) l.path ≡ true
    over = above-amid front (c ∷ rest) l l.path ∙ ap (λ b. b || is_below l.path l.path) below

    keeps : (p : Path) (x : Change) → change_at (front ++ l ∷ (c ∷ rest)) p ≡ Some x → (is_full x ≡ true) ⊎ (is_above (front ++ l ∷ (c ∷ rest)) p ≡ false) → change_at (front ++ c ∷ rest) p ≡ Some x
    keeps p x h k =
        elim (same_path l.path p) as (λ b. same_path l.path p ≡ b → cond b (Some l) (change_at (front ++ c ∷ rest) p) ≡ Some x → change_at (front ++ c ∷ rest) p ≡ Some x) [
          | true ↦ λ e h. elim k [ inl full ↦ cc (not_full, ap (λ o. option_map_or is_full o false) h, full) | inr clear ↦ cc (over, ap (is_above (front ++ l ∷ (c ∷ rest))) (path_of_same l.path p e), clear) ]
          | false ↦ λ e h. h
        ] refl (sym (change_at-amid front (c ∷ rest) l none p) ∙ h)

    kept : Keeps trees (front ++ l ∷ (c ∷ rest)) (front ++ c ∷ rest)
    kept = record {
      above = λ p. absorbed p (is_below p l.path) refl ∙ sym (above-amid front (c ∷ rest) l p);
      stays = stays;
      keeps = keeps;
      normal = normal_without front (c ∷ rest) l normal;
      faultless = λ h. sound_less trees front (c ∷ rest) l normal bare.stays bare.text h;
      effect_is = λ q. sym (effect_bare trees front (c ∷ rest) l bare (none_in_gap front (c ∷ rest) l.path (gap_of front (c ∷ rest) l normal)) (counted_from_below (front ++ c ∷ rest) l.path below) q);
    }

-- ---- no change that is kept only leads to the next one

lean_rest : (front : List Change) (l c : Change) → IsLean (front ++ l ∷ []) → is_idle l c ≡ false → IsLean (front ++ l ∷ (c ∷ []))
lean_rest [] l c h e = (e, (refl, tt))
lean_rest (x ∷ []) l c h e = (h.0, lean_rest [] l c h.1 e)
lean_rest (x ∷ y ∷ front) l c h e = (h.0, lean_rest (y ∷ front) l c h.1 e)

-- one behind the others
pub lean_next : (old front mid new : List Change) (l c : Change) → old ≡ front ++ l ∷ [] → mid ≡ front ++ l ∷ [] → new ≡ mid ++ c ∷ [] → is_idle l c ≡ false → IsLean old → IsLean new
lean_next old front mid new l c o m e idle h = subst IsLean (sym (e ∙ ap (λ z. z ++ c ∷ []) m ∙ append_assoc front (l ∷ []) (c ∷ []))) (lean_rest front l c (subst IsLean o h) idle)

no_and : (a b d g k : Bool) → (a && (b && (d && g))) ≡ false → (g ≡ false → k ≡ false) → (a && (b && (d && k))) ≡ false
no_and false b d g k h f = refl
no_and true false d g k h f = refl
no_and true true false g k h f = refl
no_and true true true g k h f = f h

-- what doesn't lead to one doesn't lead to one below that
idle_through : (x l c : Change) → Precedes x l → Precedes l c → is_idle x l ≡ false → is_idle x c ≡ false
idle_through x l c a b h = no_and (not (settles x.action)) (is_none x.props) (is_none x.text) (is_front x.path l.path) (is_front x.path c.path) h (λ e. ap is_some (between x.path l.path c.path a.rises b.rises (no_front_none x.path l.path e)))

lean_swap : (front rest : List Change) (l c : Change) → IsNormal (front ++ l ∷ (c ∷ rest)) → IsLean (front ++ l ∷ []) → IsLean (front ++ c ∷ [])
lean_swap [] rest l c n h = (refl, tt)
lean_swap (x ∷ []) rest l c n h = (idle_through x l c n.1.0 n.2.1.0 h.0, lean_swap [] rest l c n.2 h.1)
lean_swap (x ∷ y ∷ front) rest l c n h = (h.0, lean_swap (y ∷ front) rest l c n.2 h.1)

-- one in the place of another that only led to it
pub lean_idle : (rest old front new : List Change) (l c : Change) → old ≡ front ++ l ∷ [] → new ≡ front ++ c ∷ [] → IsNormal (old ++ c ∷ rest) → IsLean old → IsLean new
lean_idle rest old front new l c o e n h = subst IsLean (sym e) (lean_swap front rest l c (subst IsNormal (ap (λ z. z ++ c ∷ rest) o ∙ append_assoc front (l ∷ []) (c ∷ rest)) n) (subst IsLean o h))

-- so nothing is changed below one that gives nothing
bare_not : (a b d g : Bool) → (a || (not b || not d)) ≡ false → (not a && (b && (d && g))) ≡ false → g ≡ false
bare_not true b d g h k = cc
bare_not false false d g h k = cc
bare_not false true false g h k = cc
bare_not false true true g h k = k

some_none : {A : Type 0} (o : Option A) → is_some o ≡ not (is_none o)
some_none None = refl
some_none (Some x) = refl

none_above : (p : Path) (s : List Change) → AllByRecursion (λ d. is_front p d.path ≡ false) s → is_above s p ≡ false
none_above p [] h = refl
none_above p (d ∷ s) h = λ i. (h.0 i && not (same_path p d.path)) || none_above p s h.1 i

lean_alone : (s : List Change) → IsNormal s → IsLean s → AllByRecursion (λ c. is_full c ≡ false → is_above s c.path ≡ false) s
lean_alone [] n h = tt
lean_alone (c ∷ s) n h =
    (own s n.1 n.2 h.0, all_two s (λ d k pr. λ e. (λ i. (ap is_some (later_is_no_front d.path c.path pr.rises) i && not (same_path d.path c.path)) || k e i)) (lean_alone s n.2 h.1) n.1)
  where
    after : (d : Change) (s : List Change) → AllByRecursion (Precedes c) (d ∷ s) → AllByRecursion (Precedes d) s → is_front c.path d.path ≡ false → AllByRecursion (λ e. is_front c.path e.path ≡ false) s
    after d s pr rs e = all_of s (λ x r. ap is_some (between c.path d.path x.path pr.0.rises r.rises (no_front_none c.path d.path e))) rs

    not_itself : (front same : Bool) → same ≡ true → (front && not same) ≡ false
    not_itself true same e = ap not e
    not_itself false same e = refl

    own : (s : List Change) → AllByRecursion (Precedes c) s → IsNormal s → leads_on c s ≡ false → is_full c ≡ false → is_above (c ∷ s) c.path ≡ false
    own [] pr m lead e = (λ i. not_itself (is_front c.path c.path) (same_path c.path c.path) (same_path_itself c.path) i || false)
    own (d ∷ s) pr m lead e =
        let f = bare_not (settles c.action) (is_none c.props) (is_none c.text) (is_front c.path d.path) ((λ i. settles c.action || (sym (some_none c.props) i || sym (some_none c.text) i)) ∙ e) lead in
        (λ i. not_itself (is_front c.path c.path) (same_path c.path c.path) (same_path_itself c.path) i || none_above c.path (d ∷ s) (f, after d s pr m.1 f) i)

-- ---- what is kept of all changes

own_all : (s : List Change) → IsNormal s → AllByRecursion (λ c. change_at s c.path ≡ Some c) s
own_all [] n = tt
own_all (c ∷ s) n =
    (ap (λ b. cond b (Some c) (change_at s c.path)) (same_path_itself c.path), all_two s (λ d k pr. ap (λ b. cond b (Some c) (change_at s d.path)) (less_differs c.path d.path pr.rises) ∙ k) (own_all s n.2) n.1)

-- of each path there is one change at most
record Given (s : List Change) (p : Path) : Type 0 where
  pub given : Change
  pub at : change_at s p ≡ Some given
  pub full : is_full given ≡ true

none_given : (d : Change) (s : List Change) → AllByRecursion (Precedes d) s → is_given s d.path ≡ false
none_given d [] h = refl
none_given d (c ∷ s) h = λ i. (greater_differs d.path c.path h.0.rises i && is_full c) || none_given d s h.1 i

one_given : (s : List Change) (p : Path) → IsNormal s → is_given s p ≡ true → Given s p
one_given [] p n e = cc
one_given (d ∷ s) p n e =
    elim (same_path d.path p) as (λ b. same_path d.path p ≡ b → ((b && is_full d) || is_given s p) ≡ true → Given (d ∷ s) p) [
      | true ↦ λ same h. record { given = d; at = ap (λ b. cond b (Some d) (change_at s p)) same; full = sym (or_no (is_full d)) ∙ (λ i. is_full d || sym (ap (is_given s) (sym (path_of_same d.path p same)) ∙ none_given d s n.1) i) ∙ h }
      | false ↦ λ same h. let g = one_given s p n.2 h in record { given = g.given; at = ap (λ b. cond b (Some d) (change_at s p)) same ∙ g.at; full = g.full }
    ] refl e

-- the change that a filled one was
record Lifted (f : Nodes) (s : List Change) (p : Path) (c : Change) : Type 0 where
  pub stem : Change
  pub at : change_at s p ≡ Some stem
  pub is : c ≡ filled f stem

module _ (f : Nodes) where
  full_filled : (c : Change) → is_full (filled f c) ≡ is_full c
  full_filled c = λ i. settles c.action || (kept c.props (λ m. Rattle.std.specs.Option.option_map_or (λ x. x.props) (f c.path) m) i || kept c.text (λ t. Rattle.std.specs.Option.option_map_or (λ x. Rattle.std.specs.Prelude.unwrap_or x.text t) (f c.path) t) i)
    where
      kept : {A : Type 0} (o : Option A) (g : A → A) → is_some (Rattle.std.specs.Option.option_map g o) ≡ is_some o
      kept None g = refl
      kept (Some x) g = refl

  some_is : (a b : Change) → Some a ≡ Some b → a ≡ b
  some_is a b e = cc

  given_of : (s : List Change) (p : Path) (c : Change) → change_at (map (filled f) s) p ≡ Some c → is_full c ≡ true → is_given s p ≡ true
  given_of [] p c h e = cc
  given_of (d ∷ s) p c h e = elim (same_path d.path p) as (λ b. cond b (Some (filled f d)) (change_at (map (filled f) s) p) ≡ Some c → ((b && is_full d) || is_given s p) ≡ true) [
    | true ↦ λ k. ap (λ b. b || is_given s p) (sym (full_filled d) ∙ ap is_full (some_is (filled f d) c k) ∙ e)
    | false ↦ λ k. given_of s p c k e
  ] h

  taken_of : (s : List Change) (p : Path) (c : Change) → change_at (map (filled f) s) p ≡ Some c → is_delete c.action ≡ false → is_taken s p ≡ true
  taken_of [] p c h e = cc
  taken_of (d ∷ s) p c h e = elim (same_path d.path p) as (λ b. cond b (Some (filled f d)) (change_at (map (filled f) s) p) ≡ Some c → Rattle.std.specs.Option.option_map_or (λ x. not (is_delete x.action)) (cond b (Some d) (change_at s p)) false ≡ true) [
    | true ↦ λ k. ap not (ap (λ x. is_delete x.action) (some_is (filled f d) c k) ∙ e)
    | false ↦ λ k. taken_of s p c k e
  ] h

  stem_of : (s : List Change) (p : Path) (c : Change) → c.path ≡ p → change_at (map (filled f) s) p ≡ Some c → IsFilledOf f s c
  stem_of s p c same h = let l = lifted s p c h in record { stem = l.stem; at = ap (change_at s) same ∙ l.at; is = l.is }
    where
      lifted : (s : List Change) (p : Path) (c : Change) → change_at (map (filled f) s) p ≡ Some c → Lifted f s p c
      lifted [] p c h = cc
      lifted (d ∷ s) p c h = elim (same_path d.path p) as (λ b. same_path d.path p ≡ b → cond b (Some (filled f d)) (change_at (map (filled f) s) p) ≡ Some c → Lifted f (d ∷ s) p c) [
        | true ↦ λ e k. record { stem = d; at = ap (λ b. cond b (Some d) (change_at s p)) e; is = sym (some_is (filled f d) c k) }
        | false ↦ λ e k. let l = lifted s p c k in record { stem = l.stem; at = ap (λ b. cond b (Some d) (change_at s p)) e ∙ l.at; is = l.is }
      ] refl h

  -- each that is kept is one of those before
  stems_all : (trees : List PathMap) (s kept : List Change) → Keeps trees (map (filled f) s) kept → AllByRecursion (IsFilledOf f s) kept
  stems_all trees s kept k = all_of kept (λ c own. stem_of s c.path c refl (k.stays c.path c own)) (own_all kept k.normal)

  filled_at : (s : List Change) (p : Path) → change_at (map (filled f) s) p ≡ option_map (filled f) (change_at s p)
  filled_at [] p = refl
  filled_at (d ∷ s) p = elim (same_path d.path p) as (λ b. cond b (Some (filled f d)) (change_at (map (filled f) s) p) ≡ option_map (filled f) (cond b (Some d) (change_at s p))) [ true ↦ refl | false ↦ filled_at s p ]

  above_of : (s : List Change) (p : Path) → is_above (map (filled f) s) p ≡ is_above s p
  above_of [] p = refl
  above_of (d ∷ s) p = ap (λ b. is_below p d.path || b) (above_of s p)

  -- each that is needed is kept
  whole_all : (trees : List PathMap) (s kept : List Change) → IsNormal s → Keeps trees (map (filled f) s) kept → (p : Path) → is_needed s p ≡ true → IsSome (change_at kept p)
  whole_all trees s kept n k p h =
      elim (is_given s p) as (λ b. is_given s p ≡ b → (b || (is_taken s p && not (is_above s p))) ≡ true → IsSome (change_at kept p)) [
        | true ↦ λ e _. let g = one_given s p n e in there g.given g.at (inl (full_filled g.given ∙ g.full))
        | false ↦ λ e t. let q = and_split (is_taken s p) _ t in any (change_at s p) refl q.0 (above_of s p ∙ not_true (is_above s p) q.1)
      ] refl h
    where
      there : (c : Change) → change_at s p ≡ Some c → (is_full (filled f c) ≡ true) ⊎ (is_above (map (filled f) s) p ≡ false) → IsSome (change_at kept p)
      there c at keep = subst IsSome (sym (k.keeps p (filled f c) (filled_at s p ∙ ap (option_map (filled f)) at) keep)) refl

      any : (o : Option Change) → change_at s p ≡ o → option_map_or (λ (c : Change). not (is_delete c.action)) o false ≡ true → ((is_above (map (filled f) s) p ≡ false) → IsSome (change_at kept p))
      any None e t clear = cc t
      any (Some c) e t clear = there c e (inr clear)

  -- each that is kept is needed
  needed_all : (trees : List PathMap) (s kept : List Change) → Keeps trees (map (filled f) s) kept → IsLean kept → AllByRecursion (λ c. is_needed s c.path ≡ true) kept
  needed_all trees s kept k lean = all_two kept (λ c own alone. one c own alone (is_full c) refl) (own_all kept k.normal) (lean_alone kept k.normal lean)
    where
      stays_put : (a : Action) (o : Bool) → (settles a || o) ≡ false → is_delete a ≡ false
      stays_put Modify o e = refl
      stays_put Add o e = refl
      stays_put Delete o e = cc
      stays_put Replace o e = refl

      one : (c : Change) → change_at kept c.path ≡ Some c → (is_full c ≡ false → is_above kept c.path ≡ false) → (b : Bool) → is_full c ≡ b → is_needed s c.path ≡ true
      one c own alone true e = ap (λ b. b || (is_taken s c.path && not (is_above s c.path))) (given_of s c.path c (k.stays c.path c own) e)
      one c own alone false e =
          let t = taken_of s c.path c (k.stays c.path c own) (stays_put c.action (is_some c.props || is_some c.text) e) in
          let a = sym (above_of s c.path) ∙ sym (k.above c.path) ∙ alone e in
          (λ i. is_given s c.path || (t i && not (a i))) ∙ or_yes (is_given s c.path)

pub over_all : (trees : List PathMap) (tree : PathMap) (changes kept : List Change) → Made trees tree changes → (IsNormal (map (filled (get tree)) changes) → Keeps trees (map (filled (get tree)) changes) (kept ++ [])) → (IsNormal (map (filled (get tree)) changes) → IsLean kept) → length kept ≤ 4096 → IsSetOver trees (get tree) changes kept
over_all trees tree changes kept m k lean few =
    let n = normal-filled (get tree) changes m.normal in
    let h = subst (Keeps trees (map (filled (get tree)) changes)) (append-nil kept) (k n) in
    record { normal = h.normal; faultless = h.faultless (fault_filled trees (get tree) changes m.normal ∙ m.faultless); effect_is = λ q. h.effect_is q ∙ m.made q; needed = needed_all (get tree) trees changes kept h (lean n); whole = whole_all (get tree) trees changes kept m.normal h; stems = stems_all (get tree) trees changes kept h; few = few }

pub too_large : (trees : List PathMap) (tree : PathMap) (changes kept : List Change) → Made trees tree changes → (IsNormal (map (filled (get tree)) changes) → Keeps trees (map (filled (get tree)) changes) (kept ++ [])) → (IsNormal (map (filled (get tree)) changes) → IsLean kept) → 4096 < length kept → IsTooMany trees (get tree) changes
too_large trees tree changes kept m k lean many =
    let n = normal-filled (get tree) changes m.normal in
    let h = subst (Keeps trees (map (filled (get tree)) changes)) (append-nil kept) (k n) in
    record { set = kept; normal = h.normal; is = λ q. h.effect_is q ∙ m.made q; needed = needed_all (get tree) trees changes kept h (lean n); many = many }
