-- The changes that differences are have the new tree for their effect on the old one.
use Rattle.std.proofs.Common.{◌≡◌, ℕ, Bool, true, false, true≢false, append-nil, unwrap_or, cond, ◌&&◌, ◌||◌, T, List, [], ◌∷◌, ◌++◌, Option, Some, None, IsSome, IsNone, IsSomeAnd, is_some, is_none, refl, sym, ap, subst, ◌∙◌}
use Rattle.std.specs.Option.{option_map, option_map_or, option_and_then, option_or}
use Rattle.std.specs.FinMap as finite
use Rattle.std.specs.FinMap.{find, is_sorted}
use Rattle.std.specs.FinMap.Entries.{below_all}
use Rattle.node_base.specs.Path.{Name, Path, path_cmp, same_path, rest_after}
use Rattle.node_base.proofs.PathLemmas.{path_of_same, same_path_back, rest_after-append}
use Rattle.node_base.specs.Tree.{PathMap, HasFronts, numbered, blank, kind_of, base, blocked}
use Rattle.node_base.specs.declared.node.Node.{Node}
use Rattle.node_base.specs.declared.node.NodeKind.TheVariants.{File, Dir}
use Rattle.path_tree.specs.JoinedLemmas.{both_true}
use Rattle.path_tree.proofs.Fronts.{fronts_all}
use Rattle.dump_load.specs.declared.change.Change.{Change}
use Rattle.dump_load.specs.Changes.{settles, change_at, settling, deepest, governing}
use Rattle.dump_load.specs.Effect.{brought, laid, with_parts, parted, is_numbered, effect}
use Rattle.tree_reports.specs.declared.difference.Parts.{Parts}
use Rattle.tree_reports.specs.Applied.{Content, content, takes_below, goes_with, becomes, applied, Make}
use Rattle.tree_reports.specs.Applied as make
use Rattle.node_base.specs.Props.{PropMap}
use Rattle.node_base.specs.declared.node.Action.{Action}
use Rattle.node_base.specs.declared.node.Action.TheVariants.{Add, Replace}
use Rattle.tree_reports.specs.Differences.{Told, Removed, Added, Replaced, Changed, told_same_kind, parts_of, are_other_kinds, told, told_at, AreDifferences}
use Rattle.tree_reports.proofs.Merges.{find_below}
use Rattle.tree_changes.specs.Changes.{told_change, change_of, changes_of}
use Rattle.tree_changes.specs.Changes as changes

-- ---- the change at a path

abbrev change_told : Path → Option Told → Option Change
change_told q = option_map (told_change q)

path_of_change : (p : Path) (t : Told) → (told_change p t).path ≡ p
path_of_change p Removed = refl
path_of_change p (Added y) = refl
path_of_change p (Replaced y) = refl
path_of_change p (Changed y parts) = refl

change_at_told : (q : Path) (es : List (Path × Told)) → change_at (changes_of es) q ≡ change_told q (find path_cmp q es)
change_at_told q [] = refl
change_at_told q (e ∷ es) =
    ap (λ p. cond (same_path p q) (Some (change_of e)) (change_at (changes_of es) q)) (path_of_change e.0 e.1)
    ∙ ap (λ b. cond b (Some (change_of e)) (change_at (changes_of es) q)) (same_path_back e.0 q)
    ∙ elim (same_path q e.0) as (λ b. same_path q e.0 ≡ b → cond b (Some (change_of e)) (change_at (changes_of es) q) ≡ change_told q (cond b (Some e.1) (find path_cmp q es))) [
      | true ↦ λ s. ap (λ p. Some (told_change p e.1)) (sym (path_of_same q e.0 s))
      | false ↦ λ _. change_at_told q es
    ] refl

-- whether what is told of a path settles it
abbrev pub settled : Told → Bool
settled Removed = true
settled (Added y) = true
settled (Replaced y) = true
settled (Changed y parts) = false

abbrev settled_by : Option Told → Bool
settled_by None = false
settled_by (Some t) = settled t

settles_told : (p : Path) (t : Told) → settles (told_change p t).action ≡ settled t
settles_told p Removed = refl
settles_told p (Added y) = refl
settles_told p (Replaced y) = refl
settles_told p (Changed y parts) = refl

abbrev kept : Path → Told → Option Change
kept q t = cond (settled t) (Some (told_change q t)) None

settling_none : (q : Path) (es : List (Path × Told)) → T (below_all path_cmp q es) → change_at (settling (changes_of es)) q ≡ None
settling_none q es b = by es (find_below q es b)
  where
    by : (es : List (Path × Told)) → find path_cmp q es ≡ None → change_at (settling (changes_of es)) q ≡ None
    by [] h = refl
    by (e ∷ es) h =
        ap (λ b. change_at (cond b (change_of e ∷ settling (changes_of es)) (settling (changes_of es))) q) (settles_told e.0 e.1)
        ∙ elim (same_path q e.0) as (λ s. same_path q e.0 ≡ s → cond s (Some e.1) (find path_cmp q es) ≡ None → change_at (cond (settled e.1) (change_of e ∷ settling (changes_of es)) (settling (changes_of es))) q ≡ None) [
          | true ↦ λ _. λ h. cc
          | false ↦ λ s. λ h. elim (settled e.1) as (λ b. change_at (cond b (change_of e ∷ settling (changes_of es)) (settling (changes_of es))) q ≡ None) [
            | true ↦ ap (λ p. cond (same_path p q) (Some (change_of e)) (change_at (settling (changes_of es)) q)) (path_of_change e.0 e.1) ∙ ap (λ b. cond b (Some (change_of e)) (change_at (settling (changes_of es)) q)) (same_path_back e.0 q ∙ s) ∙ by es h
            | false ↦ by es h
          ]
        ] refl h

settling_told : (q : Path) (es : List (Path × Told)) → T (is_sorted path_cmp es) → change_at (settling (changes_of es)) q ≡ option_and_then (kept q) (find path_cmp q es)
settling_told q [] s = refl
settling_told q (e ∷ es) s =
    ap (λ b. change_at (cond b (change_of e ∷ settling (changes_of es)) (settling (changes_of es))) q) (settles_told e.0 e.1)
    ∙ elim (same_path q e.0) as (λ a. same_path q e.0 ≡ a → change_at (cond (settled e.1) (change_of e ∷ settling (changes_of es)) (settling (changes_of es))) q ≡ option_and_then (kept q) (cond a (Some e.1) (find path_cmp q es))) [
      | true ↦ λ a. let is = path_of_same q e.0 a in elim (settled e.1) as (λ b. change_at (cond b (change_of e ∷ settling (changes_of es)) (settling (changes_of es))) q ≡ cond b (Some (told_change q e.1)) None) [
        | true ↦ ap (λ p. cond (same_path p q) (Some (change_of e)) (change_at (settling (changes_of es)) q)) (path_of_change e.0 e.1) ∙ ap (λ b. cond b (Some (change_of e)) (change_at (settling (changes_of es)) q)) (same_path_back e.0 q ∙ a) ∙ ap (λ p. Some (told_change p e.1)) (sym is)
        | false ↦ settling_none q es (subst (λ p. T (below_all path_cmp p es)) (sym is) (both_true _ _ s).0)
      ]
      | false ↦ λ a. elim (settled e.1) as (λ b. change_at (cond b (change_of e ∷ settling (changes_of es)) (settling (changes_of es))) q ≡ option_and_then (kept q) (find path_cmp q es)) [
        | true ↦ ap (λ p. cond (same_path p q) (Some (change_of e)) (change_at (settling (changes_of es)) q)) (path_of_change e.0 e.1) ∙ ap (λ b. cond b (Some (change_of e)) (change_at (settling (changes_of es)) q)) (same_path_back e.0 q ∙ a) ∙ settling_told q es (both_true _ _ s).1
        | false ↦ settling_told q es (both_true _ _ s).1
      ]
    ] refl

-- ---- the longest front that is settled

deepest_at : {A : Type 0} (f : Path → Option A) (q : Path) (x : A) → f q ≡ Some x → deepest f q ≡ Some x
deepest_at f [] x h = h
deepest_at f (n ∷ q) x h = ap (λ o. option_or o (f [])) (deepest_at (λ p. f (n ∷ p)) q x h)

-- what is found stands at a front
deepest_front : {A : Type 0} (f : Path → Option A) (q : Path) (x : A) → deepest f q ≡ Some x → (p r : Path) × (q ≡ p ++ r) × (f p ≡ Some x)
deepest_front f [] x h = ([], [], refl, h)
deepest_front {A} f (n ∷ q) x h = by (deepest (λ p. f (n ∷ p)) q) refl h (λ e. deepest_front (λ p. f (n ∷ p)) q x e)
  where
    by : (o : Option A) → deepest (λ p. f (n ∷ p)) q ≡ o → option_or o (f []) ≡ Some x → (deepest (λ p. f (n ∷ p)) q ≡ Some x → (p r : Path) × (q ≡ p ++ r) × (f (n ∷ p) ≡ Some x)) → (p r : Path) × (n ∷ q ≡ p ++ r) × (f p ≡ Some x)
    by None is h below = ([], n ∷ q, refl, h)
    by (Some y) is h below = let found = below (is ∙ h) in (n ∷ found.0, found.1, ap (λ z. n ∷ z) found.2, found.3)

or_swap : (a b : Bool) → (a || b) ≡ (b || a)
or_swap true true = refl
or_swap true false = refl
or_swap false true = refl
or_swap false false = refl

some_either : {A : Type 0} (a b : Option A) → is_some (option_or a b) ≡ (is_some a || is_some b)
some_either None b = refl
some_either (Some x) b = refl

-- where each proper front that is settled loses what is below it, something above the path is settled where something
-- above it goes
settled_above : (s : Path → Option Change) (d : Path → Option Told) (q : Path) → ((p : Path) → is_some (s p) ≡ settled_by (d p)) → settled_by (d q) ≡ false
    → ((p : Path) (n : Name) (r : Path) → q ≡ p ++ n ∷ r → settled_by (d p) ≡ takes_below (d p)) → is_some (deepest s q) ≡ goes_with d q
settled_above s d [] same here above = same [] ∙ here
settled_above s d (n ∷ q) same here above =
    some_either (deepest (λ p. s (n ∷ p)) q) (s [])
    ∙ (λ i. settled_above (λ p. s (n ∷ p)) (λ p. d (n ∷ p)) q (λ p. same (n ∷ p)) here (λ p m r e. above (n ∷ p) m r (ap (λ z. n ∷ z) e)) i || (same [] ∙ above [] n q refl) i)
    ∙ or_swap (goes_with (λ p. d (n ∷ p)) q) (takes_below (d []))

-- ---- in two trees

some_there : {A : Type 0} (o : Option A) (x : A) → o ≡ Some x → IsSome o
some_there o x e = subst IsSome (sym e) refl

-- a node that was there isn't told to be added
was_there : (opens : Bool) (x : Node) (u : Option Node) (b : Bool) → settled_by (told opens (Some x) u b) ≡ takes_below (told opens (Some x) u b)
was_there opens x None true = refl
was_there opens x None false = refl
was_there opens x (Some y) b = elim (are_other_kinds (is_some x.text) (is_some y.text)) as (λ k. settled_by (cond k (Some (Replaced y)) (told_same_kind opens y (parts_of x y))) ≡ takes_below (cond k (Some (Replaced y)) (told_same_kind opens y (parts_of x y)))) [
  | true ↦ refl
  | false ↦ elim ((parts_of x y).props || (parts_of x y).text || (opens && is_none y.text)) as (λ k. settled_by (cond k (Some (Changed y (parts_of x y))) None) ≡ takes_below (cond k (Some (Changed y (parts_of x y))) None)) [ true ↦ refl | false ↦ refl ]
]

-- above a path that was there
above_was_there : (opens : Bool) (f g : Path → Option Node) → HasFronts f → (q : Path) → IsSome (f q) → (p : Path) (n : Name) (r : Path) → q ≡ p ++ n ∷ r → settled_by (told_at opens f g p) ≡ takes_below (told_at opens f g p)
above_was_there opens f g hf q some p n r e =
    elim (f p) as (λ o. IsSomeAnd o (λ x. IsNone x.text) → settled_by (told opens o (g p) (is_some (blocked g p))) ≡ takes_below (told opens o (g p) (is_some (blocked g p)))) [
      | None ↦ λ d. absurd d
      | Some x ↦ λ d. was_there opens x (g p) (is_some (blocked g p))
    ] (fronts_all f hf p n r (subst (λ z. IsSome (f z)) e some))

-- ---- what the changes lay

is_some_kept : (q : Path) (o : Option Told) → is_some (option_and_then (kept q) o) ≡ settled_by o
is_some_kept q None = refl
is_some_kept q (Some t) = elim (settled t) as (λ b. is_some (cond b (Some (told_change q t)) None) ≡ b) [ true ↦ refl | false ↦ refl ]

-- what is kept is what is told there
kept_is : (q : Path) (o : Option Told) (c : Change) → option_and_then (kept q) o ≡ Some c → (t : Told) × (c ≡ told_change q t)
kept_is q None c e = cc
kept_is q (Some t) c e = by (settled t) e
  where
    by : (b : Bool) → cond b (Some (told_change q t)) None ≡ Some c → (t : Told) × (c ≡ told_change q t)
    by true e = (t, cc)
    by false e = cc

kept_settled : (q : Path) (t : Told) → settled t ≡ true → kept q t ≡ Some (told_change q t)
kept_settled q t e = ap (λ b. cond b (Some (told_change q t)) None) e

nothing_below : (trees : List PathMap) (p : Path) (t : Told) (n : Name) (r : Path) → brought trees (told_change p t) (n ∷ r) ≡ None
nothing_below trees p Removed n r = refl
nothing_below trees p (Added y) n r = refl
nothing_below trees p (Replaced y) n r = refl
nothing_below trees p (Changed y parts) n r = refl

rest_itself : (q : Path) → rest_after q q ≡ Some []
rest_itself q = ap (rest_after q) (sym (append-nil q)) ∙ rest_after-append q []

-- a node's number is no part of its content
content_numbered : (n : ℕ) (b : Bool) (x : Node) → content (numbered n b x) ≡ content x
content_numbered n true x = refl
content_numbered n false x = refl

content_effect : (n : ℕ) (b : Bool) (g : Node → Node) (o : Option Node) → option_map content (option_map (λ x. numbered n b (g x)) o) ≡ option_map (λ x. content (g x)) o
content_effect n b g None = refl
content_effect n b g (Some x) = ap (λ c. Some c) (content_numbered n b (g x))

-- a node that comes has what is given
new_text : (t : Option Name) → option_or t (blank (Some (cond (is_some t) File Dir))).text ≡ t
new_text None = refl
new_text (Some t) = refl

new_content : (q : Path) (a : Action) (y : Node) → content (with_parts (changes.brought q a y) (blank (Some (kind_of y)))) ≡ content y
new_content q a y = λ i. record { text = new_text y.text i; props = y.props }

-- a node that changes has the parts that are given
changed_text : (b : Bool) (s t : Option Name) → are_other_kinds (is_some s) (is_some t) ≡ false → option_or (cond b t None) s ≡ cond b t s
changed_text true None None k = refl
changed_text true None (Some t) k = refl
changed_text true (Some s) None k = absurd (true≢false k)
changed_text true (Some s) (Some t) k = refl
changed_text false s t k = refl

changed_props : (b : Bool) (s t : PropMap) → unwrap_or (cond b (Some t) None) s ≡ cond b t s
changed_props true s t = refl
changed_props false s t = refl

changed_content : (q : Path) (y : Node) (parts : Parts) (x : Node) → are_other_kinds (is_some x.text) (is_some y.text) ≡ false → content (with_parts (told_change q (Changed y parts)) x) ≡ make.with_parts y parts (content x)
changed_content q y parts x k = λ i. record { text = changed_text parts.text x.text y.text k i; props = changed_props parts.props x.props y.props i }

-- what changes is of the same kind as before
same_kinds : (opens : Bool) (x : Node) (u : Option Node) (b : Bool) (y : Node) (parts : Parts) → told opens (Some x) u b ≡ Some (Changed y parts) → are_other_kinds (is_some x.text) (is_some y.text) ≡ false
same_kinds opens x None true y parts e = cc
same_kinds opens x None false y parts e = cc
same_kinds opens x (Some z) b y parts e = by (are_other_kinds (is_some x.text) (is_some z.text)) refl e
  where
    by : (k : Bool) → are_other_kinds (is_some x.text) (is_some z.text) ≡ k → cond k (Some (Replaced z)) (told_same_kind opens z (parts_of x z)) ≡ Some (Changed y parts) → are_other_kinds (is_some x.text) (is_some y.text) ≡ false
    by true is e = cc
    by false is e = in_kind ((parts_of x z).props || (parts_of x z).text || (opens && is_none z.text)) is e
      where
        in_kind : (k : Bool) → are_other_kinds (is_some x.text) (is_some z.text) ≡ false → cond k (Some (Changed z (parts_of x z))) None ≡ Some (Changed y parts) → are_other_kinds (is_some x.text) (is_some y.text) ≡ false
        in_kind true is e = cc
        in_kind false is e = cc

none_both : {A : Type 0} (b : Bool) → ◌≡◌ {A = Option A} None (cond b None None)
none_both true = refl
none_both false = refl

-- some of what differs between two trees is told
pub record ArePart (opens : Bool) (f g : Path → Option Node) (es : List (Path × Told)) : Type 0 where
  pub in_order : T (is_sorted path_cmp es)
  pub each : (p : Path) (t : Told) → find path_cmp p es ≡ Some t → told_at opens f g p ≡ Some t

module _ (opens : Bool) (m : PathMap) (g : Path → Option Node) (es : List (Path × Told)) (fronts : HasFronts (finite.get m)) (h : ArePart opens (finite.get m) g es) where
  abbrev f : Path → Option Node
  f = finite.get m

  abbrev cs : List Change
  cs = changes_of es

  abbrev d : Path → Option Told
  d q = find path_cmp q es

  abbrev s : Path → Option Change
  s = change_at (settling cs)

  s_is : (q : Path) → s q ≡ option_and_then (kept q) (d q)
  s_is q = settling_told q es h.in_order

  -- a path that isn't settled has what was there, where nothing above it goes
  laid_above : (q : Path) (c : Change) → settled_by (d q) ≡ false → governing cs q ≡ Some c → laid (m ∷ []) cs q ≡ None
  laid_above q c here is = by found.0 found.1 found.2 found.3
    where
      found : (p r : Path) × (q ≡ p ++ r) × (s p ≡ Some c)
      found = deepest_front s q c is

      by : (p r : Path) → q ≡ p ++ r → s p ≡ Some c → laid (m ∷ []) cs q ≡ None
      by p [] e at = absurd (true≢false (sym (ap is_some (ap s (e ∙ append-nil p) ∙ at)) ∙ ap is_some (s_is q) ∙ is_some_kept q (d q) ∙ here))
      by p (n ∷ r) e at =
          let t = kept_is p (d p) c (sym (s_is p) ∙ at) in
          ap (λ o. option_map_or (λ c. option_and_then (brought (m ∷ []) c) (rest_after c.path q)) o (base (m ∷ []) q)) (is ∙ ap (λ c. Some c) t.1)
          ∙ ap (λ z. option_and_then (brought (m ∷ []) (told_change p t.0)) (rest_after z q)) (path_of_change p t.0)
          ∙ ap (λ z. option_and_then (brought (m ∷ []) (told_change p t.0)) (rest_after p z)) e
          ∙ ap (option_and_then (brought (m ∷ []) (told_change p t.0))) (rest_after-append p (n ∷ r))
          ∙ nothing_below (m ∷ []) p t.0 n r

  above_settled : (p : Path) → settled_by (told_at opens f g p) ≡ takes_below (told_at opens f g p) → settled_by (d p) ≡ takes_below (d p)
  above_settled p k = by (d p) refl
    where
      by : (o : Option Told) → d p ≡ o → settled_by (d p) ≡ takes_below (d p)
      by None is = ap settled_by is ∙ sym (ap takes_below is)
      by (Some t) is = subst (λ o. settled_by o ≡ takes_below o) (h.each p t is ∙ sym is) k

  above_goes : (q : Path) → IsSome (f q) → settled_by (d q) ≡ false → is_some (governing cs q) ≡ goes_with d q
  above_goes q some here = settled_above s d q (λ p. ap is_some (s_is p) ∙ is_some_kept p (d p)) here
      (λ p n r e. above_settled p (above_was_there opens f g fronts q some p n r e))

  laid_unsettled : (q : Path) → settled_by (d q) ≡ false → laid (m ∷ []) cs q ≡ cond (goes_with d q) None (f q)
  laid_unsettled q here = by (governing cs q) refl
    where
      by : (o : Option Change) → governing cs q ≡ o → laid (m ∷ []) cs q ≡ cond (goes_with d q) None (f q)
      by (Some c) is = laid_above q c here is ∙ gone (f q) refl
        where
          gone : (u : Option Node) → f q ≡ u → None ≡ cond (goes_with d q) None u
          gone None e = none_both (goes_with d q)
          gone (Some x) e = ap (λ b. cond b None (Some x)) (sym (ap is_some is) ∙ above_goes q (some_there (f q) x e) here)
      by None is = ap (λ o. option_map_or (λ c. option_and_then (brought (m ∷ []) c) (rest_after c.path q)) o (base (m ∷ []) q)) is ∙ stays (f q) refl
        where
          stays : (u : Option Node) → f q ≡ u → f q ≡ cond (goes_with d q) None u
          stays None e = e ∙ none_both (goes_with d q)
          stays (Some x) e = e ∙ ap (λ b. cond b None (Some x)) (sym (ap is_some is) ∙ above_goes q (some_there (f q) x e) here)

  -- what a change that settles its path lays there
  laid_settled : (q : Path) (t : Told) → settled t ≡ true → d q ≡ Some t → laid (m ∷ []) cs q ≡ brought (m ∷ []) (told_change q t) []
  laid_settled q t here is =
      ap (λ o. option_map_or (λ c. option_and_then (brought (m ∷ []) c) (rest_after c.path q)) o (base (m ∷ []) q)) (deepest_at s q (told_change q t) (s_is q ∙ ap (option_and_then (kept q)) is ∙ kept_settled q t here))
      ∙ ap (λ z. option_and_then (brought (m ∷ []) (told_change q t)) (rest_after z q)) (path_of_change q t)
      ∙ ap (option_and_then (brought (m ∷ []) (told_change q t))) (rest_itself q)

  abbrev number : Path → Bool
  number q = is_numbered cs q

  -- the effect, by what is told of the path and what is laid there
  effect_is : (q : Path) (o : Option Told) (l : Option Node) → d q ≡ o → laid (m ∷ []) cs q ≡ l → option_map content (effect (m ∷ []) cs q) ≡ option_map (λ x. content (parted (change_told q o) x)) l
  effect_is q o l is lays =
      ap (λ c. option_map content (option_map (λ x. numbered 1 (number q) (parted c x)) (laid (m ∷ []) cs q))) (change_at_told q es ∙ ap (change_told q) is)
      ∙ ap (λ l. option_map content (option_map (λ x. numbered 1 (number q) (parted (change_told q o) x)) l)) lays
      ∙ content_effect 1 (number q) (parted (change_told q o)) l

  effect_applied : (q : Path) → option_map content (effect (m ∷ []) cs q) ≡ applied d f q
  effect_applied q = by (d q) refl
    where
      by : (o : Option Told) → d q ≡ o → option_map content (effect (m ∷ []) cs q) ≡ becomes o (cond (goes_with d q) None (option_map content (f q)))
      by None is = effect_is q None _ is (laid_unsettled q (ap settled_by is)) ∙ each (goes_with d q)
        where
          each : (b : Bool) → option_map (λ x. content x) (cond b None (f q)) ≡ cond b None (option_map content (f q))
          each true = refl
          each false = refl
      by (Some Removed) is = effect_is q (Some Removed) _ is (laid_settled q Removed refl is)
      by (Some (Added y)) is = effect_is q (Some (Added y)) _ is (laid_settled q (Added y) refl is) ∙ ap (λ c. Some c) (new_content q Add y)
      by (Some (Replaced y)) is = effect_is q (Some (Replaced y)) _ is (laid_settled q (Replaced y) refl is) ∙ ap (λ c. Some c) (new_content q Replace y)
      by (Some (Changed y parts)) is = effect_is q (Some (Changed y parts)) _ is (laid_unsettled q (ap settled_by is)) ∙ each (goes_with d q)
        where
          same : (u : Option Node) → f q ≡ u → option_map (λ x. content (with_parts (told_change q (Changed y parts)) x)) u ≡ option_map (make.with_parts y parts) (option_map content u)
          same None e = refl
          same (Some x) e = ap (λ c. Some c) (changed_content q y parts x (same_kinds opens x (g q) (is_some (blocked g q)) y parts (ap (λ u. told opens u (g q) (is_some (blocked g q))) (sym e) ∙ h.each q (Changed y parts) is)))

          each : (b : Bool) → option_map (λ x. content (with_parts (told_change q (Changed y parts)) x)) (cond b None (f q)) ≡ option_map (make.with_parts y parts) (cond b None (option_map content (f q)))
          each true = refl
          each false = same (f q) refl

-- the effect of the changes that they are
pub effect_part : (opens : Bool) (m : PathMap) (g : Path → Option Node) (es : List (Path × Told)) → HasFronts (finite.get m) → ArePart opens (finite.get m) g es → (q : Path) → option_map content (effect (m ∷ []) (changes_of es) q) ≡ applied (λ q. find path_cmp q es) (finite.get m) q
effect_part opens m g es fronts h q = effect_applied opens m g es fronts h q

-- the effect of the changes is the new tree
pub effect_makes : (opens : Bool) (m : PathMap) (g : Path → Option Node) (es : List (Path × Told)) → HasFronts (finite.get m) → AreDifferences opens (finite.get m) g es → Make es (finite.get m) g → (q : Path) → option_map content (effect (m ∷ []) (changes_of es) q) ≡ option_map content (g q)
effect_makes opens m g es fronts h made q = effect_applied opens m g es fronts (record { in_order = h.in_order; each = λ p t e. sym (h.each p) ∙ e }) q ∙ made q
