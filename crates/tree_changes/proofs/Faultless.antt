-- The changes that make one tree of another have no fault over it.
use Rattle.std.proofs.Common.{◌≡◌, Bool, true, false, true≢false, cond, not, ◌&&◌, ◌||◌, T, List, [], ◌∷◌, ◌++◌, Option, Some, None, IsSome, IsNone, IsSomeAnd, is_some, is_none, refl, sym, ap, subst, ◌∙◌, append_assoc}
use Rattle.std.proofs.lemmas.Option.{same_Some}
use Rattle.std.specs.Option.{option_map, option_map_or, option_or}
use Rattle.std.specs.FinMap as finite
use Rattle.std.specs.FinMap.{find, is_sorted}
use Rattle.std.specs.FinMap.Entries.{below_all}
use Rattle.std.specs.declared.cmp.Ordering.TheVariants.{Less}
use Rattle.node_base.specs.Path.{Name, Path, path_cmp, same_path}
use Rattle.node_base.proofs.PathLemmas.{path_of_same, same_path_itself, before_below}
use Rattle.node_base.specs.Tree.{PathMap, HasFronts, IsDirAt, IsTree, blocked, kind_of}
use Rattle.node_base.specs.declared.fault.TreeFault.TheVariants.{BadPath, NoSuchPath, PathThere, NotDir, KindMismatch}
use Rattle.node_base.specs.declared.node.Node.{Node}
use Rattle.node_base.specs.declared.node.NodeKind.{NodeKind}
use Rattle.node_base.specs.declared.node.NodeKind.TheVariants.{File, Dir}
use Rattle.path_tree.specs.JoinedLemmas.{both_true, true_both, less_than}
use Rattle.path_tree.proofs.Fronts.{fronts_all}
use Rattle.dump_load.specs.Effect.{effect}
use Rattle.dump_load.specs.Faults.{first_of, fault_if, fault_of, fault_after, fault, mismatches}
use Rattle.dump_load.proofs.PathOrder.{greater_differs}
use Rattle.tree_reports.specs.declared.difference.Parts.{Parts}
use Rattle.tree_reports.specs.Applied.{Content, content, takes_below, goes_with, becomes, applied}
use Rattle.tree_reports.specs.Differences.{Told, Removed, Added, Replaced, Changed, parts_of, are_other_kinds, told_same_kind, told, told_at, AreDifferences}
use Rattle.tree_reports.proofs.Applies.{differences_make}
use Rattle.tree_reports.proofs.Merges.{before_first, find_below}
use Rattle.tree_changes.specs.Changes.{told_change, change_of, changes_of, Between}
use Rattle.tree_changes.proofs.Effects.{settled, ArePart, effect_part}

-- ---- what is told of a path

not_some : {A : Type 0} (o : Option A) → IsNone o → is_some o ≡ false
not_some None h = refl
not_some (Some t) h = cc

none_of : {A : Type 0} (o : Option A) → is_some o ≡ false → o ≡ None
none_of None h = refl
none_of (Some t) h = absurd (true≢false h)

some_there : {A : Type 0} (o : Option A) (x : A) → o ≡ Some x → IsSome o
some_there o x e = subst IsSome (sym e) refl

some_of : {A : Type 0} (o : Option A) (P : A → Type 0) → IsSomeAnd o P → IsSome o
some_of None P h = absurd h
some_of (Some x) P h = refl

-- by what stood and what stands there
abbrev IsTold : Option Node → Option Node → Bool → Told → Type 0
IsTold o u b Removed = IsSome o × (b ≡ false)
IsTold o u b (Added y) = (o ≡ None) × (u ≡ Some y)
IsTold o u b (Replaced y) = IsSome o × (u ≡ Some y)
IsTold o u b (Changed y parts) = IsSomeAnd o (λ x. is_some x.text ≡ is_some y.text) × (u ≡ Some y)

same_kinds : (a b : Bool) → are_other_kinds a b ≡ false → a ≡ b
same_kinds true true e = refl
same_kinds true false e = absurd (true≢false e)
same_kinds false true e = absurd (true≢false e)
same_kinds false false e = refl

told_is : (opens : Bool) (o u : Option Node) (b : Bool) (t : Told) → told opens o u b ≡ Some t → IsTold o u b t
told_is opens None None b t e = absurd cc
told_is opens None (Some y) b t e = subst (IsTold None (Some y) b) (same_Some (Added y) t e) (refl, refl)
told_is opens (Some x) None true t e = absurd cc
told_is opens (Some x) None false t e = subst (IsTold (Some x) None false) (same_Some Removed t e) (refl, refl)
told_is opens (Some x) (Some y) b t e = by (are_other_kinds (is_some x.text) (is_some y.text)) ((parts_of x y).props || (parts_of x y).text || (opens && is_none y.text)) refl e
  where
    by : (k l : Bool) → are_other_kinds (is_some x.text) (is_some y.text) ≡ k → cond k (Some (Replaced y)) (cond l (Some (Changed y (parts_of x y))) None) ≡ Some t → IsTold (Some x) (Some y) b t
    by true l is e = subst (IsTold (Some x) (Some y) b) (same_Some (Replaced y) t e) (refl, refl)
    by false false is e = absurd cc
    by false true is e = subst (IsTold (Some x) (Some y) b) (same_Some (Changed y (parts_of x y)) t e) (same_kinds (is_some x.text) (is_some y.text) is, refl)

-- the roots are directories, so that none is told to go or to come
root_told : (opens : Bool) (o u : Option Node) (t : Told) → IsSomeAnd o (λ x. IsNone x.text) → IsSomeAnd u (λ x. IsNone x.text) → told opens o u false ≡ Some t → settled t ≡ false
root_told opens None u t d e h = absurd d
root_told opens (Some x) None t d e h = absurd e
root_told opens (Some x) (Some y) t d e h =
    let k : cond (are_other_kinds (is_some x.text) (is_some y.text)) (Some (Replaced y)) (told_same_kind opens y (parts_of x y)) ≡ told_same_kind opens y (parts_of x y) = λ i. cond (are_other_kinds (not_some x.text d i) (not_some y.text e i)) (Some (Replaced y)) (told_same_kind opens y (parts_of x y)) in
    by ((parts_of x y).props || (parts_of x y).text || (opens && is_none y.text)) (sym k ∙ h)
  where
    by : (l : Bool) → cond l (Some (Changed y (parts_of x y))) None ≡ Some t → settled t ≡ false
    by false k = absurd cc
    by true k = subst (λ v. settled v ≡ false) (same_Some (Changed y (parts_of x y)) t k) refl

not_root : (opens : Bool) (f g : Path → Option Node) (p : Path) (t : Told) → IsDirAt f [] → IsDirAt g [] → told_at opens f g p ≡ Some t → settled t ≡ true → same_path p [] ≡ false
not_root opens f g p t d e h s = by (same_path p []) refl
  where
    by : (b : Bool) → same_path p [] ≡ b → b ≡ false
    by false is = refl
    by true is = absurd (true≢false (sym s ∙ root_told opens (f []) (g []) t d e (subst (λ q. told_at opens f g q ≡ Some t) (path_of_same p [] is) h)))

-- ---- above a path

blocked_same : (f g : Path → Option Node) (p : Path) → ((q : Path) (n : Name) (r : Path) → p ≡ q ++ n ∷ r → option_map content (f q) ≡ option_map content (g q)) → is_some (blocked f p) ≡ is_some (blocked g p)
blocked_same f g [] h = refl
blocked_same f g (n ∷ p) h = by (f []) (g []) (h [] n p refl) (blocked_same (λ q. f (n ∷ q)) (λ q. g (n ∷ q)) p (λ q m r s. h (n ∷ q) m r (ap (λ z. n ∷ z) s)))
  where
    by : (o u : Option Node) → option_map content o ≡ option_map content u → is_some (blocked (λ q. f (n ∷ q)) p) ≡ is_some (blocked (λ q. g (n ∷ q)) p)
        → is_some (option_map_or (λ x. cond (is_some x.text) (Some NotDir) (blocked (λ q. f (n ∷ q)) p)) o (Some NoSuchPath)) ≡ is_some (option_map_or (λ x. cond (is_some x.text) (Some NotDir) (blocked (λ q. g (n ∷ q)) p)) u (Some NoSuchPath))
    by None None e k = refl
    by None (Some y) e k = absurd cc
    by (Some x) None e k = absurd cc
    by (Some x) (Some y) e k =
        let t : x.text ≡ y.text = ap (λ (o : Option Content). option_map_or (λ c. c.text) o None) e in
        ap (λ b. is_some (cond b (Some NotDir) (blocked (λ q. f (n ∷ q)) p))) (ap is_some t)
        ∙ elim (is_some y.text) as (λ b. is_some (cond b (Some NotDir) (blocked (λ q. f (n ∷ q)) p)) ≡ is_some (cond b (Some NotDir) (blocked (λ q. g (n ∷ q)) p))) [ true ↦ refl | false ↦ k ]

-- above what is there all are directories
not_blocked : (g : Path → Option Node) → HasFronts g → (p : Path) → IsSome (g p) → is_some (blocked g p) ≡ false
not_blocked g hg [] s = refl
not_blocked g hg (n ∷ p) s =
    elim (g []) as (λ o. IsSomeAnd o (λ x. IsNone x.text) → is_some (option_map_or (λ x. cond (is_some x.text) (Some NotDir) (blocked (λ q. g (n ∷ q)) p)) o (Some NoSuchPath)) ≡ false) [
      | None ↦ λ d. absurd d
      | Some x ↦ λ d. ap (λ b. is_some (cond b (Some NotDir) (blocked (λ q. g (n ∷ q)) p))) (not_some x.text d) ∙ not_blocked (λ q. g (n ∷ q)) (λ q m. hg (n ∷ q) m) p s
    ] (fronts_all g hg [] n p s)

open_at : (g : Path → Option Node) → HasFronts g → (p : Path) (o : Option Node) (t : Told) → IsTold o (g p) (is_some (blocked g p)) t → is_some (blocked g p) ≡ false
open_at g hg p o Removed h = h.1
open_at g hg p o (Added y) h = not_blocked g hg p (some_there (g p) y h.1)
open_at g hg p o (Replaced y) h = not_blocked g hg p (some_there (g p) y h.1)
open_at g hg p o (Changed y parts) h = not_blocked g hg p (some_there (g p) y h.1)

or_false : (a b : Bool) → a ≡ false → b ≡ false → (a || b) ≡ false
or_false a b p q = cc

same_kind_stays : (opens : Bool) (y : Node) (d : Parts) → takes_below (told_same_kind opens y d) ≡ false
same_kind_stays opens y d = elim (d.props || d.text || (opens && is_none y.text)) as (λ b. takes_below (cond b (Some (Changed y d)) None) ≡ false) [ true ↦ refl | false ↦ refl ]

-- where all above a path are directories still, nothing above it is told to go
stays : (opens : Bool) (f g : Path → Option Node) → HasFronts f → (p : Path) → IsSome (f p) → is_some (blocked g p) ≡ false → goes_with (told_at opens f g) p ≡ false
stays opens f g hf [] s = λ k. refl
stays opens f g hf (n ∷ p) s =
    elim (f []) as (λ u. IsSomeAnd u (λ x. IsNone x.text) → is_some (blocked g (n ∷ p)) ≡ false → (takes_below (told opens u (g []) false) || goes_with (λ q. told_at opens f g (n ∷ q)) p) ≡ false) [
      | None ↦ λ d. absurd d
      | Some x ↦ λ d. elim (g []) as (λ o. is_some (option_map_or (λ y. cond (is_some y.text) (Some NotDir) (blocked (λ q. g (n ∷ q)) p)) o (Some NoSuchPath)) ≡ false
          → (takes_below (told opens (Some x) o false) || goes_with (λ q. told opens (f (n ∷ q)) (g (n ∷ q)) (is_some (option_map_or (λ y. cond (is_some y.text) (Some NotDir) (blocked (λ r. g (n ∷ r)) q)) o (Some NoSuchPath)))) p) ≡ false) [
            | None ↦ λ e. absurd (true≢false e)
            | Some y ↦ elim (is_some y.text) as (λ b. is_some (cond b (Some NotDir) (blocked (λ q. g (n ∷ q)) p)) ≡ false
                → (takes_below (cond (are_other_kinds (is_some x.text) b) (Some (Replaced y)) (told_same_kind opens y (parts_of x y))) || goes_with (λ q. told opens (f (n ∷ q)) (g (n ∷ q)) (is_some (cond b (Some NotDir) (blocked (λ r. g (n ∷ r)) q)))) p) ≡ false) [
                  | true ↦ λ e. absurd (true≢false e)
                  | false ↦ λ e. or_false _ _
                      (ap (λ a. takes_below (cond (are_other_kinds a false) (Some (Replaced y)) (told_same_kind opens y (parts_of x y)))) (not_some x.text d) ∙ same_kind_stays opens y (parts_of x y))
                      (stays opens (λ q. f (n ∷ q)) (λ q. g (n ∷ q)) (λ q m. hf (n ∷ q) m) p s e)
                ]
          ]
    ] (fronts_all f hf [] n p s)

goes_same : (d e : Path → Option Told) (p : Path) → ((q : Path) (n : Name) (r : Path) → p ≡ q ++ n ∷ r → d q ≡ e q) → goes_with d p ≡ goes_with e p
goes_same d e [] h = refl
goes_same d e (n ∷ p) h = λ i. takes_below (h [] n p refl i) || goes_same (λ q. d (n ∷ q)) (λ q. e (n ∷ q)) p (λ q m r s. h (n ∷ q) m r (ap (λ z. n ∷ z) s)) i

-- ---- the fault of one change

and_false : (b : Bool) → fault_if (b && false) BadPath ≡ None
and_false true = refl
and_false false = refl

no_mismatch : (o : Option NodeKind) → option_map_or (mismatches None false) o false ≡ false
no_mismatch None = refl
no_mismatch (Some k) = refl

own_kind : (t : Option Name) → mismatches (Some (cond (is_some t) File Dir)) (is_some t) (cond (is_some t) File Dir) ≡ false
own_kind None = refl
own_kind (Some t) = refl

text_fits : (a b : Bool) (t : Option Name) → b ≡ is_some t → mismatches None (is_some (cond a t None)) (cond b File Dir) ≡ false
text_fits false b t e = refl
text_fits true b None e = refl
text_fits true b (Some s) e = ap (λ c. mismatches None true (cond c File Dir)) e

some_content : (o : Option Node) → is_some (option_map content o) ≡ is_some o
some_content None = refl
some_content (Some x) = refl

-- what the changes before one left: above its path what is wanted, and there what was there
record IsBefore (opens : Bool) (f g : Path → Option Node) (p : Path) (now : Path → Option Node) : Type 0 where
  fronts : (q : Path) (n : Name) (r : Path) → p ≡ q ++ n ∷ r → option_map content (now q) ≡ option_map content (g q)
  here : option_map content (now p) ≡ cond (goes_with (told_at opens f g) p) None (option_map content (f p))

module _ (opens : Bool) (f g : Path → Option Node) (hf : HasFronts f) (hg : HasFronts g) (df : IsDirAt f []) (dg : IsDirAt g []) (p : Path) (t : Told) (is : told_at opens f g p ≡ Some t) (trees : List PathMap) (now : Path → Option Node) (before : IsBefore opens f g p now) where
  says : IsTold (f p) (g p) (is_some (blocked g p)) t
  says = told_is opens (f p) (g p) (is_some (blocked g p)) t is

  is_open : is_some (blocked g p) ≡ false
  is_open = open_at g hg p (f p) t says

  unblocked : blocked now p ≡ None
  unblocked = none_of (blocked now p) (blocked_same now g p before.fronts ∙ is_open)

  stood : option_map content (now p) ≡ option_map content (f p)
  stood = by (f p) refl
    where
      none_either : (b : Bool) → ◌≡◌ {A = Option Content} (cond b None None) None
      none_either true = refl
      none_either false = refl

      by : (o : Option Node) → f p ≡ o → option_map content (now p) ≡ option_map content (f p)
      by None e = before.here ∙ ap (λ o. cond (goes_with (told_at opens f g) p) None (option_map content o)) e ∙ none_either (goes_with (told_at opens f g) p) ∙ sym (ap (option_map content) e)
      by (Some x) e = before.here ∙ ap (λ b. cond b None (option_map content (f p))) (stays opens f g hf p (some_there (f p) x e) is_open)

  there : is_some (now p) ≡ is_some (f p)
  there = sym (some_content (now p)) ∙ ap is_some stood ∙ some_content (f p)

  text_of_change : (y : Node) (parts : Parts) → IsSomeAnd (f p) (λ x. is_some x.text ≡ is_some y.text) → option_map_or (mismatches None (is_some (cond parts.text y.text None))) (option_map kind_of (now p)) false ≡ false
  text_of_change y parts k = by (now p) (f p) stood k
    where
      by : (o u : Option Node) → option_map content o ≡ option_map content u → IsSomeAnd u (λ x. is_some x.text ≡ is_some y.text) → option_map_or (mismatches None (is_some (cond parts.text y.text None))) (option_map kind_of o) false ≡ false
      by None u e k = refl
      by (Some z) None e k = absurd k
      by (Some z) (Some x) e k = text_fits parts.text (is_some z.text) y.text (ap is_some (ap (λ (o : Option Content). option_map_or (λ c. c.text) o None) e) ∙ k)

  no_fault : fault_of trees now (told_change p t) ≡ None
  no_fault = by t says (not_root opens f g p t df dg is)
    where
      by : (v : Told) → IsTold (f p) (g p) (is_some (blocked g p)) v → (settled v ≡ true → same_path p [] ≡ false) → fault_of trees now (told_change p v) ≡ None
      by Removed k root =
          let a = ap (λ b. fault_if (b && true) BadPath) (root refl) in
          let c = ap (λ b. fault_if (not b) NoSuchPath) (there ∙ k.0) in
          let e = ap (λ b. fault_if b KindMismatch) (no_mismatch (option_map kind_of (now p))) in
          λ i. first_of (a i ∷ unblocked i ∷ c i ∷ None ∷ e i ∷ None ∷ [])
      by (Added y) k root =
          let a = ap (λ b. fault_if (b && true) BadPath) (root refl) in
          let c = ap (λ b. fault_if b PathThere) (there ∙ ap is_some k.0) in
          let e = ap (λ b. fault_if b KindMismatch) (own_kind y.text) in
          λ i. first_of (a i ∷ unblocked i ∷ c i ∷ None ∷ e i ∷ None ∷ [])
      by (Replaced y) k root =
          let a = ap (λ b. fault_if (b && true) BadPath) (root refl) in
          let c = ap (λ b. fault_if (not b) NoSuchPath) (there ∙ k.0) in
          let e = ap (λ b. fault_if b KindMismatch) (own_kind y.text) in
          λ i. first_of (a i ∷ unblocked i ∷ c i ∷ None ∷ e i ∷ None ∷ [])
      by (Changed y parts) k root =
          let a = and_false (same_path p []) in
          let c = ap (λ b. fault_if (not b) NoSuchPath) (there ∙ some_of (f p) (λ x. is_some x.text ≡ is_some y.text) k.0) in
          let e = ap (λ b. fault_if b KindMismatch) (text_of_change y parts k.0) in
          λ i. first_of (a i ∷ unblocked i ∷ c i ∷ None ∷ e i ∷ None ∷ [])

-- ---- fronts of a list in order

below_front : (p : Path) (ds xs : List (Path × Told)) → T (below_all path_cmp p (ds ++ xs)) → T (below_all path_cmp p ds)
below_front p [] xs b = tt
below_front p (d ∷ ds) xs b = let h = both_true _ _ b in true_both _ _ h.0 (below_front p ds xs h.1)

front_sorted : (ds xs : List (Path × Told)) → T (is_sorted path_cmp (ds ++ xs)) → T (is_sorted path_cmp ds)
front_sorted [] xs s = tt
front_sorted (d ∷ ds) xs s = let h = both_true _ _ s in true_both _ _ (below_front d.0 ds xs h.0) (front_sorted ds xs h.1)

rest_sorted : (ds xs : List (Path × Told)) → T (is_sorted path_cmp (ds ++ xs)) → T (is_sorted path_cmp xs)
rest_sorted [] xs s = s
rest_sorted (d ∷ ds) xs s = rest_sorted ds xs (both_true _ _ s).1

found_front : (p : Path) (ds xs : List (Path × Told)) (t : Told) → find path_cmp p ds ≡ Some t → find path_cmp p (ds ++ xs) ≡ Some t
found_front p [] xs t e = absurd cc
found_front p (d ∷ ds) xs t e =
    elim (same_path p d.0) as (λ b. cond b (Some d.1) (find path_cmp p ds) ≡ Some t → cond b (Some d.1) (find path_cmp p (ds ++ xs)) ≡ Some t) [
      | true ↦ λ k. k
      | false ↦ λ k. found_front p ds xs t k
    ] e

found_before : (q : Path) (ds ys : List (Path × Told)) → T (below_all path_cmp q ys) → find path_cmp q (ds ++ ys) ≡ find path_cmp q ds
found_before q [] ys b = find_below q ys b
found_before q (d ∷ ds) ys b =
    elim (same_path q d.0) as (λ c. cond c (Some d.1) (find path_cmp q (ds ++ ys)) ≡ cond c (Some d.1) (find path_cmp q ds)) [
      | true ↦ refl
      | false ↦ found_before q ds ys b
    ]

less_amid : (p : Path) (ds : List (Path × Told)) (x : Path × Told) (xs : List (Path × Told)) → T (below_all path_cmp p (ds ++ x ∷ xs)) → path_cmp p x.0 ≡ Less
less_amid p [] x xs b = less_than _ (both_true _ _ b).0
less_amid p (d ∷ ds) x xs b = less_amid p ds x xs (both_true _ _ b).1

not_yet : (ds : List (Path × Told)) (x : Path × Told) (xs : List (Path × Told)) → T (is_sorted path_cmp (ds ++ x ∷ xs)) → find path_cmp x.0 ds ≡ None
not_yet [] x xs s = refl
not_yet (d ∷ ds) x xs s =
    let b = both_true _ _ s in
    ap (λ c. cond c (Some d.1) (find path_cmp x.0 ds)) (greater_differs d.0 x.0 (less_amid d.0 ds x xs b.0)) ∙ not_yet ds x xs b.1

here_found : (ds : List (Path × Told)) (x : Path × Told) (xs : List (Path × Told)) → find path_cmp x.0 ds ≡ None → find path_cmp x.0 (ds ++ x ∷ xs) ≡ Some x.1
here_found [] x xs n = ap (λ b. cond b (Some x.1) (find path_cmp x.0 xs)) (same_path_itself x.0)
here_found (d ∷ ds) x xs n =
    elim (same_path x.0 d.0) as (λ b. cond b (Some d.1) (find path_cmp x.0 ds) ≡ None → cond b (Some d.1) (find path_cmp x.0 (ds ++ x ∷ xs)) ≡ Some x.1) [
      | true ↦ λ k. absurd cc
      | false ↦ λ k. here_found ds x xs k
    ] n

changes_more : (ds : List (Path × Told)) (x : Path × Told) → changes_of ds ++ change_of x ∷ [] ≡ changes_of (ds ++ x ∷ [])
changes_more [] x = refl
changes_more (d ∷ ds) x = ap (λ l. change_of d ∷ l) (changes_more ds x)

-- ---- all of them

module _ (opens : Bool) (m : PathMap) (g : Path → Option Node) (es : List (Path × Told)) (hf : HasFronts (finite.get m)) (hg : HasFronts g) (df : IsDirAt (finite.get m) []) (dg : IsDirAt g []) (h : AreDifferences opens (finite.get m) g es) where
  sorted : (ds xs : List (Path × Told)) → ds ++ xs ≡ es → T (is_sorted path_cmp (ds ++ xs))
  sorted ds xs e = subst (λ l. T (is_sorted path_cmp l)) (sym e) h.in_order

  all_told : ◌≡◌ {A = Path → Option Told} (λ q. find path_cmp q es) (told_at opens (finite.get m) g)
  all_told = λ i q. h.each q i

  part : (ds xs : List (Path × Told)) → ds ++ xs ≡ es → ArePart opens (finite.get m) g ds
  part ds xs e = record {
    in_order = front_sorted ds xs (sorted ds xs e);
    each = λ p t k. sym (h.each p) ∙ ap (find path_cmp p) (sym e) ∙ found_front p ds xs t k;
  }

  told_before : (ds : List (Path × Told)) (x : Path × Told) (xs : List (Path × Told)) → ds ++ x ∷ xs ≡ es → (q : Path) (n : Name) (r : Path) → x.0 ≡ q ++ n ∷ r → find path_cmp q ds ≡ told_at opens (finite.get m) g q
  told_before ds x xs e q n r s =
      sym (found_before q ds (x ∷ xs) (before_first q x xs (ap (path_cmp q) s ∙ before_below q r n) (rest_sorted ds (x ∷ xs) (sorted ds (x ∷ xs) e))))
      ∙ ap (find path_cmp q) e ∙ h.each q

  is_before : (ds : List (Path × Told)) (x : Path × Told) (xs : List (Path × Told)) → ds ++ x ∷ xs ≡ es → IsBefore opens (finite.get m) g x.0 (effect (m ∷ []) (changes_of ds))
  is_before ds x xs e = record {
    fronts = λ q n r s.
        effect_part opens m g ds hf (part ds (x ∷ xs) e) q
        ∙ (λ i. becomes (told_before ds x xs e q n r s i) (cond (goes_same (λ q. find path_cmp q ds) (told_at opens (finite.get m) g) q (λ a b c k. told_before ds x xs e a b (c ++ n ∷ r) (s ∙ ap (λ z. z ++ n ∷ r) k ∙ append_assoc a (b ∷ c) (n ∷ r))) i) None (option_map content (finite.get m q))))
        ∙ sym (ap (λ d. applied d (finite.get m) q) all_told)
        ∙ differences_make opens (finite.get m) g hf hg es h q;
    here =
        effect_part opens m g ds hf (part ds (x ∷ xs) e) x.0
        ∙ (λ i. becomes (not_yet ds x xs (sorted ds (x ∷ xs) e) i) (cond (goes_same (λ q. find path_cmp q ds) (told_at opens (finite.get m) g) x.0 (told_before ds x xs e) i) None (option_map content (finite.get m x.0))));
  }

  told_here : (ds : List (Path × Told)) (x : Path × Told) (xs : List (Path × Told)) → ds ++ x ∷ xs ≡ es → told_at opens (finite.get m) g x.0 ≡ Some x.1
  told_here ds x xs e = sym (h.each x.0) ∙ ap (find path_cmp x.0) (sym e) ∙ here_found ds x xs (not_yet ds x xs (sorted ds (x ∷ xs) e))

  none_after : (ds xs : List (Path × Told)) → ds ++ xs ≡ es → fault_after (m ∷ []) (changes_of ds) (changes_of xs) ≡ None
  none_after ds [] e = refl
  none_after ds (x ∷ xs) e =
      ap (λ o. option_or o (fault_after (m ∷ []) (changes_of ds ++ change_of x ∷ []) (changes_of xs))) (no_fault opens (finite.get m) g hf hg df dg x.0 x.1 (told_here ds x xs e) (m ∷ []) (effect (m ∷ []) (changes_of ds)) (is_before ds x xs e))
      ∙ ap (λ l. fault_after (m ∷ []) l (changes_of xs)) (changes_more ds x)
      ∙ none_after (ds ++ x ∷ []) xs (append_assoc ds (x ∷ []) xs ∙ e)

pub no_fault_between : (opens : Bool) (old new : PathMap) (es : List (Path × Told)) → IsTree old → IsTree new → Between opens old new es → fault (old ∷ []) (changes_of es) ≡ None
no_fault_between opens old new es s t h = none_after opens old (finite.get new) es s.fronts t.fronts s.root t.root h [] es refl
