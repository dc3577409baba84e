-- Differences make the one tree of the other.
use Rattle.std.proofs.Common.{◌≡◌, Bool, true, false, cond, not, ◌&&◌, ◌||◌, List, [], ◌∷◌, Option, Some, None, IsSome, IsNone, IsSomeAnd, is_some, is_none, refl, sym, ap, subst, ◌∙◌, true≢false}
use Rattle.std.specs.Option.{option_map, option_map_or}
use Rattle.std.specs.FinMap.{find}
use Rattle.node_base.specs.Path.{Name, Path, path_cmp}
use Rattle.node_base.specs.declared.node.Node.{Node}
use Rattle.node_base.specs.declared.fault.TreeFault.TheVariants.{NoSuchPath, NotDir}
use Rattle.node_base.specs.Tree.{HasFronts, blocked}
use Rattle.path_tree.proofs.Fronts.{fronts_all}
use Rattle.tree_reports.specs.declared.difference.Parts.{Parts}
use Rattle.tree_reports.specs.Applied.{Content, content, takes_below, goes_with, becomes, applied, Make}
use Rattle.tree_reports.specs.Differences.{Told, Removed, Replaced, Changed, is_same_text, are_same_props, parts_of, told_same_kind, are_other_kinds, told_both, told, told_at, AreDifferences}
use Rattle.tree_reports.proofs.SameParts.{text_of_same, props_of_same}

or_right : (a b : Bool) → b ≡ true → (a || b) ≡ true
or_right true b e = refl
or_right false b e = e

or_false : (a b : Bool) → a ≡ false → b ≡ false → (a || b) ≡ false
or_false a b p q = cc

not_some : (o : Option Name) → IsNone o → is_some o ≡ false
not_some None h = refl
not_some (Some t) h = cc

there : {A : Type 0} (o : Option A) (x : A) → o ≡ Some x → IsSome o
there o x e = subst IsSome (sym e) refl

-- a node of the same kind leaves what is below it
same_kind_stays : (opens : Bool) (y : Node) (d : Parts) → takes_below (told_same_kind opens y d) ≡ false
same_kind_stays opens y d = elim (d.props || d.text || (opens && is_none y.text)) as (λ b. takes_below (cond b (Some (Changed y d)) None) ≡ false) [ true ↦ refl | false ↦ refl ]

dirs_stay : (opens : Bool) (x y : Node) → IsNone x.text → IsNone y.text → takes_below (told_both opens x y) ≡ false
dirs_stay opens x y p q =
    (λ i. takes_below (cond (are_other_kinds (not_some x.text p i) (not_some y.text q i)) (Some (Replaced y)) (told_same_kind opens y (parts_of x y))))
    ∙ same_kind_stays opens y (parts_of x y)

-- where something above a path is no directory any more, something above it is told to go
goes_above : (opens : Bool) (f g : Path → Option Node) → HasFronts f → (p : Path) → IsSome (f p) → is_some (blocked g p) ≡ true → goes_with (told_at opens f g) p ≡ true
goes_above opens f g hf [] some = λ e. absurd (true≢false (sym e))
goes_above opens f g hf (n ∷ p) some =
    elim (f []) as (λ u. IsSomeAnd u (λ x. IsNone x.text) → is_some (blocked g (n ∷ p)) ≡ true → (takes_below (told opens u (g []) false) || goes_with (λ q. told_at opens f g (n ∷ q)) p) ≡ true) [
      | None ↦ λ d. absurd d
      | Some x ↦ λ d. elim (g []) as (λ o. is_some (option_map_or (λ y. cond (is_some y.text) (Some NotDir) (blocked (λ q. g (n ∷ q)) p)) o (Some NoSuchPath)) ≡ true
          → (takes_below (told opens (Some x) o false) || goes_with (λ q. told opens (f (n ∷ q)) (g (n ∷ q)) (is_some (option_map_or (λ y. cond (is_some y.text) (Some NotDir) (blocked (λ r. g (n ∷ r)) q)) o (Some NoSuchPath)))) p) ≡ true) [
            | None ↦ λ e. refl
            | Some y ↦ elim (is_some y.text) as (λ b. is_some (cond b (Some NotDir) (blocked (λ q. g (n ∷ q)) p)) ≡ true
                → (takes_below (cond (are_other_kinds (is_some x.text) b) (Some (Replaced y)) (told_same_kind opens y (parts_of x y))) || goes_with (λ q. told opens (f (n ∷ q)) (g (n ∷ q)) (is_some (cond b (Some NotDir) (blocked (λ r. g (n ∷ r)) q)))) p) ≡ true) [
                  | true ↦ λ e. rw (not_some x.text d) refl
                  | false ↦ λ e. or_right _ _ (goes_above opens (λ q. f (n ∷ q)) (λ q. g (n ∷ q)) (λ q m. hf (n ∷ q) m) p some e)
                ]
          ]
    ] (fronts_all f hf [] n p some)

-- above a path that is in both trees nothing is told to go
stays_above : (opens : Bool) (f g : Path → Option Node) → HasFronts f → HasFronts g → (p : Path) → IsSome (f p) → IsSome (g p) → goes_with (told_at opens f g) p ≡ false
stays_above opens f g hf hg [] s t = refl
stays_above opens f g hf hg (n ∷ p) s t =
    elim (f []) as (λ u. IsSomeAnd u (λ x. IsNone x.text) → (takes_below (told opens u (g []) false) || goes_with (λ q. told_at opens f g (n ∷ q)) p) ≡ false) [
      | None ↦ λ d. absurd d
      | Some x ↦ λ d. elim (g []) as (λ o. IsSomeAnd o (λ y. IsNone y.text)
          → (takes_below (told opens (Some x) o false) || goes_with (λ q. told opens (f (n ∷ q)) (g (n ∷ q)) (is_some (option_map_or (λ y. cond (is_some y.text) (Some NotDir) (blocked (λ r. g (n ∷ r)) q)) o (Some NoSuchPath)))) p) ≡ false) [
            | None ↦ λ e. absurd e
            | Some y ↦ λ e. or_false _ _ (dirs_stay opens x y d e)
                (subst (λ b. goes_with (λ q. told opens (f (n ∷ q)) (g (n ∷ q)) (is_some (cond b (Some NotDir) (blocked (λ r. g (n ∷ r)) q)))) p ≡ false) (sym (not_some y.text e))
                (stays_above opens (λ q. f (n ∷ q)) (λ q. g (n ∷ q)) (λ q m. hf (n ∷ q) m) (λ q m. hg (n ∷ q) m) p s t))
          ] (fronts_all g hg [] n p t)
    ] (fronts_all f hf [] n p s)

-- a node with the parts that differ
same_kind : (opens : Bool) (x y : Node) (a b : Bool) → (a ≡ true → x.props ≡ y.props) → (b ≡ true → x.text ≡ y.text) → becomes (told_same_kind opens y (record { props = not a; text = not b })) (Some (content x)) ≡ Some (content y)
same_kind opens x y true true p t = alike (opens && is_none y.text) ∙ (λ i. Some (record { text = t refl i; props = p refl i }))
  where
    alike : (b : Bool) → becomes (cond b (Some (Changed y (record { props = false; text = false }))) None) (Some (content x)) ≡ Some (content x)
    alike true = refl
    alike false = refl
same_kind opens x y true false p t = λ i. Some (record { text = y.text; props = p refl i })
same_kind opens x y false true p t = λ i. Some (record { text = t refl i; props = y.props })
same_kind opens x y false false p t = refl

both_there : (opens : Bool) (x y : Node) → becomes (told_both opens x y) (Some (content x)) ≡ Some (content y)
both_there opens x y = elim (are_other_kinds (is_some x.text) (is_some y.text)) as (λ k. becomes (cond k (Some (Replaced y)) (told_same_kind opens y (parts_of x y))) (Some (content x)) ≡ Some (content y)) [
  | true ↦ refl
  | false ↦ same_kind opens x y (are_same_props x.props y.props) (is_same_text x.text y.text) (props_of_same x.props y.props) (text_of_same x.text y.text)
]

none_either : (b : Bool) → ◌≡◌ {A = Option Content} (cond b None None) None
none_either true = refl
none_either false = refl

applies : (opens : Bool) (f g : Path → Option Node) → HasFronts f → HasFronts g → (p : Path) → applied (told_at opens f g) f p ≡ option_map content (g p)
applies opens f g hf hg p =
    elim (f p) as (λ o. f p ≡ o → becomes (told opens o (g p) (is_some (blocked g p))) (cond (goes_with (told_at opens f g) p) None (option_map content o)) ≡ option_map content (g p)) [
      | None ↦ λ _. elim (g p) as (λ u. becomes (told opens None u (is_some (blocked g p))) (cond (goes_with (told_at opens f g) p) None None) ≡ option_map content u) [
        | None ↦ none_either (goes_with (told_at opens f g) p)
        | Some y ↦ refl
      ]
      | Some x ↦ λ is. elim (g p) as (λ u. g p ≡ u → becomes (told opens (Some x) u (is_some (blocked g p))) (cond (goes_with (told_at opens f g) p) None (Some (content x))) ≡ option_map content u) [
        | None ↦ λ _. elim (is_some (blocked g p)) as (λ b. is_some (blocked g p) ≡ b → becomes (cond b None (Some Removed)) (cond (goes_with (told_at opens f g) p) None (Some (content x))) ≡ None) [
          | true ↦ λ b. ap (λ h. cond h None (Some (content x))) (goes_above opens f g hf p (there (f p) x is) b)
          | false ↦ λ _. refl
        ] refl
        | Some y ↦ λ new. ap (λ h. becomes (told_both opens x y) (cond h None (Some (content x)))) (stays_above opens f g hf hg p (there (f p) x is) (there (g p) y new)) ∙ both_there opens x y
      ] refl
    ] refl

pub differences_make : (opens : Bool) (f g : Path → Option Node) → HasFronts f → HasFronts g → (es : List (Path × Told)) → AreDifferences opens f g es → Make es f g
differences_make opens f g hf hg es h p =
    let same : ◌≡◌ {A = Path → Option Told} (λ q. find path_cmp q es) (told_at opens f g) = λ i q. h.each q i in
    ap (λ d. applied d f p) same ∙ applies opens f g hf hg p
