-- What is stated says the same in whatever order it comes, as long as the changes of one path keep theirs.
use Rattle.std.proofs.Common.{◌≡◌, ◌+◌, Bool, true, false, cond, not, ◌&&◌, ◌||◌, List, [], ◌∷◌, ◌++◌, map, Option, Some, None, is_some, refl, sym, ap, subst, ◌∙◌, append-nil}
use Rattle.std.specs.Option.{is_none, option_map, option_map_or, option_or}
use Rattle.std.specs.List.{list_any}
use Rattle.std.specs.List.Sorted.{IsPermutation}
use Rattle.std.proofs.lemmas.List.Sorted.{list_any-IsPermutation}
use Rattle.std.proofs.lemmas.List.Folds.{list_any-append}
use Rattle.std.specs.FinMap as finite
use Rattle.node_base.specs.Path.{Path, path_cmp, paths_total, paths_exact, same_path, is_front}
use Rattle.node_base.proofs.PathLemmas.{same_path_itself}
use Rattle.node_base.specs.Tree.{PathMap}
use Rattle.dump_load.specs.declared.change.Change.{Change}
use Rattle.dump_load.specs.Changes.{is_delete, change_at, IsInOrder}
use Rattle.dump_load.specs.Deltas.{Deltas}
use Rattle.dump_load.specs.Records.{stated_at, combined, stated, Combined, paths_named, is_under, is_out_of_order, is_unsaid, leaves_unsaid, filled_in, earlier, IsSetOf}
use Rattle.dump_load.proofs.OneMore.{change_at-after}
use Rattle.dump_load.proofs.Combining.{order_follows, any_named, none_any}

module _ (cs ys : List Change) (moved : IsPermutation cs ys) (same : (p : Path) → stated_at ys p ≡ stated_at cs p) where
  same_stated : ◌≡◌ {A = Path → Option Change} (stated ys) (stated cs)
  same_stated = λ i p. combined (same p i)

  any_moved : (P : Change → Bool) → list_any P ys ≡ list_any P cs
  any_moved P = sym (list_any-IsPermutation P cs ys moved)

  under_moved : ◌≡◌ {A = Change → Bool} (is_under ys) (is_under cs)
  under_moved = λ i c.
      ((λ j. list_any (λ d. is_front d.path c.path && not (same_path d.path c.path) && option_map_or (λ e. is_delete e.action) (same_stated j d.path) false) ys)
      ∙ any_moved (λ d. is_front d.path c.path && not (same_path d.path c.path) && option_map_or (λ e. is_delete e.action) (stated cs d.path) false)) i

  pub order_moved : is_out_of_order ys ≡ is_out_of_order cs
  order_moved =
      (λ j. list_any (λ c. is_none (same_stated j c.path) || under_moved j c) ys)
      ∙ any_moved (λ c. is_none (stated cs c.path) || is_under cs c)

  pub kind_moved : leaves_unsaid ys ≡ leaves_unsaid cs
  kind_moved = (λ j. list_any (λ c. option_map_or is_unsaid (same_stated j c.path) false) ys) ∙ any_moved (λ c. option_map_or is_unsaid (stated cs c.path) false)

  pub set_moved : (trees : List PathMap) (ds : Deltas) (s : List Change) → IsSetOf trees ds ys s → IsSetOf trees ds cs s
  set_moved trees ds s h = record { normal = h.normal; changes = λ p. h.changes p ∙ ap (option_map (filled_in trees ds (earlier s p))) (λ i. same_stated i p) }

-- ---- the paths that are named

pub named_at : (cs : List Change) (q : Path) → finite.get (finite.from_entries {R = path_cmp} (map (λ c. (c.path, true)) cs)) q ≡ cond (list_any (λ c. same_path q c.path) cs) (Some true) None
named_at [] q = finite.get-empty path_cmp q
named_at (c ∷ cs) q =
    finite.get-insert paths_total (finite.from_entries (map (λ c. (c.path, true)) cs)) c.path true q
    ∙ ap (cond (same_path q c.path) (Some true)) (named_at cs q)
    ∙ elim (same_path q c.path) as (λ b. cond b (Some true) (cond (list_any (λ c. same_path q c.path) cs) (Some true) None) ≡ cond (b || list_any (λ c. same_path q c.path) cs) (Some true) None) [ true ↦ refl | false ↦ refl ]

pub paths_moved : (cs ys : List Change) → IsPermutation cs ys → paths_named ys ≡ paths_named cs
paths_moved cs ys moved =
    ap finite.len
    (finite.same_map paths_total paths_exact (finite.from_entries {R = path_cmp} (map (λ c. (c.path, true)) ys)) (finite.from_entries {R = path_cmp} (map (λ c. (c.path, true)) cs))
    (λ q. named_at ys q ∙ ap (λ b. cond b (Some true) None) (sym (list_any-IsPermutation (λ c. same_path q c.path) cs ys moved)) ∙ sym (named_at cs q)))

-- one change more names a path more, unless the path is named already
pub paths_more : (cs : List Change) (c : Change) → paths_named (cs ++ c ∷ []) ≡ cond (list_any (λ d. same_path c.path d.path) cs) (paths_named cs) (paths_named cs + 1)
paths_more cs c =
    ap finite.len
    (finite.same_map paths_total paths_exact (finite.from_entries {R = path_cmp} (map (λ c. (c.path, true)) (cs ++ c ∷ []))) (finite.insert (finite.from_entries {R = path_cmp} (map (λ c. (c.path, true)) cs)) c.path true)
    (λ q. named_at (cs ++ c ∷ []) q
    ∙ ap (λ b. cond b (Some true) None) (list_any-append (λ d. same_path q d.path) cs (c ∷ []))
    ∙ either (list_any (λ d. same_path q d.path) cs) (same_path q c.path)
    ∙ ap (cond (same_path q c.path) (Some true)) (sym (named_at cs q))
    ∙ sym (finite.get-insert paths_total (finite.from_entries (map (λ c. (c.path, true)) cs)) c.path true q)))
    ∙ finite.len-insert paths_total (finite.from_entries {R = path_cmp} (map (λ c. (c.path, true)) cs)) c.path true
    ∙ ap (λ b. cond b (paths_named cs) (paths_named cs + 1)) (ap is_some (named_at cs c.path) ∙ there (list_any (λ d. same_path c.path d.path) cs))
  where
    either : (a b : Bool) → cond (a || (b || false)) (Some true) None ≡ cond b (Some true) (cond a (Some true) None)
    either true true = refl
    either true false = refl
    either false true = refl
    either false false = refl

    there : (b : Bool) → is_some (cond b (Some true) None) ≡ b
    there true = refl
    there false = refl

-- ---- a set that says what it adds

change_at-append : (s t : List Change) (p : Path) → change_at (s ++ t) p ≡ option_or (change_at s p) (change_at t p)
change_at-append [] t p = refl
change_at-append (c ∷ s) t p = elim (same_path c.path p) as (λ b. cond b (Some c) (change_at (s ++ t) p) ≡ option_or (cond b (Some c) (change_at s p)) (change_at t p)) [ true ↦ refl | false ↦ change_at-append s t p ]

pub at_own_path : (front rest : List Change) (c : Change) → IsInOrder (front ++ c ∷ rest) → change_at (front ++ c ∷ rest) c.path ≡ Some c
at_own_path front rest c h =
    change_at-append front (c ∷ rest) c.path
    ∙ ap (λ o. option_or o (change_at (c ∷ rest) c.path)) (ap (change_at front) (sym (append-nil c.path)) ∙ change_at-after c front (order_follows front rest c h) [])
    ∙ ap (λ b. cond b (Some c) (change_at rest c.path)) (same_path_itself c.path)

pub none_at : (P : Change → Bool) (s : List Change) (p : Path) → list_any P s ≡ false → option_map_or P (change_at s p) false ≡ false
none_at P [] p h = refl
none_at P (c ∷ s) p h =
    elim (P c) as (λ b. P c ≡ b → (b || list_any P s) ≡ false → option_map_or P (cond (same_path c.path p) (Some c) (change_at s p)) false ≡ false) [
      | true ↦ λ _ h. cc
      | false ↦ λ e h. elim (same_path c.path p) as (λ b. option_map_or P (cond b (Some c) (change_at s p)) false ≡ false) [ true ↦ e | false ↦ none_at P s p h ]
    ] refl h

-- some change is such a one just where one is that is stated
pub kinds_lack : (cs out : List Change) → Combined cs out → leaves_unsaid cs ≡ list_any is_unsaid out
kinds_lack cs out w = alike (leaves_unsaid cs) (list_any is_unsaid out) forward back
  where
    alike : (a b : Bool) → (b ≡ false → a ≡ false) → (a ≡ false → b ≡ false) → a ≡ b
    alike true true f g = refl
    alike true false f g = f refl
    alike false true f g = sym (g refl)
    alike false false f g = refl

    forward : list_any is_unsaid out ≡ false → leaves_unsaid cs ≡ false
    forward none = none_any (λ c. option_map_or is_unsaid (stated cs c.path) false) cs (λ f r c e. ap (λ o. option_map_or is_unsaid o false) (sym (w.changes c.path)) ∙ none_at is_unsaid out c.path none)

    back : leaves_unsaid cs ≡ false → list_any is_unsaid out ≡ false
    back none = none_any is_unsaid out (λ f r c e. at f r c e (is_unsaid c) refl)
      where
        at : (f r : List Change) (c : Change) → out ≡ f ++ c ∷ r → (b : Bool) → is_unsaid c ≡ b → is_unsaid c ≡ false
        at f r c e false k = k
        at f r c e true k =
            let here : stated cs c.path ≡ Some c = sym (w.changes c.path) ∙ ap (λ s. change_at s c.path) e ∙ at_own_path f r c (subst IsInOrder e w.order) in
            let some : stated_at cs c.path ≡ [] → ⊥ = λ z. cc (ap combined z, here) in
            cc (any_named (λ p. option_map_or is_unsaid (stated cs p) false) cs [] c.path some (ap (λ o. option_map_or is_unsaid o false) here ∙ k), ap (list_any (λ d. option_map_or is_unsaid (stated cs d.path) false)) (append-nil cs), none)
