-- The effect of a set whose changes stand in another order.
use Rattle.std.proofs.Common.{◌≡◌, Bool, true, false, cond, ◌||◌, List, [], ◌∷◌, ◌++◌, length, Option, Some, None, refl, sym, ap, ◌∙◌, append-nil}
use Rattle.std.specs.Option.{option_map, option_map_or, option_and_then}
use Rattle.std.specs.List.{list_any}
use Rattle.std.specs.List.Sorted.{IsPermutation}
use Rattle.std.proofs.lemmas.List.Sorted.{list_any-IsPermutation}
use Rattle.std.proofs.lemmas.List.Elements.{filter-append}
use Rattle.std.proofs.lemmas.List.Folds.{list_any-append}
use Rattle.node_base.specs.Path.{Path, same_path, rest_after}
use Rattle.node_base.proofs.PathLemmas.{path_of_same}
use Rattle.node_base.specs.Tree.{PathMap, numbered, marked, changed_at, grafted, base}
use Rattle.dump_load.specs.declared.change.Change.{Change}
use Rattle.dump_load.specs.Changes.{settles, is_delete, change_at, settling, deepest, governing, IsClear}
use Rattle.dump_load.specs.Effect.{brought, parted, numbers, is_numbered, effect, stepped, arrives, with_parts}
use Rattle.dump_load.specs.Records.{stated_at}
use Rattle.dump_load.proofs.Faultless.{deletes_settle}
use Rattle.dump_load.proofs.OneMore.{effect-modify, effect-settle}

-- the effect asks a set for three things alone
pub effect_asks : (trees : List PathMap) (s t : List Change) (q : Path) → change_at t q ≡ change_at s q → governing t q ≡ governing s q → is_numbered t q ≡ is_numbered s q → effect trees t q ≡ effect trees s q
effect_asks trees s t q at governs counts =
    λ i. option_map (λ x. numbered (length trees) (counts i) (parted (at i) x)) (option_map_or (λ c. option_and_then (brought trees c) (rest_after c.path q)) (governs i) (base trees q))

-- ---- what is stated decides what a set has at a path

abbrev first : List Change → Option Change
first [] = None
first (c ∷ cs) = Some c

at_is_first : (s : List Change) (p : Path) → change_at s p ≡ first (stated_at s p)
at_is_first [] p = refl
at_is_first (c ∷ s) p = elim (same_path c.path p) as (λ b. cond b (Some c) (change_at s p) ≡ first (cond b (c ∷ stated_at s p) (stated_at s p))) [ true ↦ refl | false ↦ at_is_first s p ]

settling_stated : (s : List Change) (p : Path) → stated_at (settling s) p ≡ settling (stated_at s p)
settling_stated [] p = refl
settling_stated (c ∷ s) p =
    elim (settles c.action) as (λ b. settles c.action ≡ b → stated_at (cond b (c ∷ settling s) (settling s)) p ≡ settling (cond (same_path c.path p) (c ∷ stated_at s p) (stated_at s p))) [
      | true ↦ λ e. elim (same_path c.path p) as (λ b. cond b (c ∷ stated_at (settling s) p) (stated_at (settling s) p) ≡ settling (cond b (c ∷ stated_at s p) (stated_at s p))) [
        | true ↦ ap (λ xs. c ∷ xs) (settling_stated s p) ∙ ap (λ b. cond b (c ∷ settling (stated_at s p)) (settling (stated_at s p))) (sym e)
        | false ↦ settling_stated s p
      ]
      | false ↦ λ e. elim (same_path c.path p) as (λ b. stated_at (settling s) p ≡ settling (cond b (c ∷ stated_at s p) (stated_at s p))) [
        | true ↦ settling_stated s p ∙ ap (λ b. cond b (c ∷ settling (stated_at s p)) (settling (stated_at s p))) (sym e)
        | false ↦ settling_stated s p
      ]
    ] refl

none_is_stated : (s : List Change) (p : Path) → change_at s p ≡ None → stated_at s p ≡ []
none_is_stated s p none = at (stated_at s p) (sym (at_is_first s p) ∙ none)
  where
    at : (xs : List Change) → first xs ≡ None → xs ≡ []
    at [] e = refl
    at (c ∷ xs) e = cc

module _ (s t : List Change) (same : (p : Path) → stated_at t p ≡ stated_at s p) where
  at_same : (p : Path) → change_at t p ≡ change_at s p
  at_same p = at_is_first t p ∙ ap first (same p) ∙ sym (at_is_first s p)

  settling_same : ◌≡◌ {A = Path → Option Change} (change_at (settling t)) (change_at (settling s))
  settling_same = λ i p. (at_is_first (settling t) p ∙ ap first (settling_stated t p ∙ ap settling (same p) ∙ sym (settling_stated s p)) ∙ sym (at_is_first (settling s) p)) i

  same_effect : (trees : List PathMap) (q : Path) → list_any (λ c. numbers c q) t ≡ list_any (λ c. numbers c q) s → effect trees t q ≡ effect trees s q
  same_effect trees q counts = effect_asks trees s t q (at_same q) (λ i. deepest (settling_same i) q) (ap (λ b. same_path q [] || b) counts)

-- the same changes in another order, those of one path in theirs
pub effect_permuted : (trees : List PathMap) (s t : List Change) → IsPermutation s t → ((p : Path) → stated_at t p ≡ stated_at s p) → (q : Path) → effect trees t q ≡ effect trees s q
effect_permuted trees s t moved same q = same_effect s t same trees q (sym (list_any-IsPermutation (λ c. numbers c q) s t moved))

-- ---- a change amid others

none_left : (xs ys : List Change) → xs ++ ys ≡ [] → xs ≡ []
none_left [] ys e = refl
none_left (x ∷ xs) ys e = cc

none_right : (xs ys : List Change) → xs ++ ys ≡ [] → ys ≡ []
none_right [] ys e = e
none_right (x ∷ xs) ys e = cc

or_last : (a b c : Bool) → (a || (b || c)) ≡ ((a || c) || (b || false))
or_last true b c = refl
or_last false true true = refl
or_last false true false = refl
or_last false false true = refl
or_last false false false = refl

module _ (front rest : List Change) (c : Change) (none : change_at (front ++ rest) c.path ≡ None) where
  stated_both : (p : Path) → stated_at (front ++ rest) p ≡ stated_at front p ++ stated_at rest p
  stated_both p = filter-append (λ d. same_path d.path p) front rest

  no_more : stated_at front c.path ++ stated_at rest c.path ≡ []
  no_more = sym (stated_both c.path) ∙ none_is_stated (front ++ rest) c.path none

  stated_amid : (p : Path) → stated_at (front ++ c ∷ rest) p ≡ stated_at ((front ++ rest) ++ c ∷ []) p
  stated_amid p =
      filter-append (λ d. same_path d.path p) front (c ∷ rest)
      ∙ elim (same_path c.path p) as (λ b. same_path c.path p ≡ b → stated_at front p ++ cond b (c ∷ stated_at rest p) (stated_at rest p) ≡ stated_at (front ++ rest) p ++ cond b (c ∷ []) []) [
        | true ↦ λ e.
            let is = path_of_same c.path p e in
            let left : stated_at front p ≡ [] = ap (stated_at front) (sym is) ∙ none_left _ _ no_more in
            let right : stated_at rest p ≡ [] = ap (stated_at rest) (sym is) ∙ none_right _ _ no_more in
            (λ i. left i ++ c ∷ right i) ∙ sym (ap (λ xs. xs ++ c ∷ []) (stated_both p ∙ (λ i. left i ++ right i)))
        | false ↦ λ e. sym (append-nil (stated_at (front ++ rest) p) ∙ stated_both p)
      ] refl
      ∙ sym (filter-append (λ d. same_path d.path p) (front ++ rest) (c ∷ []))

  any_amid : (P : Change → Bool) → list_any P (front ++ c ∷ rest) ≡ list_any P ((front ++ rest) ++ c ∷ [])
  any_amid P =
      list_any-append P front (c ∷ rest)
      ∙ or_last (list_any P front) (P c) (list_any P rest)
      ∙ ap (λ b. b || (P c || false)) (sym (list_any-append P front rest))
      ∙ sym (list_any-append P (front ++ rest) (c ∷ []))

  effect_amid : (trees : List PathMap) (q : Path) → effect trees (front ++ c ∷ rest) q ≡ effect trees ((front ++ rest) ++ c ∷ []) q
  effect_amid trees q = same_effect ((front ++ rest) ++ c ∷ []) (front ++ c ∷ rest) stated_amid trees q (any_amid (λ d. numbers d q))

  -- one change more, wherever it stands: what settles its path wants nothing of the others there or below it
  pub effect_one_more : (trees : List PathMap) → (settles c.action ≡ true → IsClear (front ++ rest) c) → (q : Path) → effect trees (front ++ c ∷ rest) q ≡ stepped trees (effect trees (front ++ rest)) c q
  effect_one_more trees clear q =
      effect_amid trees q
      ∙ elim (settles c.action) as (λ b. settles c.action ≡ b → effect trees ((front ++ rest) ++ c ∷ []) q ≡ (cond b (grafted (marked (effect trees (front ++ rest)) c.path (length trees)) c.path (arrives trees c)) (changed_at (marked (effect trees (front ++ rest)) c.path (length trees)) c.path (with_parts c))) q) [
        | true ↦ λ e. effect-settle trees (front ++ rest) c (clear e) e q
        | false ↦ λ e. effect-modify trees (front ++ rest) c none e (no_delete e) q
      ] refl
    where
      no_delete : settles c.action ≡ false → is_delete c.action ≡ false
      no_delete e = at (is_delete c.action) (deletes_settle c.action)
        where
          at : (b : Bool) → (b ≡ true → settles c.action ≡ true) → b ≡ false
          at true f = cc (f refl, e)
          at false f = refl
