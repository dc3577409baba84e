-- A change that gives nothing, where others number its path.
use Rattle.std.proofs.Common.{◌≡◌, Bool, true, false, cond, not, ◌&&◌, ◌||◌, List, [], ◌∷◌, ◌++◌, length, Option, Some, None, is_some, refl, sym, ap, ◌∙◌}
use Rattle.std.specs.Option.{option_map, option_and_then}
use Rattle.std.specs.List.{list_any}
use Rattle.node_base.specs.Path.{Path, same_path, is_front, rest_after}
use Rattle.node_base.proofs.PathLemmas.{same_path_itself, same_path-append, append_of_rest, rest_after-longer}
use Rattle.node_base.specs.Tree.{PathMap, numbered, with_given, marked, changed_at, grafted}
use Rattle.node_base.specs.declared.node.Node.{Node}
use Rattle.dump_load.specs.declared.change.Change.{Change}
use Rattle.dump_load.specs.Changes.{is_delete, change_at, IsBare}
use Rattle.dump_load.specs.Effect.{laid, parted, numbers, is_numbered, effect, arrives, with_parts}
use Rattle.dump_load.proofs.Permuted.{effect_one_more}

first_held : (a b : Bool) → (a && b) ≡ true → a ≡ true
first_held true b e = refl
first_held false b e = e

second_held : (a b : Bool) → (a && b) ≡ true → b ≡ true
second_held true b e = e
second_held false b e = cc

-- who numbers a path numbers its fronts
counts_above : (x : Bool) (d q r : Path) → (is_front (q ++ r) d && not (x && same_path (q ++ r) d)) ≡ true → (is_front q d && not (x && same_path q d)) ≡ true
counts_above x d q r h = at (rest_after q d) refl
  where
    longer : is_some (option_and_then (rest_after r) (rest_after q d)) ≡ true
    longer = ap is_some (sym (rest_after-longer q r d)) ∙ first_held (is_front (q ++ r) d) _ h

    here : (r : Path) → is_some (rest_after r []) ≡ true → not (x && same_path (q ++ r) (q ++ [])) ≡ true → not (x && true) ≡ true
    here [] e k = ap (λ b. not (x && b)) (sym (same_path_itself (q ++ []))) ∙ k
    here (n ∷ r) e k = cc

    and_no : (x : Bool) → not (x && false) ≡ true
    and_no true = refl
    and_no false = refl

    at : (o : Option Path) → rest_after q d ≡ o → (is_some (rest_after q d) && not (x && same_path q d)) ≡ true
    at None e = cc longer
    at (Some []) e =
        let is = append_of_rest q d [] e in
        (λ i. is_some (e i) && not (x && (ap (same_path q) is ∙ same_path-append q []) i))
        ∙ here r (ap (λ o. is_some (option_and_then (rest_after r) o)) (sym e) ∙ longer) (ap (λ z. not (x && same_path (q ++ r) z)) (sym is) ∙ second_held (is_front (q ++ r) d) _ h)
    at (Some (n ∷ t)) e = (λ i. is_some (e i) && not (x && (ap (same_path q) (append_of_rest q d (n ∷ t) e) ∙ same_path-append q (n ∷ t)) i)) ∙ and_no x

numbers_above : (c : Change) (p q : Path) → is_front q p ≡ true → numbers c p ≡ true → numbers c q ≡ true
numbers_above c p q f h = at (rest_after q p) refl f
  where
    at : (o : Option Path) → rest_after q p ≡ o → is_some o ≡ true → numbers c q ≡ true
    at None e f = cc
    at (Some r) e f = counts_above (is_delete c.action) c.path q r (ap (numbers c) (sym (append_of_rest q p r e)) ∙ h)

any_above : (s : List Change) (p q : Path) → is_front q p ≡ true → list_any (λ c. numbers c p) s ≡ true → list_any (λ c. numbers c q) s ≡ true
any_above [] p q f h = cc
any_above (c ∷ s) p q f h =
    elim (numbers c p) as (λ b. numbers c p ≡ b → (b || list_any (λ c. numbers c p) s) ≡ true → (numbers c q || list_any (λ c. numbers c q) s) ≡ true) [
      | true ↦ λ e _. ap (λ b. b || list_any (λ c. numbers c q) s) (numbers_above c p q f e)
      | false ↦ λ _ h. ap (λ b. numbers c q || b) (any_above s p q f h) ∙ or_true (numbers c q)
    ] refl h
  where
    or_true : (a : Bool) → (a || true) ≡ true
    or_true true = refl
    or_true false = refl

root_above : (p q : Path) → is_front q p ≡ true → same_path p [] ≡ true → same_path q [] ≡ true
root_above p [] f e = refl
root_above [] (n ∷ q) f e = cc
root_above (m ∷ p) (n ∷ q) f e = cc

counted_above : (s : List Change) (p q : Path) → is_front q p ≡ true → is_numbered s p ≡ true → is_numbered s q ≡ true
counted_above s p q f h =
    elim (same_path p []) as (λ b. same_path p [] ≡ b → (b || list_any (λ c. numbers c p) s) ≡ true → is_numbered s q ≡ true) [
      | true ↦ λ e _. ap (λ b. b || list_any (λ c. numbers c q) s) (root_above p q f e)
      | false ↦ λ _ h. ap (λ b. same_path q [] || b) (any_above s p q f h) ∙ or_true (same_path q [])
    ] refl h
  where
    or_true : (a : Bool) → (a || true) ≡ true
    or_true true = refl
    or_true false = refl

module _ (trees : List PathMap) (s : List Change) (p : Path) (counted : is_numbered s p ≡ true) where
  marks_nothing : (q : Path) → marked (effect trees s) p (length trees) q ≡ effect trees s q
  marks_nothing q =
      elim (is_front q p) as (λ b. is_front q p ≡ b → option_map (λ x. numbered (length trees) b x) (effect trees s q) ≡ effect trees s q) [
        | true ↦ λ f. twice (laid trees s q) (counted_above s p q f counted)
        | false ↦ λ f. itself (effect trees s q)
      ] refl
    where
      itself : (o : Option Node) → option_map (λ x. x) o ≡ o
      itself None = refl
      itself (Some x) = refl

      twice : (o : Option Node) → is_numbered s q ≡ true
          → option_map (numbered (length trees) true) (option_map (λ x. numbered (length trees) (is_numbered s q) (parted (change_at s q) x)) o) ≡ option_map (λ x. numbered (length trees) (is_numbered s q) (parted (change_at s q) x)) o
      twice None e = refl
      twice (Some x) e = ap (λ b. Some (numbered (length trees) true (numbered (length trees) b (parted (change_at s q) x)))) e ∙ ap (λ b. Some (numbered (length trees) b (parted (change_at s q) x))) (sym e)

module _ (trees : List PathMap) (front rest : List Change) (c : Change) (bare : IsBare c) (none : change_at (front ++ rest) c.path ≡ None) (counted : is_numbered (front ++ rest) c.path ≡ true) where
  pub effect_bare : (q : Path) → effect trees (front ++ c ∷ rest) q ≡ effect trees (front ++ rest) q
  effect_bare q =
      let f : Path → Option Node = marked (effect trees (front ++ rest)) c.path (length trees) in
      effect_one_more front rest c none trees (λ e. cc (e, bare.stays)) q
      ∙ (λ i. cond {A = Path → Option Node} (bare.stays i) (grafted f c.path (arrives trees c)) (changed_at f c.path (with_parts c)) q)
      ∙ (λ i. option_map (λ x. cond (same_path c.path q) (with_given (bare.text i) (bare.props i) x) x) (f q))
      ∙ same (same_path c.path q) (f q)
      ∙ marks_nothing trees (front ++ rest) c.path counted q
    where
      same : (b : Bool) (o : Option Node) → option_map (λ x. cond b (with_given None None x) x) o ≡ o
      same b None = refl
      same true (Some x) = refl
      same false (Some x) = refl

-- a path is numbered where something below it changes
pub counted_from_below : (s : List Change) (p : Path) → list_any (λ c. is_front p c.path && not (same_path p c.path)) s ≡ true → is_numbered s p ≡ true
counted_from_below s p h = ap (λ b. same_path p [] || b) (any s h) ∙ or_true (same_path p [])
  where
    or_true : (a : Bool) → (a || true) ≡ true
    or_true true = refl
    or_true false = refl

    spared : (a b x : Bool) → (a && not b) ≡ true → (a && not (x && b)) ≡ true
    spared a b true h = h
    spared true b false h = refl
    spared false b false h = h

    any : (s : List Change) → list_any (λ c. is_front p c.path && not (same_path p c.path)) s ≡ true → list_any (λ c. numbers c p) s ≡ true
    any [] h = cc
    any (c ∷ s) h =
        elim (is_front p c.path && not (same_path p c.path)) as (λ b. (is_front p c.path && not (same_path p c.path)) ≡ b → (b || list_any (λ c. is_front p c.path && not (same_path p c.path)) s) ≡ true → (numbers c p || list_any (λ c. numbers c p) s) ≡ true) [
          | true ↦ λ e _. ap (λ b. b || list_any (λ c. numbers c p) s) (spared (is_front p c.path) (same_path p c.path) (is_delete c.action) e)
          | false ↦ λ _ h. ap (λ b. numbers c p || b) (any s h) ∙ or_true (numbers c p)
        ] refl h
