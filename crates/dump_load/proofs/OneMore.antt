-- What one more change does to the effect of a set.
use Rattle.std.proofs.Common.{◌≡◌, ℕ, Bool, true, false, cond, not, ◌&&◌, ◌||◌, List, [], ◌∷◌, ◌++◌, length, Option, Some, None, is_some, refl, sym, ap, ◌∙◌, append-nil}
use Rattle.std.specs.Option.{option_or, option_map, option_map_or, option_and_then}
use Rattle.std.specs.List.{list_any}
use Rattle.node_base.specs.Path.{Name, Path, same_name, same_path, is_front, rest_after}
use Rattle.node_base.proofs.PathLemmas.{same_path-cons, later_is_no_front, longer_is_no_front, rest_after-longer, differs_of_no_rest, same_path_back, same_path-append, rest_after-append, append_of_rest, path_of_same, name_of_same}
use Rattle.node_base.specs.declared.node.Node.{Node}
use Rattle.node_base.specs.Tree.{PathMap, numbered, marked, changed_at, grafted, blank, alone, source_at, base}
use Rattle.dump_load.specs.declared.change.Change.{Change}
use Rattle.dump_load.specs.Changes.{settles, is_delete, change_at, settling, deepest, governing, IsClear, Follows}
use Rattle.dump_load.specs.Effect.{arrives, stepped, brought, laid, with_parts, parted, numbers, is_numbered, effect}

-- ---- the longest front

pub deepest-none : {A : Type 0} (f : Path → Option A) → ((p : Path) → f p ≡ None) → (q : Path) → deepest f q ≡ None
deepest-none f h [] = h []
deepest-none f h (n ∷ q) = ap (λ o. option_or o (f [])) (deepest-none (λ p. f (n ∷ p)) (λ p. h (n ∷ p)) q) ∙ h []

-- f with x at p
abbrev put_at : {A : Type 0} → (Path → Option A) → Path → A → Path → Option A
put_at f p x q = cond (same_path p q) (Some x) (f q)

deepest-put : {A : Type 0} (f : Path → Option A) (p : Path) (x : A) → ((n : Name) (r : Path) → f (p ++ n ∷ r) ≡ None) → (q : Path) → deepest (put_at f p x) q ≡ option_map_or (λ _. Some x) (rest_after p q) (deepest f q)
deepest-put f [] x none [] = refl
deepest-put f [] x none (n ∷ q) = ap (λ o. option_or o (Some x)) (deepest-none (λ p. f (n ∷ p)) (λ p. none n p) q)
deepest-put f (m ∷ p) x none [] = refl
deepest-put {A} f (m ∷ p) x none (n ∷ q) =
    let tail : (r : Path) → put_at f (m ∷ p) x (n ∷ r) ≡ cond (same_name m n && same_path p r) (Some x) (f (n ∷ r)) = λ r. ap (λ b. cond b (Some x) (f (n ∷ r))) (same_path-cons m p n r) in
    ap (λ (g : Path → Option A). option_or (deepest g q) (f [])) (λ i r. tail r i)
    ∙ elim (same_name m n) as (λ b. same_name m n ≡ b → option_or (deepest (λ r. cond (b && same_path p r) (Some x) (f (n ∷ r))) q) (f []) ≡ option_map_or (λ _. Some x) (cond b (rest_after p q) None) (option_or (deepest (λ r. f (n ∷ r)) q) (f []))) [
      | true ↦ λ e.
          let same = name_of_same m n e in
          ap (λ o. option_or o (f [])) (deepest-put (λ r. f (n ∷ r)) p x (λ l r. ap (λ z. f (z ∷ (p ++ l ∷ r))) (sym same) ∙ none l r) q)
          ∙ elim (rest_after p q) as (λ o. option_or (option_map_or (λ _. Some x) o (deepest (λ r. f (n ∷ r)) q)) (f []) ≡ option_map_or (λ _. Some x) o (option_or (deepest (λ r. f (n ∷ r)) q) (f []))) [ None ↦ refl | Some r ↦ refl ]
      | false ↦ λ e. refl
    ] refl

-- ---- a change with nothing at its path or below

pub clear_of_follows : (s : List Change) (c : Change) → Follows s c → IsClear s c
clear_of_follows [] c h = tt
clear_of_follows (d ∷ s) c h = (later_is_no_front c.path d.path h.0.rises, clear_of_follows s c h.1)

pub change_at-append : (s t : List Change) (p : Path) → change_at (s ++ t) p ≡ option_or (change_at s p) (change_at t p)
change_at-append [] t p = refl
change_at-append (c ∷ s) t p = elim (same_path c.path p) as (λ b. cond b (Some c) (change_at (s ++ t) p) ≡ option_or (cond b (Some c) (change_at s p)) (change_at t p)) [ true ↦ refl | false ↦ change_at-append s t p ]

module _ (c : Change) where
  pub change_at-clear : (s : List Change) → IsClear s c → (r : Path) → change_at s (c.path ++ r) ≡ None
  change_at-clear [] h r = refl
  change_at-clear (d ∷ s) h r =
      ap (λ b. cond b (Some d) (change_at s (c.path ++ r))) (same_path_back d.path (c.path ++ r) ∙ differs_of_no_rest (c.path ++ r) d.path (longer_is_no_front c.path r d.path h.0))
      ∙ change_at-clear s h.1 r

  pub change_at-after : (s : List Change) → Follows s c → (r : Path) → change_at s (c.path ++ r) ≡ None
  change_at-after s h r = change_at-clear s (clear_of_follows s c h) r

  clear_settling : (s : List Change) → IsClear s c → IsClear (settling s) c
  clear_settling [] h = tt
  clear_settling (d ∷ s) h = elim (settles d.action) as (λ b. IsClear (cond b (d ∷ settling s) (settling s)) c) [ true ↦ (h.0, clear_settling s h.1) | false ↦ clear_settling s h.1 ]

  numbers-clear : (s : List Change) → IsClear s c → (r : Path) → list_any (λ d. numbers d (c.path ++ r)) s ≡ false
  numbers-clear [] h r = refl
  numbers-clear (d ∷ s) h r =
      ap (λ o. (is_some o && not (is_delete d.action && same_path (c.path ++ r) d.path)) || list_any (λ d. numbers d (c.path ++ r)) s) (longer_is_no_front c.path r d.path h.0)
      ∙ numbers-clear s h.1 r

  none_here : (s : List Change) → IsClear s c → change_at s c.path ≡ None
  none_here s h = ap (change_at s) (sym (append-nil c.path)) ∙ change_at-clear s h []

  -- the change itself, where there is none at its path before
  pub change_at-more : (s : List Change) → change_at s c.path ≡ None → (q : Path) → change_at (s ++ c ∷ []) q ≡ cond (same_path c.path q) (Some c) (change_at s q)
  change_at-more s none q =
      change_at-append s (c ∷ []) q
      ∙ elim (same_path c.path q) as (λ b. same_path c.path q ≡ b → option_or (change_at s q) (cond b (Some c) None) ≡ cond b (Some c) (change_at s q)) [
        | true ↦ λ e. ap (λ o. option_or o (Some c)) (ap (change_at s) (sym (path_of_same c.path q e)) ∙ none)
        | false ↦ λ e. or_nothing (change_at s q)
      ] refl
    where
      or_nothing : (o : Option Change) → option_or o None ≡ o
      or_nothing None = refl
      or_nothing (Some x) = refl

  pub change_at-end : (s : List Change) → Follows s c → (q : Path) → change_at (s ++ c ∷ []) q ≡ cond (same_path c.path q) (Some c) (change_at s q)
  change_at-end s h q = change_at-more s (none_here s (clear_of_follows s c h)) q

  pub settling-end : (s : List Change) → settling (s ++ c ∷ []) ≡ settling s ++ cond (settles c.action) (c ∷ []) []
  settling-end [] = refl
  settling-end (d ∷ s) = elim (settles d.action) as (λ b. cond b (d ∷ settling (s ++ c ∷ [])) (settling (s ++ c ∷ [])) ≡ cond b (d ∷ settling s) (settling s) ++ cond (settles c.action) (c ∷ []) []) [ true ↦ ap (λ z. d ∷ z) (settling-end s) | false ↦ settling-end s ]

  pub numbers-end : (s : List Change) (q : Path) → list_any (λ d. numbers d q) (s ++ c ∷ []) ≡ (list_any (λ d. numbers d q) s || numbers c q)
  numbers-end [] q = elim (numbers c q) as (λ b. (b || false) ≡ (false || b)) [ true ↦ refl | false ↦ refl ]
  numbers-end (d ∷ s) q = elim (numbers d q) as (λ b. (b || list_any (λ d. numbers d q) (s ++ c ∷ [])) ≡ ((b || list_any (λ d. numbers d q) s) || numbers c q)) [ true ↦ refl | false ↦ numbers-end s q ]

-- ---- the effect of one change more

or_true : (a : Bool) → (a || true) ≡ true
or_true true = refl
or_true false = refl

rest_itself : (p : Path) → rest_after p p ≡ Some []
rest_itself p = ap (rest_after p) (sym (append-nil p)) ∙ rest_after-append p []

not_root : (p : Path) (l : Name) (r : Path) → same_path (p ++ l ∷ r) [] ≡ false
not_root [] l r = refl
not_root (n ∷ p) l r = refl

-- the parts and the number that a set puts
abbrev pub dressed : ℕ → Bool → Option Change → Node → Node
dressed n b c x = numbered n b (parted c x)

numbered-with_parts : (n : ℕ) (b : Bool) (c : Change) (x : Node) → numbered n b (with_parts c x) ≡ with_parts c (numbered n b x)
numbered-with_parts n true c x = refl
numbered-with_parts n false c x = refl

or_assoc : (a b d : Bool) → (a || (b || d)) ≡ ((a || b) || d)
or_assoc true b d = refl
or_assoc false b d = refl

and_not : (a b : Bool) → b ≡ false → (a && not b) ≡ a
and_not a b e = ap (λ b. a && not b) e ∙ elim a as (λ a. (a && true) ≡ a) [ true ↦ refl | false ↦ refl ]

and_false : (a b : Bool) → b ≡ false → (a && b) ≡ false
and_false a b e = ap (λ b. a && b) e ∙ elim a as (λ a. (a && false) ≡ false) [ true ↦ refl | false ↦ refl ]

numbered-twice : (n : ℕ) (a b : Bool) (x : Node) → numbered n (a || b) x ≡ numbered n b (numbered n a x)
numbered-twice n true true x = refl
numbered-twice n true false x = refl
numbered-twice n false b x = refl

module _ (trees : List PathMap) (s : List Change) (c : Change) where
  -- where it settles nothing
  governing-modify : settles c.action ≡ false → (q : Path) → governing (s ++ c ∷ []) q ≡ governing s q
  governing-modify m q = ap (λ z. deepest (change_at z) q) (settling-end c s ∙ ap (λ b. settling s ++ cond b (c ∷ []) []) m ∙ append-nil (settling s))

  is_numbered-end : (q : Path) → is_numbered (s ++ c ∷ []) q ≡ (is_numbered s q || numbers c q)
  is_numbered-end q = ap (λ b. same_path q [] || b) (numbers-end c s q) ∙ or_assoc (same_path q []) (list_any (λ d. numbers d q) s) (numbers c q)

  -- a change of a node that stays
  -- (none of the set has its path)
  pub effect-modify : change_at s c.path ≡ None → settles c.action ≡ false → is_delete c.action ≡ false → (q : Path) → effect trees (s ++ c ∷ []) q ≡ changed_at (marked (effect trees s) c.path (length trees)) c.path (with_parts c) q
  effect-modify free m nd q =
      ap (λ g. option_map (dressed n (is_numbered (s ++ c ∷ []) q) (change_at (s ++ c ∷ []) q)) (option_map_or (λ c. option_and_then (brought trees c) (rest_after c.path q)) g (base trees q))) (governing-modify m q)
      ∙ elim (laid trees s q) as (λ o. option_map (dressed n (is_numbered (s ++ c ∷ []) q) (change_at (s ++ c ∷ []) q)) o ≡ option_map (λ x. cond (same_path c.path q) (with_parts c x) x) (option_map (numbered n (is_front q c.path)) (option_map (dressed n (is_numbered s q) (change_at s q)) o))) [
        | None ↦ refl
        | Some x ↦ ap Some (node_is x)
      ]
    where
      n : ℕ
      n = length trees

      number_is : is_numbered (s ++ c ∷ []) q ≡ (is_numbered s q || is_front q c.path)
      number_is = is_numbered-end q ∙ ap (λ b. is_numbered s q || b) (and_not (is_front q c.path) (is_delete c.action && same_path q c.path) (ap (λ b. b && same_path q c.path) nd))

      node_is : (x : Node) → dressed n (is_numbered (s ++ c ∷ []) q) (change_at (s ++ c ∷ []) q) x ≡ cond (same_path c.path q) (with_parts c (numbered n (is_front q c.path) (dressed n (is_numbered s q) (change_at s q) x))) (numbered n (is_front q c.path) (dressed n (is_numbered s q) (change_at s q) x))
      node_is x =
          (λ i. dressed n (number_is i) (change_at-more c s free q i) x)
          ∙ elim (same_path c.path q) as (λ b. same_path c.path q ≡ b → dressed n (is_numbered s q || is_front q c.path) (cond b (Some c) (change_at s q)) x ≡ cond b (with_parts c (numbered n (is_front q c.path) (dressed n (is_numbered s q) (change_at s q) x))) (numbered n (is_front q c.path) (dressed n (is_numbered s q) (change_at s q) x))) [
            | true ↦ λ e.
                let none : change_at s q ≡ None = ap (change_at s) (sym (path_of_same c.path q e)) ∙ free in
                numbered-with_parts n (is_numbered s q || is_front q c.path) c x
                ∙ ap (with_parts c) (numbered-twice n (is_numbered s q) (is_front q c.path) x ∙ ap (λ o. numbered n (is_front q c.path) (dressed n (is_numbered s q) o x)) (sym none))
            | false ↦ λ e. numbered-twice n (is_numbered s q) (is_front q c.path) (parted (change_at s q) x)
          ] refl

module _ (trees : List PathMap) (s : List Change) (c : Change) (h : IsClear s c) where
  -- what settles a path governs all below it
  governing-settle : settles c.action ≡ true → (q : Path) → governing (s ++ c ∷ []) q ≡ option_map_or (λ _. Some c) (rest_after c.path q) (governing s q)
  governing-settle m q =
      ap (λ z. deepest (change_at z) q) (settling-end c s ∙ ap (λ b. settling s ++ cond b (c ∷ []) []) m)
      ∙ ap (λ (f : Path → Option Change). deepest f q) (λ i p. change_at-more c (settling s) (none_here c (settling s) (clear_settling c s h)) p i)
      ∙ deepest-put (change_at (settling s)) c.path c (λ n r. change_at-clear c (settling s) (clear_settling c s h) (n ∷ r)) q

  -- a change that settles its path
  pub effect-settle : settles c.action ≡ true → (q : Path) → effect trees (s ++ c ∷ []) q ≡ grafted (marked (effect trees s) c.path (length trees)) c.path (arrives trees c) q
  effect-settle m q =
      ap (λ g. option_map (dressed n (is_numbered (s ++ c ∷ []) q) (change_at (s ++ c ∷ []) q)) (option_map_or (λ c. option_and_then (brought trees c) (rest_after c.path q)) g (base trees q))) (governing-settle m q)
      ∙ elim (rest_after c.path q) as (λ o. rest_after c.path q ≡ o → option_map (dressed n (is_numbered (s ++ c ∷ []) q) (change_at (s ++ c ∷ []) q)) (option_map_or (λ c. option_and_then (brought trees c) (rest_after c.path q)) (option_map_or (λ _. Some c) o (governing s q)) (base trees q)) ≡ option_map_or (arrives trees c) o (marked (effect trees s) c.path n q)) [
        | None ↦ λ e. elim (laid trees s q) as (λ l. option_map (dressed n (is_numbered (s ++ c ∷ []) q) (change_at (s ++ c ∷ []) q)) l ≡ option_map (numbered n (is_front q c.path)) (option_map (dressed n (is_numbered s q) (change_at s q)) l)) [
          | None ↦ refl
          | Some x ↦ ap Some (stays e x)
        ]
        | Some r ↦ λ e. ap (λ o. option_map (dressed n (is_numbered (s ++ c ∷ []) q) (change_at (s ++ c ∷ []) q)) (option_and_then (brought trees c) o)) e ∙ below r (append_of_rest c.path q r e)
      ] refl
    where
      n : ℕ
      n = length trees

      stays : rest_after c.path q ≡ None → (x : Node) → dressed n (is_numbered (s ++ c ∷ []) q) (change_at (s ++ c ∷ []) q) x ≡ numbered n (is_front q c.path) (dressed n (is_numbered s q) (change_at s q) x)
      stays e x =
          let differs = differs_of_no_rest c.path q e in
          let number_is = is_numbered-end trees s c q ∙ ap (λ b. is_numbered s q || b) (and_not (is_front q c.path) (is_delete c.action && same_path q c.path) (and_false (is_delete c.action) (same_path q c.path) (same_path_back q c.path ∙ differs))) in
          (λ i. dressed n (number_is i) ((change_at-more c s (none_here c s h) q ∙ ap (λ b. cond b (Some c) (change_at s q)) differs) i) x)
          ∙ numbered-twice n (is_numbered s q) (is_front q c.path) (parted (change_at s q) x)

      numbers_itself : is_delete c.action ≡ false → numbers c (c.path ++ []) ≡ true
      numbers_itself nd =
          and_not (is_front (c.path ++ []) c.path) (is_delete c.action && same_path (c.path ++ []) c.path) (ap (λ b. b && same_path (c.path ++ []) c.path) nd)
          ∙ ap is_some (rest_after-longer c.path [] c.path ∙ ap (option_and_then (rest_after [])) (rest_itself c.path))

      numbers_no_more : (l : Name) (r : Path) → numbers c (c.path ++ l ∷ r) ≡ false
      numbers_no_more l r = ap (λ o. is_some o && not (is_delete c.action && same_path (c.path ++ l ∷ r) c.path)) (rest_after-longer c.path (l ∷ r) c.path ∙ ap (option_and_then (rest_after (l ∷ r))) (rest_itself c.path))

      node_is : (r : Path) → is_delete c.action ≡ false → (x : Node) → dressed n (is_numbered (s ++ c ∷ []) (c.path ++ r)) (change_at (s ++ c ∷ []) (c.path ++ r)) x ≡ cond (same_path r []) (numbered n true (with_parts c x)) x
      node_is [] nd x =
          let same = same_path-append c.path [] in
          (λ i. dressed n ((is_numbered-end trees s c (c.path ++ []) ∙ ap (λ b. is_numbered s (c.path ++ []) || b) (numbers_itself nd) ∙ or_true (is_numbered s (c.path ++ []))) i) ((change_at-more c s (none_here c s h) (c.path ++ []) ∙ ap (λ b. cond b (Some c) (change_at s (c.path ++ []))) same) i) x)
      node_is (l ∷ r) nd x =
          let differs = same_path-append c.path (l ∷ r) in
          (λ i. dressed n ((is_numbered-end trees s c (c.path ++ l ∷ r) ∙ (λ j. (not_root c.path l r j || numbers-clear c s h (l ∷ r) j) || numbers_no_more l r j)) i) ((change_at-more c s (none_here c s h) (c.path ++ l ∷ r) ∙ ap (λ b. cond b (Some c) (change_at s (c.path ++ l ∷ r))) differs ∙ change_at-clear c s h (l ∷ r)) i) x)

      below : (r : Path) → q ≡ c.path ++ r → option_map (dressed n (is_numbered (s ++ c ∷ []) q) (change_at (s ++ c ∷ []) q)) (brought trees c r) ≡ arrives trees c r
      below r e =
          let content : Option Node = option_map_or (source_at trees) c.source (alone (blank c.kind)) r in
          elim (is_delete c.action) as (λ b. is_delete c.action ≡ b → option_map (dressed n (is_numbered (s ++ c ∷ []) q) (change_at (s ++ c ∷ []) q)) (cond b None content) ≡ option_map (λ x. cond (same_path r []) (numbered n true (with_parts c x)) x) (cond b None content)) [
            | true ↦ λ _. refl
            | false ↦ λ nd. elim content as (λ o. option_map (dressed n (is_numbered (s ++ c ∷ []) q) (change_at (s ++ c ∷ []) q)) o ≡ option_map (λ x. cond (same_path r []) (numbered n true (with_parts c x)) x) o) [
              | None ↦ refl
              | Some x ↦ ap Some (ap (λ z. dressed n (is_numbered (s ++ c ∷ []) z) (change_at (s ++ c ∷ []) z) x) e ∙ node_is r nd x)
            ]
          ] refl

  -- both at once
  pub effect-more : (is_delete c.action ≡ true → settles c.action ≡ true) → (q : Path) → effect trees (s ++ c ∷ []) q ≡ stepped trees (effect trees s) c q
  effect-more ds q =
      elim (settles c.action) as (λ b. settles c.action ≡ b → effect trees (s ++ c ∷ []) q ≡ (cond b (grafted (marked (effect trees s) c.path (length trees)) c.path (arrives trees c)) (changed_at (marked (effect trees s) c.path (length trees)) c.path (with_parts c))) q) [
        | true ↦ λ m. effect-settle m q
        | false ↦ λ m. effect-modify trees s c (none_here c s h) m (no_delete m) q
      ] refl
    where
      no_delete : settles c.action ≡ false → is_delete c.action ≡ false
      no_delete m = elim (is_delete c.action) as (λ b. (b ≡ true → settles c.action ≡ true) → b ≡ false) [ true ↦ λ f. cc (f refl) | false ↦ λ f. refl ] ds

-- and where the set is in path order
pub effect-end : (trees : List PathMap) (s : List Change) (c : Change) → Follows s c → (is_delete c.action ≡ true → settles c.action ≡ true) → (q : Path) → effect trees (s ++ c ∷ []) q ≡ stepped trees (effect trees s) c q
effect-end trees s c h = effect-more trees s c (clear_of_follows s c h)
