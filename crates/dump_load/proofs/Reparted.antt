-- The effect of a set where one of its changes becomes another of the same path.
use Rattle.std.proofs.Common.{◌≡◌, ℕ, Bool, true, false, cond, not, ◌&&◌, ◌||◌, List, [], ◌∷◌, ◌++◌, map, length, Option, Some, None, refl, sym, ap, ◌∙◌, append-nil}
use Rattle.std.specs.Option.{option_or, option_map, option_map_or, option_and_then}
use Rattle.std.specs.List.{list_any}
use Rattle.std.proofs.lemmas.List.{map-append}
use Rattle.node_base.specs.Path.{Path, same_path, is_front, rest_after}
use Rattle.node_base.specs.Props.{PropMap}
use Rattle.node_base.proofs.PathLemmas.{path_of_same, same_path_itself, same_path_back}
use Rattle.node_base.specs.Tree.{PathMap, numbered, with_given, marked, changed_at, grafted, base, blank, alone, source_at}
use Rattle.node_base.specs.declared.node.Node.{Node}
use Rattle.dump_load.specs.declared.change.Change.{Change}
use Rattle.dump_load.specs.Changes.{settles, is_delete, change_at, settling, deepest, governing, regiven, IsClear}
use Rattle.dump_load.specs.Effect.{brought, laid, parted, numbers, is_numbered, effect, stepped, arrives, with_parts}
use Rattle.dump_load.proofs.OneMore.{change_at-clear, change_at-append}
use Rattle.dump_load.proofs.Permuted.{effect_one_more}

none_of : (s : List Change) (c : Change) → IsClear s c → change_at s c.path ≡ None
none_of s c h = ap (change_at s) (sym (append-nil c.path)) ∙ change_at-clear c s h []

-- ---- what settles a path, and then another does

module _ (n : ℕ) (f : Path → Option Node) (p : Path) where
  grafted_twice : (g h : Path → Option Node) (q : Path) → grafted (marked (grafted (marked f p n) p g) p n) p h q ≡ grafted (marked f p n) p h q
  grafted_twice g h q =
      elim (rest_after p q) as (λ o. option_map_or h o (option_map (λ x. cond (is_front q p) (numbered n true x) x) (option_map_or g o (marked f p n q))) ≡ option_map_or h o (marked f p n q)) [
        | Some r ↦ refl
        | None ↦ at (is_front q p) (f q)
      ]
    where
      at : (b : Bool) (o : Option Node) → option_map (λ x. cond b (numbered n true x) x) (option_map (λ x. cond b (numbered n true x) x) o) ≡ option_map (λ x. cond b (numbered n true x) x) o
      at true None = refl
      at true (Some x) = refl
      at false None = refl
      at false (Some x) = refl

module _ (trees : List PathMap) (front rest : List Change) (d r : Change) (same : d.path ≡ r.path) (clear : IsClear (front ++ rest) r) where
  clear_same : (s : List Change) → IsClear s r → IsClear s d
  clear_same [] h = tt
  clear_same (x ∷ s) h = (ap (λ p. rest_after p x.path) same ∙ h.0, clear_same s h.1)

  settled : (c : Change) → settles c.action ≡ true → (f : Path → Option Node) → ◌≡◌ {A = Path → Option Node} (stepped trees f c) (grafted (marked f c.path (length trees)) c.path (arrives trees c))
  settled c e f = ap (λ b. cond {A = Path → Option Node} b (grafted (marked f c.path (length trees)) c.path (arrives trees c)) (changed_at (marked f c.path (length trees)) c.path (with_parts c))) e

  -- a deletion and then an add are a replace
  pub effect_replaced : settles d.action ≡ true → settles r.action ≡ true → (q : Path) → effect trees (front ++ r ∷ rest) q ≡ stepped trees (effect trees (front ++ d ∷ rest)) r q
  effect_replaced ds rs q =
      let f : Path → Option Node = effect trees (front ++ rest) in
      let n = length trees in
      let before : ◌≡◌ {A = Path → Option Node} (effect trees (front ++ d ∷ rest)) (grafted (marked f r.path n) r.path (arrives trees d))
      = (λ i q. effect_one_more front rest d (none_of (front ++ rest) d (clear_same (front ++ rest) clear)) trees (λ _. clear_same (front ++ rest) clear) q i)
      ∙ settled d ds f ∙ ap (λ p. grafted (marked f p n) p (arrives trees d)) same in
      effect_one_more front rest r (none_of (front ++ rest) r clear) trees (λ _. clear) q
      ∙ ap (λ (g : Path → Option Node). g q) (settled r rs f)
      ∙ sym (grafted_twice n f r.path (arrives trees d) (arrives trees r) q)
      ∙ sym (ap (λ (g : Path → Option Node). g q) (settled r rs (effect trees (front ++ d ∷ rest)) ∙ ap (λ (g : Path → Option Node). grafted (marked g r.path n) r.path (arrives trees r)) before))

-- ---- other parts

-- two changes that do the same but for their parts
record Alike (c d : Change) : Type 0 where
  path : d.path ≡ c.path
  action : d.action ≡ c.action
  kind : d.kind ≡ c.kind
  source : d.source ≡ c.source

module _ (g : Change → Change) (keeps : (c : Change) → Alike c (g c)) where
  at_each : (s : List Change) (q : Path) → change_at (map g s) q ≡ option_map g (change_at s q)
  at_each [] q = refl
  at_each (c ∷ s) q =
      ap (λ p. cond (same_path p q) (Some (g c)) (change_at (map g s) q)) ((keeps c).path)
      ∙ elim (same_path c.path q) as (λ b. cond b (Some (g c)) (change_at (map g s) q) ≡ option_map g (cond b (Some c) (change_at s q))) [ true ↦ refl | false ↦ at_each s q ]

  settling_each : (s : List Change) → settling (map g s) ≡ map g (settling s)
  settling_each [] = refl
  settling_each (c ∷ s) =
      ap (λ a. cond (settles a) (g c ∷ settling (map g s)) (settling (map g s))) ((keeps c).action)
      ∙ elim (settles c.action) as (λ b. cond b (g c ∷ settling (map g s)) (settling (map g s)) ≡ map g (cond b (c ∷ settling s) (settling s))) [ true ↦ ap (λ xs. g c ∷ xs) (settling_each s) | false ↦ settling_each s ]

  or_each : (a b : Option Change) → option_or (option_map g a) (option_map g b) ≡ option_map g (option_or a b)
  or_each None b = refl
  or_each (Some x) b = refl

  deepest_each : (f : Path → Option Change) (q : Path) → deepest (λ p. option_map g (f p)) q ≡ option_map g (deepest f q)
  deepest_each f [] = refl
  deepest_each f (n ∷ q) = ap (λ o. option_or o (option_map g (f []))) (deepest_each (λ p. f (n ∷ p)) q) ∙ or_each (deepest (λ p. f (n ∷ p)) q) (f [])

  governing_each : (s : List Change) (q : Path) → governing (map g s) q ≡ option_map g (governing s q)
  governing_each s q =
      ap (λ (f : Path → Option Change). deepest f q) (ap change_at (settling_each s) ∙ (λ i p. at_each (settling s) p i))
      ∙ deepest_each (change_at (settling s)) q

  numbers_each : (s : List Change) (q : Path) → list_any (λ c. numbers c q) (map g s) ≡ list_any (λ c. numbers c q) s
  numbers_each [] q = refl
  numbers_each (c ∷ s) q = λ i. (is_front q ((keeps c).path i) && not (is_delete ((keeps c).action i) && same_path q ((keeps c).path i))) || numbers_each s q i

  laid_each : (trees : List PathMap) (s : List Change) (q : Path) → laid trees (map g s) q ≡ laid trees s q
  laid_each trees s q = ap (λ o. option_map_or (λ c. option_and_then (brought trees c) (rest_after c.path q)) o (base trees q)) (governing_each s q) ∙ at (governing s q)
    where
      puts : (c : Change) → ◌≡◌ {A = Path → Option Node} (brought trees (g c)) (brought trees c)
      puts c = λ i r. cond (is_delete ((keeps c).action i)) None (option_map_or (source_at trees) ((keeps c).source i) (alone (blank ((keeps c).kind i))) r)

      at : (o : Option Change) → option_map_or (λ c. option_and_then (brought trees c) (rest_after c.path q)) (option_map g o) (base trees q) ≡ option_map_or (λ c. option_and_then (brought trees c) (rest_after c.path q)) o (base trees q)
      at None = refl
      at (Some c) = λ i. option_and_then (puts c i) (rest_after ((keeps c).path i) q)

  effect_each : (trees : List PathMap) (s : List Change) (q : Path) → effect trees (map g s) q ≡ option_map (λ x. numbered (length trees) (is_numbered s q) (parted (option_map g (change_at s q)) x)) (laid trees s q)
  effect_each trees s q = λ i. option_map (λ x. numbered (length trees) (same_path q [] || numbers_each s q i) (parted (at_each s q i) x)) (laid_each trees s q i)

module _ (text : Option (List ℕ)) (props : Option PropMap) (p : Path) where
  -- the changes of p with these parts
  regiven_at : Change → Change
  regiven_at c = cond (same_path c.path p) (regiven text props c) c

  keeps_at : (c : Change) → Alike c (regiven_at c)
  unfolding regiven_at
  keeps_at c = at (same_path c.path p)
    where
      at : (b : Bool) → Alike c (cond b (regiven text props c) c)
      at true = record { path = refl; action = refl; kind = refl; source = refl }
      at false = record { path = refl; action = refl; kind = refl; source = refl }

  given_twice : (c : Change) (x : Node) → with_parts (regiven text props c) x ≡ with_given text props (with_parts c x)
  given_twice c x = at text props c.text c.props
    where
      at : (t : Option (List ℕ)) (m : Option PropMap) (u : Option (List ℕ)) (k : Option PropMap) → with_given (option_or t u) (option_or m k) x ≡ with_given t m (with_given u k x)
      at None None u k = refl
      at None (Some m) u k = refl
      at (Some t) None u k = refl
      at (Some t) (Some m) u k = refl

  path_at : (s : List Change) (q : Path) (c : Change) → change_at s q ≡ Some c → same_path c.path q ≡ true
  path_at [] q c e = cc
  path_at (d ∷ s) q c e =
      elim (same_path d.path q) as (λ b. same_path d.path q ≡ b → cond b (Some d) (change_at s q) ≡ Some c → same_path c.path q ≡ true) [
        | true ↦ λ h e. let is : d ≡ c = cc in ap (λ (x : Change). same_path x.path q) (sym is) ∙ h
        | false ↦ λ h e. path_at s q c e
      ] refl e

  numbered_given : (n : ℕ) (b : Bool) (x : Node) → numbered n b (with_given text props x) ≡ with_given text props (numbered n b x)
  numbered_given n true x = refl
  numbered_given n false x = refl

  module _ (trees : List PathMap) (s : List Change) (c : Change) (there : change_at s p ≡ Some c) where
    abbrev node_is : Path → Type 0
    node_is q = (n : ℕ) (b : Bool) (x : Node) → numbered n b (parted (option_map regiven_at (change_at s q)) x) ≡ cond (same_path p q) (with_given text props (numbered n b (parted (change_at s q) x))) (numbered n b (parted (change_at s q) x))

    given_here : (q : Path) → same_path p q ≡ true → node_is q
    unfolding regiven_at
    given_here q e n b x =
        let here : change_at s q ≡ Some c = ap (change_at s) (sym (path_of_same p q e)) ∙ there in
        ap (λ o. numbered n b (parted (option_map regiven_at o) x)) here
        ∙ ap (λ t. numbered n b (with_parts (cond t (regiven text props c) c) x)) (path_at s p c there)
        ∙ ap (numbered n b) (given_twice c x)
        ∙ numbered_given n b (with_parts c x)
        ∙ (λ i. cond (sym e i) (with_given text props (numbered n b (parted (sym here i) x))) (numbered n b (parted (sym here i) x)))

    stays_there : (q : Path) → same_path p q ≡ false → node_is q
    unfolding regiven_at
    stays_there q e n b x =
        ap (λ o. numbered n b (parted o x)) (at (change_at s q) refl)
        ∙ ap (λ t. cond t (with_given text props (numbered n b (parted (change_at s q) x))) (numbered n b (parted (change_at s q) x))) (sym e)
      where
        at : (o : Option Change) → change_at s q ≡ o → option_map regiven_at o ≡ o
        at None e = refl
        at (Some d) h = ap (λ t. Some (cond t (regiven text props d) d)) (other d (path_at s q d h))
          where
            other : (d : Change) → same_path d.path q ≡ true → same_path d.path p ≡ false
            other d h = ap (λ x. same_path x p) (path_of_same d.path q h) ∙ same_path_back q p ∙ e

    effect_given : (q : Path) → effect trees (map regiven_at s) q ≡ changed_at (effect trees s) p (with_given text props) q
    effect_given q =
        effect_each regiven_at keeps_at trees s q
        ∙ elim (laid trees s q) as (λ o. option_map (λ x. numbered (length trees) (is_numbered s q) (parted (option_map regiven_at (change_at s q)) x)) o ≡ option_map (λ x. cond (same_path p q) (with_given text props x) x) (option_map (λ x. numbered (length trees) (is_numbered s q) (parted (change_at s q) x)) o)) [
          | None ↦ refl
          | Some x ↦ ap Some (elim (same_path p q) as (λ b. same_path p q ≡ b → numbered (length trees) (is_numbered s q) (parted (option_map regiven_at (change_at s q)) x) ≡ cond (same_path p q) (with_given text props (numbered (length trees) (is_numbered s q) (parted (change_at s q) x))) (numbered (length trees) (is_numbered s q) (parted (change_at s q) x))) [
            | true ↦ λ e. given_here q e (length trees) (is_numbered s q) x
            | false ↦ λ e. stays_there q e (length trees) (is_numbered s q) x
          ] refl)
        ]

  others_stay : (s : List Change) → change_at s p ≡ None → map regiven_at s ≡ s
  unfolding regiven_at
  others_stay [] none = refl
  others_stay (c ∷ s) none =
      elim (same_path c.path p) as (λ b. cond b (Some c) (change_at s p) ≡ None → cond b (regiven text props c) c ∷ map regiven_at s ≡ c ∷ s) [
        | true ↦ λ e. cc
        | false ↦ λ e. ap (λ xs. c ∷ xs) (others_stay s e)
      ] none

none_one : {A : Type 0} (a b : Option A) → option_or a b ≡ None → a ≡ None
none_one None b e = refl
none_one (Some x) b e = cc

none_two : {A : Type 0} (a b : Option A) → option_or a b ≡ None → b ≡ None
none_two None b e = e
none_two (Some x) b e = cc

module _ (trees : List PathMap) (front rest : List Change) (c : Change) (none : change_at (front ++ rest) c.path ≡ None) where
  -- the change of a path gets other parts
  pub effect_reparted : (text : Option (List ℕ)) (props : Option PropMap) (q : Path) → effect trees (front ++ regiven text props c ∷ rest) q ≡ changed_at (effect trees (front ++ c ∷ rest)) c.path (with_given text props) q
  unfolding regiven_at
  effect_reparted text props q = ap (λ s. effect trees s q) (sym (map_amid text props)) ∙ effect_given text props c.path trees (front ++ c ∷ rest) c there q
    where
      both : option_or (change_at front c.path) (change_at rest c.path) ≡ None
      both = sym (change_at-append front rest c.path) ∙ none

      there : change_at (front ++ c ∷ rest) c.path ≡ Some c
      there =
          change_at-append front (c ∷ rest) c.path
          ∙ (λ i. option_or (none_one (change_at front c.path) _ both i) (cond (same_path_itself c.path i) (Some c) (change_at rest c.path)))

      map_amid : (text : Option (List ℕ)) (props : Option PropMap) → map (regiven_at text props c.path) (front ++ c ∷ rest) ≡ front ++ regiven text props c ∷ rest
      map_amid text props =
          map-append (regiven_at text props c.path) front (c ∷ rest)
          ∙ (λ i. others_stay text props c.path front (none_one (change_at front c.path) _ both) i ++ cond (same_path_itself c.path i) (regiven text props c) c ∷ others_stay text props c.path rest (none_two (change_at front c.path) _ both) i)
