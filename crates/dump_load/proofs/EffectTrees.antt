-- The tree that a set makes has the set's effect at each path.
use Rattle.std.proofs.Common.{◌≡◌, ◌-◌, Bool, true, false, cond, ◌||◌, List, [], ◌∷◌, ◌++◌, map, length, drop, Option, Some, None, is_some, refl, sym, ap, ◌∙◌, append-nil}
use Rattle.std.specs.Option.{option_map, option_map_or, option_and_then, option_or}
use Rattle.std.specs.List.{list_any, slice_get, flat_map}
use Rattle.std.proofs.lemmas.List.Folds.{list_any-append}
use Rattle.std.proofs.Math.Seq.{drop-append_seam}
use Rattle.std.specs.FinMap.{get, insert, keys, get-empty, get-insert, contains_key-keys, same_map}
use Rattle.node_base.specs.Path.{Path, path_cmp, paths_total, paths_exact, same_path, rest_after}
use Rattle.node_base.proofs.PathLemmas.{path_of_same, same_path_itself, append_of_rest}
use Rattle.node_base.specs.declared.node.Node.{Node}
use Rattle.node_base.specs.declared.node.Source.{Source}
use Rattle.node_base.specs.Tree.{PathMap, alone, new_dir, blank, base, source_at, numbered}
use Rattle.dump_load.specs.declared.change.Change.{Change}
use Rattle.dump_load.specs.Changes.{is_delete, settles, change_at, settling, deepest, governing}
use Rattle.dump_load.specs.Effect.{content, brought, laid, parted, is_numbered, effect}
use Rattle.dump_load.specs.Trees.{nodes_at, base_paths, copied_paths, paths_of, effect_tree}
use Rattle.dump_load.proofs.Moved.{none_at}

-- ---- a map of what a function has at some paths

nodes_get : (f : Path → Option Node) (ps : List Path) (q : Path) → get (nodes_at f ps) q ≡ cond (list_any (same_path q) ps) (f q) None
nodes_get f [] q = get-empty path_cmp q
nodes_get f (p ∷ ps) q = at (f p) refl (nodes_get f ps q)
  where
    at : (o : Option Node) → f p ≡ o → get (nodes_at f ps) q ≡ cond (list_any (same_path q) ps) (f q) None → get (option_map_or (insert (nodes_at f ps) p) o (nodes_at f ps)) q ≡ cond (same_path q p || list_any (same_path q) ps) (f q) None
    at None none rest =
        rest
        ∙ elim (same_path q p) as (λ b. same_path q p ≡ b → cond (list_any (same_path q) ps) (f q) None ≡ cond (b || list_any (same_path q) ps) (f q) None) [
          | true ↦ λ e.
              let nothing : f q ≡ None = ap f (path_of_same q p e) ∙ none in
              ap (λ o. cond (list_any (same_path q) ps) o None) nothing ∙ elim (list_any (same_path q) ps) as (λ b. cond {A = Option Node} b None None ≡ None) [ true ↦ refl | false ↦ refl ] ∙ sym nothing
          | false ↦ λ e. refl
        ] refl
    at (Some x) some rest =
        get-insert paths_total (nodes_at f ps) p x q
        ∙ elim (same_path q p) as (λ b. same_path q p ≡ b → cond b (Some x) (get (nodes_at f ps) q) ≡ cond (b || list_any (same_path q) ps) (f q) None) [
          | true ↦ λ e. sym (ap f (path_of_same q p e) ∙ some)
          | false ↦ λ e. rest
        ] refl

-- ---- where a set has nothing

first_not : (a b : Bool) → (a || b) ≡ false → a ≡ false
first_not true b e = e
first_not false b e = refl

rest_not : (a b : Bool) → (a || b) ≡ false → b ≡ false
rest_not true b e = cc
rest_not false b e = e

nothing_there : (o : Option Node) → is_some o ≡ false → o ≡ None
nothing_there None e = refl
nothing_there (Some x) e = cc

base_none : (trees : List PathMap) (q : Path) → list_any (same_path q) (base_paths trees) ≡ false → base trees q ≡ None
base_none trees q h = at (slice_get trees (length trees - 1)) q h
  where
    at : (o : Option PathMap) (q : Path) → list_any (same_path q) ([] ∷ option_map_or keys o []) ≡ false → option_map_or get o (alone new_dir) q ≡ None
    at None [] h = cc
    at None (n ∷ q) h = refl
    at (Some m) q h = nothing_there (get m q) (contains_key-keys m q ∙ rest_not (same_path q []) (list_any (same_path q) (keys m)) h)

-- a path of a source's tree below the source is that of the copy
copy_none : (p source r : Path) (ks : List Path) → list_any (same_path (p ++ r)) (map (λ k. p ++ drop (length source) k) ks) ≡ false → list_any (same_path (source ++ r)) ks ≡ false
copy_none p source r [] h = refl
copy_none p source r (k ∷ ks) h =
    elim (same_path (source ++ r) k) as (λ b. same_path (source ++ r) k ≡ b → (b || list_any (same_path (source ++ r)) ks) ≡ false) [
      | true ↦ λ e.
          let is : p ++ drop (length source) k ≡ p ++ r = ap (λ r. p ++ r) (ap (drop (length source)) (sym (path_of_same (source ++ r) k e)) ∙ drop-append_seam source r) in
          cc (ap (same_path (p ++ r)) is ∙ same_path_itself (p ++ r), first_not (same_path (p ++ r) (p ++ drop (length source) k)) _ h)
      | false ↦ λ e. copy_none p source r ks (rest_not (same_path (p ++ r) (p ++ drop (length source) k)) _ h)
    ] refl

module _ (trees : List PathMap) (c : Change) (r : Path) (h : list_any (same_path (c.path ++ r)) (paths_of trees c) ≡ false) where
  source_none : (s : Source) → list_any (same_path (c.path ++ r)) (option_map_or (copied_paths c.path s) (slice_get trees s.revision) []) ≡ false → source_at trees s r ≡ None
  source_none s h = at (slice_get trees s.revision) h
    where
      at : (o : Option PathMap) → list_any (same_path (c.path ++ r)) (option_map_or (copied_paths c.path s) o []) ≡ false → option_and_then (λ m. get m (s.path ++ r)) o ≡ None
      at None h = refl
      at (Some m) h = nothing_there (get m (s.path ++ r)) (contains_key-keys m (s.path ++ r) ∙ copy_none c.path s.path r (keys m) h)

  content_none : content trees c r ≡ None
  content_none = at c.source (rest_not (same_path (c.path ++ r) c.path) _ h)
    where
      below : (r : Path) → same_path (c.path ++ r) c.path ≡ false → alone (blank c.kind) r ≡ None
      below [] e = cc (ap (λ p. same_path p c.path) (append-nil c.path) ∙ same_path_itself c.path, e)
      below (n ∷ r) e = refl

      at : (o : Option Source) → list_any (same_path (c.path ++ r)) (option_map_or (λ s. option_map_or (copied_paths c.path s) (slice_get trees s.revision) []) o []) ≡ false → option_map_or (source_at trees) o (alone (blank c.kind)) r ≡ None
      at None _ = below r (first_not (same_path (c.path ++ r) c.path) _ h)
      at (Some s) h = source_none s h

  brought_none : brought trees c r ≡ None
  brought_none = elim (is_delete c.action) as (λ b. cond b None (content trees c r) ≡ None) [ true ↦ refl | false ↦ content_none ]

-- a change that puts nothing there
puts_none : (trees : List PathMap) (c : Change) (q : Path) → list_any (same_path q) (paths_of trees c) ≡ false → option_and_then (brought trees c) (rest_after c.path q) ≡ None
puts_none trees c q h =
    elim (rest_after c.path q) as (λ o. rest_after c.path q ≡ o → option_and_then (brought trees c) o ≡ None) [
      | None ↦ λ e. refl
      | Some r ↦ λ e. brought_none trees c r (ap (λ q. list_any (same_path q) (paths_of trees c)) (sym (append_of_rest c.path q r e)) ∙ h)
    ] refl

deepest_fails : {A : Type 0} (P : A → Bool) (f : Path → Option A) (q : Path) → ((p : Path) → option_map_or P (f p) false ≡ false) → option_map_or P (deepest f q) false ≡ false
deepest_fails P f [] h = h []
deepest_fails {A} P f (n ∷ q) h = at (deepest (λ p. f (n ∷ p)) q) (deepest_fails P (λ p. f (n ∷ p)) q (λ p. h (n ∷ p)))
  where
    at : (o : Option A) → option_map_or P o false ≡ false → option_map_or P (option_or o (f [])) false ≡ false
    at None e = h []
    at (Some x) e = e

settling_fails : (P : Change → Bool) (s : List Change) → list_any P s ≡ false → list_any P (settling s) ≡ false
settling_fails P [] h = refl
settling_fails P (c ∷ s) h =
    elim (settles c.action) as (λ b. list_any P (cond b (c ∷ settling s) (settling s)) ≡ false) [
      | true ↦ (λ i. first_not (P c) (list_any P s) h i || list_any P (settling s)) ∙ settling_fails P s (rest_not (P c) (list_any P s) h)
      | false ↦ settling_fails P s (rest_not (P c) (list_any P s) h)
    ]

any_flat : (q : Path) (f : Change → List Path) (s : List Change) → list_any (same_path q) (flat_map f s) ≡ list_any (λ c. list_any (same_path q) (f c)) s
any_flat q f [] = refl
any_flat q f (c ∷ s) = list_any-append (same_path q) (f c) (flat_map f s) ∙ ap (λ b. list_any (same_path q) (f c) || b) (any_flat q f s)

module _ (trees : List PathMap) (s : List Change) (q : Path) where
  laid_none : list_any (same_path q) (base_paths trees ++ flat_map (paths_of trees) s) ≡ false → laid trees s q ≡ None
  laid_none h =
      let both = sym (list_any-append (same_path q) (base_paths trees) (flat_map (paths_of trees) s)) ∙ h in
      let P : Change → Bool = λ c. list_any (same_path q) (paths_of trees c) in
      let fails = sym (any_flat q (paths_of trees) s) ∙ rest_not (list_any (same_path q) (base_paths trees)) _ both in
      at (governing s q)
      (first_not (list_any (same_path q) (base_paths trees)) _ both)
      (deepest_fails P (change_at (settling s)) q (λ p. none_at P (settling s) p (settling_fails P s fails)))
    where
      at : (o : Option Change) → list_any (same_path q) (base_paths trees) ≡ false → option_map_or (λ c. list_any (same_path q) (paths_of trees c)) o false ≡ false → option_map_or (λ c. option_and_then (brought trees c) (rest_after c.path q)) o (base trees q) ≡ None
      at None b e = base_none trees q b
      at (Some c) b e = puts_none trees c q e

  effect_none_there : list_any (same_path q) (base_paths trees ++ flat_map (paths_of trees) s) ≡ false → effect trees s q ≡ None
  effect_none_there h = ap (option_map (λ x. numbered (length trees) (is_numbered s q) (parted (change_at s q) x))) (laid_none h)

pub effect_tree_at : (trees : List PathMap) (s : List Change) (q : Path) → get (effect_tree trees s) q ≡ effect trees s q
unfolding effect_tree
effect_tree_at trees s q =
    nodes_get (effect trees s) (base_paths trees ++ flat_map (paths_of trees) s) q
    ∙ elim (list_any (same_path q) (base_paths trees ++ flat_map (paths_of trees) s)) as (λ b. list_any (same_path q) (base_paths trees ++ flat_map (paths_of trees) s) ≡ b → cond b (effect trees s q) None ≡ effect trees s q) [
      | true ↦ λ e. refl
      | false ↦ λ e. sym (effect_none_there trees s q e)
    ] refl

-- a map that answers as the effect does is that tree
pub effect_tree_is : (trees : List PathMap) (s : List Change) (t : PathMap) → ((q : Path) → get t q ≡ effect trees s q) → t ≡ effect_tree trees s
effect_tree_is trees s t h = same_map paths_total paths_exact t (effect_tree trees s) (λ q. h q ∙ sym (effect_tree_at trees s q))
