-- What an edit at a node is, as an edit of the whole map.
use Rattle.std.proofs.Common.{◌≡◌, Bool, true, false, cond, [], ◌∷◌, ◌++◌, Option, Some, None, refl, sym, ap, ◌∙◌, append_assoc}
use Rattle.std.specs.Option.{option_and_then, option_map_or, option_map}
use Rattle.node_base.specs.Path.{Name, Path, rest_after, same_path}
use Rattle.node_base.specs.declared.node.Node.{Node}
use Rattle.node_base.specs.Tree.{grafted, changed_at}
use Rattle.node_base.proofs.PathLemmas.{append_of_rest, rest_after-longer, differs_of_no_rest, same_path-append, same_path_back, path_of_same}

-- a graft in what stands at a path
pub grafted_below : (f : Path → Option Node) (p r : Path) (g : Path → Option Node) (q : Path) → grafted f p (grafted (λ s. f (p ++ s)) r g) q ≡ grafted f (p ++ r) g q
grafted_below f p r g q =
    elim (rest_after p q) as (λ o. rest_after p q ≡ o → option_map_or (grafted (λ s. f (p ++ s)) r g) o (f q) ≡ option_map_or g (option_and_then (rest_after r) o) (f q)) [
      | None ↦ λ _. refl
      | Some s ↦ λ e. ap (λ o. option_map_or g (rest_after r s) (f o)) (sym (append_of_rest p q s e))
    ] refl
    ∙ ap (λ o. option_map_or g o (f q)) (sym (rest_after-longer p r q))

same : (o : Option Node) (g : Node → Node) (b : Bool) → b ≡ false → o ≡ option_map (λ x. cond b (g x) x) o
same None g b e = refl
same (Some x) g b e = ap Some (sym (ap (λ b. cond b (g x) x) e))

-- an edit of the node at a path
pub changed_below : (f : Path → Option Node) (p : Path) (g : Node → Node) (q : Path) → grafted f p (changed_at (λ s. f (p ++ s)) [] g) q ≡ changed_at f p g q
changed_below f p g q =
    elim (rest_after p q) as (λ o. rest_after p q ≡ o → option_map_or (changed_at (λ s. f (p ++ s)) [] g) o (f q) ≡ changed_at f p g q) [
      | None ↦ λ e. same (f q) g (same_path p q) (differs_of_no_rest p q e)
      | Some s ↦ λ e.
          let there : same_path [] s ≡ same_path p q = same_path_back [] s ∙ sym (same_path-append p s) ∙ ap (same_path p) (sym (append_of_rest p q s e)) in
          λ i. option_map (λ x. cond (there i) (g x) x) (f (sym (append_of_rest p q s e) i))
    ] refl

-- nothing is edited where nothing is
pub changed_nothing : (f : Path → Option Node) (p : Path) (g : Node → Node) → f p ≡ None → (q : Path) → f q ≡ changed_at f p g q
changed_nothing f p g none q =
    elim (same_path p q) as (λ b. same_path p q ≡ b → f q ≡ option_map (λ x. cond b (g x) x) (f q)) [
      | true ↦ λ e. let absent : f q ≡ None = ap f (sym (path_of_same p q e)) ∙ none in absent ∙ sym (ap (option_map (λ x. cond true (g x) x)) absent)
      | false ↦ λ e. same (f q) g false refl
    ] refl

-- nothing is removed where nothing is
pub pruned_nothing : (f : Path → Option Node) (above : Path) (x : Name) → ((q : Path) → f (above ++ q) ≡ None) → (q : Path) → f q ≡ grafted f (above ++ x ∷ []) (λ _. None) q
pruned_nothing f above x none q =
    elim (rest_after (above ++ x ∷ []) q) as (λ o. rest_after (above ++ x ∷ []) q ≡ o → f q ≡ option_map_or (λ _. None) o (f q)) [
      | None ↦ λ _. refl
      | Some r ↦ λ e. ap f (append_of_rest (above ++ x ∷ []) q r e ∙ append_assoc above (x ∷ []) r) ∙ none (x ∷ r)
    ] refl

-- an edit of the node at a path, as a graft there
pub changed_as_graft : (f : Path → Option Node) (p : Path) (g : Node → Node) → ◌≡◌ {A = Path → Option Node} (changed_at f p g) (grafted f p (changed_at (λ s. f (p ++ s)) [] g))
changed_as_graft f p g = λ i q. sym (changed_below f p g q) i
