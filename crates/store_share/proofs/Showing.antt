-- What cells show after an entry more.
use Rattle.std.proofs.Common.{◌≡◌, ◌<◌, ℕ, zero, suc, List, [], ◌∷◌, ◌++◌, length, slice_get, Option, Some, None, refl, sym, ap, ◌∙◌, subst, arith}
use Rattle.std.specs.Option.{option_and_then, option_map}
use Rattle.node_base.specs.Tree.{PathMap}
use Rattle.node_base.specs.Props.{PropMap}
use Rattle.dump_load.specs.declared.change.Change.{Change}
use Rattle.dump_load.specs.Trees.{effect_tree}
use Rattle.repo_core.specs.Repository.{Revision, Repository, trees_of}
use Rattle.repo_core.specs.declared.entry.Entry.TheVariants.{Revised}
use Rattle.repo_core.specs.Entries.{with_entry_in}
use Rattle.store_share.specs.declared.rev.Rev.{Rev}
use Rattle.store_share.specs.Row.{rev_at}

pub some_is : {X : Type 0} (x y : X) → Some x ≡ Some y → x ≡ y
some_is x y e = cc

grown : {X : Type 0} (xs ys : List X) (i : ℕ) (x : X) → slice_get xs i ≡ Some x → slice_get (xs ++ ys) i ≡ Some x
grown [] ys i x e = cc
grown (y ∷ xs) ys zero x e = e
grown (y ∷ xs) ys (suc i) x e = grown xs ys i x e

at_end : {X : Type 0} (xs : List X) (y : X) → slice_get (xs ++ y ∷ []) (length xs) ≡ Some y
at_end [] y = refl
at_end (x ∷ xs) y = at_end xs y

abbrev pub rev_as : ℕ → List Change → PathMap → Rev
rev_as n s t = record { number = n; set = s; tree = t }

abbrev pub revision_as : PathMap → PropMap → Revision
revision_as t p = record { tree = t; props = p }

-- a set and a tree, as a revision of a number
abbrev made : ℕ → Option (List Change) → Option PathMap → Option Rev
made n set tree = option_and_then (λ s. option_map (λ t. rev_as n s t) tree) set

abbrev tree_in : List Revision → ℕ → Option PathMap
tree_in x i = option_map (λ (y : Revision). y.tree) (slice_get x i)

by_tree : (n : ℕ) (s : List Change) (y : Option Revision) → option_map (λ (z : Revision). rev_as n s z.tree) y ≡ option_map (λ (t : PathMap). rev_as n s t) (option_map (λ (z : Revision). z.tree) y)
by_tree n s None = refl
by_tree n s (Some z) = refl

by_set : (n : ℕ) (s : Option (List Change)) (y : Option Revision) → option_and_then (λ (set : List Change). option_map (λ (z : Revision). rev_as n set z.tree) y) s ≡ made n s (option_map (λ (z : Revision). z.tree) y)
by_set n None y = refl
by_set n (Some s) y = by_tree n s y

pub as_made : (r : Repository) (i : ℕ) → rev_at r i ≡ made i (slice_get r.sets i) (tree_in r.revisions i)
as_made r i = by_set i (slice_get r.sets i) (slice_get r.revisions i)

some_get : {X : Type 0} (xs : List X) (i : ℕ) → i < length xs → (x : X) × (slice_get xs i ≡ Some x)
some_get [] i h = absurd (omega arith)
some_get (x ∷ xs) zero h = (x, refl)
some_get (x ∷ xs) (suc i) h = some_get xs i (omega arith)

-- the set and the revision of a number, and the two as a revision of the row
pub rev_parts : (r : Repository) (i : ℕ) → length r.sets ≡ length r.revisions → i < length r.revisions
    → (s : List Change) × (y : Revision) × (slice_get r.sets i ≡ Some s) × (slice_get r.revisions i ≡ Some y) × (rev_at r i ≡ Some (rev_as i s y.tree))
rev_parts r i e h =
    let s = some_get r.sets i (omega (arith, e, h)) in
    let y = some_get r.revisions i h in (
      s.0,
      y.0,
      s.1,
      y.1,
      ap (λ (o : Option (List Change)). option_and_then (λ (set : List Change). option_map (λ (z : Revision). rev_as i set z.tree) (slice_get r.revisions i)) o) s.1
          ∙ ap (λ (o : Option Revision). option_map (λ (z : Revision). rev_as i s.0 z.tree) o) y.1,
    )

pub rev_there : (r : Repository) (i : ℕ) → length r.sets ≡ length r.revisions → i < length r.revisions → (x : Rev) × (rev_at r i ≡ Some x)
rev_there r i e h = let p = rev_parts r i e h in (rev_as i p.0 p.1.tree, p.4)

-- the new revision
pub rev_new : (r : Repository) (n : ℕ) (set : List Change) (props : PropMap) → length r.sets ≡ length r.revisions → n ≡ length r.revisions
    → rev_at (with_entry_in r (Revised n set props)) n ≡ Some (rev_as n set (effect_tree (trees_of r.revisions) set))
rev_new r n set props e at =
    let new = revision_as (effect_tree (trees_of r.revisions) set) props in
    let s : slice_get (r.sets ++ set ∷ []) n ≡ Some set = subst (λ (k : ℕ). slice_get (r.sets ++ set ∷ []) k ≡ Some set) (e ∙ sym at) (at_end r.sets set) in
    let y : slice_get (r.revisions ++ new ∷ []) n ≡ Some new = subst (λ (k : ℕ). slice_get (r.revisions ++ new ∷ []) k ≡ Some new) (sym at) (at_end r.revisions new) in
    as_made (with_entry_in r (Revised n set props)) n
    ∙ ap (λ (o : Option (List Change)). made n o (tree_in (r.revisions ++ new ∷ []) n)) s
    ∙ ap (λ (o : Option Revision). made n (Some set) (option_map (λ (z : Revision). z.tree) o)) y
