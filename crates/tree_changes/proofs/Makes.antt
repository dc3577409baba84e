-- All of a tree is looked at, and what the changes between two trees are and make.
use Rattle.std.proofs.Common.{◌≡◌, Bool, List, [], ◌∷◌, Option, Some, None, refl, sym, subst}
use Rattle.std.specs.Option.{option_and_then, option_map}
use Rattle.std.specs.FinMap as finite
use Rattle.node_base.specs.Path.{Path}
use Rattle.node_base.specs.Tree.{PathMap, IsTree}
use Rattle.node_base.specs.declared.node.Node.{Node}
use Rattle.dump_load.specs.Effect.{effect}
use Rattle.tree_reports.specs.declared.depth.Depth.TheVariants.{Infinity}
use Rattle.tree_reports.specs.declared.difference.Difference.{Difference}
use Rattle.tree_reports.specs.Applied.{content}
use Rattle.tree_reports.specs.Depths.{within}
use Rattle.tree_reports.specs.Differences.{Told, AreDifferences, shown}
use Rattle.tree_reports.proofs.Applies.{differences_make}
use Rattle.tree_changes.specs.Changes.{changes_of, Between}
use Rattle.tree_changes.proofs.Effects.{effect_makes}

all_there : (o : Option Node) → option_and_then (λ x. Some x) o ≡ o
all_there None = refl
all_there (Some x) = refl

within_all : (f : Path → Option Node) (p : Path) → within Infinity f p ≡ f p
within_all f [] = all_there (f [])
within_all f (n ∷ []) = all_there (f (n ∷ []))
within_all f (n ∷ m ∷ p) = all_there (f (n ∷ m ∷ p))

all_within : (opens : Bool) (old new : PathMap) (es : List (Path × Told)) → AreDifferences opens (within Infinity (finite.get old)) (within Infinity (finite.get new)) es → Between opens old new es
all_within opens old new es h =
    let was : ◌≡◌ {A = Path → Option Node} (within Infinity (finite.get old)) (finite.get old) = λ i p. within_all (finite.get old) p i in
    let is : ◌≡◌ {A = Path → Option Node} (within Infinity (finite.get new)) (finite.get new) = λ i p. within_all (finite.get new) p i in
    subst (λ f. AreDifferences opens f (finite.get new) es) was (subst (λ g. AreDifferences opens (within Infinity (finite.get old)) g es) is h)

-- the differences that are lent on
pub lent_between : (opens : Bool) (old new : PathMap) (told lent : List Difference) → lent ≡ told → AreDifferences opens (within Infinity (finite.get old)) (within Infinity (finite.get new)) (shown told) → Between opens old new (shown lent)
lent_between opens old new told lent e h = all_within opens old new (shown lent) (subst (λ ds. AreDifferences opens (within Infinity (finite.get old)) (within Infinity (finite.get new)) (shown ds)) (sym e) h)

pub effect_between : (opens : Bool) (old new : PathMap) (es : List (Path × Told)) → IsTree old → IsTree new → Between opens old new es → (q : Path) → option_map content (effect (old ∷ []) (changes_of es) q) ≡ option_map content (finite.get new q)
effect_between opens old new es s t h q = effect_makes opens old (finite.get new) es s.fronts h (differences_make opens (finite.get old) (finite.get new) s.fronts t.fronts es h) q
