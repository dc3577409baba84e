-- Laws of effects, of faults, and of the sets that records give.
use Rattle.std.specs.Prelude.{◌≡◌, ℕ, true, not, ◌&&◌, List, [], ◌∷◌, ◌++◌, length, Option, None}
use Rattle.std.specs.Option.{option_or}
use Rattle.std.specs.List.{list_any}
use Rattle.std.specs.List.Sorted.{IsPermutation}
use Rattle.std.specs.FinMap as finite
use Rattle.node_base.specs.Path.{Path, same_path, is_front}
use Rattle.node_base.specs.Props.{PropMap}
use Rattle.node_base.specs.Tree.{PathMap, with_given, marked, changed_at, base}
use Rattle.dump_text.specs.declared.record.NodeRecord.{NodeRecord}
use Rattle.dump_load.specs.declared.change.Change.{Change}
use Rattle.dump_load.specs.Changes.{settles, change_at, regiven, IsBare, IsClear, Follows, IsNormal}
use Rattle.dump_load.specs.Effect.{is_numbered, effect, stepped}
use Rattle.dump_load.specs.Faults.{fault_of, fault}
use Rattle.dump_load.specs.Records.{stated_at, IsNormalSetOf}
use Rattle.dump_load.specs.Trees.{effect_tree}

-- the tree that a set makes has the set's effect at each path
abbrev pub TreesAreEffects : Type 0
TreesAreEffects = (trees : List PathMap) (s : List Change) (q : Path) → finite.get (effect_tree trees s) q ≡ effect trees s q

-- no change at all numbers the root
abbrev pub NoChanges : Type 0
NoChanges = (trees : List PathMap) (q : Path) → effect trees [] q ≡ marked (base trees) [] (length trees) q

-- one change more, wherever it stands among the others: none has its path, and where it settles its path none is below
abbrev pub OneMore : Type 0
OneMore =
    (trees : List PathMap) (front rest : List Change) (c : Change) → change_at (front ++ rest) c.path ≡ None → (settles c.action ≡ true → IsClear (front ++ rest) c)
    → (q : Path) → effect trees (front ++ c ∷ rest) q ≡ stepped trees (effect trees (front ++ rest)) c q

-- one change more in path order
abbrev pub OneMoreInOrder : Type 0
OneMoreInOrder = (trees : List PathMap) (s : List Change) (c : Change) → Follows s c → (q : Path) → effect trees (s ++ c ∷ []) q ≡ stepped trees (effect trees s) c q

-- each change of a normal set follows those before it
abbrev pub NormalFollows : Type 0
NormalFollows = (s rest : List Change) (c : Change) → IsNormal (s ++ c ∷ rest) → Follows s c

-- what follows the others finds none of them at its path or below
abbrev pub FollowsClear : Type 0
FollowsClear = (s : List Change) (c : Change) → Follows s c → IsClear s c

-- the fault of a set with one change more
abbrev pub OneMoreFault : Type 0
OneMoreFault = (trees : List PathMap) (s : List Change) (c : Change) → fault trees (s ++ c ∷ []) ≡ option_or (fault trees s) (fault_of trees (effect trees s) c)

-- a change that settled its path is replaced by one that does so again
abbrev pub Replaced : Type 0
Replaced =
    (trees : List PathMap) (front rest : List Change) (d r : Change) → d.path ≡ r.path → IsClear (front ++ rest) r → settles d.action ≡ true → settles r.action ≡ true
    → (q : Path) → effect trees (front ++ r ∷ rest) q ≡ stepped trees (effect trees (front ++ d ∷ rest)) r q

-- the change of a path is given another text or other properties, whatever changes below it
abbrev pub Reparted : Type 0
Reparted =
    (trees : List PathMap) (front rest : List Change) (c : Change) → change_at (front ++ rest) c.path ≡ None → (text : Option (List ℕ)) (props : Option PropMap)
    → (q : Path) → effect trees (front ++ regiven text props c ∷ rest) q ≡ changed_at (effect trees (front ++ c ∷ rest)) c.path (with_given text props) q

-- a change that gives nothing may go where the others number its path
abbrev pub Bare : Type 0
Bare =
    (trees : List PathMap) (front rest : List Change) (c : Change) → IsBare c → change_at (front ++ rest) c.path ≡ None → is_numbered (front ++ rest) c.path ≡ true
    → (q : Path) → effect trees (front ++ c ∷ rest) q ≡ effect trees (front ++ rest) q

-- and they do where one of them is below it
abbrev pub NumberedFromBelow : Type 0
NumberedFromBelow = (s : List Change) (p : Path) → list_any (λ c. is_front p c.path && not (same_path p c.path)) s ≡ true → is_numbered s p ≡ true

-- the order in which a set lists its paths says nothing
abbrev pub Permuted : Type 0
Permuted = (trees : List PathMap) (s t : List Change) → IsPermutation s t → ((p : Path) → stated_at t p ≡ stated_at s p) → (q : Path) → effect trees t q ≡ effect trees s q

-- records give one set at most
abbrev pub OneSet : Type 0
OneSet = (trees : List PathMap) (rs : List NodeRecord) (s t : List Change) → IsNormalSetOf trees rs s → IsNormalSetOf trees rs t → s ≡ t
