-- What an editor that builds a set keeps: changes beside the tree that they make.
use Rattle.std.specs.Prelude.{◌≡◌, ℕ, ◌≤◌, ◌<◌, take, drop, Result, Ok, Err, Bool, true, false, not, ◌&&◌, ◌||◌, List, ◌∷◌, [], map, length, Option, Some, None, IsSome, if◌then◌else◌, ◌⊎◌}
use Rattle.std.specs.Option.{option_map, option_map_or, option_and_then}
use Rattle.std.specs.Prelude.{unwrap_or}
use Rattle.std.specs.List.{list_any, slice_get, AllByRecursion}
use Rattle.std.specs.declared.cmp.Ordering.TheVariants.{Less}
use Rattle.std.specs.FinMap as finite
use Rattle.node_base.specs.Path.{Path, path_cmp, same_path, is_front}
use Rattle.node_base.specs.Tree.{PathMap, marked, changed_at}
use Rattle.node_base.specs.declared.node.Node.{Node}
use Rattle.dump_load.specs.declared.change.Change.{Change}
use Rattle.node_base.specs.declared.node.Action.TheVariants.{Delete, Replace}
use Rattle.node_base.specs.declared.limits.TheConstants.{CHANGES, REVISION}
use Rattle.dump_load.specs.Changes.{settles, is_delete, is_add, brings, change_at, IsNormal}
use Rattle.path_tree.specs.declared.error.TreeError.{TreeError}
use Rattle.path_tree.specs.declared.error.TreeError.TheVariants.{Fault}
use Rattle.path_tree.specs.declared.error.TreeError.TheVariants as error
use Rattle.delta_editor.specs.Faults.{refused}
use Rattle.std.specs.Prelude.{is_none, is_some}
use Rattle.dump_load.specs.Effect.{effect, stepped}
use Rattle.dump_load.specs.Faults.{fault}
use Rattle.dump_load.specs.Trees.{Makes}
use Rattle.delta_editor.specs.declared.call.Call.{Call}
use Rattle.delta_editor.specs.CallEffect.{call_effect}
use Rattle.delta_editor.specs.Nesting.{Stage, Before, Within, After, run, IsNested}
use Rattle.delta_editor.specs.declared.fault.EditorFault.{EditorFault}
use Rattle.delta_editor.specs.declared.fault.EditorFault.TheVariants as refusal
use Rattle.editor_ends.specs.Asked.{removes, deletes, adds, kind_at, source_at, tells_props, tells_text, last_of, IsAsked}
use Rattle.editor_ends.specs.BuildFaults.{is_below, takes, acts_below, gives, is_changed, begun, begin_fault, first_refusal}

-- a change whose parts, where it gives them, are those of the node at its path
abbrev pub filled : (Path → Option Node) → Change → Change
filled f c =
    record { path = c.path; action = c.action; kind = c.kind; source = c.source; props = option_map (λ m. option_map_or (λ x. x.props) (f c.path) m) c.props; text = option_map (λ t. option_map_or (λ x. unwrap_or x.text t) (f c.path) t) c.text }

-- a change that gives properties, or a text
abbrev pub giving_props : Change → Change
giving_props c = record { path = c.path; action = c.action; kind = c.kind; source = c.source; props = Some (unwrap_or c.props finite.empty); text = c.text }

abbrev pub giving_text : Change → Change
giving_text c = record { path = c.path; action = c.action; kind = c.kind; source = c.source; props = c.props; text = Some (unwrap_or c.text []) }

-- a change as a call begins it
abbrev pub IsFresh : Change → Type 0
IsFresh c = c ≡ begun c.action c.kind c.path c.source

-- whether something is opened or added at a path
abbrev pub is_taken : List Change → Path → Bool
is_taken s p = option_map_or (λ c. not (is_delete c.action)) (change_at s p) false

-- whether something is changed below a path
abbrev pub is_above : List Change → Path → Bool
is_above s p = list_any (λ c. is_below p c.path) s

-- a change that adds or deletes, or gives something
abbrev pub is_full : Change → Bool
is_full c = settles c.action || (is_some c.props || is_some c.text)

-- whether there is such a change of a path
abbrev pub is_given : List Change → Path → Bool
is_given s p = list_any (λ c. same_path c.path p && is_full c) s

-- whether a change of a path is needed: there is such a one, or nothing is changed below
abbrev pub is_needed : List Change → Path → Bool
is_needed s p = is_given s p || (is_taken s p && not (is_above s p))

-- whether a change comes too late
abbrev pub is_late_in : List Change → Change → Bool
is_late_in s x = is_taken s x.path || (is_delete x.action && is_above s x.path)

-- the changes, their parts filled in, have the tree as their effect; they are a normal set without a fault; and something is above each
pub record Made (trees : List PathMap) (tree : PathMap) (s : List Change) : Type 0 where
  pub numbered : length trees ≤ REVISION
  pub made : (q : Path) → effect trees (map (filled (finite.get tree)) s) q ≡ finite.get tree q
  pub normal : IsNormal s
  pub faultless : fault trees s ≡ None
  pub stands : (p : Path) → is_above s p ≡ true → IsSome (finite.get tree p)

-- a change stands where there was none; or an add in the place of a deletion, as a replace
pub data BeginsAt (s new : List Change) (x : Change) : Type 0 where
  First : change_at s x.path ≡ None → change_at new x.path ≡ Some x → BeginsAt s new x
  Again : (d : Change) → change_at s x.path ≡ Some d → is_delete d.action ≡ true → is_add x.action ≡ true → change_at new x.path ≡ Some (record x { action = Replace }) → BeginsAt s new x

-- a change was begun
pub record Begins (trees : List PathMap) (tree : PathMap) (s : List Change) (new_tree : PathMap) (new : List Change) (x : Change) : Type 0 where
  pub fault : begin_fault trees (finite.get tree) (is_late_in s x) x ≡ None
  pub tree_is : (q : Path) → finite.get new_tree q ≡ stepped trees (finite.get tree) x q
  pub made : Made trees new_tree new
  pub taken : (p : Path) → is_taken new p ≡ (is_taken s p || (same_path x.path p && not (is_delete x.action)))
  pub above : (p : Path) → is_above new p ≡ (is_above s p || is_below p x.path)
  pub given : (p : Path) → is_given new p ≡ (is_given s p || (same_path x.path p && is_full x))
  pub begins_at : BeginsAt s new x
  pub elsewhere : (p : Path) → same_path x.path p ≡ false → change_at new p ≡ change_at s p

-- the node at a path was given something, so that the change of the path became another
pub record Gives (trees : List PathMap) (tree : PathMap) (s : List Change) (new_tree : PathMap) (new : List Change) (p : Path) (g : Node → Node) (k : Change → Change) : Type 0 where
  pub tree_is : (q : Path) → finite.get new_tree q ≡ changed_at (finite.get tree) p g q
  pub made : Made trees new_tree new
  pub taken : (q : Path) → is_taken new q ≡ is_taken s q
  pub above : (q : Path) → is_above new q ≡ is_above s q
  pub given : (q : Path) → is_given new q ≡ (is_given s q || same_path p q)
  pub became : (q : Path) → change_at new q ≡ option_map (λ c. if same_path p q then k c else c) (change_at s q)

-- a fault is the one that is said, but for memory
abbrev pub IsFaultOr : Option EditorFault → EditorFault → Type 0
IsFaultOr first refusal.OutOfMemory = Unit {0}
IsFaultOr first e = first ≡ Some e

-- what a search by halves finds of a path among changes in order: its change, or where it would go
abbrev pub Placed : List Change → Path → Result ℕ ℕ → Type 0
Placed s p (Ok i) = (c : Change) → slice_get s i ≡ Some c → c.path ≡ p
Placed s p (Err i) = AllByRecursion (λ c. path_cmp c.path p ≡ Less) (take i s) × AllByRecursion (λ c. path_cmp p c.path ≡ Less) (drop i s)

abbrev pub told : TreeError → EditorFault
told (Fault f) = refused f
told error.OutOfMemory = refusal.OutOfMemory

-- a change of what is there that gives nothing, where another is below it
abbrev pub is_idle : Change → Change → Bool
is_idle c d = not (settles c.action) && (is_none c.props && (is_none c.text && is_front c.path d.path))

-- whether a change only leads to the first of those behind it
abbrev pub leads_on : Change → List Change → Bool
leads_on c [] = false
leads_on c (d ∷ s) = is_idle c d

-- none of them does
abbrev pub IsLean : List Change → Type 0
IsLean [] = Unit {0}
IsLean (c ∷ s) = (leads_on c s ≡ false) × IsLean s

-- a normal set with the effect of another, and without a fault where that has none, of whose changes it has some, and some below each path
-- that had some below; those that give something, and those with nothing below, stay
pub record Keeps (trees : List PathMap) (s new : List Change) : Type 0 where
  pub normal : IsNormal new
  pub faultless : fault trees s ≡ None → fault trees new ≡ None
  pub effect_is : (q : Path) → effect trees new q ≡ effect trees s q
  pub above : (p : Path) → is_above new p ≡ is_above s p
  pub stays : (p : Path) (c : Change) → change_at new p ≡ Some c → change_at s p ≡ Some c
  pub keeps : (p : Path) (c : Change) → change_at s p ≡ Some c → (is_full c ≡ true) ⊎ (is_above s p ≡ false) → change_at new p ≡ Some c

-- a change is one of some changes, its parts filled in
pub record IsFilledOf (f : Path → Option Node) (changes : List Change) (c : Change) : Type 0 where
  pub stem : Change
  pub at : change_at changes c.path ≡ Some stem
  pub is : c ≡ filled f stem

-- a normal set of no more than 4,096 changes has no fault and this effect, and each of them is needed and one of those before, and each
-- that is needed is there
pub record IsSetOver (trees : List PathMap) (f : Path → Option Node) (changes set : List Change) : Type 0 where
  pub normal : IsNormal set
  pub faultless : fault trees set ≡ None
  pub effect_is : (q : Path) → effect trees set q ≡ f q
  pub needed : AllByRecursion (λ c. is_needed changes c.path ≡ true) set
  pub whole : (p : Path) → is_needed changes p ≡ true → IsSome (change_at set p)
  pub stems : AllByRecursion (IsFilledOf f changes) set
  pub few : length set ≤ CHANGES

-- it takes more changes than that
pub record IsTooMany (trees : List PathMap) (f : Path → Option Node) (changes : List Change) : Type 0 where
  pub set : List Change
  pub normal : IsNormal set
  pub is : (q : Path) → effect trees set q ≡ f q
  pub needed : AllByRecursion (λ c. is_needed changes c.path ≡ true) set
  pub many : CHANGES < length set

-- memory ran out, or there are too many changes
pub data IsFinishRefusal (trees : List PathMap) (f : Path → Option Node) (changes : List Change) (e : EditorFault) : Type 0 where
  OfMemory : e ≡ refusal.OutOfMemory → IsFinishRefusal trees f changes e
  OfSize : e ≡ refusal.TooLong → IsTooMany trees f changes → IsFinishRefusal trees f changes e

-- the root is numbered before it is opened
abbrev pub seen : Stage → List PathMap → (Path → Option Node) → Path → Option Node
seen Before trees f = marked f [] (length trees)
seen (Within os) trees f = f
seen After trees f = f

-- the change of a path, if there is one, is what calls ask for there
pub record AskedAt (calls : List Call) (p : Path) (o : Option Change) : Type 0 where
  pub deleted : option_map_or (λ c. removes c.action) o false ≡ list_any (deletes p) calls
  pub added : option_map_or brings o false ≡ list_any (adds p) calls
  pub kind_is : option_and_then (λ c. c.kind) o ≡ last_of (kind_at p) calls
  pub source_is : option_and_then (λ c. c.source) o ≡ last_of (source_at p) calls
  pub props_told : option_map_or (λ c. is_some c.props) o false ≡ list_any (tells_props p) calls
  pub text_told : option_map_or (λ c. is_some c.text) o false ≡ list_any (tells_text p) calls

-- a deletion says nothing else
abbrev pub AreBare : List Change → Type 0
AreBare s = (p : Path) (d : Change) → change_at s p ≡ Some d → is_delete d.action ≡ true → d ≡ begun Delete None p None

-- what a change gives is kept in the tree alone
pub record IsBlank (c : Change) : Type 0 where
  pub props_are : c.props ≡ option_map (λ _. finite.empty) c.props
  pub text_is : c.text ≡ option_map (λ _. []) c.text

abbrev pub AreBlank : List Change → Type 0
AreBlank s = (p : Path) (c : Change) → change_at s p ≡ Some c → IsBlank c

-- the tree and the changes are what the calls come to so far
pub record Builds (trees : List PathMap) (tree : PathMap) (s : List Change) (calls : List Call) (stage : Stage) : Type 0 where
  pub called : (q : Path) → finite.get tree q ≡ seen stage trees (call_effect trees calls) q
  pub made : Made trees tree s
  pub taken : (p : Path) → is_taken s p ≡ list_any (takes p) calls
  pub above : (p : Path) → is_above s p ≡ list_any (acts_below p) calls
  pub given : (p : Path) → is_given s p ≡ list_any (gives p) calls
  pub asked : (p : Path) → AskedAt calls p (change_at s p)
  pub bare : AreBare s
  pub blank : AreBlank s
  pub unrefused : first_refusal trees calls ≡ None

-- the same, wherever the calls keep the nesting
abbrev pub BuildsWithin : List PathMap → PathMap → List Change → List Call → Type 0
BuildsWithin trees tree s calls = (stage : Stage) → run Before calls ≡ Some stage → Builds trees tree s calls stage

-- the set is what the calls come to: it has no fault over the trees before it, their effect, and a change, as they ask for it, of each path
-- that they change and of no other
pub record IsSetOf (trees : List PathMap) (set : List Change) (calls : List Call) : Type 0 where
  pub unrefused : first_refusal trees calls ≡ None
  pub normal : IsNormal set
  pub faultless : fault trees set ≡ None
  pub effect_is : (q : Path) → effect trees set q ≡ call_effect trees calls q
  pub changed : AllByRecursion (λ c. is_changed calls c.path ≡ true) set
  pub whole : (p : Path) → is_changed calls p ≡ true → IsSome (change_at set p)
  pub asked : AllByRecursion (IsAsked trees calls) set
  pub few : length set ≤ CHANGES

abbrev pub IsSetWithin : List PathMap → List Change → List Call → Type 0
IsSetWithin trees set calls = IsNested calls → IsSetOf trees set calls

-- the set is what the calls come to, and makes the tree
abbrev pub IsBuiltOf : List PathMap → List Change → PathMap → List Call → Type 0
IsBuiltOf trees set tree calls = IsNested calls → IsSetOf trees set calls × Makes trees set tree
