-- What has been shown, what is left to show, and where an editor stops.
use Rattle.std.specs.Prelude.{◌≡◌, ℕ, List, [], ◌∷◌, ◌++◌, take, drop, Bool, true, false, Option, Some, None}
use Rattle.std.specs.Option.{option_map, option_map_or}
use Rattle.std.specs.List.{slice_get, AllByRecursion}
use Rattle.std.specs.declared.cmp.Ordering.TheVariants.{Less}
use Rattle.node_base.specs.Path.{Path, Name, path_cmp, is_front}
use Rattle.node_base.specs.Tree.{PathMap}
use Rattle.dump_load.specs.declared.change.Change.{Change}
use Rattle.delta_editor.specs.declared.call.Call.{Call}
use Rattle.delta_editor.specs.Calls.{Adds}
use Rattle.delta_editor.specs.declared.fault.EditorFault.{EditorFault}
use Rattle.delta_editor.specs.declared.fault.EditorFault.TheVariants.{OutOfMemory}
use Rattle.delta_editor.specs.Faults.{refused}
use Rattle.dump_load.specs.Faults.{fault}
use Rattle.editor_ends.specs.Drive.{walk}

-- between two states of an editor the calls were shown by which what was left to show before goes on to what is left now
pub record Shown {E : Type 0} (shows : E → List Call → Type 0) (old new : E) (before after : List Call) : Type 0 where
  pub more : List Call
  pub adds : Adds shows old new more
  pub is : before ≡ more ++ after

-- of the calls that are left to show, one is refused after those before it
pub record Stops {E O : Type 0} (shows : E → List Call → Type 0) (began : E → O) (refuses : O → List Call → Call → EditorFault → Type 0) (e : E) (left : List Call) (fault : EditorFault) : Type 0 where
  pub front : List Call
  pub refused : Call
  pub rest : List Call
  pub is : left ≡ front ++ refused ∷ rest
  pub cause : (calls : List Call) → shows e calls → refuses (began e) (calls ++ front) refused fault

-- the calls for the changes from the i-th on, where `at` is the innermost open directory
abbrev pub left : List PathMap → List Change → ℕ → Path → List Call
left trees set i at = walk trees (take i set) at (drop i set)

-- whether the i-th change is at a directory or below it
abbrev pub is_under : List Change → ℕ → Path → Bool
is_under set i at = option_map_or (λ c. is_front at c.path) (slice_get set i) false

-- the changes from the i-th on come after a path
abbrev pub IsLater : List Change → ℕ → Path → Type 0
IsLater set i at = AllByRecursion (λ c. path_cmp at c.path ≡ Less) (drop i set)

-- the next change is at a path, which is right below `at`, or further down
pub record IsNext (set : List Change) (i : ℕ) (at path : Path) : Type 0 where
  pub name : Name
  pub child : path ≡ at ++ name ∷ []
  pub change : Change
  pub is : slice_get set i ≡ Some change
  pub under : is_front path change.path ≡ true

-- what was shown of a child: it is open, or nothing is
abbrev pub Entered : {E D : Type 0} → (E → List Call → Type 0) → (D → Path) → E → E → List Call → (Path → List Call) → Path → Path → Option D → Type 0
Entered shows dir_path old new before after at path None = Shown shows old new before (after at)
Entered shows dir_path old new before after at path (Some d) = (dir_path d ≡ path) × Shown shows old new before (after path)

-- memory ran out, or it is the first fault of the changes, or it is a refusal of one of the calls that are left to show
pub data Halts {E O : Type 0} (shows : E → List Call → Type 0) (began : E → O) (refuses : O → List Call → Call → EditorFault → Type 0) (trees : List PathMap) (set : List Change) (e : E) (left : List Call) (f : EditorFault) : Type 0 where
  Memory : f ≡ OutOfMemory → Halts shows began refuses trees set e left f
  Faulty : option_map refused (fault trees set) ≡ Some f → Halts shows began refuses trees set e left f
  Refusal : Stops shows began refuses e left f → Halts shows began refuses trees set e left f

-- memory ran out, or it is the first fault of the changes
abbrev pub IsOwn : List PathMap → List Change → EditorFault → Type 0
IsOwn trees set OutOfMemory = Unit {0}
IsOwn trees set f = option_map refused (fault trees set) ≡ Some f
