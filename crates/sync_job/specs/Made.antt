-- Trees that come with the sets that make them.
use Rattle.std.specs.Prelude.{◌≡◌, ◌≤◌, ◌++◌, ◌∷◌, [], ℕ, List, length, take, Option, IfSome, Result, IfOk}
use Rattle.node_base.specs.Tree.{PathMap}
use Rattle.dump_load.specs.declared.change.Change.{Change}
use Rattle.dump_load.specs.Trees.{Makes}
use Rattle.repo_core.specs.declared.entry.Entry.{Entry}
use Rattle.repo_core.specs.declared.entry.Entry.TheVariants.{Revised, Mapped}
use Rattle.sync_core.specs.declared.answer.Answer.{Answer}
use Rattle.sync_core.specs.declared.answer.Answer.TheVariants as answer
use Rattle.sync_core.specs.declared.fault.SyncFault.{SyncFault}
use Rattle.sync_core.specs.Mirror.{Call, Commit}
use Rattle.sync_core.specs.Deeds.{Deed, Calls, AsksIdentity, AsksLatest, Fetches, FetchesProps, Ends}

-- the set makes the tree, as that of revision n, of the trees before it, which are the first ones of these
pub record IsMadeOver (trees : List PathMap) (n : ℕ) (set : List Change) (tree : PathMap) : Type 0 where
  pub there : n ≤ length trees
  pub makes : Makes (take n trees) set tree

-- so it does of trees that a mirror begins with
pub record IsMadeAt (begins_with : List PathMap → Type 0) (n : ℕ) (set : List Change) (tree : PathMap) : Type 0 where
  pub trees : List PathMap
  pub first : begins_with trees
  pub made : IsMadeOver trees n set tree

-- a tree that is handed over with a commit is the one that the commit's set makes there; with another call it may be any
abbrev pub ComesWith : (List PathMap → Type 0) → Call → Option PathMap → Type 0
ComesWith begins_with (Commit n set props) tree = IfSome tree (IsMadeAt begins_with n set)
ComesWith begins_with _ tree = Unit {0}

-- a tree that comes with a revision's entry is the one that its set makes of these trees
abbrev pub IsTreeOf : List PathMap → Entry → Option PathMap → Type 0
IsTreeOf trees (Revised n set props) tree = IfSome tree (Makes trees set)
IsTreeOf trees (Mapped n props) tree = Unit {0}

-- what comes with a call comes with what is done next
abbrev pub IsKeptFor : (List PathMap → Type 0) → Deed → Option PathMap → Type 0
IsKeptFor begins_with (Calls call) tree = ComesWith begins_with call tree
IsKeptFor begins_with AsksIdentity tree = Unit {0}
IsKeptFor begins_with AsksLatest tree = Unit {0}
IsKeptFor begins_with (Fetches n) tree = Unit {0}
IsKeptFor begins_with (FetchesProps n) tree = Unit {0}
IsKeptFor begins_with Ends tree = Unit {0}

-- a tree that comes with the answer to a fetch is the one that the answer's set makes of these trees
abbrev pub MakesOf : List PathMap → Answer → Option PathMap → Type 0
MakesOf trees (answer.Revision set props) tree = IfSome tree (Makes trees set)
MakesOf trees _ tree = Unit {0}

-- a tree that is kept behind the answer to a fetch is the one that the fetched set makes of the trees at hand
abbrev pub IsMadeBy : List PathMap → ℕ → Answer → Option PathMap → Type 0
IsMadeBy trees n (answer.Revision set props) tree = IfSome tree (IsMadeOver trees n set)
IsMadeBy trees n _ tree = Unit {0}

abbrev pub KeepsMade : List PathMap → Deed → Answer → Option PathMap → Type 0
KeepsMade trees (Fetches n) a tree = IsMadeBy trees n a tree
KeepsMade trees (Calls call) a tree = Unit {0}
KeepsMade trees AsksIdentity a tree = Unit {0}
KeepsMade trees AsksLatest a tree = Unit {0}
KeepsMade trees (FetchesProps n) a tree = Unit {0}
KeepsMade trees Ends a tree = Unit {0}

-- the trees that a port began with it begins with still
abbrev pub StillBegins : {N : Type 0} → (N → List PathMap → Type 0) → N → N → Type 0
StillBegins begins_with before after = (trees : List PathMap) → begins_with before trees → begins_with after trees

-- and behind some that are taken it begins with these
abbrev pub BeginsOn : {N : Type 0} → (N → List PathMap → Type 0) → N → N → List PathMap → List PathMap → Type 0
BeginsOn begins_with before after old new = begins_with before old → begins_with after new

-- the tree of the next revision goes behind those that a port begins with
abbrev pub GivesNext : {N : Type 0} → (N → List PathMap → Type 0) → N → N → ℕ → Result PathMap SyncFault → Type 0
GivesNext begins_with before after n result =
    (trees : List PathMap) → begins_with before trees → n ≡ length trees → IfOk result (λ t. begins_with after (trees ++ t ∷ []))
