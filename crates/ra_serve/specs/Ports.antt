-- What a port's calls say of its repository.
use Rattle.std.specs.Prelude.{◌≡◌, ◌≤◌, ℕ, Bool, nat_le, List, [], take, length, slice_get, Option, Some}
use Rattle.std.specs.Option.{option_map, option_map_or}
use Rattle.std.specs.FinMap as finite
use Rattle.fleet_disk.specs.Rules.{Rose}
use Rattle.node_base.specs.Path.{Name}
use Rattle.node_base.specs.Props.{PropMap}
use Rattle.node_base.specs.Tree.{PathMap}
use Rattle.node_base.specs.declared.refusal.Refusal.{Refusal}
use Rattle.node_base.specs.declared.refusal.Refusal.TheVariants as refusal
use Rattle.dump_load.specs.declared.change.Change.{Change}
use Rattle.dump_load.specs.Faults.{fault_if}
use Rattle.repo_core.specs.Repository.{Repository, trees_of, tree_at, props_at}
use Rattle.repo_core.specs.Refusals.{Wanted, property_fault}
use Rattle.repo_store.specs.Refusals.{repo_refusal}
use Rattle.ra_serve.specs.declared.fault.PortFault.{PortFault}
use Rattle.ra_serve.specs.declared.fault.PortFault.TheVariants as fault

-- the refusal that a port's is
abbrev pub refusal_of : PortFault → Refusal
refusal_of fault.TooLong = refusal.TooLong
refusal_of fault.NoSuchRevision = refusal.NoSuchRevision
refusal_of fault.BaseMismatch = refusal.BaseMismatch
refusal_of fault.DeviceFailed = refusal.DeviceFailed
refusal_of fault.Failed = refusal.Failed
refusal_of fault.LogFull = refusal.LogFull
refusal_of fault.OutOfMemory = refusal.OutOfMemory

-- a refusal that no repository says is due: the port's own
abbrev pub IsOwn : PortFault → Type 0
IsOwn fault.DeviceFailed = Unit {0}
IsOwn fault.Failed = Unit {0}
IsOwn fault.LogFull = Unit {0}
IsOwn fault.OutOfMemory = Unit {0}
IsOwn f = ⊥

-- a refusal is the one that is due, or the port's own, which it counts
abbrev pub MayRefuse : ℕ → ℕ → PortFault → Option Refusal → Type 0
MayRefuse before now fault.DeviceFailed due = Rose before now
MayRefuse before now fault.Failed due = Rose before now
MayRefuse before now fault.LogFull due = Rose before now
MayRefuse before now fault.OutOfMemory due = Rose before now
MayRefuse before now f due = due ≡ Some (refusal_of f)

-- a call leaves what the port is, and its count of refusals doesn't fall
pub record Goes (mirror_before mirror_now : Bool) (before now : ℕ) : Type 0 where
  pub mirror : mirror_now ≡ mirror_before
  pub later : before ≤ now

-- and it changes nothing else
pub record Stays (old new : Option Repository) (mirror_before mirror_now : Bool) (before now : ℕ) : Type 0 where
  pub repository : new ≡ old
  pub goes : Goes mirror_before mirror_now before now

-- a revision above the head
abbrev pub no_revision : Repository → ℕ → Option Refusal
no_revision x n = fault_if (nat_le (length x.revisions) n) refusal.NoSuchRevision

-- a conditional change of a property: the revision, then the value that is found, then the limits
abbrev pub change_due : Repository → ℕ → Name → Option (List ℕ) → Wanted → Option Refusal
change_due x n name value previous = option_map repo_refusal (property_fault x.revisions n name value previous)

-- the tree of a revision, and one without a path where it isn't there
abbrev pub tree_of : Repository → ℕ → PathMap
tree_of x n = option_map_or (λ t. t) (tree_at x.revisions n) finite.empty

-- the changes that made a revision, and none where it isn't there
abbrev pub set_of : Repository → ℕ → List Change
set_of x n = option_map_or (λ s. s) (slice_get x.sets n) []

-- what a replay of a revision takes: its changes, the trees before it, and its properties
pub record IsReplay (x : Repository) (n : ℕ) (set : List Change) (trees : List PathMap) (props : PropMap) : Type 0 where
  pub set_is : set ≡ set_of x n
  pub trees_are : trees ≡ take n (trees_of x.revisions)
  pub props_are : props ≡ props_at x.revisions n

-- ---- what a port's call says, by the ghosts of the port

-- the port stays what it is, and its count of refusals doesn't fall
abbrev pub StaysBy : {P : Type 0} → (P → Option Repository) → (P → ℕ) → (P → Bool) → P → P → Type 0
StaysBy repository refusals is_mirror old new = Stays (repository old) (repository new) (is_mirror old) (is_mirror new) (refusals old) (refusals new)
