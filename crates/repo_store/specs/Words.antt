-- What a store is to its caller.
use Rattle.std.specs.Prelude.{◌≡◌, ◌<◌, ◌≤◌, ◌+◌, ◌^◌, ℕ, List, length, Option}
use Rattle.fleet_disk.specs.Image.{Image}
use Rattle.fleet_disk.specs.declared.disk.Disk.{Ghosts}
use Rattle.gate_log.specs.Device.{LeavesNow}
use Rattle.gate_log.specs.Standing.{Stands}
use Rattle.gate_log.specs.declared.log.GateLog.{GateLog}
use Rattle.gate_log.specs.declared.log.Receipt.{Receipt}
use Rattle.gate_log.specs.declared.version.LogVersion.{LogVersion}
use Rattle.gate_log.specs.Log as log
use Rattle.node_base.specs.Tree.{PathMap}
use Rattle.repo_core.specs.Repository.{Repository, Revision}
use Rattle.repo_core.specs.declared.entry.Entry.{Entry}
use Rattle.repo_core.specs.Staging.{IsReady}
use Rattle.repo_store.specs.Journal.{Spells, HasSet, Keeps, KeepsOr, ReopensTo, doubt_in}
use Rattle.repo_store.specs.declared.store.RepoStore.{RepoStore}
use Rattle.repo_store.specs.declared.staged.Staged.{Staged}

-- the entry that is staged
abbrev pub entry_in : Staged → Entry
entry_in staged = staged.change.entry

-- the tree of the new revision, where there is one
abbrev pub tree_in : Staged → Option PathMap
tree_in staged = staged.change.tree

-- its journal
abbrev pub log_of : {D : Type 0} {G : Ghosts D} → RepoStore D G → GateLog D G
log_of store = store.log

-- the version of its journal
abbrev pub version_in : {D : Type 0} {G : Ghosts D} → RepoStore D G → LogVersion
version_in store = log.version_of store.log

-- the entries of its journal
abbrev pub entries_in : {D : Type 0} {G : Ghosts D} → RepoStore D G → List (List ℕ)
entries_in store = log.entries_of store.log

-- the receipt of the entry behind those of its journal
abbrev pub IsNextReceipt : {D : Type 0} {G : Ghosts D} → RepoStore D G → Receipt → Type 0
IsNextReceipt store receipt = log.entry_of receipt ≡ length (entries_in store)

-- the disk that it is kept on
abbrev pub disk_of : {D : Type 0} {G : Ghosts D} → RepoStore D G → D
disk_of store = log.disk_of store.log

-- its repository
abbrev pub repository_of : {D : Type 0} {G : Ghosts D} → RepoStore D G → Repository
repository_of store = store.repo

-- its revisions
abbrev pub revisions_of : {D : Type 0} {G : Ghosts D} → RepoStore D G → List Revision
revisions_of store = store.repo.revisions

-- its identity
abbrev pub identity_of : {D : Type 0} {G : Ghosts D} → RepoStore D G → List ℕ
identity_of store = store.repo.identity

-- its disk keeps the rules of a disk
abbrev pub IsHonest : {D : Type 0} {G : Ghosts D} → RepoStore D G → Type 0
IsHonest {G} store = G.honest (disk_of store)

-- each image that a stop may leave now has P
abbrev pub StopLeaves : {D : Type 0} {G : Ghosts D} → RepoStore D G → (Image → Type 0) → Type 0
StopLeaves {G} store P = LeavesNow G (disk_of store) P

-- and it keeps the store's repository
abbrev pub StopKeeps : {D : Type 0} {G : Ghosts D} → RepoStore D G → Type 0
StopKeeps store = StopLeaves store (Keeps (repository_of store))

-- or it has these entries
abbrev pub LeavesEntries : {D : Type 0} {G : Ghosts D} → RepoStore D G → List (List ℕ) → Type 0
LeavesEntries store entries = StopLeaves store (λ image. Stands image entries)

-- the device failed in a call of it
abbrev pub HasFailed : {D : Type 0} {G : Ghosts D} → RepoStore D G → Type 0
HasFailed store = log.HasFailed store.log

-- of a store on a disk that keeps the rules, of which no call failed
abbrev pub IfSound : {D : Type 0} {G : Ghosts D} → RepoStore D G → Type 0 → Type 0
IfSound store P = IsHonest store → ¬ HasFailed store → P

-- an image reopens to its repository
abbrev pub ReopensAs : {D : Type 0} {G : Ghosts D} → RepoStore D G → Image → Type 0
ReopensAs store image = ReopensTo (identity_of store) (revisions_of store) image

-- the entry of the call in which the device failed, which may stand on the disk
abbrev pub doubt_of : {D : Type 0} {G : Ghosts D} → RepoStore D G → Option Entry
doubt_of store = doubt_in store.doubt

-- each image that a stop may leave now keeps the repository; after a failure of the device that, or the one after the entry in doubt
abbrev pub IsKept : {D : Type 0} {G : Ghosts D} → RepoStore D G → Type 0
IsKept {G} store = G.honest (disk_of store) → (image : Image) → G.may_leave (disk_of store) image → KeepsOr (repository_of store) (doubt_of store) image

-- the store is ready for what is staged: it takes it, the bytes spell it, and the journal has room for them
pub record IsReadyFor {D : Type 0} {G : Ghosts D} (store : RepoStore D G) (staged : Staged) : Type 0 where
  pub change : IsReady store.repo.revisions staged.change
  pub set : HasSet staged.change.entry
  pub bytes : Spells staged.bytes.items staged.change.entry
  pub some : 0 < length staged.bytes.items
  pub room : log.HasRoom store.log
  pub fits : log.size_of store.log + length staged.bytes.items ≤ 2 ^ 56
  pub working : ¬ log.HasFailed store.log
