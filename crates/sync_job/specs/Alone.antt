-- A mirror and a master that are held alone.
use Rattle.std.specs.Prelude.{◌≡◌, ◌↔◌, ◌⊎◌, ◌<◌, ◌≤◌, ◌+◌, ◌^◌, ℕ, List, [], ◌∷◌, map, length, take, slice_get, Option, Some, None, IsSome, IsSomeAnd, Result, Ok, Err}
use Rattle.std.specs.Option.{option_map}
use Rattle.uuid.specs.Text.{hyphenated_text, lower}
use Rattle.fleet_disk.specs.Image.{Image}
use Rattle.fleet_disk.specs.declared.disk.Disk.{Ghosts}
use Rattle.fleet_disk.specs.Rules.{LeavesOnly}
use Rattle.gate_log.specs.Log.{size_of}
use Rattle.node_base.specs.Props.{PropMap}
use Rattle.node_base.specs.Tree.{PathMap}
use Rattle.node_base.specs.declared.refusal.Refusal.TheVariants as refusal
use Rattle.dump_load.specs.declared.change.Change.{Change}
use Rattle.dump_load.specs.Trees.{Makes}
use Rattle.repo_core.specs.Repository.{Repository, trees_of, tree_at, head_of}
use Rattle.repo_core.specs.declared.entry.Entry.{Entry}
use Rattle.repo_store.specs.Journal.{spelling}
use Rattle.repo_store.specs.Journal as journal
use Rattle.sync_core.specs.Mirror.{Call, entry_of}
use Rattle.sync_core.specs.declared.fault.SyncFault.{SyncFault}
use Rattle.sync_core.specs.declared.fault.SyncFault.TheVariants as fault
use Rattle.sync_core.specs.declared.reply.Reply.{Reply as Given}
use Rattle.repo_store.specs.declared.store.RepoStore.{RepoStore}
use Rattle.repo_store.specs.Words.{disk_of, log_of, repository_of, revisions_of, HasFailed}
use Rattle.sync_core.specs.World.{Origin, maps_now}
use Rattle.sync_job.specs.declared.alone.AloneMirror.{AloneMirror}
use Rattle.sync_job.specs.declared.held.HeldMaster.{HeldMaster}
use Rattle.sync_job.specs.declared.lent.LentMaster.{LentMaster}
use Rattle.sync_job.specs.declared.master.MasterFault.{MasterFault}
use Rattle.sync_job.specs.declared.master.MasterFault.TheVariants.{Refused}
use Rattle.sync_job.specs.Asked.{Asked}
use Rattle.sync_job.specs.Devices.{WasAsked}
use Rattle.sync_job.specs.Mirrors.{MirrorNow, Keeps, Steps}
use Rattle.sync_job.specs.Questions.{Exchange, Identity, Latest, Fetch, FetchProps}
use Rattle.sync_job.specs.Worlds.{AreFirst}

-- so a mirror stands in a store: its repository, the holder, a call's entry in doubt where the device failed, and all that a stop
-- leaves keeps it
pub record StandsAt {D : Type 0} {G : Ghosts D} (store : RepoStore D G) (holder : Option ℕ) (m : MirrorNow) : Type 0 where
  pub repository : m.repository ≡ repository_of store
  pub holder_is : m.holder ≡ holder
  pub doubt : HasFailed store ↔ IsSome m.doubt
  pub images : G.honest (disk_of store) → (image : Image) → G.may_leave (disk_of store) image → Keeps m image

-- the store of a master
abbrev pub master_in : {D : Type 0} {G : Ghosts D} → HeldMaster D G → RepoStore D G
master_in a = a.store

-- the store of one that is lent
abbrev pub lent_in : {D : Type 0} {G : Ghosts D} → LentMaster D G → RepoStore D G
lent_in a = a.store.now

-- a master that is this repository now
pub record IsMasterAt (r : Repository) (o : Origin) : Type 0 where
  pub identity : o.identity ≡ hyphenated_text lower r.identity
  pub trees : o.trees ≡ trees_of r.revisions
  pub maps : maps_now o ≡ map (λ x. x.props) r.revisions
  pub some : 0 < length o.maps

-- of a master that is this repository now that is so
abbrev pub IsTrueIn : Repository → (Origin → Type 0) → Type 0
IsTrueIn r Answers = (o : Origin) → IsMasterAt r o → Answers o

-- what a call does to a mirror in a store
pub record Moved {D : Type 0} {G : Ghosts D} (old new : RepoStore D G) (h_old h_new : Option ℕ) (call : Call) (result : Result Given SyncFault) (m : MirrorNow) : Type 0 where
  pub now : MirrorNow
  pub steps : Steps m 0 call result now
  pub there : StandsAt new h_new now
  pub images : G.honest (disk_of old) → LeavesOnly G.clock G.left_since (disk_of old) (disk_of new) (λ c. Keeps m c ⊎ Keeps now c)

-- the store of a mirror, and the holder of its lock
abbrev pub store_of : {D : Type 0} {G : Ghosts D} → AloneMirror D G → RepoStore D G
store_of a = a.store

abbrev pub holder_of : {D : Type 0} {G : Ghosts D} → AloneMirror D G → Option ℕ
holder_of a = a.holder

-- these trees are those of its first revisions
abbrev pub BeginsWith : {D : Type 0} {G : Ghosts D} → AloneMirror D G → List PathMap → Type 0
BeginsWith a trees = AreFirst trees (trees_of (revisions_of (store_of a)))

-- each mirror that may stand there moves by the call
abbrev pub MovesAlone : {D : Type 0} {G : Ghosts D} → AloneMirror D G → AloneMirror D G → Call → Result Given SyncFault → Type 0
MovesAlone old new call result =
    (m : MirrorNow) → StandsAt (store_of old) (holder_of old) m → Moved (store_of old) (store_of new) (holder_of old) (holder_of new) call result m

-- a mirror as a repository begins it: nobody has its lock, and no entry is in doubt
abbrev pub begun : Repository → MirrorNow
begun r = record { repository = r; holder = None; doubt = None }

-- in a store that works, and of which a stop leaves what keeps its repository, a mirror stands as the repository begins it
abbrev pub StandsAsOpened : {D : Type 0} (G : Ghosts D) → RepoStore D G → Type 0
StandsAsOpened G store =
    ¬ HasFailed store → (G.honest (disk_of store) → (image : Image) → G.may_leave (disk_of store) image → journal.Keeps (repository_of store) image)
    → StandsAt store None (begun (repository_of store))

-- the journal has no room for the call's entry
abbrev pub IsFull : {D : Type 0} {G : Ghosts D} → RepoStore D G → Call → Type 0
IsFull store call = (e : Entry) × (entry_of (revisions_of store) call ≡ Some e) × (2 ^ 56 < size_of (log_of store) + length (spelling e))

-- one call of a mirror in a store, and its answer: whatever mirror stood there, one stands there then to which they lead; 31 and 32
-- come of the device, and 36 only where the journal has no room
pub record IsStep {D : Type 0} {G : Ghosts D} (old : AloneMirror D G) (asked : Asked) (new : AloneMirror D G) : Type 0 where
  pub steps : (m : MirrorNow) → StandsAt (store_of old) (holder_of old) m → (now : MirrorNow) × StandsAt (store_of new) (holder_of new) now × Steps m 0 asked.call asked.result now
  pub device : WasAsked (store_of new) (store_of old) (asked ∷ [])
  pub full : asked.result ≡ Err (fault.Other refusal.LogFull) → IsFull (store_of old) asked.call

-- a master in a store has no such revision, or memory ran out
abbrev pub IsFaultAt : Repository → ℕ → MasterFault → Type 0
IsFaultAt r n f = (f ≡ Refused refusal.OutOfMemory) ⊎ ((f ≡ Refused refusal.NoSuchRevision) × (length r.revisions ≤ n))

-- the set makes the repository's tree of that number of those before it
abbrev pub IsSetIn : Repository → ℕ → List Change → Type 0
IsSetIn r n set = IsSomeAnd (tree_at r.revisions n) (Makes (take n (trees_of r.revisions)) set)

-- these are its properties
abbrev pub ArePropsIn : Repository → ℕ → PropMap → Type 0
ArePropsIn r n props = option_map (λ x. x.props) (slice_get r.revisions n) ≡ Some props

-- a question to a master that is this repository is answered as it is, where its answer is no failure
abbrev pub IsHeardOf : Repository → Exchange → Type 0
IsHeardOf r (Identity (Ok u)) = u ≡ hyphenated_text lower r.identity
IsHeardOf r (Latest (Ok n)) = n ≡ head_of r.revisions
IsHeardOf r (Fetch n trees (Ok v)) = IsSetIn r n v.set × ArePropsIn r n v.props
IsHeardOf r (FetchProps n (Ok p)) = ArePropsIn r n p
IsHeardOf r x = Unit {0}

-- and it fails for these causes alone
abbrev pub IsCausedBy : Repository → Exchange → Type 0
IsCausedBy r (Identity (Err f)) = f ≡ Refused refusal.OutOfMemory
IsCausedBy r (Latest (Err f)) = ⊥
IsCausedBy r (Fetch n trees (Err f)) = IsFaultAt r n f
IsCausedBy r (FetchProps n (Err f)) = IsFaultAt r n f
IsCausedBy r x = Unit {0}

-- this is the repository's own set of that number
abbrev pub IsSetOf : Repository → ℕ → List Change → Type 0
IsSetOf r n set = slice_get r.sets n ≡ Some set

-- each set that it gives is
abbrev pub GivesOwn : Repository → Exchange → Type 0
GivesOwn r (Fetch n trees (Ok v)) = IsSetOf r n v.set
GivesOwn r x = Unit {0}

abbrev pub IsAnsweredBy : Repository → Exchange → Type 0
IsAnsweredBy r x = IsHeardOf r x × IsCausedBy r x × GivesOwn r x
