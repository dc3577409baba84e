-- What `serve` does over the repository that stands in a folder, and why it doesn't.
use Rattle.std.specs.Prelude.{◌≡◌, ◌⊎◌, ℕ, List, Option, Result, IfErr, OnOk, string_bytes}
use Rattle.std.specs.Io.KnownBytes.{Appends}
use Rattle.byte_streams.specs.declared.output.Output.{Ghosts as OutputGhosts}
use Rattle.fleet_disk.specs.declared.disk.Disk.{Ghosts}
use Rattle.node_base.specs.declared.refusal.Refusal.{Refusal}
use Rattle.node_base.specs.declared.refusal.Refusal.TheVariants as refusal
use Rattle.repo_store.specs.declared.store.RepoStore.{RepoStore}
use Rattle.sockets.specs.Lines.{listening}
use Rattle.sockets.specs.declared.troubles.Trouble.{Trouble}
use Rattle.sockets.specs.declared.troubles.Trouble.TheVariants as trouble
use Rattle.svn_server.specs.Served.{IsOfStore}
use Rattle.fleet_main.specs.Doing.{EndsWith, HandsOn, IsKept, IsOpenedOn}
use Rattle.fleet_main.specs.Ending.{TellsLine}
use Rattle.fleet_disk.specs.Lending.{There, IsGiven, OthersStay}
use Rattle.fleet_main.specs.Opening.{NotOpenedIn}
use Rattle.command_words.specs.declared.command_line.Service.{Service}
use Rattle.fleet_main.specs.declared.lending.Folders.{Ghosts as FolderGhosts}

-- a store is opened on a folder's disk, P is so of it, and as it began a stop left what keeps its repository. Then clients may have changed it: the folder has a store's disk, of which a stop leaves what the store keeps, and other folders stay
pub record OfServed {F D : Type 0} (G : Ghosts D) (H : FolderGhosts F D) (folders later : F) (folder : List ℕ) (P : Type 0) : Type 0 where
  pub given : D
  pub old : RepoStore D G
  pub back : D
  pub opened : IsOpenedOn G (H.honest folders) given old
  pub done : P
  pub kept : IsKept (H.honest folders) old
  pub lent : H.honest folders → IsGiven G (H.disk folders folder) given
  pub there : H.honest folders → H.disk later folder ≡ There back
  pub left : IsOfStore G back
  pub others : H.honest folders → OthersStay folder (H.disk folders) (H.disk later)
  pub honest : H.honest folders → G.honest back → H.honest later

-- the repository of a folder is served, and where was told
abbrev pub IsServedFrom : {F D : Type 0} → Ghosts D → FolderGhosts F D → F → F → Service → Option (List ℕ) → Option (List ℕ) → Type 0
IsServedFrom G H folders later service before now = OfServed G H folders later (string_bytes service.folder) (Appends before now (listening service.port))

-- a server fails: the port can't be listened on, or where isn't told, or memory ran out
abbrev pub IsServerFault : Refusal → Type 0
IsServerFault e = (e ≡ refusal.OutOfMemory) ⊎ (e ≡ refusal.PeerFailed)

-- it isn't served: it isn't opened, and nothing is written; or the server fails
abbrev pub NotServedIn : {F D : Type 0} → Ghosts D → FolderGhosts F D → F → F → List ℕ → Option (List ℕ) → Option (List ℕ) → Refusal → Type 0
NotServedIn G H folders later folder before now e = (NotOpenedIn G H folders later folder e × (now ≡ before)) ⊎ OfServed G H folders later folder (IsServerFault e)

abbrev pub NotServedFrom : {F D : Type 0} → Ghosts D → FolderGhosts F D → F → F → Service → Option (List ℕ) → Option (List ℕ) → ℕ → Refusal → Type 0
NotServedFrom G H folders later service before now count e = NotServedIn G H folders later (string_bytes service.folder) before now e

-- the refusal that trouble is
abbrev pub refusal_of : Trouble → Refusal
refusal_of trouble.DeviceFailed = refusal.DeviceFailed
refusal_of trouble.Failed = refusal.Failed
refusal_of trouble.LogFull = refusal.LogFull
refusal_of trouble.PeerFailed = refusal.PeerFailed
refusal_of trouble.OutOfMemory = refusal.OutOfMemory

-- the repository of a folder is served, and where was told
abbrev pub ServesIn : {F D O : Type 0} → Ghosts D → FolderGhosts F D → OutputGhosts O → F → F → O → O → List ℕ → ℕ → Result (Unit {0}) Refusal → Type 0
ServesIn G H W old new before now folder port result = OnOk result (OfServed G H old new folder (Appends (W.contents before) (W.contents now) (listening port)))

-- why it isn't
abbrev pub RefusesServing : {F D O : Type 0} → Ghosts D → FolderGhosts F D → OutputGhosts O → F → F → O → O → List ℕ → Result (Unit {0}) Refusal → Type 0
RefusesServing G H W old new before now folder result = IfErr result (NotServedIn G H old new folder (W.contents before) (W.contents now))

-- the service is done
abbrev pub DoesService : {F D O : Type 0} → Ghosts D → FolderGhosts F D → OutputGhosts O → F → F → O → O → Service → Result (Unit {0}) Refusal → Type 0
DoesService G H W old new before now service result = OnOk result (IsServedFrom G H old new service (W.contents before) (W.contents now))

-- why it isn't, and what is left then
abbrev pub RefusesService : {F D O : Type 0} → Ghosts D → FolderGhosts F D → OutputGhosts O → F → F → O → O → Service → Result (Unit {0}) Refusal → Type 0
RefusesService G H W old new before now service result = IfErr result (NotServedFrom G H old new service (W.contents before) (W.contents now) (W.failures now))

-- it is done, and what it wrote is handed on
abbrev pub DeliversService : {F D O : Type 0} → Ghosts D → FolderGhosts F D → OutputGhosts O → F → F → O → O → Service → Result (Unit {0}) Refusal → Type 0
DeliversService G H W old new before now service result = OnOk result (HandsOn (IsServedFrom G H old new service (W.contents before)) (W.contents now))

-- it ends with a refusal, and what it wrote is handed on as far as the output takes it
abbrev pub EndsService : {F D O : Type 0} → Ghosts D → FolderGhosts F D → OutputGhosts O → F → F → O → O → Service → Result (Unit {0}) Refusal → Type 0
EndsService G H W old new before now service result =
    IfErr result (EndsWith (IsServedFrom G H old new service (W.contents before)) (NotServedFrom G H old new service (W.contents before)) (W.failures before) (W.contents now) (W.failures now))

-- its status is 0 where it is done and that is handed on
abbrev pub SucceedsAtService : {F D O : Type 0} → Ghosts D → FolderGhosts F D → OutputGhosts O → F → F → O → O → Service → ℕ → Type 0
SucceedsAtService G H W old new before now service status = status ≡ 0 → HandsOn (IsServedFrom G H old new service (W.contents before)) (W.contents now)

-- and 1 where it is refused, with the refusal's line
abbrev pub FailsAtService : {F D O E : Type 0} → Ghosts D → FolderGhosts F D → OutputGhosts O → OutputGhosts E → F → F → O → O → E → E → Service → ℕ → Type 0
FailsAtService G H W V old new before now lines told service status =
    status ≡ 1 → (e : Refusal) × EndsWith (IsServedFrom G H old new service (W.contents before)) (NotServedFrom G H old new service (W.contents before))
    (W.failures before) (W.contents now) (W.failures now) e × TellsLine V lines told e
