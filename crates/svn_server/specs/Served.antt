-- What a server hands back.
use Rattle.std.specs.Prelude.{◌≡◌, ℕ, Result, OnOk}
use Rattle.std.specs.Io.KnownBytes.{Appends}
use Rattle.std.specs.declared.io.Write.{Ghosts as WriteGhosts}
use Rattle.fleet_disk.specs.declared.disk.Disk.{Ghosts}
use Rattle.repo_store.specs.Words.{disk_of, IsKept}
use Rattle.repo_store.specs.declared.store.RepoStore.{RepoStore}
use Rattle.sockets.specs.Lines.{listening}
use Rattle.sockets.specs.declared.fault.SocketFault.{SocketFault}

-- a disk is that of a store: what a stop leaves of it keeps the store's repository, or after a failure that or the one after the entry in doubt
abbrev pub IsOfStore : {D : Type 0} → Ghosts D → D → Type 0
IsOfStore {D} G disk = (store : RepoStore D G) × (disk ≡ disk_of store) × IsKept store

-- at Ok it is said where a server listens
abbrev pub SaysWhere : {W T : Type 0} → WriteGhosts W → W → W → ℕ → Result T SocketFault → Type 0
SaysWhere G old new port result = OnOk result (Appends (G.contents old) (G.contents new) (listening port))
