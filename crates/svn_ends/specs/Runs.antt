-- What a run over a mirror's store and a server says and leaves.
use Rattle.std.specs.Prelude.{◌≡◌, ◌⊎◌, ℕ, List, Option, Result, Err, IfErr, string_bytes}
use Rattle.fleet_disk.specs.declared.disk.Disk.{Ghosts}
use Rattle.byte_streams.specs.Causes.{Rose}
use Rattle.byte_streams.specs.declared.input.Input.{Ghosts as InputGhosts}
use Rattle.byte_streams.specs.declared.output.Output.{Ghosts as OutputGhosts}
use Rattle.node_base.specs.declared.refusal.Refusal.{Refusal}
use Rattle.node_base.specs.declared.refusal.Refusal.TheVariants as refusal
use Rattle.repo_store.specs.declared.store.RepoStore.{RepoStore}
use Rattle.sync_core.specs.declared.fault.SyncFault.{SyncFault}
use Rattle.sync_job.specs.Masters.{fault_text}
use Rattle.sync_job.specs.Questions.{Exchange}
use Rattle.sync_job.specs.Said.{Spoken}
use Rattle.mirror_engines.specs.Runs.{IsWorked, Serves}
use Rattle.mirror_engines.specs.Worlds.{unknown}
use Rattle.mirror_engines.specs.declared.work.Work.{Work}
use Rattle.ra_client.specs.Deltas.{session_of, deltas_answered_by}
use Rattle.ra_client.specs.Masters.{answered_by, of_client}
use Rattle.ra_client.specs.Ports.{IsOpened, IsUnopened}
use Rattle.ra_client.specs.declared.port.ClientPort.{ClientPort}
use Rattle.ra_client.specs.declared.delta_port.DeltaPort.{DeltaPort}
use Rattle.ra_client.specs.declared.fault.ClientFault.{ClientFault}

-- there is no connection: nobody listens, or memory ran out
abbrev pub IsUnreached : Refusal → Type 0
IsUnreached e = (e ≡ refusal.PeerFailed) ⊎ (e ≡ refusal.OutOfMemory)

-- it is told as a job tells that its master failed, in that fault's words
abbrev pub TellsMaster : ClientFault → Refusal → Type 0
TellsMaster f e = (text : _) × (e ≡ refusal.MasterFailed text) × (string_bytes text ≡ fault_text (of_client f))

-- a run of a job over a mirror's store and a session: the session wasn't opened, for what the server sent or want of memory, and then the mirror is as it was and nothing is written; or it is a run like one over any master
pub data RunsOver {D O : Type 0} {G : Ghosts D} (contents : O → Option (List ℕ)) (failures : O → ℕ) (IsRun : List Spoken → Result (Unit {0}) SyncFault → Type 0) (old new : RepoStore D G) (before now : O) (result : Result (Unit {0}) Refusal) : Type 0 where
  Unopened : (e : Refusal) → result ≡ Err e → (e ≡ refusal.OutOfMemory) ⊎ ((f : ClientFault) × TellsMaster f e) → new ≡ old → now ≡ before → RunsOver contents failures IsRun old new before now result
  Ran : Serves unknown tt IsRun old new (contents before) (contents now) (Rose (failures before) (failures now)) result → RunsOver contents failures IsRun old new before now result

-- the same where it is known how the session's port is opened or isn't: what the master answered in the run is what this port's calls answered
pub data RunsBy {P D O : Type 0} {G : Ghosts D} (Opened : P → Type 0) (Ended : ClientFault → Type 0) (answered : P → P → List Exchange → Type 0) (contents : O → Option (List ℕ)) (failures : O → ℕ) (IsRun : List Spoken → Result (Unit {0}) SyncFault → Type 0) (old new : RepoStore D G) (before now : O) (result : Result (Unit {0}) Refusal) : Type 0 where
  Unmet : (e : Refusal) (f : ClientFault) → result ≡ Err e → Ended f → (e ≡ refusal.OutOfMemory) ⊎ TellsMaster f e → new ≡ old → now ≡ before → RunsBy Opened Ended answered contents failures IsRun old new before now result
  Met : (port : P) → Opened port → Serves answered port IsRun old new (contents before) (contents now) (Rose (failures before) (failures now)) result → RunsBy Opened Ended answered contents failures IsRun old new before now result

-- over a session of that input and output
abbrev pub RunsAt : {R C D O : Type 0} {G : Ghosts D} → InputGhosts R → OutputGhosts C → List ℕ → R → C → (O → Option (List ℕ)) → (O → ℕ) → (List Spoken → Result (Unit {0}) SyncFault → Type 0) → RepoStore D G → RepoStore D G → O → O → Result (Unit {0}) Refusal → Type 0
RunsAt {R} {C} {D} {O} {G} g h url input commands = RunsBy {P = ClientPort R C g h} (λ port. IsOpened url input commands port) (IsUnopened g h url input commands) answered_by

-- and over one whose server sends texts as differences
abbrev pub RunsDeltasAt : {R C D O : Type 0} {G : Ghosts D} → InputGhosts R → OutputGhosts C → List ℕ → R → C → (O → Option (List ℕ)) → (O → ℕ) → (List Spoken → Result (Unit {0}) SyncFault → Type 0) → RepoStore D G → RepoStore D G → O → O → Result (Unit {0}) Refusal → Type 0
RunsDeltasAt {R} {C} {D} {O} {G} g h url input commands = RunsBy {P = DeltaPort R C g h} (λ port. IsOpened url input commands (session_of port)) (IsUnopened g h url input commands) deltas_answered_by

-- the same over a connection, which may not come about
pub data RunsFrom {D O : Type 0} {G : Ghosts D} (contents : O → Option (List ℕ)) (failures : O → ℕ) (IsRun : List Spoken → Result (Unit {0}) SyncFault → Type 0) (old new : RepoStore D G) (before now : O) (result : Result (Unit {0}) Refusal) : Type 0 where
  Unreached : (e : Refusal) → result ≡ Err e → IsUnreached e → new ≡ old → now ≡ before → RunsFrom contents failures IsRun old new before now result
  Reached : RunsOver contents failures IsRun old new before now result → RunsFrom contents failures IsRun old new before now result

-- the work is such a run, and what its output holds
abbrev pub WorksFrom : {D O : Type 0} {G : Ghosts D} → OutputGhosts O → RepoStore D G → RepoStore D G → O → O → Work → Result (Unit {0}) Refusal → Type 0
WorksFrom W old new before now w result = RunsFrom W.contents W.failures (IsWorked w) old new before now result

-- over a session of that input and output
abbrev pub WorksAt : {R C O D : Type 0} {G : Ghosts D} → InputGhosts R → OutputGhosts C → OutputGhosts O → List ℕ → R → C → RepoStore D G → RepoStore D G → O → O → Work → Result (Unit {0}) Refusal → Type 0
WorksAt g h W url input commands old new before now w result = RunsAt g h url input commands W.contents W.failures (IsWorked w) old new before now result

-- and over one whose server sends texts as differences
abbrev pub WorksDeltasAt : {R C O D : Type 0} {G : Ghosts D} → InputGhosts R → OutputGhosts C → OutputGhosts O → List ℕ → R → C → RepoStore D G → RepoStore D G → O → O → Work → Result (Unit {0}) Refusal → Type 0
WorksDeltasAt g h W url input commands old new before now w result = RunsDeltasAt g h url input commands W.contents W.failures (IsWorked w) old new before now result

-- PeerFailed (49) comes only where the output failed
abbrev pub IsOutputFailure : {O T : Type 0} → OutputGhosts O → O → O → Result T Refusal → Type 0
IsOutputFailure W before now result = IfErr result (λ e. e ≡ refusal.PeerFailed → Rose (W.failures before) (W.failures now))
