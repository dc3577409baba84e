-- A run over a session, whatever it is over.
use Rattle.std.proofs.Common.{List, ℕ, Option, Result}
use Rattle.fleet_disk.specs.declared.disk.Disk.{Ghosts}
use Rattle.node_base.specs.declared.refusal.Refusal.{Refusal}
use Rattle.repo_store.specs.declared.store.RepoStore.{RepoStore}
use Rattle.sync_core.specs.declared.fault.SyncFault.{SyncFault}
use Rattle.sync_job.specs.Questions.{Exchange}
use Rattle.sync_job.specs.Said.{Spoken}
use Rattle.mirror_engines.proofs.Bringing.{unknown_serves}
use Rattle.ra_client.specs.declared.fault.ClientFault.{ClientFault}
use Rattle.svn_ends.proofs.Refused.{of_some}
use Rattle.svn_ends.specs.Runs.{RunsBy, Unmet, Met, RunsOver, Unopened, Ran}

pub over : {P D O : Type 0} {G : Ghosts D} (Opened : P → Type 0) (Ended : ClientFault → Type 0) (answered : P → P → List Exchange → Type 0) (contents : O → Option (List ℕ)) (failures : O → ℕ) (IsRun : List Spoken → Result (Unit {0}) SyncFault → Type 0) (old new : RepoStore D G) (before now : O) (result : Result (Unit {0}) Refusal)
    → RunsBy Opened Ended answered contents failures IsRun old new before now result → RunsOver contents failures IsRun old new before now result
over Opened Ended answered contents failures IsRun old new before now result (Unmet e f is ended why same out) = Unopened e is (of_some f e why) same out
over Opened Ended answered contents failures IsRun old new before now result (Met port opened s) = Ran (unknown_serves _ port IsRun old new _ _ _ result s)
