-- What a run over a mirror's store says, prints and leaves.
use Rattle.std.specs.Prelude.{◌≡◌, ◌↔◌, ◌==◌, ◌≤◌, ℕ, Bool, true, false, List, [], Option, None, Result, Ok, Err, IfErr, OnOk, if◌then◌else◌}
use Rattle.byte_streams.specs.Causes.{Rose}
use Rattle.byte_streams.specs.declared.output.Output.{Ghosts as OutputGhosts}
use Rattle.fleet_disk.specs.Image.{Image}
use Rattle.fleet_disk.specs.Rules.{LeavesOnly}
use Rattle.fleet_disk.specs.declared.disk.Disk.{Ghosts}
use Rattle.node_base.specs.declared.refusal.Refusal.{Refusal}
use Rattle.node_base.specs.declared.refusal.Refusal.TheVariants.{DeviceFailed, Failed, PeerFailed, OutOfTurn}
use Rattle.node_base.specs.Refusals.{refusal_number}
use Rattle.repo_store.specs.Words.{disk_of, repository_of, HasFailed}
use Rattle.repo_store.specs.declared.store.RepoStore.{RepoStore}
use Rattle.sync_core.specs.Copies.{Refused}
use Rattle.sync_core.specs.Deeds.{Deed}
use Rattle.sync_core.specs.Faults.{refusal_of}
use Rattle.sync_core.specs.Mirror.{Call}
use Rattle.sync_core.specs.declared.fault.SyncFault.{SyncFault}
use Rattle.sync_job.specs.Alone.{StandsAt, begun}
use Rattle.sync_job.specs.Devices.{FailsSince, HasFailedSince}
use Rattle.sync_job.specs.Fronts.{HasCome, KeepsFront, accepted_in, counted_in}
use Rattle.sync_job.specs.Mirrors.{MirrorNow, Keeps}
use Rattle.sync_job.specs.Questions.{Exchange}
use Rattle.sync_job.specs.Runs.{IsSaid, IsSyncRun, IsInitRun, IsCopyRun}
use Rattle.sync_job.specs.Said.{Spoken, Says, told_in}
use Rattle.sync_job.specs.declared.master.MasterPort.{Ghosts as MasterGhosts}
use Rattle.sync_job.specs.declared.report.Told.{Told}
use Rattle.mirror_engines.specs.Lines.{IsPrinted}
use Rattle.mirror_engines.specs.Worlds.{Hears, Leads}
use Rattle.mirror_engines.specs.declared.work.Work.{Work}
use Rattle.mirror_engines.specs.declared.work.Work.TheVariants as work

-- a job's refusal as its run answers it: 49 is said of the writer alone, and no answer of a port to a job (61)
abbrev pub told_as : Refusal → Refusal
told_as e = if refusal_number e == 49 then OutOfTurn else e

-- the answer of a run, by how its job ended and whether a line was lost: a refusal as it stands in the table, and else 49 where a line was lost
abbrev pub answer_of : Result (Unit {0}) SyncFault → Bool → Result (Unit {0}) Refusal
answer_of (Ok u) false = Ok tt
answer_of (Ok u) true = Err PeerFailed
answer_of (Err f) lost = Err (told_as (refusal_of f))

-- what a run's accepted calls, and those that count, have left of a mirror's store that worked and that nobody else has
pub record Leaves {D : Type 0} {G : Ghosts D} (old new : RepoStore D G) (accepted counted : List Call) : Type 0 where
  pub honest : G.honest (disk_of old) ↔ G.honest (disk_of new)
  pub now : MirrorNow
  pub holder : Option ℕ
  -- the mirror now is as the accepted calls leave the one that stood there
  pub come : HasCome (begun (repository_of old)) now accepted counted
  -- which is so in the store, and what a stop leaves keeps it
  pub there : StandsAt new holder now
  -- a stop at any moment of the run leaves the mirror as it was, or the repository after a front of the calls
  pub any_moment : G.honest (disk_of old) → LeavesOnly G.clock G.left_since (disk_of old) (disk_of new) (KeepsFront (begun (repository_of old)) counted)
  -- and once it has ended, what keeps the mirror now
  pub last : G.honest (disk_of old) → (image : Image) → G.left_since (disk_of new) (G.clock (disk_of new)) image → Keeps now image

-- what a run tells of its mirror's device: it answers 31, or one of its calls was answered so, only where the device has failed in it;
-- it answers 32, or leaves a store that is broken, only where it has, or had failed before
pub record TellsDevice {D : Type 0} {G : Ghosts D} (old new : RepoStore D G) (said : List Spoken) (result : Result (Unit {0}) Refusal) : Type 0 where
  pub later : G.failures (disk_of old) ≤ G.failures (disk_of new)
  pub device : IfErr result (λ e. e ≡ DeviceFailed → FailsSince old new)
  pub calls : (d : Deed) (text : List ℕ) → IsSaid (Says d (Refused 31 text)) said → FailsSince old new
  pub failed : IfErr result (λ e. e ≡ Failed → HasFailedSince old new)
  pub broken : HasFailed new → HasFailedSince old new

-- what a run tells of its output: that it is done, where no failure of it was counted, and 49, only where one was
pub record TellsOutput (before now : ℕ) (result : Result (Unit {0}) Refusal) : Type 0 where
  pub unfailed : OnOk result (now ≡ before)
  pub peer : IfErr result (λ e. e ≡ PeerFailed → Rose before now)

-- a run of a job over a mirror's store and a master: all that was said through its ports, in order, as the two were asked and answered, and how the job ended; of what was told the lines that are printed, the answer, and what is left of the mirror
pub record Serves {D M : Type 0} {G : Ghosts D} (answered : M → M → List Exchange → Type 0) (master : M) (IsRun : List Spoken → Result (Unit {0}) SyncFault → Type 0) (old new : RepoStore D G) (before now : Option (List ℕ)) (fails : Type 0) (result : Result (Unit {0}) Refusal) : Type 0 where
  pub said : List Spoken
  pub ended : Result (Unit {0}) SyncFault
  pub run : IsRun said ended
  pub lost : Bool
  pub printed : IsPrinted before now fails lost (told_in said)
  pub answer : result ≡ answer_of ended lost
  pub heard : Hears answered master said
  pub led : ¬ HasFailed old → Leads old new said
  pub left : ¬ HasFailed old → Leaves old new (accepted_in said) (counted_in said)
  pub device : TellsDevice old new said result

-- the rules of a run, of which nobody is told
abbrev pub IsUnheard : Unit {0} → List Told → Type 0
IsUnheard u told = Unit {0}

-- what was said is that of a run of this order
abbrev pub IsSynchronised : List ℕ → Bool → List Spoken → Result (Unit {0}) SyncFault → Type 0
IsSynchronised token steal said ended = IsSyncRun token steal [] said IsUnheard IsUnheard ended

abbrev pub IsInitialised : List ℕ → List Spoken → Result (Unit {0}) SyncFault → Type 0
IsInitialised url said ended = IsInitRun url [] said IsUnheard IsUnheard ended

abbrev pub IsCopied : List ℕ → ℕ → ℕ → List Spoken → Result (Unit {0}) SyncFault → Type 0
IsCopied token low high said ended = IsCopyRun token low high [] said IsUnheard IsUnheard ended

-- what was said is that of a run that does this work
abbrev pub IsWorked : Work → List Spoken → Result (Unit {0}) SyncFault → Type 0
IsWorked (work.Initialize url) = IsInitialised url
IsWorked (work.Synchronize token steal) = IsSynchronised token steal
IsWorked (work.CopyRevprops token low high) = IsCopied token low high

-- a run over a mirror's store and a master, and what its output holds
abbrev pub IsRunOver : {D M O : Type 0} {G : Ghosts D} → MasterGhosts M → OutputGhosts O → M → (List Spoken → Result (Unit {0}) SyncFault → Type 0) → RepoStore D G → O → RepoStore D G → O → Result (Unit {0}) Refusal → Type 0
IsRunOver H W master IsRun old before new now result = Serves H.answered master IsRun old new (W.contents before) (W.contents now) (Rose (W.failures before) (W.failures now)) result
