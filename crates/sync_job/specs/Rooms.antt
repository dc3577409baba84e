-- Room for the release of a job's lock.
use Rattle.std.specs.Prelude.{◌≡◌, ◌⊎◌}
use Rattle.sync_core.specs.declared.answer.Answer.{Answer}
use Rattle.sync_core.specs.declared.answer.Answer.TheVariants as answer
use Rattle.sync_core.specs.declared.state.JobState.{JobState}
use Rattle.sync_core.specs.declared.state.JobState.TheVariants as state
use Rattle.sync_core.specs.declared.sync_job.SyncPhase.{SyncPhase}
use Rattle.sync_core.specs.declared.sync_job.SyncPhase.TheVariants as sync
use Rattle.sync_core.specs.declared.copy_job.CopyPhase.{CopyPhase}
use Rattle.sync_core.specs.declared.copy_job.CopyPhase.TheVariants as copy
use Rattle.sync_core.specs.Mirror.{ReleaseLock}
use Rattle.sync_core.specs.Deeds.{Deed, Calls}
use Rattle.sync_job.specs.Words.{HasRoom}
use Rattle.sync_job.specs.declared.ports.JobPorts.{JobPorts}

-- a job that takes its lock next, or takes none
abbrev pub SyncBegins : SyncPhase → Type 0
SyncBegins (sync.Lock token steal) = Unit {0}
SyncBegins _ = ⊥

abbrev pub CopyBegins : CopyPhase → Type 0
CopyBegins copy.Lock = Unit {0}
CopyBegins _ = ⊥

abbrev pub IsUnlocked : JobState → Type 0
IsUnlocked (state.Init s) = Unit {0}
IsUnlocked (state.Sync s) = SyncBegins s.phase
IsUnlocked (state.Copy s) = CopyBegins s.phase

-- what is done next is no release, or there is room for it
abbrev pub IsReady : {M : Type 0} {N : Type 0} {R : Type 0} → Deed → JobPorts M N R → Type 0
IsReady d ports = d ≡ Calls ReleaseLock → HasRoom ports

-- room that there was stays, and each call that is done makes it, but for a release
abbrev pub KeepsRoom : {M : Type 0} {N : Type 0} {R : Type 0} → Deed → Answer → JobPorts M N R → JobPorts M N R → Type 0
KeepsRoom d a old new = HasRoom old ⊎ (a ≡ answer.Done) → (d ≡ Calls ReleaseLock) ⊎ HasRoom new
