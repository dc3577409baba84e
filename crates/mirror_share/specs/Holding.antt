-- A seat that holds the lock of a shared mirror, whoever calls between its calls.
use Rattle.std.specs.Prelude.{◌≡◌, ◌≢◌, ℕ, Bool, true, false, Result, Ok, Err}
use Rattle.sync_core.specs.Holding.{HasLock, known_by}
use Rattle.sync_core.specs.Jobs.{Job, Lawful, answered, refused_to}
use Rattle.sync_core.specs.Mirror.{Call, ReleaseLock, Look}
use Rattle.sync_core.specs.Moves.{numbers_of}
use Rattle.sync_core.specs.Plain.{reply_of}
use Rattle.sync_core.specs.declared.fault.SyncFault.{SyncFault}
use Rattle.sync_core.specs.declared.fault.SyncFault.TheVariants as fault
use Rattle.sync_core.specs.declared.reply.Reply.{Reply as Given}
use Rattle.sync_core.specs.declared.reply.Reply.TheVariants as given
use Rattle.sync_job.specs.Mirrors.{MirrorNow, mirror_in}
use Rattle.mirror_share.specs.Steps.{StepsShown}

-- what a job has after an answer
abbrev pub job_after : Job → Call → Result Given SyncFault → Job
job_after job call (Ok r) = answered job call (reply_of r)
job_after job call (Err f) = refused_to job call

-- it isn't refused for its lock or its turn, and a look tells the numbers that the job knows, once it has looked
abbrev pub IsServed : Job → Result Given SyncFault → Type 0
IsServed job (Ok given.Done) = Unit {0}
IsServed job (Ok (given.Seen s)) = job.looked ≡ true → numbers_of s ≡ known_by job
IsServed job (Err f) = (f ≢ fault.NotHolder) × (f ≢ fault.OutOfTurn)

-- while a seat holds the lock, no other seat's call but a look is done, so no steal, and none changes how the mirror stands
abbrev pub OthersLeaveIt : Type 0
OthersLeaveIt =
    (before after : Bool) (m new : MirrorNow) (seat other : ℕ) (job : Job) (call : Call) (result : Result Given SyncFault) → HasLock (mirror_in m) seat job → other ≢ seat
    → StepsShown before m other call result after new → (mirror_in new ≡ mirror_in m) × ((r : Given) → result ≡ Ok r → call ≡ Look)

-- a lawful call of its own is served, and unless it was the release it holds on
abbrev pub HolderIsServed : Type 0
HolderIsServed =
    (before after : Bool) (m new : MirrorNow) (seat : ℕ) (job : Job) (call : Call) (result : Result Given SyncFault) → HasLock (mirror_in m) seat job → Lawful job call
    → StepsShown before m seat call result after new → IsServed job result × (call ≢ ReleaseLock → after ≡ false → HasLock (mirror_in new) seat (job_after job call result))
