-- The job of an order.
use Rattle.std.specs.Prelude.{◌≡◌, ◌⊎◌, ℕ, List, [], Result, Err, IfErr}
use Rattle.std.specs.List.{AllByRecursion, AllZip}
use Rattle.fleet_disk.specs.declared.disk.Disk.{Ghosts}
use Rattle.fleet_jobs.specs.declared.order.Order.{Order}
use Rattle.fleet_jobs.specs.declared.order.Work.{Work}
use Rattle.fleet_jobs.specs.declared.order.Work.TheVariants.{Sync, Copy}
use Rattle.mirror_engines.specs.Runs.{IsSynchronised, IsCopied}
use Rattle.mirror_share.specs.Locked.{IsStepOf}
use Rattle.mirror_share.specs.Ports.{IsSeenBy}
use Rattle.mirror_share.specs.Served.{IsServedIn}
use Rattle.mirror_share.specs.declared.share.MirrorShare.{MirrorShare}
use Rattle.store_share.specs.declared.seat.ReaderSeat.{ReaderSeat}
use Rattle.store_share.specs.declared.share.MasterShare.{MasterShare}
use Rattle.sync_core.specs.Copies.{number_in}
use Rattle.sync_core.specs.Jobs.{begun}
use Rattle.sync_core.specs.Jobs as jobs
use Rattle.sync_core.specs.Mirror.{Call}
use Rattle.sync_core.specs.declared.fault.SyncFault.{SyncFault}
use Rattle.sync_core.specs.declared.fault.SyncFault.TheVariants.{OutOfMemory}
use Rattle.sync_job.specs.Asked.{Asked}
use Rattle.sync_job.specs.Questions.{Exchange, IsSaidOf, questions_in}
use Rattle.sync_job.specs.Said.{Spoken}
use Rattle.sync_job.specs.Telling.{IsSaidAs, calls_in}
use Rattle.fleet_shares.specs.Brought.{AreCopied, ArePut, Brings}
use Rattle.fleet_shares.specs.Ports.{IsToldTo}

-- what was said through the ports of a job, in order, is that of a run that does this work under this token, and that ends so
abbrev pub IsRunOf : Work → List ℕ → List Spoken → Result (Unit {0}) SyncFault → Type 0
IsRunOf (Sync steal) token said ended = IsSynchronised token steal said ended
IsRunOf (Copy low high) token said ended = IsCopied token low high said ended

-- the job of an order, as a run knows it
abbrev pub job_order : Work → List ℕ → jobs.Order
job_order (Sync steal) token = jobs.Sync token steal
job_order (Copy low high) token = jobs.CopyProps token

-- how the order's job ends, by what was said: as its run, or for want of memory before it
abbrev pub EndsBy : Order → List Spoken → Result (Unit {0}) SyncFault → Type 0
EndsBy order said ended = IsRunOf order.work order.token said ended ⊎ ((ended ≡ Err OutOfMemory) × (said ≡ []))

-- what was said tells each call that was made of a share from one seat, once and in order, and no other; each was a step of the share's
-- book; and what was done in them a reader of its row has seen, each committed revision with its set
pub record IsSaidAt {L D : Type 0} {r : _} {g : Ghosts D} (share : MirrorShare L D r g) (said : List Spoken) : Type 0 where
  pub seat : ℕ
  pub reader : ReaderSeat L r
  pub made : List Asked
  pub steps : AllByRecursion (λ a. IsStepOf share seat a.call a.result) made
  pub seen : AllByRecursion (λ a. IsSeenBy reader a.call a.result) made
  pub told : AllZip IsSaidAs made (calls_in said)

-- what was said tells each question that a shared master was asked, once and in order, and no other; and each answer is the master's,
-- as a reader of its row has it
pub record IsHeardFrom {L D : Type 0} {r : _} {g : Ghosts D} (master : MasterShare L D r g) (said : List Spoken) : Type 0 where
  pub reader : ReaderSeat L r
  pub made : List Exchange
  pub answers : AllByRecursion (IsToldTo master reader) made
  pub told : AllZip IsSaidOf made (questions_in said)

-- the refusals of a device (31, 32) and of a full journal (36)
abbrev pub IsOfStore : ℕ → Type 0
IsOfStore number = (number ≡ 31) ⊎ (number ≡ 32) ⊎ (number ≡ 36)

-- a call from that seat was refused with this number by a step of the share's book, which tells the cause
pub record HasMet {L D : Type 0} {r : _} {g : Ghosts D} (share : MirrorShare L D r g) (seat number : ℕ) : Type 0 where
  pub call : Call
  pub fault : SyncFault
  pub told : number_in fault ≡ number
  pub step : IsStepOf share seat call (Err fault)

-- the order's job was run from that master to that mirror, and ended so
pub record HasRun {M L D : Type 0} {m : _} {r : _} {g : Ghosts D} (master : MasterShare M D m g) (share : MirrorShare L D r g) (order : Order) (ended : Result (Unit {0}) SyncFault) : Type 0 where
  pub said : List Spoken
  pub run : IsRunOf order.work order.token said ended
  pub calls : IsSaidAt share said
  pub answers : IsHeardFrom master said
  -- no call of it was refused for the lock (59) or the turn (61), whoever called the mirror between its calls
  pub served : IsServedIn (begun (job_order order.work order.token)) [] said
  -- it ends with a refusal of a device or of a full journal only where one of its calls met that
  pub met : IfErr ended (λ f. IsOfStore (number_in f) → HasMet share calls.seat (number_in f))
  -- whatever it ends with, each revision that was committed in it is the master's, and so are the properties that were put again
  pub copied : AreCopied master answers.reader calls.reader said
  pub put : ArePut master said
  -- and where it ends well it has brought the mirror up to the master, or given its range the master's properties
  pub brought : Brings order.work ended master answers.reader calls.reader said
