-- What the job of an order may answer on a mirror.
use Rattle.std.specs.Prelude.{◌≡◌, ◌⊎◌, ℕ, Option, Some, None, Result, Ok, Err}
use Rattle.fleet_jobs.specs.Answers.{Answer}
use Rattle.fleet_jobs.specs.declared.order.Order.{Order}
use Rattle.mirror_share.specs.Locked.{IsKeptOut}
use Rattle.mirror_share.specs.declared.share.MirrorShare.{MirrorShare}
use Rattle.node_base.specs.declared.refusal.Refusal.TheVariants.{NoRepository}
use Rattle.store_share.specs.Seats.{seen_by}
use Rattle.store_share.specs.declared.name.RowName.{Ghosts}
use Rattle.store_share.specs.declared.seat.ReaderSeat.{ReaderSeat}
use Rattle.store_share.specs.declared.share.MasterShare.{MasterShare}
use Rattle.sync_core.specs.declared.fault.SyncFault.{SyncFault}
use Rattle.sync_core.specs.declared.fault.SyncFault.TheVariants.{Other, OutOfMemory}
use Rattle.fleet_shares.specs.Jobs.{HasRun}

-- how a job that was let in ends: as its run, or for want of memory before it
abbrev pub EndsAs : {M L D : Type 0} {m : _} {r : _} {g : _} → MasterShare M D m g → MirrorShare L D r g → Order → Result (Unit {0}) SyncFault → Type 0
EndsAs master share order (Ok u) = HasRun master share order (Ok tt)
EndsAs master share order (Err f) = HasRun master share order (Err f) ⊎ (f ≡ OutOfMemory)

-- a reader of the row of that name has seen so much as the newest revision
abbrev pub IsSeen : {L : Type 0} → Ghosts L → ℕ → Type 0
IsSeen {L} G n = (seat : ReaderSeat L G) × (seen_by seat ≡ n)

-- what the job of an order may answer on a mirror: once it has run well, a revision that a reader of its row has seen as the newest;
-- else the refusal at which it ended, or that it wasn't let in since a job of its token runs there, or want of memory
abbrev pub Answers : {M L D : Type 0} {m : _} {r : _} {g : _} → MasterShare M D m g → MirrorShare L D r g → Order → Answer → Type 0
Answers {r = r} master share order (Ok n) = HasRun master share order (Ok tt) × IsSeen r n
Answers master share order (Err f) = HasRun master share order (Err f) ⊎ IsKeptOut share order.token f

-- the same of a slot, at which there may be no mirror
abbrev pub AnswersOn : {M L D : Type 0} {m : _} {r : _} {g : _} → MasterShare M D m g → Option (MirrorShare L D r g) → Order → Answer → Type 0
AnswersOn master (Some mirror) order answer = Answers master mirror order answer
AnswersOn master None order answer = answer ≡ Err (Other NoRepository)
