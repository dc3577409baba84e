-- One step of a shared mirror's book.
use Rattle.std.specs.Prelude.{◌≡◌, ◌≤◌, ◌⊎◌, ◌↔◌, ◌++◌, ◌+◌, ℕ, length, false, Result, IfErr, OnOk}
use Rattle.fleet_disk.specs.Image.{Image}
use Rattle.fleet_disk.specs.Rules.{LeavesOnly}
use Rattle.fleet_disk.specs.declared.disk.Disk.{Ghosts}
use Rattle.repo_store.specs.Words.{disk_of, repository_of, revisions_of, IsKept}
use Rattle.store_share.specs.Book.{head_of, notes_of}
use Rattle.store_share.specs.Shown.{Shows}
use Rattle.sync_core.specs.Mirror.{Call}
use Rattle.sync_core.specs.declared.fault.SyncFault.{SyncFault}
use Rattle.sync_core.specs.declared.reply.Reply.{Reply as Given}
use Rattle.sync_job.specs.Fronts.{replayed}
use Rattle.mirror_share.specs.declared.calls.CallBook.{CallBook}
use Rattle.mirror_share.specs.Acceptable.{AreAcceptable}
use Rattle.mirror_share.specs.Causes.{IsCausedBy}
use Rattle.mirror_share.specs.Book.{master_of, store_in, is_stuck_in, now_of, opening_of, calls_of, jobs_of}
use Rattle.mirror_share.specs.Steps.{KeepsNow, StepsShown, taken_by}

-- a seat's call, and its answer
pub record Stepped {L D : Type 0} {r : _} {g : Ghosts D} (old new : CallBook L D r g) (seat : ℕ) (call : Call) (result : Result Given SyncFault) : Type 0 where
  -- it is a step of the table of the calls, or nothing changes, or the device fails, or a cell refuses its box
  pub step : StepsShown (is_stuck_in old) (now_of old) seat call result (is_stuck_in new) (now_of new)
  -- a stop at any moment of it leaves what keeps the mirror before it or after it, and one from now on what stands now
  pub any_moment : g.honest (disk_of (store_in old)) → LeavesOnly g.clock g.left_since (disk_of (store_in old)) (disk_of (store_in new)) (λ c. KeepsNow (now_of old) c ⊎ KeepsNow (now_of new) c)
  pub durable : g.honest (disk_of (store_in new)) → (image : Image) → g.may_leave (disk_of (store_in new)) image → KeepsNow (now_of new) image
  pub honest : g.honest (disk_of (store_in old)) ↔ g.honest (disk_of (store_in new))
  -- the device's failures are counted on, and a refusal that tells of it, of a cell or of the journal has its cause there
  pub later : g.failures (disk_of (store_in old)) ≤ g.failures (disk_of (store_in new))
  pub causes : IfErr result (IsCausedBy (store_in old) (store_in new) (is_stuck_in new) call)
  -- where it was done, the cells show all revisions; and what they show they go on to show
  pub shown : OnOk result (Shows (length (revisions_of (store_in new))) (notes_of (master_of new)) (repository_of (store_in new)))
  pub head : head_of (master_of old) ≤ head_of (master_of new)
  -- the calls that were done are kept in order
  pub calls : is_stuck_in new ≡ is_stuck_in old → calls_of new ≡ calls_of old ++ taken_by call result
  pub opening : opening_of new ≡ opening_of old
  pub jobs : jobs_of new ≡ jobs_of old

-- a step from that book
pub record IsStepFrom {L D : Type 0} {r : _} {g : Ghosts D} (old : CallBook L D r g) (seat : ℕ) (call : Call) (result : Result Given SyncFault) : Type 0 where
  pub new : CallBook L D r g
  pub stepped : Stepped old new seat call result

-- what a book keeps: its repository is the one at the opening after the calls, each acceptable where it came, a stop keeps it, and
-- the row shows it up to the head, which is the newest revision unless a cell refused its box
pub record IsWhole {L D : Type 0} {r : _} {g : Ghosts D} (book : CallBook L D r g) : Type 0 where
  pub replay : repository_of (store_in book) ≡ replayed (opening_of book) (calls_of book)
  pub came : AreAcceptable (opening_of book) (calls_of book)
  pub kept : IsKept (store_in book)
  pub shown : Shows (head_of (master_of book) + 1) (notes_of (master_of book)) (repository_of (store_in book))
  pub newest : is_stuck_in book ≡ false → head_of (master_of book) + 1 ≡ length (revisions_of (store_in book))
