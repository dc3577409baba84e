-- A seat that holds a mirror's lock. (No world is named: whatever led there.)
use Rattle.std.specs.Prelude.{◌≡◌, ◌≢◌, ℕ, ◌<◌, ◌≤◌, true, false, length, Some, None, is_some}
use Rattle.sync_core.specs.declared.numbers.Numbers.{Numbers}
use Rattle.sync_core.specs.declared.answer.Answer.{Answer}
use Rattle.sync_core.specs.Names.{Absent}
use Rattle.sync_core.specs.Mirror.{Mirror, standing_of, Call, TakeLock, StealLock, ReleaseLock, Look, unmet, refusal, accepted, granted}
use Rattle.sync_core.specs.Moves.{numbers_of}
use Rattle.sync_core.specs.Jobs.{Job, Locked, Lawful, answered, refused_to, done_by}
use Rattle.sync_core.specs.Deeds.{Deed, Calls, heard}

-- what a job knows of its mirror's numbers
abbrev pub known_by : Job → Numbers
known_by job = record { merged = job.merged; copying = job.copying; head = job.head }

-- the job at the seat has had its lock answered and knows, once it has looked, how the mirror stands, and before that nothing
pub record HasLock (m : Mirror) (seat : ℕ) (job : Job) : Type 0 where
  pub some : 0 < length m.revisions
  pub few : length m.revisions ≤ 65536
  pub url : is_some (standing_of m.revisions).url ≡ true
  pub lock : is_some (standing_of m.revisions).lock ≡ true
  pub holder : m.holder ≡ Some seat
  pub locked : job.stage ≡ Locked
  pub numbers : job.looked ≡ true → known_by job ≡ numbers_of (standing_of m.revisions)
  pub blind : job.looked ≡ false → job.merged ≡ Absent

abbrev pub TakesLock : Call → Type 0
TakesLock (TakeLock token) = Unit {0}
TakesLock (StealLock token) = Unit {0}
TakesLock _ = ⊥

abbrev pub IsQuestion : Deed → Type 0
IsQuestion (Calls call) = ⊥
IsQuestion _ = Unit {0}

-- so it is once a job that has made no call, and seen nothing, was given the lock
abbrev pub LockIsGiven : Type 0
LockIsGiven =
    (m : Mirror) (seat : ℕ) (job : Job) (call : Call) → 0 < length m.revisions → length m.revisions ≤ 65536 → job.merged ≡ Absent
    → TakesLock call → refusal m seat call ≡ None → HasLock (accepted m seat call) seat (done_by job call)

-- none of its lawful calls misses a need: it is refused none for its turn or its lock
abbrev pub HolderIsServed : Type 0
HolderIsServed = (m : Mirror) (seat : ℕ) (job : Job) (call : Call) → HasLock m seat job → Lawful job call → unmet (standing_of m.revisions) m.holder seat call ≡ None

-- each lawful call but the last keeps it so, accepted or refused, and so does what the master tells
abbrev pub HolderStays : Type 0
HolderStays =
    (m : Mirror) (seat : ℕ) (job : Job) (call : Call) → HasLock m seat job → Lawful job call → call ≢ ReleaseLock
    → (refusal m seat call ≡ None → HasLock (accepted m seat call) seat (answered job call (granted m call))) × HasLock m seat (refused_to job call)

abbrev pub HolderListens : Type 0
HolderListens = (m : Mirror) (seat : ℕ) (job : Job) (moment : ℕ) (d : Deed) (a : Answer) → HasLock m seat job → IsQuestion d → HasLock m seat (heard job moment d a)

-- nobody else's call is accepted but a look
abbrev pub HolderIsAlone : Type 0
HolderIsAlone = (m : Mirror) (seat other : ℕ) (job : Job) (call : Call) → HasLock m seat job → other ≢ seat → refusal m other call ≡ None → call ≡ Look
