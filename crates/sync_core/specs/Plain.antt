-- A mirror in memory, and the answers to its calls.
use Rattle.std.specs.Prelude.{◌≡◌, ℕ, ◌<◌, true, List, length, Option, Some, Result, Ok, Err}
use Rattle.std.specs.FinMap as finite
use Rattle.repo_core.specs.declared.entry.Entry.{Entry}
use Rattle.repo_core.specs.declared.entry.Entry.TheVariants.{Revised, Mapped}
use Rattle.repo_core.specs.Repository.{Revision, props_at}
use Rattle.sync_core.specs.declared.fault.SyncFault.{SyncFault}
use Rattle.sync_core.specs.declared.fault.SyncFault.TheVariants as fault
use Rattle.sync_core.specs.declared.reply.Reply.{Reply as Given}
use Rattle.sync_core.specs.declared.reply.Reply.TheVariants as given
use Rattle.sync_core.specs.declared.mirror.PlainMirror.{PlainMirror}
use Rattle.sync_core.specs.Names.{lock_name}
use Rattle.sync_core.specs.Faults.{of_repository}
use Rattle.sync_core.specs.Dues.{IsNeedFault, tells_lock}
use Rattle.sync_core.specs.Mirror.{Mirror, mirror_with, Need, standing_of, unmet, Call, PutProps, Reply, Done, Seen, Refused, Refusal, Missed, OfRepository, IsStep}

abbrev pub mirror_of : PlainMirror → Mirror
mirror_of m = mirror_with m.repo.revisions m.holder

-- a revision has the number after the head's
abbrev pub IsNumbered : List Revision → Entry → Type 0
IsNumbered x (Revised n set props) = n ≡ length x
IsNumbered x (Mapped n props) = Unit {0}

-- a revision whose properties are put is there
abbrev pub IsThere : List Revision → Call → Type 0
IsThere x (PutProps n props) = n < length x
IsThere x _ = Unit {0}

abbrev pub reply_of : Given → Reply
reply_of given.Done = Done
reply_of (given.Seen s) = Seen s

-- a refusal as it is told, with the lock's text where a need has it
abbrev pub IsTold : Option (List ℕ) → Refusal → SyncFault → Type 0
IsTold lock (Missed need) f = IsNeedFault need lock f
IsTold lock (OfRepository e) f = f ≡ of_repository e

-- a refused call is a step whose reply is the refusal
pub record IsRefused (old : Mirror) (seat : ℕ) (call : Call) (f : SyncFault) (new : Mirror) : Type 0 where
  pub why : Refusal
  pub told : IsTold (finite.get (props_at old.revisions 0) lock_name) why f
  pub step : IsStep old seat call (Refused why) new

-- want of memory changes nothing, and no need is missed, but for one that is told with the lock's text
pub record LacksMemory (old : Mirror) (seat : ℕ) (call : Call) (new : Mirror) : Type 0 where
  pub kept : new ≡ old
  pub told : (need : Need) → unmet (standing_of old.revisions) old.holder seat call ≡ Some need → tells_lock need ≡ true

-- a step of the mirror, or want of memory
abbrev pub AnswersErr : Mirror → ℕ → Call → SyncFault → Mirror → Type 0
AnswersErr old seat call fault.OutOfMemory new = LacksMemory old seat call new
AnswersErr old seat call f new = IsRefused old seat call f new

abbrev pub Answers : Mirror → ℕ → Call → Result Given SyncFault → Mirror → Type 0
Answers old seat call (Ok r) new = IsStep old seat call (reply_of r) new
Answers old seat call (Err f) new = AnswersErr old seat call f new
