-- What a run's calls leave of a mirror: at each moment the state after a front of those that count.
use Rattle.std.specs.Prelude.{◌≡◌, ◌⊎◌, ◌↔◌, ℕ, ◌==◌, Bool, true, false, List, [], ◌∷◌, ◌++◌, None, IsSome, Result, Ok, Err, if◌then◌else◌}
use Rattle.fleet_disk.specs.Image.{Image}
use Rattle.fleet_disk.specs.Rules.{LeavesOnly}
use Rattle.repo_core.specs.Repository.{Repository}
use Rattle.repo_store.specs.Journal as journal
use Rattle.node_base.specs.Refusals.{refusal_number}
use Rattle.node_base.specs.declared.refusal.Refusal.TheVariants as refusal
use Rattle.sync_core.specs.Faults.{refusal_of}
use Rattle.sync_core.specs.declared.fault.SyncFault.{SyncFault}
use Rattle.sync_core.specs.declared.fault.SyncFault.TheVariants as fault
use Rattle.sync_core.specs.declared.answer.Answer.{Answer}
use Rattle.sync_core.specs.declared.answer.Answer.TheVariants as answer
use Rattle.sync_core.specs.declared.reply.Reply.{Reply as Given}
use Rattle.sync_core.specs.declared.reply.Reply.TheVariants as given
use Rattle.sync_core.specs.Mirror.{Call, entry_of}
use Rattle.sync_core.specs.Deeds.{Deed, Calls}
use Rattle.sync_core.specs.Copies.{Outcome}
use Rattle.sync_core.specs.Copies as told
use Rattle.sync_job.specs.Said.{Spoken, Says, NoTree, Tells}
use Rattle.sync_job.specs.Mirrors.{MirrorNow, repository_by, Keeps}

-- a call that was accepted; a look isn't one
abbrev pub accepted_by : Deed → Outcome → List Call
accepted_by (Calls call) told.Done = call ∷ []
accepted_by _ _ = []

-- a call that may have been written: it was accepted, or answered 31
abbrev pub counted_by : Deed → Outcome → List Call
counted_by (Calls call) told.Done = call ∷ []
counted_by (Calls call) (told.Refused number text) = if number == 31 then call ∷ [] else []
counted_by _ _ = []

abbrev pub accepted_in : List Spoken → List Call
accepted_in [] = []
accepted_in (Says d o ∷ es) = accepted_by d o ++ accepted_in es
accepted_in (NoTree n o ∷ es) = accepted_in es
accepted_in (Tells t ∷ es) = accepted_in es

abbrev pub counted_in : List Spoken → List Call
counted_in [] = []
counted_in (Says d o ∷ es) = counted_by d o ++ counted_in es
counted_in (NoTree n o ∷ es) = counted_in es
counted_in (Tells t ∷ es) = counted_in es

-- a repository after these calls
abbrev pub replayed : Repository → List Call → Repository
replayed r [] = r
replayed r (c ∷ cs) = replayed (repository_by r c) cs

-- how these calls have left a mirror. While the device works: the accepted ones count, and it is as they leave it. From a 31 on:
-- it is as the accepted ones leave it, and the call so answered, which counts last, is in doubt. One that was in doubt before
-- accepts nothing.
pub data HasCome (m now : MirrorNow) (accepted counted : List Call) : Type 0 where
  Working : now.doubt ≡ m.doubt → (IsSome m.doubt → accepted ≡ []) → counted ≡ accepted → now.repository ≡ replayed m.repository accepted → HasCome m now accepted counted
  Doubtful : (call : Call) → m.doubt ≡ None → IsSome now.doubt → now.doubt ≡ entry_of now.repository.revisions call → counted ≡ accepted ++ call ∷ [] → now.repository ≡ replayed m.repository accepted → HasCome m now accepted counted

-- an image keeps the mirror as it was, or the repository after a front of the calls
abbrev pub KeepsFront : MirrorNow → List Call → Image → Type 0
KeepsFront m calls image = Keeps m image ⊎ ((front rest : List Call) × (front ++ rest ≡ calls) × journal.Keeps (replayed m.repository front) image)

-- from one moment of a port to another these calls were made: how the mirror stands then, that a stop at each moment since leaves
-- the state after some front of them, and one now what stands now
pub record Went {D : Type 0} (stands : MirrorNow → Type 0) (clock : D → ℕ) (left_since : D → ℕ → Image → Type 0) (honest : Type 0) (before after : D) (m : MirrorNow) (accepted counted : List Call) : Type 0 where
  pub now : MirrorNow
  pub come : HasCome m now accepted counted
  pub there : stands now
  pub images : honest → LeavesOnly clock left_since before after (KeepsFront m counted)
  pub left : honest → (image : Image) → left_since after (clock after) image → Keeps now image

-- what was added to all that was said, and what it left of the mirror
pub record Moving (old new : List Spoken) (Left : List Call → List Call → Type 0) : Type 0 where
  pub more : List Spoken
  pub adds : new ≡ old ++ more
  pub went : Left (accepted_in more) (counted_in more)

-- the same of each mirror that may stand there, and that its honesty stays
abbrev pub WentAt : {N : Type 0} → (N → MirrorNow → Type 0) → (N → ℕ) → (N → ℕ → Image → Type 0) → (N → Type 0) → N → N → List Call → List Call → Type 0
WentAt stands clock left_since honest before after accepted counted =
    (honest before ↔ honest after) × ((m : MirrorNow) → stands before m → Went (stands after) clock left_since (honest before) before after m accepted counted)

-- a refusal of the device
abbrev pub is_device : SyncFault → Bool
is_device f = refusal_number (refusal_of f) == 31

-- how the mirror's answer is told: as it is, but for want of memory, and never so where it is 31
abbrev pub IsHeard : Result Given SyncFault → Answer → Type 0
IsHeard (Ok given.Done) a = a ≡ answer.Done
IsHeard (Ok (given.Seen s)) a = (a ≡ answer.Seen s) ⊎ (a ≡ answer.Refused fault.OutOfMemory)
IsHeard (Err f) a = (a ≡ answer.Refused f) ⊎ ((a ≡ answer.Refused fault.OutOfMemory) × (is_device f ≡ false)) ⊎ ((a ≡ answer.Refused (fault.Other refusal.DeviceFailed)) × (is_device f ≡ true))

-- where a mirror wasn't in doubt, an image that keeps how it stands after these calls keeps the repository after all that were
-- accepted, or after all that count
abbrev pub EndsKeepAll : Type 0
EndsKeepAll =
    (m now : MirrorNow) (accepted counted : List Call) (image : Image) → m.doubt ≡ None → HasCome m now accepted counted → Keeps now image
    → journal.Keeps (replayed m.repository accepted) image ⊎ journal.Keeps (replayed m.repository counted) image
