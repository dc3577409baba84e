-- What a call makes of a shared mirror.
use Rattle.std.specs.Prelude.{◌≡◌, ℕ, Bool, true, false, List, [], ◌∷◌, Option, None, IsSome, Result, Ok, Err}
use Rattle.fleet_disk.specs.Image.{Image}
use Rattle.fleet_disk.specs.declared.disk.Disk.{Ghosts}
use Rattle.node_base.specs.declared.refusal.Refusal.TheVariants as refusal_is
use Rattle.repo_store.specs.Journal.{KeepsOr}
use Rattle.repo_store.specs.Words.{repository_of, doubt_of}
use Rattle.repo_store.specs.declared.store.RepoStore.{RepoStore}
use Rattle.sync_core.specs.Mirror.{Call, refusal, entry_of}
use Rattle.sync_core.specs.declared.fault.SyncFault.{SyncFault}
use Rattle.sync_core.specs.declared.fault.SyncFault.TheVariants as fault
use Rattle.sync_core.specs.declared.reply.Reply.{Reply as Given}
use Rattle.sync_core.specs.declared.reply.Reply.TheVariants as given
use Rattle.sync_job.specs.Mirrors.{MirrorNow, Steps, mirror_in, repository_by}

-- the mirror in a store, with this holder of its lock
abbrev pub now_at : {D : Type 0} {G : Ghosts D} → RepoStore D G → Option ℕ → MirrorNow
now_at store holder = record { repository = repository_of store; holder = holder; doubt = doubt_of store }

-- an image keeps the mirror: its repository, or, from a 31 on, that or the one with the entry in doubt
abbrev pub KeepsNow : MirrorNow → Image → Type 0
KeepsNow m image = KeepsOr m.repository m.doubt image

-- the mirror after a call whose cell refused its box: the call stands in it, and its holder is as before
abbrev pub hidden : MirrorNow → Call → MirrorNow
hidden m call = record { repository = repository_by m.repository call; holder = m.holder; doubt = None }

-- a call's cell refused its box (32): the call would have been accepted, and it stands
pub record IsHidden (m : MirrorNow) (seat : ℕ) (call : Call) (new : MirrorNow) : Type 0 where
  pub free : refusal (mirror_in m) seat call ≡ None
  pub entry : IsSome (entry_of m.repository.revisions call)
  pub working : m.doubt ≡ None
  pub mirror : new ≡ hidden m call

-- what a call and its answer make of a mirror; of one where a cell has refused a box before the call, and after it
pub data StepsShown (before : Bool) (m : MirrorNow) (seat : ℕ) (call : Call) (result : Result Given SyncFault) (after : Bool) (new : MirrorNow) : Type 0 where
  Shown : before ≡ false → after ≡ false → Steps m seat call result new → StepsShown before m seat call result after new
  Hides : before ≡ false → after ≡ true → result ≡ Err (fault.Other refusal_is.Failed) → IsHidden m seat call new → StepsShown before m seat call result after new
  Stuck : before ≡ true → after ≡ true → result ≡ Err (fault.Other refusal_is.Failed) → new ≡ m → StepsShown before m seat call result after new

-- the call is kept where it was done
abbrev pub taken_by : Call → Result Given SyncFault → List Call
taken_by call (Ok given.Done) = call ∷ []
taken_by call (Ok (given.Seen s)) = []
taken_by call (Err f) = []
