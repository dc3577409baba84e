-- A mirror, its calls, and what they do.
use Rattle.std.specs.Prelude.{◌≡◌, ℕ, ◌+◌, ◌==◌, ◌&&◌, ◌||◌, not, Bool, false, List, [], ◌∷◌, Option, Some, None, is_some, is_none, if◌then◌else◌}
use Rattle.std.specs.Option.{option_map_or, option_map, option_and_then}
use Rattle.std.specs.FinMap as finite
use Rattle.std.specs.Fmt as fmt
use Rattle.node_base.specs.Props.{PropMap, without_sync, copied_beside}
use Rattle.dump_load.specs.declared.change.Change.{Change}
use Rattle.dump_load.specs.Faults.{fault_if, first_of}
use Rattle.repo_core.specs.declared.fault.RepoFault.{RepoFault}
use Rattle.repo_core.specs.Repository.{Revision, head_of, props_at, root_alone}
use Rattle.repo_core.specs.declared.entry.Entry.{Entry}
use Rattle.repo_core.specs.declared.entry.Entry.TheVariants.{Revised, Mapped}
use Rattle.repo_core.specs.Entries.{with_entry}
use Rattle.repo_core.specs.Refusals.{by_repository}
use Rattle.sync_core.specs.Names.{url_name, uuid_name, merged_name, copying_name, lock_name, Number, Absent, Spelt, number_at, is_absent, is_number, reaches, precedes}
pub use Rattle.sync_core.specs.declared.standing.Standing.{Standing}
pub use Rattle.sync_core.specs.declared.need.Need.{Need}
use Rattle.sync_core.specs.declared.need.Need.TheVariants as need
pub use Rattle.sync_core.specs.declared.resting.Resting.{Resting}
pub use Rattle.sync_core.specs.declared.resting.Resting.TheVariants as resting

-- a mirror: its revisions, and the running seat whose call took its lock
pub record Mirror : Type 0 where
  pub revisions : List Revision
  pub holder : Option ℕ

abbrev pub mirror_with : List Revision → Option ℕ → Mirror
mirror_with x holder = record { revisions = x; holder = holder }

-- as a repository begins
abbrev pub fresh : Mirror
fresh = record { revisions = record { tree = root_alone; props = finite.empty } ∷ []; holder = None }

-- how a mirror stands: what revision 0's properties say, and the head
abbrev pub standing_in : PropMap → ℕ → Standing
standing_in p head =
    record {
      url = finite.get p url_name;
      uuid = finite.get p uuid_name;
      merged = number_at p merged_name;
      copying = number_at p copying_name;
      merged_text = finite.get p merged_name;
      copying_text = finite.get p copying_name;
      lock = finite.get p lock_name;
      head = head;
    }

abbrev pub standing_of : List Revision → Standing
standing_of x = standing_in (props_at x 0) (head_of x)

-- the shapes in which a mirror rests, over what is merged, what is being copied, and the head
abbrev pub HasShape : Resting → Number → Number → ℕ → Type 0
HasShape resting.Idle merged copying head = (merged ≡ Spelt head) × (copying ≡ Absent)
HasShape (resting.Copying n) merged copying head = (merged ≡ Spelt head) × (copying ≡ Spelt n) × (n ≡ head + 1)
HasShape (resting.Committed n) merged copying head = (copying ≡ Spelt n) × (n ≡ head) × ((before : ℕ) × (merged ≡ Spelt before) × (n ≡ before + 1))
HasShape resting.Merged merged copying head = (merged ≡ Spelt head) × (copying ≡ Spelt head)

abbrev pub IsAtRest : Standing → Type 0
IsAtRest r = (shape : Resting) × HasShape shape r.merged r.copying r.head

-- a mirror's calls
pub data Call : Type 0 where
  Init : (url uuid : List ℕ) → (props : PropMap) → Call
  TakeLock : (token : List ℕ) → Call
  StealLock : (token : List ℕ) → Call
  ReleaseLock : Call
  SetCopying : (n : ℕ) → Call
  Commit : (n : ℕ) → (set : List Change) → (props : PropMap) → Call
  PutProps : (n : ℕ) → (props : PropMap) → Call
  SetMerged : (n : ℕ) → Call
  ClearCopying : Call
  Look : Call

abbrev pub holds : Option ℕ → ℕ → Bool
holds holder seat = option_map_or (λ k. k == seat) holder false

-- the caller has the lock, and it is the call's turn
abbrev pub held : Option ℕ → ℕ → Option Need
held holder seat = fault_if (not (holds holder seat)) need.NotHolder

abbrev pub turn : Bool → Option Need
turn b = fault_if (not b) need.OutOfTurn

-- the first need of a call that isn't met
abbrev pub unmet : Standing → Option ℕ → ℕ → Call → Option Need
unmet r holder seat (Init url uuid props) = first_of (fault_if (is_some r.url) need.AlreadyInitialised ∷ fault_if (not (r.head == 0)) need.NotEmpty ∷ [])
unmet r holder seat (TakeLock token) = first_of (fault_if (is_none r.url) need.NotInitialised ∷ fault_if (is_some r.lock) need.LockHeld ∷ [])
unmet r holder seat (StealLock token) = first_of (fault_if (is_none r.url) need.NotInitialised ∷ fault_if (is_some holder) need.HolderRunning ∷ [])
unmet r holder seat ReleaseLock = first_of (held holder seat ∷ [])
unmet r holder seat (SetCopying n) = first_of (held holder seat ∷ turn (is_absent r.copying && is_number r.merged r.head && (n == r.head + 1)) ∷ [])
unmet r holder seat (Commit n set props) = first_of (held holder seat ∷ turn (is_number r.copying n && is_number r.merged r.head && (n == r.head + 1)) ∷ [])
unmet r holder seat (PutProps n props) = first_of (held holder seat ∷ turn (reaches r.merged n || (is_number r.copying n && (n == r.head))) ∷ [])
unmet r holder seat (SetMerged n) = first_of (held holder seat ∷ turn (is_number r.copying n && (n == r.head) && precedes r.merged n) ∷ [])
unmet r holder seat ClearCopying = first_of (held holder seat ∷ turn (is_number r.copying r.head && is_number r.merged r.head) ∷ [])
unmet r holder seat Look = None

-- revision 0's properties of a mirror that begins: the copied ones, where they come from, and that no more is merged than revision 0
unfoldable pub first_map : List ℕ → List ℕ → PropMap → PropMap
first_map url uuid props = finite.insert (finite.insert (finite.insert (without_sync props) url_name url) uuid_name uuid) merged_name (fmt.decimal 0)

-- the one entry that an accepted call writes, and none for a look
abbrev pub entry_of : List Revision → Call → Option Entry
entry_of x (Init url uuid props) = Some (Mapped 0 (first_map url uuid props))
entry_of x (TakeLock token) = Some (Mapped 0 (finite.insert (props_at x 0) lock_name token))
entry_of x (StealLock token) = Some (Mapped 0 (finite.insert (props_at x 0) lock_name token))
entry_of x ReleaseLock = Some (Mapped 0 (finite.remove (props_at x 0) lock_name))
entry_of x (SetCopying n) = Some (Mapped 0 (finite.insert (props_at x 0) copying_name (fmt.decimal n)))
entry_of x (Commit n set props) = Some (Revised n set (without_sync props))
entry_of x (PutProps n props) = Some (Mapped n (copied_beside (props_at x n) props))
entry_of x (SetMerged n) = Some (Mapped 0 (finite.insert (props_at x 0) merged_name (fmt.decimal n)))
entry_of x ClearCopying = Some (Mapped 0 (finite.remove (props_at x 0) copying_name))
entry_of x Look = None

-- why a call is refused: a need that isn't met, or what a repository refuses of its entry
pub data Refusal : Type 0 where
  Missed : (need : Need) → Refusal
  OfRepository : (fault : RepoFault) → Refusal

abbrev pub refusal : Mirror → ℕ → Call → Option Refusal
refusal m seat call =
    first_of
    (option_map Missed (unmet (standing_of m.revisions) m.holder seat call)
    ∷ option_map OfRepository (option_and_then (by_repository m.revisions) (entry_of m.revisions call))
    ∷ []
    )

abbrev pub holder_after : Option ℕ → ℕ → Call → Option ℕ
holder_after holder seat (TakeLock token) = Some seat
holder_after holder seat (StealLock token) = Some seat
holder_after holder seat ReleaseLock = None
holder_after holder seat _ = holder

-- the revisions after an accepted call
abbrev pub revisions_by : List Revision → Call → List Revision
revisions_by x call = option_map_or (with_entry x) (entry_of x call) x

abbrev pub accepted : Mirror → ℕ → Call → Mirror
accepted m seat call = record { revisions = revisions_by m.revisions call; holder = holder_after m.holder seat call }

pub data Reply : Type 0 where
  Done : Reply
  Seen : (standing : Standing) → Reply
  Refused : (why : Refusal) → Reply

-- the reply to an accepted call
abbrev pub granted : Mirror → Call → Reply
granted m Look = Seen (standing_of m.revisions)
granted m _ = Done

abbrev pub reply_to : Mirror → ℕ → Call → Reply
reply_to m seat call = option_map_or Refused (refusal m seat call) (granted m call)

-- a refused call changes nothing
abbrev pub after_call : Mirror → ℕ → Call → Mirror
after_call m seat call = if is_some (refusal m seat call) then m else accepted m seat call

-- one step of a mirror: a call of a seat, and the reply
pub record IsStep (old : Mirror) (seat : ℕ) (call : Call) (reply : Reply) (new : Mirror) : Type 0 where
  pub replied : reply ≡ reply_to old seat call
  pub mirror : new ≡ after_call old seat call

-- the numbers of the revisions that a journal commits
abbrev pub commits_of : List Entry → List ℕ
commits_of [] = []
commits_of (Revised n set props ∷ es) = n ∷ commits_of es
commits_of (Mapped n props ∷ es) = commits_of es
