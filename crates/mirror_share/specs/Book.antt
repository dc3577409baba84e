-- What a mirror's book is to its caller.
use Rattle.std.specs.Prelude.{◌≡◌, ℕ, Bool, List, [], map, Option, None}
use Rattle.std.specs.Option.{option_map_or}
use Rattle.repo_core.specs.Repository.{Repository}
use Rattle.repo_store.specs.declared.store.RepoStore.{RepoStore}
use Rattle.store_share.specs.declared.book.MasterBook.{MasterBook}
use Rattle.store_share.specs.Book.{store_of, is_stuck}
use Rattle.sync_core.specs.Copies.{call_in}
use Rattle.sync_core.specs.Mirror.{Call}
use Rattle.sync_job.specs.Mirrors.{MirrorNow}
use Rattle.mirror_share.specs.declared.calls.CallBook.{CallBook}
use Rattle.mirror_share.specs.declared.seat.JobSeat.{JobSeat}
use Rattle.mirror_share.specs.Jobs.{places_of}
use Rattle.mirror_share.specs.Places.{AreFree}
use Rattle.mirror_share.specs.Seats.{hand_of}
use Rattle.mirror_share.specs.Steps.{now_at}

-- its store, with what the row shows of it
abbrev pub master_of : {L D : Type 0} {r : _} {g : _} → CallBook L D r g → MasterBook L D r g
master_of book = book.book

abbrev pub store_in : {L D : Type 0} {r : _} {g : _} → CallBook L D r g → RepoStore D g
store_in book = store_of book.book

-- a cell refused its box
abbrev pub is_stuck_in : {L D : Type 0} {r : _} {g : _} → CallBook L D r g → Bool
is_stuck_in book = is_stuck book.book

-- the running seat whose call took the lock
abbrev pub holder_of : {L D : Type 0} {r : _} {g : _} → CallBook L D r g → Option ℕ
holder_of book = book.holder

-- the mirror as it stands
abbrev pub now_of : {L D : Type 0} {r : _} {g : _} → CallBook L D r g → MirrorNow
now_of book = now_at (store_of book.book) book.holder

-- the repository as it was at the opening
abbrev pub opening_of : {L D : Type 0} {r : _} {g : _} → CallBook L D r g → Repository
opening_of book = book.opening.value

-- the calls that were taken since, in order, without looks. The last one was refused by its cell where one was
abbrev pub calls_of : {L D : Type 0} {r : _} {g : _} → CallBook L D r g → List Call
calls_of book = map call_in book.calls.items

-- the tokens of the jobs that run, each at its place
abbrev pub jobs_of : {L D : Type 0} {r : _} {g : _} → CallBook L D r g → List (Option (List ℕ))
jobs_of book = places_of book.jobs

-- its store stays, who holds the lock, whether a cell refused its box, and its calls
abbrev pub StandsStill : {L D : Type 0} {r : _} {g : _} → CallBook L D r g → CallBook L D r g → Type 0
StandsStill old new = (store_in new ≡ store_in old) × (holder_of new ≡ holder_of old) × (is_stuck_in new ≡ is_stuck_in old) × (calls_of new ≡ calls_of old)

-- its store and row stay, its calls, and its repository as it was at the opening
abbrev pub KeepsCalls : {L D : Type 0} {r : _} {g : _} → CallBook L D r g → CallBook L D r g → Type 0
KeepsCalls old new = (master_of new ≡ master_of old) × (calls_of new ≡ calls_of old) × (opening_of new ≡ opening_of old)

-- so they do, and who holds the lock
abbrev pub KeepsHolder : {L D : Type 0} {r : _} {g : _} → CallBook L D r g → CallBook L D r g → Type 0
KeepsHolder old new = (master_of new ≡ master_of old) × (holder_of new ≡ holder_of old) × (calls_of new ≡ calls_of old) × (opening_of new ≡ opening_of old)

-- so they do, and the jobs that run
abbrev pub KeepsJobs : {L D : Type 0} {r : _} {g : _} → CallBook L D r g → CallBook L D r g → Type 0
KeepsJobs old new = (master_of new ≡ master_of old) × (calls_of new ≡ calls_of old) × (opening_of new ≡ opening_of old) × (jobs_of new ≡ jobs_of old)

-- nobody holds the lock, and no job runs
abbrev pub HasNobody : {L D : Type 0} {r : _} {g : _} → CallBook L D r g → Type 0
HasNobody book = (holder_of book ≡ None) × AreFree (jobs_of book)

-- it is opened over this repository, and no call was taken since
abbrev pub BeginsAt : {L D : Type 0} {r : _} {g : _} → Repository → CallBook L D r g → Type 0
BeginsAt x book = (opening_of book ≡ x) × (calls_of book ≡ [])

-- behind a seat that leaves nobody holds the lock where it had the hand
abbrev pub ReleasesBy : {S L D : Type 0} {r : _} {g : _} → JobSeat S → CallBook L D r g → CallBook L D r g → Type 0
ReleasesBy seat old new = holder_of new ≡ option_map_or (λ _. None) (hand_of seat) (holder_of old)
