-- What a seat's reader has seen behind a call of the job.
use Rattle.std.specs.Prelude.{◌≡◌, ◌≤◌, ℕ, Option, Some}
use Rattle.std.specs.Option.{option_map}
use Rattle.repo_core.specs.Repository.{Repository, head_of}
use Rattle.store_share.specs.Row.{rev_at}
use Rattle.store_share.specs.Seats.{known_by, seen_by}
use Rattle.store_share.specs.declared.rev.Rev.{Rev}
use Rattle.store_share.specs.declared.seat.ReaderSeat.{ReaderSeat}
use Rattle.sync_core.specs.Mirror.{Call, Commit}
use Rattle.sync_core.specs.declared.reply.Reply.{Reply as Given}
use Rattle.sync_core.specs.declared.reply.Reply.TheVariants as given

-- a revision that was committed, with its set; and the head that a look tells
abbrev pub HasSeenCommit : Call → (ℕ → Option Rev) → ℕ → Type 0
HasSeenCommit (Commit n set props) known seen = (n ≤ seen) × (option_map (λ x. x.set) (known n) ≡ Some set)
HasSeenCommit _ known seen = Unit {0}

abbrev pub HasSeenHead : Given → ℕ → Type 0
HasSeenHead given.Done seen = Unit {0}
HasSeenHead (given.Seen s) seen = s.head ≤ seen

-- a reader has seen all that a repository has, and knows it
abbrev pub HasSeenAll : {L : Type 0} {r : _} → ReaderSeat L r → Repository → Type 0
HasSeenAll seat x = (seen_by seat ≡ head_of x.revisions) × ((n : ℕ) → n ≤ head_of x.revisions → known_by seat n ≡ rev_at x n)

-- of a call that commits a reader has seen the revision, with its set
abbrev pub HasSeenCall : {L : Type 0} {r : _} → ReaderSeat L r → Call → Type 0
HasSeenCall reader call = HasSeenCommit call (known_by reader) (seen_by reader)
