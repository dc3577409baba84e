-- What the cells of a row show.
use Rattle.std.specs.Prelude.{◌≡◌, ◌<◌, ◌≤◌, ℕ, Option, None, IsSome, length}
use Rattle.std.specs.Option.{option_map}
use Rattle.node_base.specs.Tree.{PathMap}
use Rattle.repo_core.specs.Repository.{Repository}
use Rattle.repo_core.specs.declared.entry.Entry.{Entry}
use Rattle.repo_core.specs.declared.entry.Entry.TheVariants.{Revised, Mapped}
use Rattle.repo_store.specs.Words.{entry_in, tree_in}
use Rattle.repo_store.specs.declared.staged.Staged.{Staged}
use Rattle.store_share.specs.declared.rev.Rev.{Rev}
use Rattle.store_share.specs.declared.notes.RowNotes.{RowNotes}
use Rattle.store_share.specs.Row.{known_at, rev_at}

-- the revision that an entry makes, with its tree
abbrev pub rev_from : Entry → Option PathMap → Option Rev
rev_from (Revised n set props) tree = option_map (λ t. record { number = n; set = set; tree = t }) tree
rev_from (Mapped n props) tree = None

-- the number of the revision that the notes know at a place
abbrev pub number_known : RowNotes → ℕ → Option ℕ
number_known notes r = option_map (λ x. x.number) (known_at notes r)

-- of as many revisions as this, the notes know what the repository has there
abbrev pub Shows : ℕ → RowNotes → Repository → Type 0
Shows count notes r = (i : ℕ) → i < count → known_at notes i ≡ rev_at r i

-- the notes know what a repository has at each of its numbers
abbrev pub ShowsWhole : Repository → RowNotes → Type 0
ShowsWhole x notes = Shows (length x.revisions) notes x

-- they know something there
abbrev pub KnowsWhole : Repository → RowNotes → Type 0
KnowsWhole x notes = (r : ℕ) → r < length x.revisions → IsSome (known_at notes r)

-- they know nothing above them
abbrev pub KnowsNoMore : Repository → RowNotes → Type 0
KnowsNoMore x notes = (r : ℕ) → length x.revisions ≤ r → known_at notes r ≡ None

-- the revision that is staged
abbrev pub staged_rev : Staged → Option Rev
staged_rev staged = rev_from (entry_in staged) (tree_in staged)
