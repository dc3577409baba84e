-- Laws of repositories, entries and dates.
use Rattle.std.specs.Prelude.{◌≡◌, ℕ, List, ◌++◌, take, slice_get, Some, None}
use Rattle.jiff_core.specs.declared.civil.datetime.DateTime.{DateTime}
use Rattle.dump_load.specs.declared.change.Change.{Change}
use Rattle.node_base.specs.Tree.{PathMap}
use Rattle.dump_load.specs.Trees.{Makes}
use Rattle.repo_core.specs.Repository.{Revision, Repository, trees_of, tree_at, fresh, IsRepository}
use Rattle.repo_core.specs.Entries.{Entry, with_entry_in, revisions_after}
use Rattle.repo_core.specs.Refusals.{by_repository}
use Rattle.repo_core.specs.Dates.{IsMoment, date_text}

-- the entries of two lists after one another
abbrev pub EntriesJoin : Type 0
EntriesJoin = (x : List Revision) (es ds : List Entry) → revisions_after x (es ++ ds) ≡ revisions_after (revisions_after x es) ds

-- a repository as it begins is one
abbrev pub FreshIsOne : Type 0
FreshIsOne = (identity : List ℕ) → IsRepository (fresh identity)

-- each set has no fault over the trees of the revisions before, and makes its revision's tree
abbrev pub SetsMakeTrees : Type 0
SetsMakeTrees = (r : Repository) (n : ℕ) (s : List Change) (t : PathMap) → IsRepository r → slice_get r.sets n ≡ Some s → tree_at r.revisions n ≡ Some t → Makes (take n (trees_of r.revisions)) s t

-- an entry that a repository takes leaves a repository
abbrev pub EntriesKeep : Type 0
EntriesKeep = (r : Repository) (e : Entry) → IsRepository r → by_repository r.revisions e ≡ None → IsRepository (with_entry_in r e)

-- a moment has one text
abbrev pub OneDate : Type 0
OneDate = (micros : ℕ) (a b : DateTime) → IsMoment micros a → IsMoment micros b → date_text a ≡ date_text b
