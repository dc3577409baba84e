-- What entries make of a repository.
use Rattle.std.specs.Prelude.{ℕ, List, [], ◌∷◌, ◌++◌, slice_get, slice_set}
use Rattle.std.specs.Option.{option_map_or}
use Rattle.node_base.specs.Props.{PropMap}
use Rattle.dump_load.specs.declared.change.Change.{Change}
use Rattle.dump_load.specs.Trees.{effect_tree}
use Rattle.repo_core.specs.Repository.{Revision, Repository, trees_of, root_alone}
pub use Rattle.repo_core.specs.declared.entry.Entry.{Entry}
pub use Rattle.repo_core.specs.declared.entry.Entry.TheVariants.{Revised, Mapped}

-- a revision with other properties
abbrev pub with_props : List Revision → ℕ → PropMap → List Revision
with_props x n props = slice_set x n (record { tree = option_map_or (λ y. y.tree) (slice_get x n) root_alone; props = props })

-- the revisions after one entry more
abbrev pub with_entry : List Revision → Entry → List Revision
with_entry x (Revised n set props) = x ++ record { tree = effect_tree (trees_of x) set; props = props } ∷ []
with_entry x (Mapped n props) = with_props x n props

-- the revisions after a list of entries
abbrev pub revisions_after : List Revision → List Entry → List Revision
revisions_after x [] = x
revisions_after x (e ∷ es) = revisions_after (with_entry x e) es

-- the sets after one entry more
abbrev pub with_set : List (List Change) → Entry → List (List Change)
with_set sets (Revised n set props) = sets ++ set ∷ []
with_set sets (Mapped n props) = sets

-- the repository after one entry more
abbrev pub with_entry_in : Repository → Entry → Repository
with_entry_in r e = record { identity = r.identity; revisions = with_entry r.revisions e; sets = with_set r.sets e }
