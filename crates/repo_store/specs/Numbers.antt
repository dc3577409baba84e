-- The numbers of the revisions that a journal commits.
use Rattle.std.specs.Prelude.{◌≡◌, ℕ, List, [], ◌∷◌}
use Rattle.std.specs.List.{range_with_len}
use Rattle.node_base.specs.Props.{PropMap}
use Rattle.fleet_disk.specs.Image.{Image}
use Rattle.gate_log.specs.Standing.{Stands}
use Rattle.repo_core.specs.Repository.{Repository, head_of, fresh}
use Rattle.repo_core.specs.Entries.{with_entry_in}
use Rattle.repo_core.specs.declared.entry.Entry.{Entry}
use Rattle.repo_core.specs.declared.entry.Entry.TheVariants.{Revised, Mapped}
use Rattle.repo_store.specs.Journal.{Spells, Takes, IsBeginning, Keeps}

-- the numbers of the revisions that entries commit
abbrev pub commits_of : List Entry → List ℕ
commits_of [] = []
commits_of (Revised n set props ∷ es) = n ∷ commits_of es
commits_of (Mapped n props ∷ es) = commits_of es

-- from the repository r on, the bytes are these entries, each of which is taken, and leave s in the end
abbrev pub LeadBy : Repository → List (List ℕ) → List Entry → Repository → Type 0
LeadBy r [] es s = (es ≡ []) × (s ≡ r)
LeadBy r (bytes ∷ rest) es s = (e : Entry) × (more : List Entry) × (es ≡ e ∷ more) × Spells bytes e × Takes r.revisions e × LeadBy (with_entry_in r e) rest more s

-- a journal's entries, behind the first these, tell a repository
abbrev pub TellBy : List (List ℕ) → List Entry → Repository → Type 0
TellBy [] es r = ⊥
TellBy (first ∷ rest) es r = (props : PropMap) × IsBeginning first r.identity props × LeadBy (with_entry_in (fresh r.identity) (Mapped 0 props)) rest es r

-- an image that keeps a repository has entries that tell it
abbrev pub KeptByEntries : Type 0
KeptByEntries = (image : Image) (r : Repository) → Keeps r image → ∥ ((entries : List (List ℕ)) × (es : List Entry) × Stands image entries × TellBy entries es r) ∥₁

-- and whichever entries do, the revisions that they commit are 1 to the head, in order
abbrev pub CommitsInOrder : Type 0
CommitsInOrder = (entries : List (List ℕ)) (es : List Entry) (r : Repository) → TellBy entries es r → commits_of es ≡ range_with_len 1 (head_of r.revisions)
