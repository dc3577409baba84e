-- What notes of a row know, and what a repository has at a number.
use Rattle.std.specs.Prelude.{◌≡◌, ◌≢◌, ℕ, List, map, Option, Some, IfSome, IfNone, IsSome, slice_get}
use Rattle.std.specs.Borrow.{Bor}
use Rattle.std.specs.Option.{option_and_then, option_map}
use Rattle.dump_load.specs.declared.change.Change.{Change}
use Rattle.repo_core.specs.Repository.{Repository}
pub use Rattle.store_share.specs.declared.rev.Rev.{Rev}
use Rattle.store_share.specs.declared.fault.RowFault.{RowFault}
use Rattle.store_share.specs.declared.fault.RowFault.TheVariants.{Failed}
use Rattle.store_share.specs.declared.notes.RowNotes.{RowNotes}

-- the cells that the notes are of
abbrev pub cells_in : RowNotes → List ℕ
cells_in n = map (λ k. k.cell) n.notes.items

-- the revision that the notes know at a number
abbrev pub known_at : RowNotes → ℕ → Option Rev
known_at n r = option_and_then (λ k. k.known) (slice_get n.notes.items r)

-- the revision of a repository at a number
abbrev pub rev_at : Repository → ℕ → Option Rev
rev_at x r = option_and_then (λ set. option_map (λ y. record { number = r; set = set; tree = y.tree }) (slice_get x.revisions r)) (slice_get x.sets r)

-- where the first is known, the second is it too
abbrev pub KnowsToo : Option Rev → Option Rev → Type 0
KnowsToo first second = (x : Rev) → first ≡ Some x → second ≡ Some x

-- what the notes knew they know
abbrev pub KeepKnown : RowNotes → RowNotes → Type 0
KeepKnown old new = (r : ℕ) (x : Rev) → known_at old r ≡ Some x → known_at new r ≡ Some x

-- they know what they knew, but at that number
abbrev pub ChangeOnly : ℕ → RowNotes → RowNotes → Type 0
ChangeOnly n old new = (r : ℕ) → r ≢ n → known_at new r ≡ known_at old r

-- they know the same
abbrev pub KnowAlike : RowNotes → RowNotes → Type 0
KnowAlike old new = (r : ℕ) → known_at new r ≡ known_at old r

-- a revision of that number that was known is read, and no other
abbrev pub ReadsKnown : Option Rev → ℕ → Option (Bor Rev) → Type 0
ReadsKnown known number result = (x : Rev) → known ≡ Some x → x.number ≡ number → IfSome result (λ r. r.now ≡ x) × (IfNone result ⊥)

-- a revision has these changes
abbrev pub HasChanges : Option Rev → List Change → Type 0
HasChanges rev set = option_map (λ x. x.set) rev ≡ Some set

-- the cell refuses its box (32), since it shows a revision, which is known then
abbrev pub IsSetAlready : Option Rev → RowFault → Type 0
IsSetAlready known e = (e ≡ Failed) × IsSome known

-- they are of the same cells
abbrev pub CellsStay : RowNotes → RowNotes → Type 0
CellsStay old new = cells_in new ≡ cells_in old

-- they know a revision at its number
abbrev pub Knows : RowNotes → Rev → Type 0
Knows notes rev = known_at notes rev.number ≡ Some rev
