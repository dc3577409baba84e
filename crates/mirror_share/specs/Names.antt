-- The names of an opened mirror's ledgers and of its row.
use Rattle.std.specs.Prelude.{◌≡◌, ℕ, List}
use Rattle.store_share.specs.Opened.{cells_of}
use Rattle.store_share.specs.declared.name.RowName.{Ghosts as RowGhosts}
use Rattle.store_share.specs.declared.opened.OpenedStore.{OpenedStore}
use Rattle.mirror_share.specs.declared.blanks.Blanks.{Blanks}
use Rattle.mirror_share.specs.declared.name.MirrorName.{Ghosts}
use Rattle.mirror_share.specs.declared.opened.OpenedMirror.{OpenedMirror}

-- the opened store
abbrev pub opened_in : {D : Type 0} {g : _} → OpenedMirror D g → OpenedStore D g
opened_in mirror = mirror.opened

-- these are the names of the ledgers
abbrev pub AreNamed : Blanks → ℕ → ℕ → ℕ → ℕ → Type 0
AreNamed blanks merged copying head holder = (blanks.merged.name ≡ merged) × (blanks.copying.name ≡ copying) × (blanks.head.name ≡ head) × (blanks.holder.name ≡ holder)

-- these are the cells of that mirror's row, and the names of its ledgers
abbrev pub IsNamed : {D : Type 0} {g : _} → OpenedMirror D g → List ℕ → ℕ → ℕ → ℕ → ℕ → Type 0
IsNamed mirror cells merged copying head holder = (cells_of mirror.opened ≡ cells) × AreNamed mirror.blanks merged copying head holder

-- a name that has them
abbrev pub row_named : {L D : Type 0} {g : _} → OpenedMirror D g → RowGhosts L
row_named mirror = record { cells = cells_of mirror.opened }

abbrev pub ledgers_named : {L D : Type 0} {g : _} → OpenedMirror D g → Ghosts L
ledgers_named mirror = record { merged = mirror.blanks.merged.name; copying = mirror.blanks.copying.name; head = mirror.blanks.head.name; holder = mirror.blanks.holder.name }
