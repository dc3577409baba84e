-- What an opening may find: one verdict for each image at most.
use Rattle.std.specs.Prelude.{◌≡◌, ℕ, List}
use Rattle.fleet_disk.specs.Image.{Image}
use Rattle.gate_log.specs.Standing.{HasNoEntry}
use Rattle.repo_core.specs.Repository.{Repository, Revision}
use Rattle.repo_store.specs.Journal.{StandsFor, ReopensTo, Keeps, IsDamaged, IsExport}

-- a journal's entries stand for one repository at most
abbrev pub OneJournal : Type 0
OneJournal = (entries : List (List ℕ)) (identity other : List ℕ) (x y : List Revision) → StandsFor entries identity x → StandsFor entries other y → (identity ≡ other) × (x ≡ y)

-- an image reopens to one repository at most
abbrev pub OneRepository : Type 0
OneRepository = (image : Image) (identity other : List ℕ) (x y : List Revision) → ReopensTo identity x image → ReopensTo other y image → (identity ≡ other) × (x ≡ y)

-- an image reopens to a repository that it keeps
abbrev pub KeptReopens : Type 0
KeptReopens = (image : Image) (r : Repository) → Keeps r image → ReopensTo r.identity r.revisions image

-- and where it reopens to revisions, it keeps a repository of these
abbrev pub ReopensKept : Type 0
ReopensKept = (image : Image) (identity : List ℕ) (x : List Revision) → ReopensTo identity x image → ∥ ((r : Repository) × (r.identity ≡ identity) × (r.revisions ≡ x) × Keeps r image) ∥₁

-- a revision of what an image keeps has one text: that of an export before a stop and of one after it
abbrev pub OneText : Type 0
OneText = (image : Image) (r s : Repository) (n : ℕ) (a b : List ℕ) → Keeps r image → Keeps s image → IsExport r n a → IsExport s n b → a ≡ b

-- an image that reopens has no damaged entry
abbrev pub NotDamaged : Type 0
NotDamaged = (image : Image) (identity : List ℕ) (x : List Revision) (entry : ℕ) → ReopensTo identity x image → IsDamaged entry image → ⊥

-- and has an entry
abbrev pub NotMissing : Type 0
NotMissing = (image : Image) (identity : List ℕ) (x : List Revision) → ReopensTo identity x image → HasNoEntry image → ⊥

-- an image has one first damaged entry at most
abbrev pub OneDamage : Type 0
OneDamage = (image : Image) (entry other : ℕ) → IsDamaged entry image → IsDamaged other image → entry ≡ other

-- and where one is damaged there is an entry
abbrev pub DamageNotMissing : Type 0
DamageNotMissing = (image : Image) (entry : ℕ) → IsDamaged entry image → HasNoEntry image → ⊥
