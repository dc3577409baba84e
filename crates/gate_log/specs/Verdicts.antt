-- What an opening may find: one verdict for each image at most.
use Rattle.std.specs.Prelude.{◌≡◌, ◌<◌, ℕ, List, length}
use Rattle.fleet_disk.specs.Image.{Image}
use Rattle.gate_log.specs.Standing.{Stands, HasNoEntry, IsDamagedAt}

-- an image stands for one list of entries at most
abbrev pub OneList : Type 0
OneList = (image : Image) (entries others : List (List ℕ)) → Stands image entries → Stands image others → entries ≡ others

-- an image that stands for an entry has no damaged one
abbrev pub NotDamaged : Type 0
NotDamaged = (image : Image) (entries : List (List ℕ)) (entry : ℕ) → Stands image entries → IsDamagedAt entry image → ⊥

-- nor is its first gate closed
abbrev pub NotMissing : Type 0
NotMissing = (image : Image) (entries : List (List ℕ)) → Stands image entries → 0 < length entries → HasNoEntry image → ⊥

-- an image has one first damaged entry at most
abbrev pub OneDamage : Type 0
OneDamage = (image : Image) (entry other : ℕ) → IsDamagedAt entry image → IsDamagedAt other image → entry ≡ other

-- and its first gate is open
abbrev pub DamageNotMissing : Type 0
DamageNotMissing = (image : Image) (entry : ℕ) → IsDamagedAt entry image → HasNoEntry image → ⊥
