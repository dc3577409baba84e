-- What a host with one folder has for the disks of folders.
use Rattle.std.proofs.Common.{◌≡◌, ℕ, List, Bool, true, false, Option, Some, None, IfSome, T, refl, sym, ap, subst, codes, bytes_eq}
use Rattle.fleet_disk.specs.Lending.{FolderDisk, Missing, Lent, There}

-- of the folder the disk that is kept, or one that is lent; of another name none
abbrev pub named : {P : Type 0} → Bool → Option P → FolderDisk P
named true (Some place) = There place
named true None = Lent
named false kept = Missing

-- the folder is called `folder`
abbrev pub disk_in : {P : Type 0} → List ℕ → Option P → FolderDisk P
disk_in name kept = named (bytes_eq name (codes "folder")) kept

abbrev is_there : {P : Type 0} → FolderDisk P → Bool
is_there Missing = false
is_there Lent = false
is_there (There place) = true

abbrev there_or : {P : Type 0} → P → FolderDisk P → P
there_or other Missing = other
there_or other Lent = other
there_or other (There place) = place

-- what is there is what is kept
pub kept_there : {P : Type 0} (H : P → Type 0) (b : Bool) (kept : Option P) (place : P) → IfSome kept H → named b kept ≡ There place → H place
kept_there H true (Some q) place h e = subst H (ap (there_or q) e) h
kept_there H true None place h e = absurd (subst T (ap is_there (sym e)) tt)
kept_there H false kept place h e = absurd (subst T (ap is_there (sym e)) tt)
