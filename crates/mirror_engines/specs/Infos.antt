-- What is told of a mirror.
use Rattle.std.specs.Prelude.{◌≡◌, ◌⊎◌, ℕ, Bool, true, false, List, [], ◌∷◌, ◌++◌, Option, Some, None, is_none, codes, if◌then◌else◌}
use Rattle.std.specs.Option.{option_map_or}
use Rattle.std.specs.FinMap as finite
use Rattle.byte_streams.specs.Causes.{Rose}
use Rattle.byte_streams.specs.declared.output.Output.{Ghosts as OutputGhosts}
use Rattle.fleet_disk.specs.declared.disk.Disk.{Ghosts}
use Rattle.node_base.specs.Props.{PropMap}
use Rattle.node_base.specs.declared.refusal.Refusal.{Refusal}
use Rattle.node_base.specs.declared.refusal.Refusal.TheVariants as refusal
use Rattle.node_base.specs.declared.told_number.ToldNumber.TheVariants as told
use Rattle.repo_core.specs.Repository.{head_of, props_at}
use Rattle.repo_store.specs.Words.{revisions_of}
use Rattle.repo_store.specs.declared.store.RepoStore.{RepoStore}
use Rattle.sync_core.specs.Faults.{told_of}
use Rattle.sync_core.specs.Names.{url_name, uuid_name, merged_name, copying_name, number_at}
use Rattle.sync_core.specs.declared.number.Number.{Number}
use Rattle.sync_core.specs.declared.number.Number.TheVariants.{Absent, Misspelt, Spelt, Huge}

-- whether a property spells a number, of whatever size
abbrev pub spells_number : Number → Bool
spells_number Absent = false
spells_number Misspelt = false
spells_number (Spelt n) = true
spells_number Huge = true

-- the digits of the last revision that is copied whole, where its property spells a number
abbrev pub merged_digits : PropMap → Option (List ℕ)
merged_digits own = if spells_number (number_at own merged_name) then finite.get own merged_name else None

-- what is told of a mirror in which what is merged is absent or misspelt (57)
abbrev pub unmerged : PropMap → ℕ → Refusal
unmerged own head = refusal.Inconsistent told.Missing (told_of (number_at own copying_name) (finite.get own copying_name)) head

-- why nothing is told of a repository with these properties on revision 0 and that head: it is no mirror (51), or what is merged is absent or misspelt (57)
abbrev pub info_fault : PropMap → ℕ → Option Refusal
info_fault own head =
    if is_none (finite.get own url_name) then Some refusal.NotInitialised
    else if spells_number (number_at own merged_name) then None
    else Some (unmerged own head)

-- with what it is refused: that, or want of memory for the numbers that are told of it
abbrev pub IsUntold : PropMap → ℕ → Refusal → Type 0
IsUntold own head e = (info_fault own head ≡ Some e) ⊎ ((e ≡ refusal.OutOfMemory) × (info_fault own head ≡ Some (unmerged own head)))

-- a value, which is empty where there is none
abbrev pub valued : Option (List ℕ) → List ℕ
valued value = option_map_or (λ v. v) value []

abbrev pub info_line : List ℕ → List ℕ → List ℕ
info_line label value = label ++ (value ++ codes "\n")

-- where a mirror with these properties on revision 0 is copied from, which repository that is, and the last revision that is copied whole, a line each
abbrev pub info_text : PropMap → List ℕ
info_text own =
    info_line (codes "Source URL: ") (valued (finite.get own url_name))
    ++ (info_line (codes "Source Repository UUID: ") (valued (finite.get own uuid_name)) ++ info_line (codes "Last Merged Revision: ") (valued (merged_digits own)))

-- the properties of a store's revision 0
abbrev pub zero_props : {D : Type 0} {G : Ghosts D} → RepoStore D G → PropMap
zero_props store = props_at (revisions_of store) 0

-- nothing of the store's mirror can't be told
abbrev pub IsTold : {D : Type 0} {G : Ghosts D} → RepoStore D G → Type 0
IsTold store = info_fault (zero_props store) (head_of (revisions_of store)) ≡ None

-- nothing is told of it, for what can't be; or the writer failed (49)
abbrev pub RefusesInfo : {D O : Type 0} {G : Ghosts D} → OutputGhosts O → RepoStore D G → O → O → Refusal → Type 0
RefusesInfo W store old new e =
    (IsUntold (zero_props store) (head_of (revisions_of store)) e × (W.contents new ≡ W.contents old)) ⊎ ((e ≡ refusal.PeerFailed) × Rose (W.failures old) (W.failures new))
