-- What an upgrade leaves of a store's disk, and what it tells.
use Rattle.std.specs.Prelude.{◌≡◌, ◌≢◌, ◌≤◌, ◌↔◌, ◌⊎◌, ℕ, List, ◌++◌, length, Option, codes}
use Rattle.std.specs.Fmt.{decimal}
use Rattle.std.specs.Io.KnownBytes.{Appends}
use Rattle.byte_streams.specs.Causes.{Rose as WriterRose}
use Rattle.byte_streams.specs.declared.output.Output.{Ghosts as OutputGhosts}
use Rattle.fleet_disk.specs.Image.{Image}
use Rattle.fleet_disk.specs.Rules.{LeavesOnly, Rose}
use Rattle.fleet_disk.specs.declared.disk.Disk.{Ghosts}
use Rattle.gate_log.specs.Log.{entries_of, version_of}
use Rattle.gate_log.specs.Looks.{Looks}
use Rattle.gate_log.specs.Standing.{Stands}
use Rattle.gate_log.specs.Version.{IsOf}
use Rattle.gate_log.specs.declared.version.LogVersion.{LogVersion}
use Rattle.gate_log.specs.declared.version.LogVersion.TheVariants.{First, Second}
use Rattle.node_base.specs.declared.refusal.Refusal.{Refusal}
use Rattle.node_base.specs.declared.refusal.Refusal.TheVariants as refusal
use Rattle.repo_core.specs.Repository.{Repository}
use Rattle.repo_store.specs.Journal.{Keeps}
use Rattle.repo_store.specs.Words.{disk_of, log_of, repository_of, HasFailed}
use Rattle.repo_store.specs.declared.store.RepoStore.{RepoStore}

-- the line that tells of so many entries
abbrev pub upgraded_line : ℕ → List ℕ
upgraded_line n = codes "Upgraded " ++ (decimal n ++ codes " entries.\n")

-- how many of a log's entries are given their sums: all of the first version, and none of the second
abbrev pub count_given : LogVersion → List (List ℕ) → ℕ
count_given First entries = length entries
count_given Second entries = 0

-- those of a store's log
abbrev pub count_upgraded : {D : Type 0} {G : Ghosts D} → RepoStore D G → ℕ
count_upgraded store = count_given (version_of (log_of store)) (entries_of (log_of store))

-- an image is of the second version, has the entries of the store's log, and keeps its repository
abbrev pub HasSums : {D : Type 0} {G : Ghosts D} → RepoStore D G → Image → Type 0
HasSums store image = IsOf Second image × Stands image (entries_of (log_of store)) × Keeps (repository_of store) image

-- what holds of the disk that comes back, whatever is answered: it keeps its rules, or doesn't, as before, and a stop at any moment of the call leaves what keeps the store's repository
pub record IsSpared {D : Type 0} {G : Ghosts D} (old : RepoStore D G) (back : D) : Type 0 where
  pub honest : G.honest (disk_of old) ↔ G.honest back
  pub later : G.failures (disk_of old) ≤ G.failures back
  pub any_moment : G.honest (disk_of old) → ¬ HasFailed old → LeavesOnly G.clock G.left_since (disk_of old) back (Keeps (repository_of old))

-- a store's log is made one of the second version, which a stop leaves then, and how many entries that were is told; one of the second is left alone
pub record IsUpgraded {D : Type 0} {G : Ghosts D} (before now : Option (List ℕ)) (old : RepoStore D G) (back : D) : Type 0 where
  pub spared : IsSpared old back
  pub already : version_of (log_of old) ≡ Second → back ≡ disk_of old
  pub told : Appends before now (upgraded_line (count_upgraded old))
  pub left : G.honest (disk_of old) → ¬ HasFailed old → (image : Image) → G.may_leave back image → HasSums old image

-- it isn't: the device fails, or has failed before, and the disk is as it was, or memory runs out, and the disk was looked at alone; nothing is written; or it is, and that can't be written; a stop leaves what keeps the store's repository
pub record NotUpgraded {D : Type 0} {G : Ghosts D} (before now : Option (List ℕ)) (fails : Type 0) (e : Refusal) (old : RepoStore D G) (back : D) : Type 0 where
  pub spared : IsSpared old back
  pub due : G.honest (disk_of old) → (e ≡ refusal.DeviceFailed) ⊎ (e ≡ refusal.Failed) ⊎ (e ≡ refusal.OutOfMemory) ⊎ (e ≡ refusal.PeerFailed)
  pub device : e ≡ refusal.DeviceFailed → Rose (G.failures (disk_of old)) (G.failures back)
  pub failed : e ≡ refusal.Failed → HasFailed old × (back ≡ disk_of old)
  pub looks : e ≡ refusal.OutOfMemory → Looks G (disk_of old) back
  pub quiet : e ≢ refusal.PeerFailed → now ≡ before
  pub unsaid : e ≡ refusal.PeerFailed → fails
  pub done : e ≡ refusal.PeerFailed → G.honest (disk_of old) → ¬ HasFailed old → (image : Image) → G.may_leave back image → HasSums old image
  pub left : G.honest (disk_of old) → ¬ HasFailed old → (image : Image) → G.may_leave back image → Keeps (repository_of old) image

-- what the writer has of an upgrade, and what came back
abbrev pub Upgrades : {D O : Type 0} {G : Ghosts D} → OutputGhosts O → O → O → RepoStore D G → D → Type 0
Upgrades W before now old back = IsUpgraded (W.contents before) (W.contents now) old back

abbrev pub RefusesUpgrade : {D O : Type 0} {G : Ghosts D} → OutputGhosts O → O → O → RepoStore D G → D → Refusal → Type 0
RefusesUpgrade W before now old back e = NotUpgraded (W.contents before) (W.contents now) (WriterRose (W.failures before) (W.failures now)) e old back
