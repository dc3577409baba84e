-- Why a folder's repository isn't begun, or isn't opened, and what is left of its disk.
use Rattle.std.specs.Prelude.{◌≡◌, ◌≢◌, ◌⊎◌, ℕ, List, []}
use Rattle.fleet_disk.specs.Image.{Image, no_bytes}
use Rattle.fleet_disk.specs.Rules.{LeavesOnly, Only, Rose}
use Rattle.fleet_disk.specs.declared.disk.Disk.{Ghosts}
use Rattle.gate_log.specs.Looks.{Looks}
use Rattle.gate_log.specs.Standing.{HasNoEntry, IsBlank, IsEither, StandsAlike}
use Rattle.gate_log.specs.Version.{HaveOneVersion}
use Rattle.node_base.specs.declared.refusal.Refusal.{Refusal}
use Rattle.node_base.specs.declared.refusal.Refusal.TheVariants as refusal
use Rattle.repo_store.specs.Journal.{beginning_of, IsDamaged, KeepsAlike}
use Rattle.fleet_main.specs.Loans.{AreBack, Loan, only_of}
use Rattle.fleet_main.specs.declared.lending.Folders.{Ghosts as FolderGhosts}
use Rattle.fleet_disk.specs.declared.folder_fault.FolderFault.{FolderFault}
use Rattle.fleet_disk.specs.declared.folder_fault.FolderFault.TheVariants as fault

abbrev pub folder_refusal : FolderFault → Refusal
folder_refusal fault.DeviceFailed = refusal.DeviceFailed
folder_refusal fault.OutOfMemory = refusal.OutOfMemory

-- no repository is begun on a disk that was lent: the disk failed, or memory ran out, or a file wasn't empty
pub data WhyUnbegun {D : Type 0} (G : Ghosts D) (honest : Type 0) (given back : D) (e : Refusal) : Type 0 where
  begin_fails : e ≡ refusal.DeviceFailed → Rose (G.failures given) (G.failures back) → WhyUnbegun G honest given back e
  begin_no_memory : e ≡ refusal.OutOfMemory → back ≡ given → WhyUnbegun G honest given back e
  there_already : e ≡ refusal.ThereAlready → (honest → G.reads given ≢ no_bytes) → WhyUnbegun G honest given back e

-- and what is left of it: one with something on it stays as it was, and of one whose files are empty a stop at any moment leaves no entry, or one that begins the repository
pub record IsUnbegun {D : Type 0} (G : Ghosts D) (honest : Type 0) (identity : List ℕ) (given back : D) (e : Refusal) : Type 0 where
  pub why : WhyUnbegun G honest given back e
  pub stays : honest → G.reads given ≢ no_bytes → Looks G given back
  pub any_moment : honest → Only no_bytes (G.may_leave given) → LeavesOnly G.clock G.left_since given back (λ image. IsBlank image ⊎ IsEither [] (beginning_of identity) image)

-- no repository is begun in a folder: no disk is lent, since the host failed or memory ran out; or none is begun on its disk
pub data NotBegun {D : Type 0} (G : Ghosts D) (honest fails : Type 0) (folder identity : List ℕ) (loans : List (Loan D)) (e : Refusal) : Type 0 where
  host_fails : e ≡ refusal.DeviceFailed → fails → loans ≡ [] → NotBegun G honest fails folder identity loans e
  host_no_memory : e ≡ refusal.OutOfMemory → loans ≡ [] → NotBegun G honest fails folder identity loans e
  not_on : (given back : D) → loans ≡ only_of folder given back → IsUnbegun G honest identity given back e → NotBegun G honest fails folder identity loans e

-- no repository is opened on a disk that was lent: the disk failed, or memory ran out, or its files have no entry, or an entry is the first that is damaged
pub data WhyUnopened {D : Type 0} (G : Ghosts D) (honest : Type 0) (given back : D) (e : Refusal) : Type 0 where
  open_fails : e ≡ refusal.DeviceFailed → Rose (G.failures given) (G.failures back) → WhyUnopened G honest given back e
  open_no_memory : e ≡ refusal.OutOfMemory → WhyUnopened G honest given back e
  no_entry : e ≡ refusal.NoRepository → (honest → HasNoEntry (G.reads given)) → WhyUnopened G honest given back e
  damaged : (entry : ℕ) → e ≡ refusal.Damaged entry → (honest → IsDamaged entry (G.reads given)) → WhyUnopened G honest given back e

-- and what is left of it: unless it failed, a stop leaves what was read or what has the same entries; at any moment it leaves what it could leave before, or what keeps all that was read
pub record IsUnopened {D : Type 0} (G : Ghosts D) (honest : Type 0) (given back : D) (e : Refusal) : Type 0 where
  pub why : WhyUnopened G honest given back e
  pub left : honest → e ≢ refusal.DeviceFailed → (image : Image) → G.may_leave back image → (image ≡ G.reads given) ⊎ StandsAlike (G.reads given) image
  pub any_moment : honest → LeavesOnly G.clock G.left_since given back (λ image. G.may_leave given image ⊎ KeepsAlike (G.reads given) image)
  -- and no other version of the log comes up
  pub version_stays : honest → LeavesOnly G.clock G.left_since given back (λ image. G.may_leave given image ⊎ HaveOneVersion (G.reads given) image)

-- no repository is opened in a folder: it has no name; or no disk is lent, since the host failed or memory ran out; or none is opened on its disk
pub data NotOpened {D : Type 0} (G : Ghosts D) (honest fails : Type 0) (folder : List ℕ) (loans : List (Loan D)) (e : Refusal) : Type 0 where
  nameless : e ≡ refusal.NoRepository → folder ≡ [] → loans ≡ [] → NotOpened G honest fails folder loans e
  no_disk : e ≡ refusal.DeviceFailed → fails → loans ≡ [] → NotOpened G honest fails folder loans e
  no_memory : e ≡ refusal.OutOfMemory → loans ≡ [] → NotOpened G honest fails folder loans e
  unopened : (given back : D) → loans ≡ only_of folder given back → IsUnopened G honest given back e → NotOpened G honest fails folder loans e

-- the same with what came of all folders
abbrev pub NotBegunIn : {F D : Type 0} → Ghosts D → FolderGhosts F D → F → F → List ℕ → List ℕ → Refusal → Type 0
NotBegunIn {F} {D} G H folders later folder identity e =
    (loans : List (Loan D)) × NotBegun G (H.honest folders) (Rose (H.failures folders) (H.failures later)) folder identity loans e × AreBack G H folders later loans

abbrev pub NotOpenedIn : {F D : Type 0} → Ghosts D → FolderGhosts F D → F → F → List ℕ → Refusal → Type 0
NotOpenedIn {F} {D} G H folders later folder e =
    (loans : List (Loan D)) × NotOpened G (H.honest folders) (Rose (H.failures folders) (H.failures later)) folder loans e × AreBack G H folders later loans
