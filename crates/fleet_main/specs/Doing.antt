-- What a command does, and why it doesn't.
use Rattle.std.specs.Prelude.{◌≡◌, ◌≢◌, ◌≤◌, ◌⊎◌, ◌<◌, ℕ, Bool, true, false, List, [], ◌∷◌, ◌++◌, codes, length, Option, None, IfSome, Result, Ok, Err, string_bytes}
use Rattle.std.specs.Fmt.{decimal}
use Rattle.std.specs.List.{filter, flat_map}
use Rattle.std.specs.Io.KnownBytes.{Appends, Keeps as HandedOn}
use Rattle.jiff_core.specs.declared.civil.datetime.DateTime.{DateTime}
use Rattle.dump_text.specs.Streams.{dump_by, records_of}
use Rattle.fleet_disk.specs.FolderFiles.{path_in}
use Rattle.fleet_disk.specs.Image.{Image, no_bytes}
use Rattle.fleet_disk.specs.Lasting.{IsMadeToLast}
use Rattle.fleet_disk.specs.Rules.{LeavesOnly, Only, Rose}
use Rattle.fleet_disk.specs.declared.disk.Disk.{Ghosts}
use Rattle.fleet_disk.specs.declared.disk.DiskFile.{DiskFile}
use Rattle.gate_log.specs.Log.{version_of}
use Rattle.gate_log.specs.Standing.{IsBlank, IsEither}
use Rattle.gate_log.specs.Version.{HaveOneVersion, IsOf}
use Rattle.gate_log.specs.declared.version.LogVersion.TheVariants.{First, Second}
use Rattle.node_base.specs.Path.{Path}
use Rattle.node_base.specs.PathText.{path_read}
use Rattle.node_base.specs.declared.refusal.Refusal.{Refusal}
use Rattle.node_base.specs.declared.refusal.Refusal.TheVariants as refusal
use Rattle.node_base.specs.declared.limits.TheConstants.{PROP_VALUE_BYTES}
use Rattle.repo_core.specs.Repository.{Repository, Revision, fresh, head_of, props_at}
use Rattle.repo_store.specs.Journal.{beginning_of, Keeps, KeepsAlike, KeepsOr, ReopensTo}
use Rattle.repo_store.specs.Words.{disk_of, doubt_of, identity_of, log_of, repository_of, revisions_of, HasFailed}
use Rattle.repo_store.specs.declared.store.RepoStore.{RepoStore}
use Rattle.fleet_engines.specs.declared.product.Product.TheVariants as product
use Rattle.fleet_engines.specs.Grouping.{is_no_identity}
use Rattle.fleet_engines.specs.Runs.{Accepted, Refused}
use Rattle.store_engines.specs.Commits.{directory_entry, IsCommitted, NotCommitted}
use Rattle.store_engines.specs.Devices.{Serves}
use Rattle.store_engines.specs.Dumps.{dump_of, DumpStops}
use Rattle.store_engines.specs.Loads.{Loaded, ServesOne, ServesRecords, Refused as LoadRefused}
use Rattle.store_engines.specs.Mirrors.{is_mirror}
use Rattle.store_engines.specs.Ranges.{count_wanted, first_in, first_wanted, last_in, last_wanted}
use Rattle.store_engines.specs.Upgrades.{IsUpgraded, NotUpgraded}
use Rattle.store_engines.specs.declared.range.RevRange.{RevRange}
use Rattle.sync_core.specs.declared.fault.SyncFault.{SyncFault}
use Rattle.sync_job.specs.Alone.{IsAnsweredBy}
use Rattle.sync_job.specs.Fronts.{accepted_in, counted_in}
use Rattle.sync_job.specs.Leading.{TellsMaster}
use Rattle.sync_job.specs.Questions.{Exchange}
use Rattle.sync_job.specs.Said.{Spoken, told_in}
use Rattle.mirror_engines.specs.Infos.{info_fault, info_text, IsUntold}
use Rattle.mirror_engines.specs.Lines.{line_of, IsPrinted}
use Rattle.mirror_engines.specs.Runs.{answer_of, IsWorked, Leaves}
use Rattle.mirror_engines.specs.Worlds.{BringsSets, IsCaughtUp, IsMirroredFrom, Leads}
use Rattle.mirror_engines.specs.declared.work.Work.{Work}
use Rattle.mirror_engines.specs.declared.work.Work.TheVariants as work
use Rattle.fleet_main.specs.Loans.{AreBack, IsLent, Loan, lent_by, only_of}
use Rattle.fleet_main.specs.Opening.{NotBegunIn, NotOpened, NotOpenedIn}
use Rattle.fleet_main.specs.declared.lending.Folders.{Ghosts as FolderGhosts}
use Rattle.command_words.specs.declared.command_line.Command.{Command}
use Rattle.command_words.specs.declared.command_line.Command.TheVariants.{List as ListIt, Canon, Create, Load, Dump, MakeDir, Upgrade, Initialize, Synchronize, CopyRevprops, Info, Head}

-- a store is opened on a disk that a folder lent, and that keeps the rules if the folders do
pub record IsOpenedOn {D : Type 0} (G : Ghosts D) (honest : Type 0) (given : D) (store : RepoStore D G) : Type 0 where
  -- the store has the repository that the disk's files keep, with the sets of changes that they tell
  pub stands : honest → ReopensTo (identity_of store) (revisions_of store) (G.reads given)
  pub keeps : honest → Keeps (repository_of store) (G.reads given)
  pub sound : honest → G.honest given
  pub rules : honest → G.honest (disk_of store)
  pub working : ¬ HasFailed store
  -- a stop at any moment of the opening leaves what it could leave before, or what keeps all that the files keep
  pub any_moment : honest → LeavesOnly G.clock G.left_since given (disk_of store) (λ image. G.may_leave given image ⊎ KeepsAlike (G.reads given) image)
  -- the log is of the version that the files are of, and no other comes up
  pub version : honest → IsOf (version_of (log_of store)) (G.reads given)
  pub version_stays : honest → LeavesOnly G.clock G.left_since given (disk_of store) (λ image. G.may_leave given image ⊎ HaveOneVersion (G.reads given) image)

-- a folder's disk is lent, and a store is opened on it
abbrev pub IsOpenedIn : {F D : Type 0} (G : Ghosts D) → FolderGhosts F D → F → F → List ℕ → RepoStore D G → Type 0
IsOpenedIn {F} {D} G H folders later folder store = (given : D) × IsLent G H folders later folder given × IsOpenedOn G (H.honest folders) given store

-- a stop leaves what keeps the store's repository
abbrev pub IsKept : {D : Type 0} {G : Ghosts D} → Type 0 → RepoStore D G → Type 0
IsKept {G} honest store = honest → G.honest (disk_of store) × ((left : Image) → G.may_leave (disk_of store) left → Keeps (repository_of store) left)

-- whatever was answered, a stop leaves what keeps the store's repository, or, where the device failed, that or the one after the entry that was begun
abbrev pub IsKeptOr : {D : Type 0} {G : Ghosts D} → Type 0 → RepoStore D G → Type 0
IsKeptOr {G} honest store = honest → G.honest (disk_of store) × ((left : Image) → G.may_leave (disk_of store) left → KeepsOr (repository_of store) (doubt_of store) left)

-- a store is opened on a folder's disk; of it and what it is later P is so, and the folder has the later one's disk then, while other folders stay
pub record OfStanding {F D : Type 0} (G : Ghosts D) (H : FolderGhosts F D) (folders later : F) (folder : List ℕ) (P : RepoStore D G → RepoStore D G → Type 0) : Type 0 where
  pub given : D
  pub old : RepoStore D G
  pub new : RepoStore D G
  pub opened : IsOpenedOn G (H.honest folders) given old
  pub done : P old new
  pub back : AreBack G H folders later (only_of folder given (disk_of new))

-- a store is begun on a disk of empty files that a folder lent: it has revision 0 alone, with the identity, which a stop leaves
pub record IsBegunOn {D : Type 0} (G : Ghosts D) (honest : Type 0) (identity : List ℕ) (given : D) (store : RepoStore D G) : Type 0 where
  pub sound : honest → G.honest given
  pub empty : honest → G.reads given ≡ no_bytes
  pub made : repository_of store ≡ fresh identity
  pub version : version_of (log_of store) ≡ Second
  pub kept : IsKept honest store
  -- a stop at any moment leaves no entry, or one that begins the repository
  pub any_moment : honest → Only no_bytes (G.may_leave given) → LeavesOnly G.clock G.left_since given (disk_of store) (λ image. IsBlank image ⊎ IsEither [] (beginning_of identity) image)

-- a folder's disk is lent, and a store is begun on it; a stop leaves what was made of the folder
abbrev pub IsBegunIn : {F D : Type 0} (G : Ghosts D) → FolderGhosts F D → F → F → List ℕ → List ℕ → RepoStore D G → Type 0
IsBegunIn {F} {D} G H folders later folder identity store =
    (given : D) × IsLent G H folders later folder given × IsBegunOn G (H.honest folders) identity given store × (H.honest folders → IsMadeToLast H.honest H.lacks H.lasts folders later folder)

-- a repository is begun in a folder, which has the store's disk then, while other folders stay; a stop leaves the folder's files, and the folder where it wasn't there
pub record IsBegun {F D : Type 0} (G : Ghosts D) (H : FolderGhosts F D) (folders later : F) (folder identity : List ℕ) : Type 0 where
  pub given : D
  pub store : RepoStore D G
  pub begun : IsBegunOn G (H.honest folders) identity given store
  pub back : AreBack G H folders later (only_of folder given (disk_of store))
  pub lasts : H.honest folders → IsMadeToLast H.honest H.lacks H.lasts folders later folder

-- what a load of these bytes, in which texts may be given as deltas or may not, did to a store and its device
abbrev pub ServesLoad : {D : Type 0} {G : Ghosts D} → Bool → Option (List ℕ) → RepoStore D G → RepoStore D G → Result (Unit {0}) Refusal → Type 0
ServesLoad deltas bytes old new result = Serves old new result × IfSome bytes (λ read. ServesRecords (filter is_no_identity (records_of (dump_by deltas read))) old new result [])

-- the store, whose repository is no mirror, is loaded with the whole dump that was read, and a stop leaves that
abbrev pub IsLoadedFrom : {D : Type 0} {G : Ghosts D} → Bool → Type 0 → Option (List ℕ) → Option (List ℕ) → Option (List ℕ) → RepoStore D G → RepoStore D G → Type 0
IsLoadedFrom deltas honest bytes before now old new =
    (is_mirror (revisions_of old) ≡ false) × IfSome bytes (λ read. Loaded deltas (repository_of old) read (repository_of new) before now)
    × ServesLoad deltas bytes old new (Ok tt) × IsKept honest new

-- what a commit of a directory did to a store and its device
abbrev pub ServesDirectory : {D : Type 0} {G : Ghosts D} → List ℕ → List ℕ → DateTime → RepoStore D G → RepoStore D G → Result (Unit {0}) Refusal → Type 0
ServesDirectory bytes message moment old new result =
    Serves old new result × ((place : Path) → path_read bytes ≡ Ok place → ServesOne (directory_entry (revisions_of old) place message moment) old new result)

-- the directory is committed to it, and a stop leaves that
abbrev pub IsCommittedTo : {D : Type 0} {G : Ghosts D} → Type 0 → List ℕ → List ℕ → DateTime → Option (List ℕ) → Option (List ℕ) → RepoStore D G → RepoStore D G → Type 0
IsCommittedTo honest bytes message moment before now old new =
    IsCommitted (repository_of old) bytes message moment (repository_of new) before now × ServesDirectory bytes message moment old new (Ok tt) × IsKept honest new

-- the revisions that are wanted are dumped, and the store stays, which a stop leaves
abbrev pub IsDumped : {D : Type 0} {G : Ghosts D} → Type 0 → Option RevRange → Option (List ℕ) → Option (List ℕ) → RepoStore D G → RepoStore D G → Type 0
IsDumped honest range before now old new =
    (new ≡ old) × (last_wanted (repository_of old) range < length (revisions_of old))
    × Appends before now (dump_of (repository_of old) (first_wanted range) (count_wanted (repository_of old) range)) × IsKept honest old

-- a mirror isn't loaded; and of another one what was read is refused; unless the device failed, a stop leaves what is loaded, and where it did, that or one entry more
abbrev pub NotLoadedFrom : {D : Type 0} {G : Ghosts D} → Bool → Type 0 → Option (List ℕ) → Option (List ℕ) → Option (List ℕ) → Type 0 → Refusal → RepoStore D G → RepoStore D G → Type 0
NotLoadedFrom deltas honest bytes before now fails e old new =
    (is_mirror (revisions_of old) ≡ false → IfSome bytes (λ read. LoadRefused deltas (repository_of old) read new before now fails e))
    × (is_mirror (revisions_of old) ≡ true → (e ≡ refusal.ReadOnly) × (repository_of new ≡ repository_of old) × (now ≡ before))
    × ServesLoad deltas bytes old new (Err e) × (e ≢ refusal.DeviceFailed → IsKept honest new) × IsKeptOr honest new

-- the directory isn't committed to it; unless the device failed, a stop leaves what the store has, and where it did, that or one entry more
abbrev pub NotCommittedTo : {D : Type 0} {G : Ghosts D} → Type 0 → List ℕ → List ℕ → DateTime → Option (List ℕ) → Option (List ℕ) → Type 0 → Refusal → RepoStore D G → RepoStore D G → Type 0
NotCommittedTo honest bytes message moment before now fails e old new =
    NotCommitted (repository_of old) bytes message moment new before now fails e × ServesDirectory bytes message moment old new (Err e)
    × (e ≢ refusal.DeviceFailed → IsKept honest new) × IsKeptOr honest new

abbrev pub NotDumped : {D : Type 0} {G : Ghosts D} → Type 0 → Option RevRange → Option (List ℕ) → Option (List ℕ) → Type 0 → Refusal → RepoStore D G → RepoStore D G → Type 0
NotDumped honest range before now fails e old new = (new ≡ old) × DumpStops (repository_of old) range before now fails e × IsKept honest old

-- both folders' stores are opened, the mirror's first; of the source's store, of the mirror's and of what that is later P is so, and a stop leaves what keeps the source's repository; each folder has its store's disk then, while other folders stay
pub record OfBoth {F D : Type 0} (G : Ghosts D) (H : FolderGhosts F D) (folders later : F) (mirror source : List ℕ) (P : RepoStore D G → RepoStore D G → RepoStore D G → Type 0) : Type 0 where
  pub given : D
  pub old : RepoStore D G
  pub new : RepoStore D G
  pub given_source : D
  pub master : RepoStore D G
  pub opened : IsOpenedOn G (H.honest folders) given old
  pub opened_source : IsOpenedOn G (H.honest folders) given_source master
  pub done : P master old new
  pub kept : IsKept (H.honest folders) master
  pub back : AreBack G H folders later (lent_by mirror given (disk_of new) ∷ only_of source given_source (disk_of master))

-- nothing is said of what a master answers
abbrev pub untold : Exchange → Type 0
untold x = Unit {0}

-- the work is done over a mirror's store: what was said through its ports, in order, is that of a run that ends well, as the master answered, of which P is so, and as the mirror's store answered; each line of what was told is printed, and what is left of the mirror
pub record IsWorkedOver {D : Type 0} {G : Ghosts D} (P : Exchange → Type 0) (IsRun : List Spoken → Result (Unit {0}) SyncFault → Type 0) (before now : Option (List ℕ)) (old new : RepoStore D G) : Type 0 where
  pub said : List Spoken
  pub run : IsRun said (Ok tt)
  pub heard : TellsMaster P said
  pub led : Leads old new said
  pub printed : Appends before now (flat_map line_of (told_in said))
  pub left : Leaves old new (accepted_in said) (counted_in said)

-- it isn't done: the run is refused, or ends well and a line is lost, since the output failed; and what is left of the mirror
pub record NotWorkedOver {D : Type 0} {G : Ghosts D} (P : Exchange → Type 0) (IsRun : List Spoken → Result (Unit {0}) SyncFault → Type 0) (before now : Option (List ℕ)) (fails : Type 0) (e : Refusal) (old new : RepoStore D G) : Type 0 where
  pub said : List Spoken
  pub ended : Result (Unit {0}) SyncFault
  pub run : IsRun said ended
  pub heard : TellsMaster P said
  pub led : Leads old new said
  pub lost : Bool
  pub printed : IsPrinted before now fails lost (told_in said)
  pub answer : Err e ≡ answer_of ended lost
  pub left : Leaves old new (accepted_in said) (counted_in said)
  -- 31 comes only where the mirror's device has failed meanwhile
  pub device : e ≡ refusal.DeviceFailed → Rose (G.failures (disk_of old)) (G.failures (disk_of new))

-- the work is done over that store, if it works
abbrev pub WorkedOn : {D : Type 0} {G : Ghosts D} → (Exchange → Type 0) → (List Spoken → Result (Unit {0}) SyncFault → Type 0) → Option (List ℕ) → Option (List ℕ) → RepoStore D G → RepoStore D G → Type 0
WorkedOn P IsRun before now old new = ¬ HasFailed old → IsWorkedOver P IsRun before now old new

-- or isn't done
abbrev pub NotWorkedOn : {D : Type 0} {G : Ghosts D} → (Exchange → Type 0) → (List Spoken → Result (Unit {0}) SyncFault → Type 0) → Option (List ℕ) → Option (List ℕ) → Type 0 → Refusal → RepoStore D G → RepoStore D G → Type 0
NotWorkedOn P IsRun before now fails e old new = ¬ HasFailed old → NotWorkedOver P IsRun before now fails e old new

-- the mirror is one of the source throughout, and where its change sets were the source's first ones they are so throughout
pub record IsCopiedFrom {D : Type 0} {G : Ghosts D} (source : Repository) (old new : RepoStore D G) : Type 0 where
  pub mirrored : IsMirroredFrom source old new
  pub sets : BringsSets source old new

-- the work is done over a mirror's store and its source's: each answer of the master is what the source is, and a mirror that is synchronised has as many revisions
abbrev pub IsBrought : {D : Type 0} {G : Ghosts D} → Work → Option (List ℕ) → Option (List ℕ) → RepoStore D G → RepoStore D G → RepoStore D G → Type 0
IsBrought w before now master old new =
    IsWorkedOver (IsAnsweredBy (repository_of master)) (IsWorked w) before now old new × IsCopiedFrom (repository_of master) old new × IsCaughtUp w (repository_of master) new

-- or it isn't done
abbrev pub NotBrought : {D : Type 0} {G : Ghosts D} → Work → Option (List ℕ) → Option (List ℕ) → Type 0 → Refusal → RepoStore D G → RepoStore D G → RepoStore D G → Type 0
NotBrought w before now fails e master old new = NotWorkedOver (IsAnsweredBy (repository_of master)) (IsWorked w) before now fails e old new × IsCopiedFrom (repository_of master) old new

-- the same of a mirror's store, if it works
abbrev pub BroughtOn : {D : Type 0} {G : Ghosts D} → Work → Option (List ℕ) → Option (List ℕ) → RepoStore D G → RepoStore D G → RepoStore D G → Type 0
BroughtOn w before now master old new = ¬ HasFailed old → IsBrought w before now master old new

abbrev pub NotBroughtOn : {D : Type 0} {G : Ghosts D} → Work → Option (List ℕ) → Option (List ℕ) → Type 0 → Refusal → RepoStore D G → RepoStore D G → RepoStore D G → Type 0
NotBroughtOn w before now fails e master old new = ¬ HasFailed old → NotBrought w before now fails e master old new

-- the source's store is opened, and its folder has its disk then; of it, of the mirror's store, if that works, and of what it is later P is so
pub record OverSource {F D : Type 0} (G : Ghosts D) (H : FolderGhosts F D) (folders later : F) (source : List ℕ) (old new : RepoStore D G) (P : RepoStore D G → RepoStore D G → RepoStore D G → Type 0) : Type 0 where
  pub given : D
  pub master : RepoStore D G
  pub opened : IsOpenedOn G (H.honest folders) given master
  pub kept : IsKept (H.honest folders) master
  pub back : AreBack G H folders later (only_of source given (disk_of master))
  pub done : ¬ HasFailed old → P master old new

-- or it isn't opened, the mirror's store stays, and nothing is written
abbrev pub NoSourceOr : {F D : Type 0} (G : Ghosts D) → FolderGhosts F D → F → F → List ℕ → RepoStore D G → RepoStore D G → Option (List ℕ) → Option (List ℕ) → Refusal → (RepoStore D G → RepoStore D G → RepoStore D G → Type 0) → Type 0
NoSourceOr G H folders later source old new before now e P =
    (NotOpenedIn G H folders later source e × (new ≡ old) × (now ≡ before)) ⊎ OverSource G H folders later source old new P

-- how a mirror stands is told, and the store stays, which a stop leaves
abbrev pub IsToldOf : {D : Type 0} {G : Ghosts D} → Type 0 → Option (List ℕ) → Option (List ℕ) → RepoStore D G → RepoStore D G → Type 0
IsToldOf honest before now old new =
    (new ≡ old) × (info_fault (props_at (revisions_of old) 0) (head_of (revisions_of old)) ≡ None) × Appends before now (info_text (props_at (revisions_of old) 0)) × IsKept honest old

-- it isn't told: the repository is no mirror or rests in no shape, and nothing is written; or the output fails
abbrev pub NotToldOf : {D : Type 0} {G : Ghosts D} → Type 0 → Option (List ℕ) → Option (List ℕ) → Type 0 → Refusal → RepoStore D G → RepoStore D G → Type 0
NotToldOf honest before now fails e old new =
    (new ≡ old) × ((IsUntold (props_at (revisions_of old) 0) (head_of (revisions_of old)) e × (now ≡ before)) ⊎ ((e ≡ refusal.PeerFailed) × fails)) × IsKept honest old

-- the number of the newest revision in decimal digits, and a newline
abbrev pub head_line : List Revision → List ℕ
head_line revisions = decimal (head_of revisions) ++ codes "\n"

-- it is printed, and the store stays, which a stop leaves
abbrev pub IsHeadOf : {D : Type 0} {G : Ghosts D} → Type 0 → Option (List ℕ) → Option (List ℕ) → RepoStore D G → RepoStore D G → Type 0
IsHeadOf honest before now old new = (new ≡ old) × Appends before now (head_line (revisions_of old)) × IsKept honest old

-- it isn't: the output fails, and nothing else refuses it
abbrev pub NoHeadOf : {D : Type 0} {G : Ghosts D} → Type 0 → Type 0 → Refusal → RepoStore D G → RepoStore D G → Type 0
NoHeadOf honest fails e old new = (new ≡ old) × (e ≡ refusal.PeerFailed) × fails × IsKept honest old

-- where the entries of a store's log have no sums, a stop leaves the files of its folder
abbrev pub FilesLast : {F D : Type 0} → (G : Ghosts D) → FolderGhosts F D → F → F → List ℕ → RepoStore D G → Type 0
FilesLast G H folders later folder store = H.honest folders → version_of (log_of store) ≡ First → (file : DiskFile) → H.lasts later (path_in folder file)

-- a store is opened on a folder's disk; of it and the disk that came back P is so, and the folder has that disk then, while other folders stay; a stop leaves the files that an upgrade is written to
pub record OfUpgrade {F D : Type 0} (G : Ghosts D) (H : FolderGhosts F D) (folders later : F) (folder : List ℕ) (P : RepoStore D G → D → Type 0) : Type 0 where
  pub given : D
  pub old : RepoStore D G
  pub left : D
  pub opened : IsOpenedOn G (H.honest folders) given old
  pub done : P old left
  pub back : AreBack G H folders later (only_of folder given left)
  pub lasts : FilesLast G H folders later folder old

-- a command is done over folders, with these bytes to read: of an output that held `before`, what it holds now
abbrev pub IsDone : {F D : Type 0} → Ghosts D → FolderGhosts F D → F → F → Command → Option (List ℕ) → Option (List ℕ) → Option (List ℕ) → Type 0
IsDone G H folders later (ListIt deltas) bytes before now = IfSome bytes (λ read. Accepted deltas product.List read before now) × AreBack G H folders later []
IsDone G H folders later (Canon deltas) bytes before now = IfSome bytes (λ read. Accepted deltas product.Canon read before now) × AreBack G H folders later []
IsDone G H folders later (Create folder identity) bytes before now = IsBegun G H folders later (string_bytes folder) identity × (now ≡ before)
IsDone G H folders later (Load folder deltas) bytes before now = OfStanding G H folders later (string_bytes folder) (IsLoadedFrom deltas (H.honest folders) bytes before now)
IsDone G H folders later (Dump folder range) bytes before now = OfStanding G H folders later (string_bytes folder) (IsDumped (H.honest folders) range before now)
IsDone G H folders later (MakeDir folder path message moment) bytes before now =
    OfStanding G H folders later (string_bytes folder) (IsCommittedTo (H.honest folders) (string_bytes path) (string_bytes message) moment before now)
IsDone G H folders later (Upgrade folder) bytes before now = OfUpgrade G H folders later (string_bytes folder) (IsUpgraded before now)
IsDone G H folders later (Initialize mirror source) bytes before now =
    OfBoth G H folders later (string_bytes mirror) (string_bytes source) (IsBrought (work.Initialize (string_bytes source)) before now)
IsDone G H folders later (Synchronize mirror source token steal) bytes before now =
    OfBoth G H folders later (string_bytes mirror) (string_bytes source) (IsBrought (work.Synchronize token steal) before now)
IsDone G H folders later (CopyRevprops mirror source token range) bytes before now =
    OfBoth G H folders later (string_bytes mirror) (string_bytes source) (IsBrought (work.CopyRevprops token (first_in range) (last_in range)) before now)
IsDone G H folders later (Info mirror) bytes before now = OfStanding G H folders later (string_bytes mirror) (IsToldOf (H.honest folders) before now)
IsDone G H folders later (Head folder) bytes before now = OfStanding G H folders later (string_bytes folder) (IsHeadOf (H.honest folders) before now)

-- the repository isn't opened, and nothing is written; or of the one that stands there P is so
abbrev pub UnopenedOr : {F D : Type 0} (G : Ghosts D) → FolderGhosts F D → F → F → List ℕ → Option (List ℕ) → Option (List ℕ) → Refusal → (RepoStore D G → RepoStore D G → Type 0) → Type 0
UnopenedOr G H folders later folder before now e P = (NotOpenedIn G H folders later folder e × (now ≡ before)) ⊎ OfStanding G H folders later folder P

-- the same of an upgrade
abbrev pub UnopenedOrUpgrade : {F D : Type 0} (G : Ghosts D) → FolderGhosts F D → F → F → List ℕ → Option (List ℕ) → Option (List ℕ) → Refusal → (RepoStore D G → D → Type 0) → Type 0
UnopenedOrUpgrade G H folders later folder before now e P = (NotOpenedIn G H folders later folder e × (now ≡ before)) ⊎ OfUpgrade G H folders later folder P

-- the source's repository isn't opened, the mirror's is, and a stop leaves what keeps it
pub record HasNoSource {F D : Type 0} (G : Ghosts D) (H : FolderGhosts F D) (folders later : F) (mirror source : List ℕ) (e : Refusal) : Type 0 where
  pub given : D
  pub store : RepoStore D G
  pub loans : List (Loan D)
  pub opened : IsOpenedOn G (H.honest folders) given store
  pub kept : IsKept (H.honest folders) store
  pub why : NotOpened G (H.honest folders) (Rose (H.failures folders) (H.failures later)) source loans e
  pub back : AreBack G H folders later (lent_by mirror given (disk_of store) ∷ loans)

-- of a command over a mirror and its source: the mirror's repository isn't opened, or the source's, and nothing is written in both; or of both P is so
pub data UnopenedBoth {F D : Type 0} (G : Ghosts D) (H : FolderGhosts F D) (folders later : F) (mirror source : List ℕ) (before now : Option (List ℕ)) (e : Refusal) (P : RepoStore D G → RepoStore D G → RepoStore D G → Type 0) : Type 0 where
  no_mirror : NotOpenedIn G H folders later mirror e → now ≡ before → UnopenedBoth G H folders later mirror source before now e P
  no_source : HasNoSource G H folders later mirror source e → now ≡ before → UnopenedBoth G H folders later mirror source before now e P
  both : OfBoth G H folders later mirror source P → UnopenedBoth G H folders later mirror source before now e P

-- the words of a source that are no value of a property, being too long, aren't kept; or memory ran out
abbrev pub NotKept : List ℕ → Option (List ℕ) → Option (List ℕ) → Refusal → Type 0
NotKept source before now e = ((e ≡ refusal.OutOfMemory) ⊎ ((e ≡ refusal.TooLong) × (PROP_VALUE_BYTES < length source))) × (now ≡ before)

-- the output failed, which 49 tells where its count rose
abbrev pub OutputFails : ℕ → ℕ → Refusal → Type 0
OutputFails start count e = Rose start count × ((e ≡ refusal.PeerFailed) ⊎ (count ≡ start))

-- a command isn't done: why, what is written then, and what is left of the folders; the output had failed so often at the start and has by now
abbrev pub IsNotDone : {F D : Type 0} → Ghosts D → FolderGhosts F D → F → F → Command → Option (List ℕ) → Option (List ℕ) → ℕ → Option (List ℕ) → ℕ → Refusal → Type 0
IsNotDone G H folders later (ListIt deltas) bytes before start now count e = (OutputFails start count e ⊎ IfSome bytes (λ read. Refused deltas product.List read before now e)) × AreBack G H folders later []
IsNotDone G H folders later (Canon deltas) bytes before start now count e = (OutputFails start count e ⊎ IfSome bytes (λ read. Refused deltas product.Canon read before now e)) × AreBack G H folders later []
IsNotDone G H folders later (Create folder identity) bytes before start now count e = NotBegunIn G H folders later (string_bytes folder) identity e × (now ≡ before)
IsNotDone G H folders later (Load folder deltas) bytes before start now count e =
    UnopenedOr G H folders later (string_bytes folder) before now e (NotLoadedFrom deltas (H.honest folders) bytes before now (Rose start count) e)
IsNotDone G H folders later (Dump folder range) bytes before start now count e =
    UnopenedOr G H folders later (string_bytes folder) before now e (NotDumped (H.honest folders) range before now (Rose start count) e)
IsNotDone G H folders later (MakeDir folder path message moment) bytes before start now count e =
    UnopenedOr G H folders later (string_bytes folder) before now e (NotCommittedTo (H.honest folders) (string_bytes path) (string_bytes message) moment before now (Rose start count) e)
IsNotDone G H folders later (Upgrade folder) bytes before start now count e =
    UnopenedOrUpgrade G H folders later (string_bytes folder) before now e (NotUpgraded before now (Rose start count) e)
IsNotDone G H folders later (Initialize mirror source) bytes before start now count e =
    (NotKept (string_bytes source) before now e × AreBack G H folders later [])
    ⊎ UnopenedBoth G H folders later (string_bytes mirror) (string_bytes source) before now e (NotBrought (work.Initialize (string_bytes source)) before now (Rose start count) e)
IsNotDone G H folders later (Synchronize mirror source token steal) bytes before start now count e =
    UnopenedBoth G H folders later (string_bytes mirror) (string_bytes source) before now e (NotBrought (work.Synchronize token steal) before now (Rose start count) e)
IsNotDone G H folders later (CopyRevprops mirror source token range) bytes before start now count e =
    UnopenedBoth G H folders later (string_bytes mirror) (string_bytes source) before now e (NotBrought (work.CopyRevprops token (first_in range) (last_in range)) before now (Rose start count) e)
IsNotDone G H folders later (Info mirror) bytes before start now count e =
    UnopenedOr G H folders later (string_bytes mirror) before now e (NotToldOf (H.honest folders) before now (Rose start count) e)
IsNotDone G H folders later (Head folder) bytes before start now count e =
    UnopenedOr G H folders later (string_bytes folder) before now e (NoHeadOf (H.honest folders) (Rose start count) e)

-- what was written is handed on
pub record HandsOn (P : Option (List ℕ) → Type 0) (now : Option (List ℕ)) : Type 0 where
  pub written : Option (List ℕ)
  pub done : P written
  pub kept : HandedOn written now

-- a command ends with a refusal: it isn't done, and what was written is handed on as far as the output takes it; or it is done, and that can't be handed on, since the output failed: its count of failures has risen since it was `start`
pub data EndsWith (P : Option (List ℕ) → Type 0) (N : Option (List ℕ) → ℕ → Refusal → Type 0) (start : ℕ) (now : Option (List ℕ)) (count : ℕ) (e : Refusal) : Type 0 where
  not_done : (written : Option (List ℕ)) (before : ℕ) → N written before e → HandedOn written now → before ≤ count → EndsWith P N start now count e
  not_handed_on : HandsOn P now → e ≡ refusal.PeerFailed → Rose start count → EndsWith P N start now count e
