-- What `fleet` does over the repositories that stand in folders, and why it doesn't.
use Rattle.std.specs.Prelude.{◌≡◌, ◌≤◌, ◌<◌, ◌⊎◌, ◌++◌, ◌+◌, ℕ, Bool, true, false, List, [], ◌∷◌, length, map, slice_get, Option, Some, None, Result, Ok, Err, IfOk, IfErr, IfSome, Vec, is_some, is_ok, string_bytes}
use Rattle.std.specs.Io.KnownBytes.{Appends}
use Rattle.std.specs.List.{list_all, AllZip}
use Rattle.std.specs.declared.alloc.Global.{Global}
use Rattle.byte_streams.specs.declared.output.Output.{Ghosts as OutputGhosts}
use Rattle.fleet_disk.specs.Rules.{Rose}
use Rattle.fleet_disk.specs.declared.disk.Disk.{Ghosts}
use Rattle.fleet_jobs.specs.Answers.{Answer}
use Rattle.node_base.specs.declared.refusal.Refusal.{Refusal}
use Rattle.node_base.specs.declared.refusal.Refusal.TheVariants as refusal
use Rattle.repo_core.specs.Repository.{head_of}
use Rattle.repo_store.specs.Words.{disk_of, revisions_of, IsKept as StoreIsKept}
use Rattle.repo_store.specs.declared.store.RepoStore.{RepoStore}
use Rattle.fleet_shares.specs.Closing.{ComesOutNow, IsJudged}
use Rattle.fleet_shares.specs.Lines.{lines_of}
use Rattle.fleet_shares.specs.Stores.{store_at}
use Rattle.fleet_shares.specs.Told.{stands, AreTold}
use Rattle.fleet_shares.specs.declared.stores.FleetStores.{FleetStores}
use Rattle.fleet_main.specs.Doing.{EndsWith, HandsOn, IsKept, IsOpenedOn}
use Rattle.fleet_main.specs.Ending.{TellsLine}
use Rattle.fleet_main.specs.Loans.{AreBack, Each, Loan, TakesBack, only_of}
use Rattle.fleet_main.specs.Opening.{NotOpened, NotOpenedIn}
use Rattle.command_words.specs.declared.fleet_words.Fleet.{Fleet}
use Rattle.fleet_main.specs.declared.lending.Folders.{Ghosts as FolderGhosts}

-- what came of a folder: no repository was opened there, on no disk or on one that came back; or one was, on the disk that was lent, and what store came back
pub data Came {D : Type 0} (G : Ghosts D) : Type 0 where
  Refused : Refusal → Option (D × D) → Came G
  Stood : D → RepoStore D G → RepoStore D G → Came G

-- the folder's disk as it was lent and as it came back, where it was lent
abbrev pub loan_of : {D : Type 0} {G : Ghosts D} → List ℕ → Came G → List (Loan D)
loan_of folder (Refused e None) = []
loan_of folder (Refused e (Some lent)) = only_of folder lent.0 lent.1
loan_of folder (Stood given old new) = only_of folder given (disk_of new)

abbrev pub loans_of : {D : Type 0} {G : Ghosts D} → List (List ℕ) → List (Came G) → List (Loan D)
loans_of [] came = []
loans_of (n ∷ ns) [] = []
loans_of (n ∷ ns) (c ∷ cs) = loan_of n c ++ loans_of ns cs

-- the repository isn't opened, and why; or the store was opened on the disk, and a stop left what keeps it as the run began; what came back is a store, of which a stop leaves what it keeps
abbrev pub HasCome : {D : Type 0} (G : Ghosts D) → Type 0 → Type 0 → List ℕ → Came G → Type 0
HasCome G honest fails folder (Refused e lent) = NotOpened G honest fails folder (loan_of {G = G} folder (Refused e lent)) e
HasCome G honest fails folder (Stood given old new) = IsOpenedOn G honest given old × IsKept honest old × StoreIsKept new

-- of each of these folders, and where the disks that came back keep the rules, each is in its folder, and all other folders have what they had
pub record HaveCome {F D : Type 0} (G : Ghosts D) (H : FolderGhosts F D) (before now : F) (folders : List (List ℕ)) (came : List (Came G)) : Type 0 where
  pub each : AllZip (HasCome G (H.honest before) (Rose (H.failures before) (H.failures now))) folders came
  pub back : Each (λ l. G.honest l.back) (loans_of folders came) → AreBack G H before now (loans_of folders came)
  pub later : H.failures before ≤ H.failures now

-- how a mirror stands: its refusal, or the newest revision of the store that came back
abbrev pub standing : {D : Type 0} {G : Ghosts D} → Came G → Result ℕ Refusal
standing (Refused e lent) = Err e
standing (Stood given old new) = Ok (head_of (revisions_of new))

-- whether a mirror was brought up to its master, by how both were opened and how they are
abbrev pub ComesAs : {D : Type 0} {G : Ghosts D} → RepoStore D G → RepoStore D G → Option (Came G) → Bool → Type 0
ComesAs first master None up = ⊥
ComesAs first master (Some (Refused e lent)) up = Unit {0}
ComesAs first master (Some (Stood given old new)) up = ComesOutNow up first old master new

-- the mirror of a slot was, of those that were opened before that place, and of those behind them
abbrev pub IsJudgedFrom : {D : Type 0} {G : Ghosts D} → FleetStores D G → FleetStores D G → ℕ → List (Came G) → ℕ → Bool → Type 0
IsJudgedFrom old new place came slot up = ((slot < place) × IsJudged old new slot up) ⊎ ((k : ℕ) × (slot ≡ place + k) × ComesAs old.master new.master (slice_get came k) up)

-- what is told of the mirrors of a master, by how each was opened and how it is
abbrev pub AreToldOf : {D : Type 0} (G : Ghosts D) → List Answer → RepoStore D G → RepoStore D G → List (Came G) → Type 0
AreToldOf G answers first master came = AreTold G (λ slot. ComesAs first master (slice_get came slot)) 0 (map standing came) answers

-- nothing is told
abbrev pub AreUntold : {D : Type 0} (G : Ghosts D) → RepoStore D G → RepoStore D G → List (Came G) → Type 0
AreUntold G first master came = Unit {0}

-- the mirrors of these folders are opened behind those that were before, with what was refused of these; all are run; and the mirrors of these folders are closed
pub record AreBrought {F D E : Type 0} (G : Ghosts D) (H : FolderGhosts F D) (before now : F) (folders : List (List ℕ)) (refusals : List (Option Refusal)) (old new : FleetStores D G) (answers : Result (Vec Answer Global) E) : Type 0 where
  pub came : List (Came G)
  pub come : HaveCome G H before now folders came
  pub slots : (slot : ℕ) → slot < length refusals → is_some (store_at new slot) ≡ is_some (store_at old slot)
  pub told : IfOk answers (λ told. AreTold G (IsJudgedFrom old new (length refusals) came) 0 (stands 0 refusals new ++ map standing came) told.items)

-- a master was opened and then its mirrors; all are back, and P is so of the master as it was and is, and of what came of the mirrors
pub record OfFleet {F D : Type 0} (G : Ghosts D) (H : FolderGhosts F D) (folders later : F) (master : List ℕ) (mirrors : List (List ℕ)) (P : RepoStore D G → RepoStore D G → List (Came G) → Type 0) : Type 0 where
  pub given : D
  pub old : RepoStore D G
  pub new : RepoStore D G
  pub came : List (Came G)
  pub come : HaveCome G H folders later (master ∷ mirrors) (Stood given old new ∷ came)
  pub done : P old new came

-- what is told of each mirror is written in its line, and whether none is a refusal
abbrev pub IsTelling : {D : Type 0} (G : Ghosts D) → List (List ℕ) → Bool → Option (List ℕ) → Option (List ℕ) → RepoStore D G → RepoStore D G → List (Came G) → Type 0
IsTelling G mirrors done before now first master came = (answers : List Answer) × AreToldOf G answers first master came × (list_all is_ok answers ≡ done) × Appends before now (lines_of mirrors answers)

-- the fleet is run, and whether no mirror was refused
abbrev pub IsFleetRun : {F D : Type 0} → Ghosts D → FolderGhosts F D → F → F → Fleet → Option (List ℕ) → Bool → Option (List ℕ) → Type 0
IsFleetRun G H folders later fleet before done now =
    OfFleet G H folders later (string_bytes fleet.master) (map string_bytes fleet.mirrors.items) (IsTelling G (map string_bytes fleet.mirrors.items) done before now)

-- whichever
abbrev pub IsSomeRun : {F D : Type 0} → Ghosts D → FolderGhosts F D → F → F → Fleet → Option (List ℕ) → Option (List ℕ) → Type 0
IsSomeRun G H folders later fleet before now = (done : Bool) × IsFleetRun G H folders later fleet before done now

-- it isn't run: the master isn't opened, and no mirror's folder; or memory runs out, before anything is opened or once all is; nothing is written then
abbrev pub NotBrought : {F D : Type 0} → Ghosts D → FolderGhosts F D → F → F → List ℕ → List (List ℕ) → Refusal → Type 0
NotBrought G H folders later master mirrors e =
    NotOpenedIn G H folders later master e ⊎ ((e ≡ refusal.OutOfMemory) × (AreBack G H folders later [] ⊎ OfFleet G H folders later master mirrors (AreUntold G)))

-- or what is told can't be written
abbrev pub NotFleetRun : {F D : Type 0} → Ghosts D → FolderGhosts F D → F → F → Fleet → Option (List ℕ) → ℕ → Option (List ℕ) → ℕ → Refusal → Type 0
NotFleetRun G H folders later fleet before start now count e =
    (NotBrought G H folders later (string_bytes fleet.master) (map string_bytes fleet.mirrors.items) e × (now ≡ before))
    ⊎ (OfFleet G H folders later (string_bytes fleet.master) (map string_bytes fleet.mirrors.items) (AreUntold G) × (e ≡ refusal.PeerFailed) × Rose start count)

-- the store in a slot goes back into its folder, and a stop leaves what it keeps
abbrev pub GivesBack : {F D : Type 0} → (G : Ghosts D) → FolderGhosts F D → F → F → FleetStores D G → ℕ → List ℕ → Type 0
GivesBack G H old new stores slot folder = IfSome (store_at stores slot) (λ s. TakesBack G H old new folder (disk_of s) × StoreIsKept s)

-- a master and its mirrors are run, and what is told of each mirror
abbrev pub RunsMirrors : {F D : Type 0} → Ghosts D → FolderGhosts F D → F → F → List ℕ → List (List ℕ) → Result (Vec Answer Global) Refusal → Type 0
RunsMirrors G H old new master mirrors result = IfOk result (λ answers. OfFleet G H old new master mirrors (AreToldOf G answers.items))

-- the fleet is run
abbrev pub DoesFleet : {F D O : Type 0} → Ghosts D → FolderGhosts F D → OutputGhosts O → F → F → O → O → Fleet → Result Bool Refusal → Type 0
DoesFleet G H W old new before now fleet result = IfOk result (λ done. IsFleetRun G H old new fleet (W.contents before) done (W.contents now))

-- why it isn't, and what is left then
abbrev pub RefusesFleet : {F D O : Type 0} → Ghosts D → FolderGhosts F D → OutputGhosts O → F → F → O → O → Fleet → Result Bool Refusal → Type 0
RefusesFleet G H W old new before now fleet result =
    IfErr result (NotFleetRun G H old new fleet (W.contents before) (W.failures before) (W.contents now) (W.failures now))

-- it is run, and its lines are handed on
abbrev pub DeliversFleet : {F D O : Type 0} → Ghosts D → FolderGhosts F D → OutputGhosts O → F → F → O → O → Fleet → Result Bool Refusal → Type 0
DeliversFleet G H W old new before now fleet result = IfOk result (λ done. HandsOn (IsFleetRun G H old new fleet (W.contents before) done) (W.contents now))

-- it ends with a refusal, and its lines are handed on as far as the output takes them
abbrev pub EndsFleet : {F D O : Type 0} → Ghosts D → FolderGhosts F D → OutputGhosts O → F → F → O → O → Fleet → Result Bool Refusal → Type 0
EndsFleet G H W old new before now fleet result =
    IfErr result (EndsWith (IsSomeRun G H old new fleet (W.contents before)) (NotFleetRun G H old new fleet (W.contents before) (W.failures before)) (W.failures before) (W.contents now) (W.failures now))

-- its status is 0 where no mirror was refused and its lines are handed on
abbrev pub SucceedsAtFleet : {F D O : Type 0} → Ghosts D → FolderGhosts F D → OutputGhosts O → F → F → O → O → Fleet → ℕ → Type 0
SucceedsAtFleet G H W old new before now fleet status = status ≡ 0 → HandsOn (IsFleetRun G H old new fleet (W.contents before) true) (W.contents now)

-- and 1 where a mirror was, with no line of a refusal; or where the fleet is refused, with that line
abbrev pub FailsAtFleet : {F D O E : Type 0} → Ghosts D → FolderGhosts F D → OutputGhosts O → OutputGhosts E → F → F → O → O → E → E → Fleet → ℕ → Type 0
FailsAtFleet G H W V old new before now lines told fleet status =
    status ≡ 1 → (HandsOn (IsFleetRun G H old new fleet (W.contents before) false) (W.contents now) × (W.failures now ≡ W.failures before) × (V.contents told ≡ V.contents lines))
    ⊎ ((e : Refusal) × EndsWith (IsSomeRun G H old new fleet (W.contents before)) (NotFleetRun G H old new fleet (W.contents before) (W.failures before))
    (W.failures before) (W.contents now) (W.failures now) e × TellsLine V lines told e)
