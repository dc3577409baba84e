-- What each command answers, said of the folders and the streams before it and after it.
use Rattle.std.specs.Prelude.{◌≡◌, ◌⊎◌, ℕ, Bool, List, [], Option, Result, IfErr, OnOk}
use Rattle.jiff_core.specs.declared.civil.datetime.DateTime.{DateTime}
use Rattle.byte_streams.specs.Causes.{Rose}
use Rattle.byte_streams.specs.declared.input.Input.{Ghosts as InputGhosts}
use Rattle.byte_streams.specs.declared.output.Output.{Ghosts as OutputGhosts}
use Rattle.fleet_disk.specs.declared.disk.Disk.{Ghosts}
use Rattle.node_base.specs.declared.refusal.Refusal.{Refusal}
use Rattle.node_base.specs.declared.refusal.Refusal.TheVariants as refusal
use Rattle.repo_store.specs.declared.store.RepoStore.{RepoStore}
use Rattle.store_engines.specs.Upgrades.{IsUpgraded, NotUpgraded}
use Rattle.store_engines.specs.declared.range.RevRange.{RevRange}
use Rattle.mirror_engines.specs.declared.work.Work.{Work}
use Rattle.mirror_engines.specs.declared.work.Work.TheVariants as work
use Rattle.fleet_main.specs.Doing.{EndsWith, HandsOn, IsBrought, IsCommittedTo, IsDone, IsDumped, IsHeadOf, IsLoadedFrom, IsNotDone, IsToldOf, NoHeadOf, NoSourceOr, NotBrought, NotBroughtOn, NotCommittedTo, NotDumped, NotKept, NotLoadedFrom, NotToldOf, OfBoth, OfStanding, OfUpgrade, OverSource, UnopenedBoth, UnopenedOr, UnopenedOrUpgrade}
use Rattle.fleet_main.specs.Ending.{StreamsFail, TellsLine}
use Rattle.fleet_main.specs.Loans.{AreBack}
use Rattle.fleet_main.specs.declared.lending.Folders.{Ghosts as FolderGhosts}
use Rattle.command_words.specs.declared.command_line.Command.{Command}

-- the whole dump that was to be read is loaded into the store of a folder
abbrev pub Loads : {F D I O : Type 0} → (G : Ghosts D) → FolderGhosts F D → InputGhosts I → OutputGhosts O → F → F → I → O → O → Bool → List ℕ → Result (Unit {0}) Refusal → Type 0
Loads G H R W old new input before now deltas folder result =
    OnOk result (OfStanding G H old new folder (IsLoadedFrom deltas (H.honest old) (R.remaining input) (W.contents before) (W.contents now)))

-- why it isn't: the repository isn't opened, or the load is refused
abbrev pub RefusesLoad : {F D I O : Type 0} → (G : Ghosts D) → FolderGhosts F D → InputGhosts I → OutputGhosts O → F → F → I → O → O → Bool → List ℕ → Result (Unit {0}) Refusal → Type 0
RefusesLoad G H R W old new input before now deltas folder result =
    IfErr result (λ e. UnopenedOr G H old new folder (W.contents before) (W.contents now) e (NotLoadedFrom deltas (H.honest old) (R.remaining input) (W.contents before) (W.contents now) (Rose (W.failures before) (W.failures now)) e))

-- the revisions that are wanted of a folder's repository are dumped
abbrev pub Dumps : {F D O : Type 0} → (G : Ghosts D) → FolderGhosts F D → OutputGhosts O → F → F → O → O → List ℕ → Option RevRange → Result (Unit {0}) Refusal → Type 0
Dumps G H W old new before now folder range result = OnOk result (OfStanding G H old new folder (IsDumped (H.honest old) range (W.contents before) (W.contents now)))

-- why they aren't
abbrev pub RefusesDump : {F D O : Type 0} → (G : Ghosts D) → FolderGhosts F D → OutputGhosts O → F → F → O → O → List ℕ → Option RevRange → Result (Unit {0}) Refusal → Type 0
RefusesDump G H W old new before now folder range result =
    IfErr result (λ e. UnopenedOr G H old new folder (W.contents before) (W.contents now) e (NotDumped (H.honest old) range (W.contents before) (W.contents now) (Rose (W.failures before) (W.failures now)) e))

-- the newest revision of a folder's repository is printed
abbrev pub PrintsHead : {F D O : Type 0} → (G : Ghosts D) → FolderGhosts F D → OutputGhosts O → F → F → O → O → List ℕ → Result (Unit {0}) Refusal → Type 0
PrintsHead G H W old new before now folder result = OnOk result (OfStanding G H old new folder (IsHeadOf (H.honest old) (W.contents before) (W.contents now)))

-- why it isn't
abbrev pub RefusesHead : {F D O : Type 0} → (G : Ghosts D) → FolderGhosts F D → OutputGhosts O → F → F → O → O → List ℕ → Result (Unit {0}) Refusal → Type 0
RefusesHead G H W old new before now folder result =
    IfErr result (λ e. UnopenedOr G H old new folder (W.contents before) (W.contents now) e (NoHeadOf (H.honest old) (Rose (W.failures before) (W.failures now)) e))

-- a directory is committed to a folder's repository
abbrev pub MakesDir : {F D O : Type 0} → (G : Ghosts D) → FolderGhosts F D → OutputGhosts O → F → F → O → O → List ℕ → List ℕ → List ℕ → DateTime → Result (Unit {0}) Refusal → Type 0
MakesDir G H W old new before now folder path message moment result =
    OnOk result (OfStanding G H old new folder (IsCommittedTo (H.honest old) path message moment (W.contents before) (W.contents now)))

-- why it isn't
abbrev pub RefusesDir : {F D O : Type 0} → (G : Ghosts D) → FolderGhosts F D → OutputGhosts O → F → F → O → O → List ℕ → List ℕ → List ℕ → DateTime → Result (Unit {0}) Refusal → Type 0
RefusesDir G H W old new before now folder path message moment result =
    IfErr result (λ e. UnopenedOr G H old new folder (W.contents before) (W.contents now) e (NotCommittedTo (H.honest old) path message moment (W.contents before) (W.contents now) (Rose (W.failures before) (W.failures now)) e))

-- the entries of a folder's repository are given their sums
abbrev pub UpgradesLog : {F D O : Type 0} → (G : Ghosts D) → FolderGhosts F D → OutputGhosts O → F → F → O → O → List ℕ → Result (Unit {0}) Refusal → Type 0
UpgradesLog G H W old new before now folder result = OnOk result (OfUpgrade G H old new folder (IsUpgraded (W.contents before) (W.contents now)))

-- why they aren't
abbrev pub RefusesUpgrade : {F D O : Type 0} → (G : Ghosts D) → FolderGhosts F D → OutputGhosts O → F → F → O → O → List ℕ → Result (Unit {0}) Refusal → Type 0
RefusesUpgrade G H W old new before now folder result =
    IfErr result (λ e. UnopenedOrUpgrade G H old new folder (W.contents before) (W.contents now) e (NotUpgraded (W.contents before) (W.contents now) (Rose (W.failures before) (W.failures now)) e))

-- how the mirror in a folder stands is told
abbrev pub TellsMirror : {F D O : Type 0} → (G : Ghosts D) → FolderGhosts F D → OutputGhosts O → F → F → O → O → List ℕ → Result (Unit {0}) Refusal → Type 0
TellsMirror G H W old new before now folder result = OnOk result (OfStanding G H old new folder (IsToldOf (H.honest old) (W.contents before) (W.contents now)))

-- why it isn't
abbrev pub RefusesInfo : {F D O : Type 0} → (G : Ghosts D) → FolderGhosts F D → OutputGhosts O → F → F → O → O → List ℕ → Result (Unit {0}) Refusal → Type 0
RefusesInfo G H W old new before now folder result =
    IfErr result (λ e. UnopenedOr G H old new folder (W.contents before) (W.contents now) e (NotToldOf (H.honest old) (W.contents before) (W.contents now) (Rose (W.failures before) (W.failures now)) e))

-- the work is done over the mirror and the source in two folders
abbrev pub WorksOver : {F D O : Type 0} → (G : Ghosts D) → FolderGhosts F D → OutputGhosts O → F → F → O → O → List ℕ → List ℕ → Work → Result (Unit {0}) Refusal → Type 0
WorksOver G H W old new before now mirror source w result = OnOk result (OfBoth G H old new mirror source (IsBrought w (W.contents before) (W.contents now)))

-- why it isn't
abbrev pub RefusesWork : {F D O : Type 0} → (G : Ghosts D) → FolderGhosts F D → OutputGhosts O → F → F → O → O → List ℕ → List ℕ → Work → Result (Unit {0}) Refusal → Type 0
RefusesWork G H W old new before now mirror source w result =
    IfErr result (λ e. UnopenedBoth G H old new mirror source (W.contents before) (W.contents now) e (NotBrought w (W.contents before) (W.contents now) (Rose (W.failures before) (W.failures now)) e))

-- the work is done over a mirror's store and the source in a folder
abbrev pub WorksWithSource : {F D O : Type 0} → (G : Ghosts D) → FolderGhosts F D → OutputGhosts O → F → F → RepoStore D G → RepoStore D G → O → O → List ℕ → Work → Result (Unit {0}) Refusal → Type 0
WorksWithSource G H W old new stood stands before now source w result =
    OnOk result (OverSource G H old new source stood stands (IsBrought w (W.contents before) (W.contents now)))

-- why it isn't
abbrev pub RefusesSource : {F D O : Type 0} → (G : Ghosts D) → FolderGhosts F D → OutputGhosts O → F → F → RepoStore D G → RepoStore D G → O → O → List ℕ → Work → Result (Unit {0}) Refusal → Type 0
RefusesSource G H W old new stood stands before now source w result =
    IfErr result (λ e. NoSourceOr G H old new source stood stands (W.contents before) (W.contents now) e (NotBrought w (W.contents before) (W.contents now) (Rose (W.failures before) (W.failures now)) e))

-- why the work isn't done over two stores
abbrev pub RefusesStores : {D O : Type 0} {G : Ghosts D} → OutputGhosts O → RepoStore D G → RepoStore D G → RepoStore D G → O → O → Work → Result (Unit {0}) Refusal → Type 0
RefusesStores W master stood stands before now w result =
    IfErr result (λ e. NotBroughtOn w (W.contents before) (W.contents now) (Rose (W.failures before) (W.failures now)) e master stood stands)

-- a folder's repository is made a mirror of the source in another folder
abbrev pub Initializes : {F D O : Type 0} → (G : Ghosts D) → FolderGhosts F D → OutputGhosts O → F → F → O → O → List ℕ → List ℕ → Result (Unit {0}) Refusal → Type 0
Initializes G H W old new before now mirror source result =
    OnOk result (OfBoth G H old new mirror source (IsBrought (work.Initialize source) (W.contents before) (W.contents now)))

-- why it isn't: the words of the source can't be kept, and nothing is opened; or the work is refused
abbrev pub RefusesInitialize : {F D O : Type 0} → (G : Ghosts D) → FolderGhosts F D → OutputGhosts O → F → F → O → O → List ℕ → List ℕ → Result (Unit {0}) Refusal → Type 0
RefusesInitialize G H W old new before now mirror source result =
    IfErr result (λ e. (NotKept source (W.contents before) (W.contents now) e × AreBack G H old new []) ⊎ UnopenedBoth G H old new mirror source (W.contents before) (W.contents now) e
    (NotBrought (work.Initialize source) (W.contents before) (W.contents now) (Rose (W.failures before) (W.failures now)) e))

-- a command is done
abbrev pub DoesCommand : {F D I O : Type 0} → (G : Ghosts D) → FolderGhosts F D → InputGhosts I → OutputGhosts O → F → F → I → O → O → Command → Result (Unit {0}) Refusal → Type 0
DoesCommand G H R W old new input before now command result = OnOk result (IsDone G H old new command (R.remaining input) (W.contents before) (W.contents now))

-- why it isn't, and what is left then
abbrev pub RefusesCommand : {F D I O : Type 0} → (G : Ghosts D) → FolderGhosts F D → InputGhosts I → OutputGhosts O → F → F → I → O → O → Command → Result (Unit {0}) Refusal → Type 0
RefusesCommand G H R W old new input before now command result =
    IfErr result (IsNotDone G H old new command (R.remaining input) (W.contents before) (W.failures before) (W.contents now) (W.failures now))

-- it is done, and what it wrote is handed on
abbrev pub DeliversCommand : {F D I O : Type 0} → (G : Ghosts D) → FolderGhosts F D → InputGhosts I → OutputGhosts O → F → F → I → O → O → Command → Result (Unit {0}) Refusal → Type 0
DeliversCommand G H R W old new input before now command result =
    OnOk result (HandsOn (IsDone G H old new command (R.remaining input) (W.contents before)) (W.contents now))

-- it ends with a refusal, and what it wrote is handed on as far as the output takes it
abbrev pub EndsCommand : {F D I O : Type 0} → (G : Ghosts D) → FolderGhosts F D → InputGhosts I → OutputGhosts O → F → F → I → O → O → Command → Result (Unit {0}) Refusal → Type 0
EndsCommand G H R W old new input before now command result =
    IfErr result (EndsWith (IsDone G H old new command (R.remaining input) (W.contents before))
    (IsNotDone G H old new command (R.remaining input) (W.contents before) (W.failures before)) (W.failures before) (W.contents now) (W.failures now))

-- its status is 0 where it is done and that is handed on
abbrev pub SucceedsAtCommand : {F D I O : Type 0} → (G : Ghosts D) → FolderGhosts F D → InputGhosts I → OutputGhosts O → F → F → I → O → O → Command → ℕ → Type 0
SucceedsAtCommand G H R W old new input before now command status =
    status ≡ 0 → HandsOn (IsDone G H old new command (R.remaining input) (W.contents before)) (W.contents now)

-- and 1 where it is refused, with the refusal's line; PeerFailed (49) comes only where a stream failed
abbrev pub FailsAtCommand : {F D I O E : Type 0} → (G : Ghosts D) → FolderGhosts F D → InputGhosts I → OutputGhosts O → OutputGhosts E → F → F → I → I → O → O → E → E → Command → ℕ → Type 0
FailsAtCommand G H R W V old new input left before now lines told command status =
    status ≡ 1 → (e : Refusal) × EndsWith (IsDone G H old new command (R.remaining input) (W.contents before))
    (IsNotDone G H old new command (R.remaining input) (W.contents before) (W.failures before)) (W.failures before) (W.contents now) (W.failures now) e
    × (e ≡ refusal.PeerFailed → StreamsFail R W input left before now) × TellsLine V lines told e
