-- What a command does over the mirror that stands in a folder and a source on a server, and why it doesn't.
use Rattle.std.specs.Prelude.{◌≡◌, ◌⊎◌, ℕ, List, [], Option, Result, IfErr, OnOk, string_bytes}
use Rattle.byte_streams.specs.Causes.{Rose}
use Rattle.byte_streams.specs.declared.output.Output.{Ghosts as OutputGhosts}
use Rattle.fleet_disk.specs.declared.disk.Disk.{Ghosts}
use Rattle.node_base.specs.declared.refusal.Refusal.{Refusal}
use Rattle.repo_store.specs.declared.store.RepoStore.{RepoStore}
use Rattle.store_engines.specs.Ranges.{first_in, last_in}
use Rattle.sync_core.specs.declared.fault.SyncFault.{SyncFault}
use Rattle.sync_job.specs.Said.{Spoken}
use Rattle.mirror_engines.specs.Runs.{IsWorked}
use Rattle.mirror_engines.specs.declared.work.Work.{Work}
use Rattle.mirror_engines.specs.declared.work.Work.TheVariants as work
use Rattle.ra_client.specs.declared.fault.ClientFault.{ClientFault}
use Rattle.svn_ends.specs.Runs.{IsUnreached, TellsMaster}
use Rattle.fleet_main.specs.Doing.{EndsWith, HandsOn, IsKept, IsWorkedOver, NotKept, NotWorkedOn, NotWorkedOver, OfStanding, UnopenedOr, untold}
use Rattle.fleet_main.specs.Ending.{TellsLine}
use Rattle.fleet_main.specs.Loans.{AreBack}
use Rattle.fleet_main.specs.declared.lending.Folders.{Ghosts as FolderGhosts}
use Rattle.command_words.specs.declared.command_line.Pull.{Pull}
use Rattle.command_words.specs.declared.command_line.Task.{Task}
use Rattle.command_words.specs.declared.command_line.Task.TheVariants as task

-- the work that a task is over a source of that URL
abbrev pub work_as : List ℕ → Task → Work
work_as url task.Initialize = work.Initialize url
work_as url (task.Synchronize token steal) = work.Synchronize token steal
work_as url (task.CopyRevprops token range) = work.CopyRevprops token (first_in range) (last_in range)

-- there is no session: nobody listens on the port, or the server ends the opening, which is told as of a master (60); or memory ran out
abbrev pub NotReached : Refusal → Type 0
NotReached e = IsUnreached e ⊎ ((f : ClientFault) × TellsMaster f e)

-- a run isn't done over that store: there is no session, the store stays, and nothing is written; or, if it works, the run is refused
abbrev pub NotPulledOn : {D : Type 0} {G : Ghosts D} → (List Spoken → Result (Unit {0}) SyncFault → Type 0) → Option (List ℕ) → Option (List ℕ) → Type 0 → Refusal → RepoStore D G → RepoStore D G → Type 0
NotPulledOn IsRun before now fails e old new = (NotReached e × (now ≡ before) × (new ≡ old)) ⊎ NotWorkedOn untold IsRun before now fails e old new

-- the same of the mirror that is opened: without a session a stop leaves what keeps it
abbrev pub NotPulledOver : {D : Type 0} {G : Ghosts D} → Type 0 → (List Spoken → Result (Unit {0}) SyncFault → Type 0) → Option (List ℕ) → Option (List ℕ) → Type 0 → Refusal → RepoStore D G → RepoStore D G → Type 0
NotPulledOver honest IsRun before now fails e old new = (NotReached e × (now ≡ before) × (new ≡ old) × IsKept honest old) ⊎ NotWorkedOver untold IsRun before now fails e old new

-- the URL is to be kept and can't be
abbrev pub NotKeptFor : Task → List ℕ → Option (List ℕ) → Option (List ℕ) → Refusal → Type 0
NotKeptFor task.Initialize url before now e = NotKept url before now e
NotKeptFor _ url before now e = ⊥

-- the mirror that stands in the folder is worked on as it was asked, over the server
abbrev pub IsPulled : {F D : Type 0} → Ghosts D → FolderGhosts F D → F → F → Pull → Option (List ℕ) → Option (List ℕ) → Type 0
IsPulled G H folders later pull before now =
    OfStanding G H folders later (string_bytes pull.mirror) (IsWorkedOver untold (IsWorked (work_as (string_bytes pull.url) pull.task)) before now)

-- it isn't: the URL can't be kept, or the mirror isn't opened, and nothing is written; or there is no session, or the run isn't done
abbrev pub NotPulled : {F D : Type 0} → Ghosts D → FolderGhosts F D → F → F → Pull → Option (List ℕ) → ℕ → Option (List ℕ) → ℕ → Refusal → Type 0
NotPulled G H folders later pull before start now count e =
    (NotKeptFor pull.task (string_bytes pull.url) before now e × AreBack G H folders later [])
    ⊎ UnopenedOr G H folders later (string_bytes pull.mirror) before now e
    (NotPulledOver (H.honest folders) (IsWorked (work_as (string_bytes pull.url) pull.task)) before now (Rose start count) e)

-- why a run isn't done over a mirror's store
abbrev pub RefusesPullOn : {D O : Type 0} {G : Ghosts D} → OutputGhosts O → RepoStore D G → RepoStore D G → O → O → Work → Result (Unit {0}) Refusal → Type 0
RefusesPullOn W old new before now w result =
    IfErr result (λ e. NotPulledOn (IsWorked w) (W.contents before) (W.contents now) (Rose (W.failures before) (W.failures now)) e old new)

-- the work is done over the mirror in a folder
abbrev pub WorksIn : {F D O : Type 0} → Ghosts D → FolderGhosts F D → OutputGhosts O → F → F → O → O → List ℕ → Work → Result (Unit {0}) Refusal → Type 0
WorksIn G H W old new before now mirror w result = OnOk result (OfStanding G H old new mirror (IsWorkedOver untold (IsWorked w) (W.contents before) (W.contents now)))

-- why it isn't: the mirror isn't opened, or there is no session, or the run is refused
abbrev pub RefusesWorkIn : {F D O : Type 0} → Ghosts D → FolderGhosts F D → OutputGhosts O → F → F → O → O → List ℕ → Work → Result (Unit {0}) Refusal → Type 0
RefusesWorkIn G H W old new before now mirror w result =
    IfErr result (λ e. UnopenedOr G H old new mirror (W.contents before) (W.contents now) e
    (NotPulledOver (H.honest old) (IsWorked w) (W.contents before) (W.contents now) (Rose (W.failures before) (W.failures now)) e))

-- the pull is done
abbrev pub DoesPull : {F D O : Type 0} → Ghosts D → FolderGhosts F D → OutputGhosts O → F → F → O → O → Pull → Result (Unit {0}) Refusal → Type 0
DoesPull G H W old new before now pull result = OnOk result (IsPulled G H old new pull (W.contents before) (W.contents now))

-- why it isn't, and what is left then
abbrev pub RefusesPull : {F D O : Type 0} → Ghosts D → FolderGhosts F D → OutputGhosts O → F → F → O → O → Pull → Result (Unit {0}) Refusal → Type 0
RefusesPull G H W old new before now pull result = IfErr result (NotPulled G H old new pull (W.contents before) (W.failures before) (W.contents now) (W.failures now))

-- it is done, and what it wrote is handed on
abbrev pub DeliversPull : {F D O : Type 0} → Ghosts D → FolderGhosts F D → OutputGhosts O → F → F → O → O → Pull → Result (Unit {0}) Refusal → Type 0
DeliversPull G H W old new before now pull result = OnOk result (HandsOn (IsPulled G H old new pull (W.contents before)) (W.contents now))

-- it ends with a refusal, and what it wrote is handed on as far as the output takes it
abbrev pub EndsPull : {F D O : Type 0} → Ghosts D → FolderGhosts F D → OutputGhosts O → F → F → O → O → Pull → Result (Unit {0}) Refusal → Type 0
EndsPull G H W old new before now pull result =
    IfErr result (EndsWith (IsPulled G H old new pull (W.contents before)) (NotPulled G H old new pull (W.contents before) (W.failures before))
    (W.failures before) (W.contents now) (W.failures now))

-- its status is 0 where it is done and that is handed on
abbrev pub SucceedsAtPull : {F D O : Type 0} → Ghosts D → FolderGhosts F D → OutputGhosts O → F → F → O → O → Pull → ℕ → Type 0
SucceedsAtPull G H W old new before now pull status = status ≡ 0 → HandsOn (IsPulled G H old new pull (W.contents before)) (W.contents now)

-- and 1 where it is refused, with the refusal's line
abbrev pub FailsAtPull : {F D O E : Type 0} → Ghosts D → FolderGhosts F D → OutputGhosts O → OutputGhosts E → F → F → O → O → E → E → Pull → ℕ → Type 0
FailsAtPull G H W V old new before now lines told pull status =
    status ≡ 1 → (e : Refusal) × EndsWith (IsPulled G H old new pull (W.contents before)) (NotPulled G H old new pull (W.contents before) (W.failures before))
    (W.failures before) (W.contents now) (W.failures now) e × TellsLine V lines told e
