-- A repository that is asked over sessions in memory.
use Rattle.std.specs.Prelude.{◌≡◌, ℕ, true, List, [], ◌∷◌, ◌++◌, Option, None, codes, Result, OnOk}
use Rattle.std.specs.List.{AllByRecursion}
use Rattle.byte_streams.specs.declared.input.Input.{Ghosts as InputGhosts}
use Rattle.byte_streams.specs.declared.output.Output.{Ghosts as OutputGhosts}
use Rattle.fleet_disk.specs.declared.disk.Disk.{Ghosts}
use Rattle.node_base.specs.declared.refusal.Refusal.{Refusal}
use Rattle.repo_core.specs.Repository.{Repository}
use Rattle.repo_store.specs.Words.{HasFailed}
use Rattle.repo_store.specs.declared.store.RepoStore.{RepoStore}
use Rattle.ra_item.specs.Items.{row, spell, spell_all}
use Rattle.ra_wire.specs.Commands.{Command}
use Rattle.ra_wire.specs.Reading.{command_in}
use Rattle.ra_wire.specs.Replies.{greeting, mechanisms, welcome, done}
use Rattle.ra_wire.specs.Requests.{hello, anonymous, command_item}
use Rattle.ra_serve.specs.Answers.{Halt, MayHaltAt, answer}
use Rattle.ra_serve.specs.Sessions.{identity_text}
use Rattle.ra_client.specs.Ports.{ends_of, over_of, repository_of}
use Rattle.ra_client.specs.Telling.{IsToCome}
use Rattle.ra_client.specs.declared.port.ClientPort.{ClientPort}
use Rattle.sync_job.specs.Alone.{IsHeardOf, IsMasterAt}
use Rattle.sync_job.specs.Questions.{Exchange}
use Rattle.sync_job.specs.Worlds.{IsEvents}
use Rattle.mirror_engines.specs.Runs.{IsWorked, Serves}
use Rattle.mirror_engines.specs.Worlds.{stands_in, stands_last, IsCaughtUp, IsMirroredFrom}
use Rattle.mirror_engines.specs.declared.work.Work.{Work}
use Rattle.session_road.specs.declared.lent_repo.LentRepo.{LentRepo}
use Rattle.session_road.specs.declared.served.ServedMaster.{ServedMaster}

-- the repository that a port lends
abbrev pub lent_in : LentRepo → Repository
lent_in p = p.repo.now

-- the repository that a master serves
abbrev pub served_in : ServedMaster → Repository
served_in m = m.repo.now

-- ---- a session with one question

-- the URL that is asked for; no answer hangs on it
abbrev pub asked_url : List ℕ
asked_url = codes "svn://127.0.0.1/"

-- what a client says
abbrev pub words_for : Command → List ℕ
words_for c = spell_all (row (hello asked_url ∷ anonymous ∷ command_item c ∷ []))

-- what a server tells in front of the answer
abbrev pub opening_told : Repository → List ℕ
opening_told x = spell greeting ++ (spell (mechanisms (identity_text x)) ++ (spell done ++ spell (welcome (identity_text x) asked_url)))

-- what it writes of this repository, which it may refuse by itself
pub record IsSession (x : Repository) (c : Command) (bytes : List ℕ) : Type 0 where
  pub halt : Option Halt
  pub lawful : MayHaltAt true x (command_in (command_item c)) halt
  pub bytes_are : bytes ≡ opening_told x ++ answer true x (command_in (command_item c)) halt

-- a client that has taken the opening before these bytes
pub record IsOpenBefore {R O : Type 0} {g : InputGhosts R} {h : OutputGhosts O} (x : Repository) (bytes : List ℕ) (port : ClientPort R O g h) : Type 0 where
  pub identity : (repository_of port).identity ≡ x.identity
  pub to_come : IsToCome (bytes ++ []) (ends_of port).0
  pub going : over_of port ≡ None

-- a client that has taken it and is to ask this
pub record IsAsked {R O : Type 0} {g : InputGhosts R} {h : OutputGhosts O} (x : Repository) (c : Command) (port : ClientPort R O g h) : Type 0 where
  pub halt : Option Halt
  pub lawful : MayHaltAt true x (command_in (command_item c)) halt
  pub before : IsOpenBefore x (answer true x (command_in (command_item c)) halt) port

-- ---- a master that is asked so

-- since such a master was as the first, it was asked this, and is the same
abbrev pub answered_over : ServedMaster → ServedMaster → List Exchange → Type 0
answered_over now first made = (now ≡ first) × AllByRecursion (IsHeardOf (served_in first)) made

-- a run of this work over a mirror's store and a master that serves the repository
pub record IsRunOver {D : Type 0} {G : Ghosts D} (source : Repository) (work : Work) (old new : RepoStore D G) (before now : Option (List ℕ)) (fails : Type 0) (result : Result (Unit {0}) Refusal) : Type 0 where
  pub master : ServedMaster
  pub serves : served_in master ≡ source
  pub run : Serves answered_over master (IsWorked work) old new before now fails result

-- what a run of this work over a mirror's store makes of it, whatever it answers: it is mirrored from the repository that is served, as
-- a run of a mirror's history is, and has as many revisions where a synchronisation is done
pub record IsMirroredBySessions {D : Type 0} {G : Ghosts D} (source : Repository) (work : Work) (old new : RepoStore D G) (result : Result (Unit {0}) Refusal) : Type 0 where
  pub from : ¬ HasFailed old → IsMirroredFrom source old new
  pub all : ¬ HasFailed old → OnOk result (IsCaughtUp work source new)
  -- also where the store had failed, the run is events of each world in which the mirror was one of that repository
  pub world : IsEvents (IsMasterAt source) (IsMasterAt source) (stands_in old None) (stands_last new) 0
