-- What a job is told of a server by a client.
use Rattle.std.specs.Prelude.{◌≡◌, ℕ, List, length, Result, Ok, Err, Some}
use Rattle.uuid.specs.Text.{hyphenated_text, lower}
use Rattle.byte_streams.specs.declared.input.Input.{Ghosts as InputGhosts}
use Rattle.byte_streams.specs.declared.output.Output.{Ghosts as OutputGhosts}
use Rattle.node_base.specs.Props.{PropMap}
use Rattle.node_base.specs.Tree.{PathMap}
use Rattle.dump_load.specs.declared.load.Applied.{Applied}
use Rattle.sync_job.specs.Questions.{Exchange, Identity, Latest, Fetch, FetchProps, LeadsBy}
use Rattle.sync_job.specs.declared.master.Fetched.{Fetched}
use Rattle.ra_client.specs.Exchanges.{AsksLatest, AsksProps, AsksRevision}
use Rattle.ra_client.specs.Ports.{repository_of, Calls}
use Rattle.ra_client.specs.Telling.{HearsNumber, HearsProps, HearsRevision}
use Rattle.ra_client.specs.declared.port.ClientPort.{ClientPort}
use Rattle.node_base.specs.declared.refusal.Refusal.{Refusal}
use Rattle.node_base.specs.declared.refusal.Refusal.TheVariants as refusal
use Rattle.delta_editor.specs.declared.fault.EditorFault.{EditorFault}
use Rattle.delta_editor.specs.declared.fault.EditorFault.TheVariants as editor
use Rattle.ra_edit.specs.declared.edit_fault.EditFault.{EditFault}
use Rattle.ra_edit.specs.declared.edit_fault.EditFault.TheVariants as edit
use Rattle.sync_job.specs.declared.master.MasterFault.{MasterFault}
use Rattle.sync_job.specs.declared.master.MasterFault.TheVariants.{Refused, Other}
use Rattle.ra_client.specs.declared.fault.ClientFault.{ClientFault}
use Rattle.ra_client.specs.declared.fault.ClientFault.TheVariants as fault

-- each is told by its own number and text
abbrev pub of_editor : EditorFault → Refusal
of_editor editor.TooLong = refusal.TooLong
of_editor editor.BadPath = refusal.BadPath
of_editor editor.NoSuchPath = refusal.NoSuchPath
of_editor editor.PathThere = refusal.PathThere
of_editor editor.NotDir = refusal.NotDir
of_editor editor.NoSource = refusal.NoSource
of_editor editor.OutOfOrder = refusal.OutOfOrder
of_editor editor.WrongNumber = refusal.WrongNumber
of_editor editor.KindMismatch = refusal.KindMismatch
of_editor editor.PeerFailed = refusal.PeerFailed
of_editor editor.OutOfMemory = refusal.OutOfMemory

-- that the server gave an edit up has no text of its own
abbrev pub of_edit : EditFault → MasterFault
of_edit edit.BadSum = Refused refusal.BadSum
of_edit edit.Truncated = Refused refusal.Truncated
of_edit edit.TooLong = Refused refusal.TooLong
of_edit edit.Failed = Refused refusal.Failed
of_edit edit.BadItem = Refused refusal.BadItem
of_edit edit.TooDeep = Refused refusal.TooDeep
of_edit edit.BadWindow = Refused refusal.BadWindow
of_edit edit.CopyWindow = Refused refusal.CopyWindow
of_edit edit.BadToken = Refused refusal.BadToken
of_edit edit.BadShape = Refused refusal.BadShape
of_edit edit.PeerFailed = Refused refusal.PeerFailed
of_edit edit.OutOfMemory = Refused refusal.OutOfMemory
of_edit edit.Refused = Other
of_edit (edit.Editor f) = Refused (of_editor f)

-- nor has a failure that it sent, or another form of answer
abbrev pub of_client : ClientFault → MasterFault
of_client (fault.Edit f) = of_edit f
of_client fault.Refused = Other
of_client fault.BadAnswer = Other

-- what a call answers, as a job is told it
abbrev pub IsToldOf : {A : Type 0} → (Result A ClientFault → Type 0) → Result A MasterFault → Type 0
IsToldOf call (Ok v) = call (Ok v)
IsToldOf call (Err e) = (f : ClientFault) × call (Err f) × (e ≡ of_client f)

-- a fetch, whose set comes with its tree
abbrev pub IsFetchOf : (Result (Applied × PropMap) ClientFault → Type 0) → Result Fetched MasterFault → Type 0
IsFetchOf call (Ok r) = (tree : PathMap) × (r.tree ≡ Some tree) × call (Ok (record { set = r.set; tree = tree }, r.props))
IsFetchOf call (Err e) = (f : ClientFault) × call (Err f) × (e ≡ of_client f)

-- a question of a job is one call of the session, and is answered as that is: the session's identity, or what comes behind the command
abbrev pub IsExchange : {R O : Type 0} {g : InputGhosts R} {h : OutputGhosts O} → ClientPort R O g h → Exchange → ClientPort R O g h → Type 0
IsExchange old (Identity (Ok u)) new = (new ≡ old) × (u ≡ hyphenated_text lower (repository_of old).identity)
IsExchange old (Identity (Err f)) new = (new ≡ old) × (f ≡ Refused refusal.OutOfMemory)
IsExchange old (Latest r) new = IsToldOf (Calls AsksLatest old new) r × IsToldOf (HearsNumber old new) r
IsExchange old (Fetch n trees r) new = length trees ≡ n → IsFetchOf (Calls (AsksRevision n trees) old new) r × IsFetchOf (HearsRevision trees old new) r
IsExchange old (FetchProps n r) new = IsToldOf (Calls (AsksProps n) old new) r × IsToldOf (HearsProps old new) r

-- since the session was as the first, a job asked these of it, each by its own calls
abbrev pub answered_by : {R O : Type 0} {g : InputGhosts R} {h : OutputGhosts O} → ClientPort R O g h → ClientPort R O g h → List Exchange → Type 0
answered_by now first made = LeadsBy IsExchange first made now
