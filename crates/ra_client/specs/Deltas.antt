-- What a job is told of a server that sends texts as differences.
use Rattle.std.specs.Prelude.{◌≡◌, ℕ, List, length, Result, Ok, Err}
use Rattle.byte_streams.specs.declared.input.Input.{Ghosts as InputGhosts}
use Rattle.byte_streams.specs.declared.output.Output.{Ghosts as OutputGhosts}
use Rattle.sync_job.specs.Questions.{Exchange, Identity, Latest, Fetch, FetchProps, LeadsBy}
use Rattle.ra_client.specs.Exchanges.{AsksDeltas}
use Rattle.ra_client.specs.Masters.{IsExchange, IsFetchOf}
use Rattle.ra_client.specs.Ports.{Calls, IsOpened, IsUnopened}
use Rattle.ra_client.specs.declared.fault.ClientFault.{ClientFault}
use Rattle.ra_client.specs.declared.port.ClientPort.{ClientPort}
use Rattle.ra_client.specs.declared.delta_port.DeltaPort.{DeltaPort}

-- its session
abbrev pub session_of : {R O : Type 0} {g : InputGhosts R} {h : OutputGhosts O} → DeltaPort R O g h → ClientPort R O g h
session_of port = port.port

-- it is opened as its session is
abbrev pub IsDeltaOpening : {R O : Type 0} {g : InputGhosts R} {h : OutputGhosts O} → List ℕ → R → O → Result (DeltaPort R O g h) ClientFault → Type 0
IsDeltaOpening url input output (Ok port) = IsOpened url input output (session_of port)
IsDeltaOpening {R} {O} {g} {h} url input output (Err f) = IsUnopened g h url input output f

-- a question of a job is one call of the session, and is answered as that is: of a revision, as it comes in differences; any other, as where texts come whole
abbrev pub IsDeltaExchange : {R O : Type 0} {g : InputGhosts R} {h : OutputGhosts O} → DeltaPort R O g h → Exchange → DeltaPort R O g h → Type 0
IsDeltaExchange old (Identity r) new = IsExchange (session_of old) (Identity r) (session_of new)
IsDeltaExchange old (Latest r) new = IsExchange (session_of old) (Latest r) (session_of new)
IsDeltaExchange old (Fetch n trees r) new = length trees ≡ n → IsFetchOf (Calls (AsksDeltas n trees) (session_of old) (session_of new)) r
IsDeltaExchange old (FetchProps n r) new = IsExchange (session_of old) (FetchProps n r) (session_of new)

-- since the port was as the first, a job asked these of it, each by its own calls
abbrev pub deltas_answered_by : {R O : Type 0} {g : InputGhosts R} {h : OutputGhosts O} → DeltaPort R O g h → DeltaPort R O g h → List Exchange → Type 0
deltas_answered_by now first made = LeadsBy IsDeltaExchange first made now
