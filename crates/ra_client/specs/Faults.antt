-- Why a server's answer isn't taken.
use Rattle.std.specs.Prelude.{ℕ, Bool, true, false, Option, Some, None, Result, Ok, Err, if◌then◌else◌}
use Rattle.byte_streams.specs.declared.fault.SinkFault.{SinkFault}
use Rattle.byte_streams.specs.declared.fault.SinkFault.TheVariants as sink
use Rattle.ra_item.specs.declared.fault.NextFault.{NextFault}
use Rattle.ra_edit.specs.declared.edit_fault.EditFault.{EditFault}
use Rattle.ra_edit.specs.declared.edit_fault.EditFault.TheVariants as edit
use Rattle.ra_edit.specs.EditFaults.{edit_number}
use Rattle.ra_edit.specs.EditFaults as edits
use Rattle.ra_wire.specs.declared.fault.WireFault.{WireFault}
use Rattle.ra_wire.specs.declared.fault.WireFault.TheVariants as wire
use Rattle.ra_wire.specs.declared.props_fault.PropsFault.{PropsFault}
use Rattle.ra_wire.specs.declared.props_fault.PropsFault.TheVariants as props
use Rattle.ra_client.specs.declared.fault.ClientFault.{ClientFault}
use Rattle.ra_client.specs.declared.fault.ClientFault.TheVariants as fault

abbrev pub number_of : ClientFault → ℕ
number_of (fault.Edit f) = edit_number f
number_of fault.Refused = 60
number_of fault.BadAnswer = 60

-- a refusal that is an answer of the server itself, behind which the session goes on
abbrev pub is_answer : ClientFault → Bool
is_answer fault.Refused = true
is_answer f = false

-- an edit isn't received
abbrev pub of_edit : EditFault → ClientFault
of_edit f = fault.Edit f

-- the next item of the stream doesn't come
abbrev pub of_next : NextFault → ClientFault
of_next f = fault.Edit (edits.of_next f)

-- an item is no answer
abbrev pub of_wire : WireFault → ClientFault
of_wire wire.OutOfMemory = fault.Edit edit.OutOfMemory
of_wire f = fault.BadAnswer

-- properties of an answer aren't taken
abbrev pub of_props : PropsFault → ClientFault
of_props props.TooLong = fault.Edit edit.TooLong
of_props props.BadShape = fault.BadAnswer
of_props props.OutOfMemory = fault.Edit edit.OutOfMemory

-- a command isn't sent
abbrev pub of_sink : SinkFault → ClientFault
of_sink sink.PeerFailed = fault.Edit edit.PeerFailed
of_sink sink.OutOfMemory = fault.Edit edit.OutOfMemory

-- what ends a port: a refusal that is no answer
abbrev pub over_by : ClientFault → Option ClientFault
over_by f = if is_answer f then None else Some f

abbrev pub over_after : {A : Type 0} → Result A ClientFault → Option ClientFault
over_after (Ok v) = None
over_after (Err f) = over_by f
