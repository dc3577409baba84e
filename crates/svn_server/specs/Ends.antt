-- What a server hears of the end of a session, and the root that it serves.
use Rattle.std.specs.Prelude.{ℕ, Bool, true, false, List, ◌++◌, codes, Option, Some, None, Result, Ok, Err}
use Rattle.std.specs.Fmt.{decimal}
use Rattle.std.specs.Option.{option_map_or}
use Rattle.ra_item.specs.Items.{Item, spell}
use Rattle.ra_wire.specs.Replies.{greeting}
use Rattle.ra_serve.specs.Serving.{SaysFirst}
use Rattle.ra_serve.specs.declared.fault.End.{End}
use Rattle.ra_serve.specs.declared.fault.End.TheVariants.{Input, Opening, Items}
use Rattle.ra_serve.specs.declared.fault.ServeFault.{ServeFault}
use Rattle.ra_serve.specs.declared.fault.ServeFault.TheVariants.{ReadFailed, WriteFailed, OutOfMemory}
use Rattle.ra_serve.specs.declared.fault.PortFault.{PortFault}
use Rattle.ra_serve.specs.declared.fault.PortFault.TheVariants as port
use Rattle.ra_reader.specs.Sessions as reader
use Rattle.sockets.specs.declared.fault.SocketFault.{SocketFault}
use Rattle.sockets.specs.declared.fault.SocketFault.TheVariants as socket
use Rattle.sockets.specs.declared.troubles.Trouble.{Trouble}
use Rattle.sockets.specs.declared.troubles.Trouble.TheVariants as trouble
use Rattle.svn_server.specs.declared.server.Address.{Address}

-- a client that sends what isn't items is a peer that failed
abbrev pub heard : End → Result (Unit {0}) SocketFault
heard Input = Ok tt
heard Opening = Ok tt
heard (Items f) = Err socket.PeerFailed

-- so is a stream that fails
abbrev pub fault_of : ServeFault → SocketFault
fault_of ReadFailed = socket.PeerFailed
fault_of WriteFailed = socket.PeerFailed
fault_of OutOfMemory = socket.OutOfMemory

-- the greeting of a server of which clients may browse, or of another
abbrev pub greeting_of : Bool → Item
greeting_of true = reader.greeting
greeting_of false = greeting

-- a client is told the greeting first
abbrev pub BeginsWell : Bool → Option (List ℕ) → Option (List ℕ) → Type 0
BeginsWell browse before behind = SaysFirst (spell (greeting_of browse)) before behind

-- the root that is served on a port
abbrev pub url : ℕ → List ℕ
url port = codes "svn://127.0.0.1:" ++ (decimal port ++ codes "/")

-- the root that clients are told at an address: the one that is given, or else that of the port
abbrev pub root_of : Address → List ℕ
root_of address = option_map_or (λ root. root.now) address.root_url (url address.port)

-- the trouble that a refusal of a port is, where it is the port's own
abbrev pub trouble_of : PortFault → Option Trouble
trouble_of port.DeviceFailed = Some trouble.DeviceFailed
trouble_of port.Failed = Some trouble.Failed
trouble_of port.LogFull = Some trouble.LogFull
trouble_of port.OutOfMemory = Some trouble.OutOfMemory
trouble_of f = None
