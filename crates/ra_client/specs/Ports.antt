-- What is known of a client's port.
use Rattle.std.specs.Prelude.{◌≡◌, ◌⊎◌, ℕ, List, Option, Some, None, Result, Ok, Err, IfErr}
use Rattle.byte_streams.specs.declared.input.Input.{Ghosts as InputGhosts}
use Rattle.byte_streams.specs.declared.output.Output.{Ghosts as OutputGhosts}
use Rattle.byte_streams.specs.Causes.{Rose, Fails}
use Rattle.byte_streams.specs.Sinks.{inner_of}
use Rattle.byte_streams.specs.declared.sink.Sink.{Sink}
use Rattle.ra_item.specs.ItemStreams.{reader_of, Fresh}
use Rattle.ra_item.specs.declared.stream.ItemStream.{ItemStream}
use Rattle.ra_edit.specs.declared.edit_fault.EditFault.TheVariants as edit
use Rattle.ra_client.specs.Exchanges.{Opens}
use Rattle.ra_client.specs.Faults.{over_after}
use Rattle.ra_client.specs.Said.{Repository}
use Rattle.ra_client.specs.Steps.{counts_of}
use Rattle.ra_client.specs.declared.fault.ClientFault.{ClientFault}
use Rattle.ra_client.specs.declared.fault.ClientFault.TheVariants as fault
use Rattle.ra_client.specs.declared.port.ClientPort.{ClientPort}

-- its input and its output
abbrev pub ends_of : {R O : Type 0} {g : InputGhosts R} {h : OutputGhosts O} → ClientPort R O g h → ItemStream R g × Sink O h
ends_of port = (port.items, port.out)

-- the repository that the server has
abbrev pub repository_of : {R O : Type 0} {g : InputGhosts R} {h : OutputGhosts O} → ClientPort R O g h → Repository
repository_of port = record { identity = port.identity; url = port.root_url.items }

-- the output alone
abbrev pub output_of : {R O : Type 0} {g : InputGhosts R} {h : OutputGhosts O} → ClientPort R O g h → O
output_of port = inner_of port.out

-- why nothing is asked any more
abbrev pub over_of : {R O : Type 0} {g : InputGhosts R} {h : OutputGhosts O} → ClientPort R O g h → Option ClientFault
over_of port = port.over

-- a call: an exchange; or the port was over, and is refused for the same
pub data Calls {R O A : Type 0} {g : InputGhosts R} {h : OutputGhosts O} (exchange : ItemStream R g × Sink O h → ItemStream R g × Sink O h → Result A ClientFault → Type 0) (old new : ClientPort R O g h) (result : Result A ClientFault) : Type 0 where
  Asked : over_of old ≡ None → exchange (ends_of old) (ends_of new) result → over_of new ≡ over_after result → repository_of new ≡ repository_of old → Calls exchange old new result
  Over : (f : ClientFault) → over_of old ≡ Some f → result ≡ Err f → new ≡ old → Calls exchange old new result

-- the input failed or was read too often, or the output failed
abbrev pub FailsMeanwhile : {R O : Type 0} {g : InputGhosts R} {h : OutputGhosts O} → ItemStream R g × Sink O h → ItemStream R g × Sink O h → Type 0
FailsMeanwhile {R} {O} {g} {h} old new = Fails (counts_of old.0 new.0) ⊎ Rose (h.failures (inner_of old.1)) (h.failures (inner_of new.1))

-- a failed stream is told only where one has failed
abbrev pub TellsPeer : {R O A : Type 0} {g : InputGhosts R} {h : OutputGhosts O} → ItemStream R g × Sink O h → ItemStream R g × Sink O h → Result A ClientFault → Type 0
TellsPeer old new result = IfErr result (λ f. f ≡ fault.Edit edit.PeerFailed → FailsMeanwhile old new)

-- by a call of a port that wasn't over
abbrev pub TellsPeerAnew : {R O A : Type 0} {g : InputGhosts R} {h : OutputGhosts O} → ClientPort R O g h → ClientPort R O g h → Result A ClientFault → Type 0
TellsPeerAnew old new result = over_of old ≡ None → TellsPeer (ends_of old) (ends_of new) result

-- an opening over an input that wasn't read yet and an output
pub record IsOpened {R O : Type 0} {g : InputGhosts R} {h : OutputGhosts O} (url : List ℕ) (input : R) (output : O) (port : ClientPort R O g h) : Type 0 where
  pub first : ItemStream R g
  pub out : Sink O h
  pub reader : reader_of first ≡ input
  pub fresh : Fresh first
  pub writer : inner_of out ≡ output
  pub opened : Opens (λ v. v) url (first, out) (ends_of port) (Ok (repository_of port))
  pub going : over_of port ≡ None

-- one that came to no end
pub record IsUnopened {R O : Type 0} (g : InputGhosts R) (h : OutputGhosts O) (url : List ℕ) (input : R) (output : O) (f : ClientFault) : Type 0 where
  pub first : ItemStream R g
  pub out : Sink O h
  pub last : ItemStream R g × Sink O h
  pub reader : reader_of first ≡ input
  pub fresh : Fresh first
  pub writer : inner_of out ≡ output
  pub opened : Opens {A = Repository} (λ v. v) url (first, out) last (Err f)
  pub peer : TellsPeer {A = Repository} (first, out) last (Err f)

abbrev pub IsOpening : {R O : Type 0} {g : InputGhosts R} {h : OutputGhosts O} → List ℕ → R → O → Result (ClientPort R O g h) ClientFault → Type 0
IsOpening url input output (Ok port) = IsOpened url input output port
IsOpening {R} {O} {g} {h} url input output (Err f) = IsUnopened g h url input output f
