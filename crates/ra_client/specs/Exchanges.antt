-- What a client and a server say to each other in each call.
use Rattle.std.specs.Prelude.{ℕ, Bool, true, false, List, Result}
use Rattle.byte_streams.specs.declared.input.Input.{Ghosts as InputGhosts}
use Rattle.byte_streams.specs.declared.output.Output.{Ghosts as OutputGhosts}
use Rattle.byte_streams.specs.declared.sink.Sink.{Sink}
use Rattle.node_base.specs.Props.{PropMap}
use Rattle.node_base.specs.Tree.{PathMap}
use Rattle.dump_load.specs.declared.load.Applied.{Applied}
use Rattle.ra_item.specs.Items.{spell}
use Rattle.ra_item.specs.declared.stream.ItemStream.{ItemStream}
use Rattle.ra_wire.specs.Commands.{Command, LatestRev, RevProplist, ReplayRange}
use Rattle.ra_wire.specs.Requests.{hello, anonymous, command_item}
use Rattle.ra_client.specs.Said.{Repository, authorised_said, done_said, number_said, proplist_said, proplist_past, revprops_said, revprops_past, greeting_said, asks_said, welcome_said, same}
use Rattle.ra_client.specs.Steps.{Follows, Gives, IsIdle, OnInput, OnOutput, TakesDeltas, TakesItem, TakesEdit, TakesWithin, Sends}
use Rattle.ra_client.specs.declared.fault.ClientFault.{ClientFault}

-- ---- commands and their answers

-- a command is sent
abbrev pub SendsCommand : {O : Type 0} {h : OutputGhosts O} → Command → Sink O h → Sink O h → Result (Unit {0}) ClientFault → Type 0
SendsCommand c = Sends (spell (command_item c))

-- and its answer is taken, in front of which nobody is asked who they are
abbrev pub TakesAnswer : {R A : Type 0} {g : InputGhosts R} → (ItemStream R g → ItemStream R g → Result A ClientFault → Type 0) → ItemStream R g → ItemStream R g → Result A ClientFault → Type 0
TakesAnswer answer = Follows (TakesItem same authorised_said) (λ _. answer)

abbrev pub Asks : {R O A : Type 0} {g : InputGhosts R} {h : OutputGhosts O} → Command → (ItemStream R g → ItemStream R g → Result A ClientFault → Type 0) → ItemStream R g × Sink O h → ItemStream R g × Sink O h → Result A ClientFault → Type 0
Asks c answer = Follows (OnOutput (SendsCommand c)) (λ _. OnInput (TakesAnswer answer))

-- the newest revision
abbrev pub AsksLatest : {R O : Type 0} {g : InputGhosts R} {h : OutputGhosts O} → ItemStream R g × Sink O h → ItemStream R g × Sink O h → Result ℕ ClientFault → Type 0
AsksLatest = Asks LatestRev (TakesItem same number_said)

-- the properties of a revision
abbrev pub AsksProps : {R O : Type 0} {g : InputGhosts R} {h : OutputGhosts O} → ℕ → ItemStream R g × Sink O h → ItemStream R g × Sink O h → Result PropMap ClientFault → Type 0
AsksProps n = Asks (RevProplist n) (TakesWithin same proplist_said proplist_past)

-- a revision: its edit over the trees before it, and that this was all, behind its properties
abbrev pub TakesSet : {R : Type 0} {g : InputGhosts R} → List PathMap → PropMap → ItemStream R g → ItemStream R g → Result (Applied × PropMap) ClientFault → Type 0
TakesSet trees props = Follows (TakesEdit trees) (λ applied. Gives (TakesItem same done_said) (applied, props))

abbrev pub TakesRevision : {R : Type 0} {g : InputGhosts R} → List PathMap → ItemStream R g → ItemStream R g → Result (Applied × PropMap) ClientFault → Type 0
TakesRevision trees = Follows (TakesWithin same revprops_said revprops_past) (TakesSet trees)

abbrev pub AsksRevision : {R O : Type 0} {g : InputGhosts R} {h : OutputGhosts O} → ℕ → List PathMap → ItemStream R g × Sink O h → ItemStream R g × Sink O h → Result (Applied × PropMap) ClientFault → Type 0
AsksRevision n trees = Asks (ReplayRange n n) (TakesRevision trees)

-- the same of an edit whose texts come as differences
abbrev pub TakesDeltaSet : {R : Type 0} {g : InputGhosts R} → List PathMap → PropMap → ItemStream R g → ItemStream R g → Result (Applied × PropMap) ClientFault → Type 0
TakesDeltaSet trees props = Follows (TakesDeltas trees) (λ applied. Gives (TakesItem same done_said) (applied, props))

abbrev pub TakesDeltaRevision : {R : Type 0} {g : InputGhosts R} → List PathMap → ItemStream R g → ItemStream R g → Result (Applied × PropMap) ClientFault → Type 0
TakesDeltaRevision trees = Follows (TakesWithin same revprops_said revprops_past) (TakesDeltaSet trees)

abbrev pub AsksDeltas : {R O : Type 0} {g : InputGhosts R} {h : OutputGhosts O} → ℕ → List PathMap → ItemStream R g × Sink O h → ItemStream R g × Sink O h → Result (Applied × PropMap) ClientFault → Type 0
AsksDeltas n trees = Asks (ReplayRange n n) (TakesDeltaRevision trees)

-- ---- the opening

-- a client says that it is nobody, where it is asked
abbrev pub LogsIn : {R O : Type 0} {g : InputGhosts R} {h : OutputGhosts O} → Bool → ItemStream R g × Sink O h → ItemStream R g × Sink O h → Result (Unit {0}) ClientFault → Type 0
LogsIn false = IsIdle
LogsIn true = Follows (OnOutput (Sends (spell anonymous))) (λ _. OnInput (TakesItem same done_said))

-- where it is known whether it is asked, which repository the server has
abbrev pub IsKnown : {R O A : Type 0} {g : InputGhosts R} {h : OutputGhosts O} → (A → Repository) → Bool → ItemStream R g × Sink O h → ItemStream R g × Sink O h → Result A ClientFault → Type 0
IsKnown view asks = Follows (LogsIn asks) (λ _. OnInput (TakesItem view welcome_said))

-- behind the greetings
abbrev pub IsWelcomed : {R O A : Type 0} {g : InputGhosts R} {h : OutputGhosts O} → (A → Repository) → ItemStream R g × Sink O h → ItemStream R g × Sink O h → Result A ClientFault → Type 0
IsWelcomed view = Follows (OnInput (TakesItem same asks_said)) (IsKnown view)

-- behind the server's greeting
abbrev pub IsGreeted : {R O A : Type 0} {g : InputGhosts R} {h : OutputGhosts O} → (A → Repository) → List ℕ → ItemStream R g × Sink O h → ItemStream R g × Sink O h → Result A ClientFault → Type 0
IsGreeted view url = Follows (OnOutput (Sends (spell (hello url)))) (λ _. IsWelcomed view)

abbrev pub Opens : {R O A : Type 0} {g : InputGhosts R} {h : OutputGhosts O} → (A → Repository) → List ℕ → ItemStream R g × Sink O h → ItemStream R g × Sink O h → Result A ClientFault → Type 0
Opens view url = Follows (OnInput (TakesItem same greeting_said)) (λ _. IsGreeted view url)
