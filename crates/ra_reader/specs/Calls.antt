-- What the calls of a reading session say of their port, their stream and their writer.
use Rattle.std.specs.Prelude.{◌≡◌, ◌≤◌, ℕ, IfErr, IfOk, List, Option, Result}
use Rattle.std.specs.declared.io.Write.{Ghosts as WriteGhosts}
use Rattle.byte_streams.specs.Causes.{Fails}
use Rattle.byte_streams.specs.declared.input.Input.{Ghosts as InputGhosts}
use Rattle.ra_item.specs.ItemStreams.{meanwhile, reader_of}
use Rattle.ra_item.specs.Items.{Item}
use Rattle.ra_item.specs.declared.stream.ItemStream.{ItemStream}
use Rattle.browse_wire.specs.Urls.{Url}
use Rattle.browse_wire.specs.declared.url.SessionUrl.{SessionUrl}
use Rattle.ra_serve.specs.declared.fault.End.{End}
use Rattle.ra_serve.specs.declared.fault.ServeFault.{ServeFault}
use Rattle.ra_serve.specs.declared.fault.ServeFault.TheVariants.{ReadFailed}
use Rattle.ra_serve.specs.declared.port.RepoPort.{Ghosts}
use Rattle.ra_reader.specs.Serving.{BrowsesCommands, BrowsesLogin, BrowsesSession}
use Rattle.ra_reader.specs.Standings.{Standing}
use Rattle.ra_reader.specs.Takings.{Passes, Turns, standing_as}
use Rattle.ra_reader.specs.declared.phase.Phase.{Phase}

-- ---- items

-- at Ok an item was taken, and so the session stands at this place
abbrev pub TakesItem : {P W E : Type 0} → Ghosts P → WriteGhosts W → P → P → W → Standing → Item → SessionUrl → Result (Phase × W) E → Type 0
TakesItem G H old new out s item place result =
    IfOk result (λ r. Turns G.repository G.refusals H.contents s item old new out r.1 (standing_as place r.0))

-- the same of a call that asks no port
abbrev pub PassesItem : {W E : Type 0} → WriteGhosts W → W → Standing → Item → SessionUrl → Result (Phase × W) E → Type 0
PassesItem G out s item place result = IfOk result (λ r. Passes G.contents s item out r.1 (standing_as place r.0))

-- ---- why a call ends a session

-- not by the reader
abbrev pub SparesReader : {T : Type 0} → Result T ServeFault → Type 0
SparesReader result = IfErr result (λ f. f ≡ ReadFailed → ⊥)

-- by the reader only if it failed meanwhile
abbrev pub BlamesReader : {R T : Type 0} {g : _} → InputGhosts R → ItemStream R g → ItemStream R g → Result T ServeFault → Type 0
BlamesReader G old new result = IfErr result (λ f. f ≡ ReadFailed → Fails (meanwhile G.failures G.reads old new))

-- the count of the reader's failures doesn't fall
abbrev pub CountsReader : {R : Type 0} {g : _} → InputGhosts R → ItemStream R g → ItemStream R g → Type 0
CountsReader G old new = G.failures (reader_of old) ≤ G.failures (reader_of new)

-- ---- sessions

-- at Ok a whole session was served
abbrev pub ServesSession : {P R W E : Type 0} {g : _} → Ghosts P → InputGhosts R → (W → Option (List ℕ)) → P → P → ItemStream R g → ItemStream R g → W → Result (W × End) E → Type 0
ServesSession G I contents old new items items_now out result =
    IfOk result (λ r. BrowsesSession G.repository G.refusals I.remaining contents old new items items_now out r.0 r.1)

-- a session behind its client's greeting
abbrev pub ServesLogin : {P R W E : Type 0} {g : _} → Ghosts P → InputGhosts R → (W → Option (List ℕ)) → P → P → ItemStream R g → ItemStream R g → W → Url → Result (W × End) E → Type 0
ServesLogin G I contents old new items items_now out at result =
    IfOk result (λ r. BrowsesLogin G.repository G.refusals I.remaining contents at old new items items_now out r.0 r.1)

-- a session behind its opening
abbrev pub ServesCommands : {P R W E : Type 0} {g : _} → Ghosts P → InputGhosts R → (W → Option (List ℕ)) → P → P → ItemStream R g → ItemStream R g → W → Url → Result (W × End) E → Type 0
ServesCommands G I contents old new items items_now out at result =
    IfOk result (λ r. BrowsesCommands G.repository G.refusals I.remaining contents at old new items items_now out r.0 r.1)
