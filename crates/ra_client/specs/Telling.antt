-- What a server tells, and what a client takes of it.
use Rattle.std.specs.Prelude.{◌≡◌, ◌⊎◌, ℕ, ◌≤◌, false, List, ◌++◌, Result, None, MatchResult}
use Rattle.byte_streams.specs.declared.input.Input.{Ghosts as InputGhosts}
use Rattle.byte_streams.specs.declared.output.Output.{Ghosts as OutputGhosts}
use Rattle.byte_streams.specs.declared.sink.Sink.{Sink}
use Rattle.node_base.specs.Path.{Path}
use Rattle.node_base.specs.Props.{PropMap, IsProps}
use Rattle.node_base.specs.Tree.{PathMap}
use Rattle.node_base.specs.declared.limits.TheConstants.{REVISION}
use Rattle.dump_load.specs.declared.change.Change.{Change}
use Rattle.dump_load.specs.declared.load.Applied.{Applied}
use Rattle.dump_load.specs.Effect.{effect}
use Rattle.editor_ends.specs.Drive.{drive}
use Rattle.ra_item.specs.Items.{spell}
use Rattle.ra_item.specs.ItemStreams.{reader_of, is_spent, ahead}
use Rattle.ra_item.specs.declared.stream.ItemStream.{ItemStream}
use Rattle.ra_edit.specs.Commands.{edit_bytes}
use Rattle.ra_edit.specs.EditLaws.{IsBefore}
use Rattle.edit_road.specs.Sent.{MayBeSent}
use Rattle.ra_wire.specs.Replies.{authorised, done, number, proplist, revprops}
use Rattle.ra_client.specs.Faults.{number_of}
use Rattle.ra_client.specs.Ports.{ends_of, over_of, FailsMeanwhile}
use Rattle.ra_client.specs.declared.fault.ClientFault.{ClientFault}
use Rattle.ra_client.specs.declared.port.ClientPort.{ClientPort}

-- ---- what is told, behind the words that nobody is asked

abbrev pub number_told : ℕ → List ℕ
number_told n = spell authorised ++ spell (number n)

abbrev pub proplist_told : PropMap → List ℕ
proplist_told m = spell authorised ++ spell (proplist m)

-- a revision: its properties, the edit that a set is driven as over the trees before it, and that this was all
abbrev pub revision_told : List PathMap → List Change → PropMap → List ℕ
revision_told trees s m = spell authorised ++ (spell (revprops m) ++ (edit_bytes (drive trees s) ++ spell done))

-- ---- what is taken

-- these bytes are to come
abbrev pub IsToCome : {R : Type 0} {g : InputGhosts R} → List ℕ → ItemStream R g → Type 0
IsToCome {R} {g} bytes s = IsBefore bytes (g.remaining (reader_of s)) (ahead s) × (is_spent s ≡ false)

-- a refusal for want of memory, or for a stream that failed
abbrev pub IsExcused : Type 0 → ClientFault → Type 0
IsExcused fails f = (number_of f ≡ 70) ⊎ ((number_of f ≡ 49) × fails)

-- where these bytes are to come, and any behind them, what comes of them is such, and those behind them are to come then; only
-- want of memory or a stream that failed refuses it
abbrev pub TakesTold : {R O A : Type 0} {g : InputGhosts R} {h : OutputGhosts O} → List ℕ → (A → Type 0) → ItemStream R g × Sink O h → ItemStream R g × Sink O h → Result A ClientFault → Type 0
TakesTold told Is old new result = (more : List ℕ) → IsToCome (told ++ more) old.0 → MatchResult result (λ v. Is v × IsToCome more new.0) (IsExcused (FailsMeanwhile old new))

-- by a port that isn't over
abbrev pub Hears : {R O A : Type 0} {g : InputGhosts R} {h : OutputGhosts O} → List ℕ → (A → Type 0) → ClientPort R O g h → ClientPort R O g h → Result A ClientFault → Type 0
Hears told Is old new result = over_of old ≡ None → TakesTold told Is (ends_of old) (ends_of new) result

-- the newest revision that a server tells
abbrev pub HearsNumber : {R O : Type 0} {g : InputGhosts R} {h : OutputGhosts O} → ClientPort R O g h → ClientPort R O g h → Result ℕ ClientFault → Type 0
HearsNumber old new result = (n : ℕ) → n ≤ REVISION → Hears (number_told n) (λ found. found ≡ n) old new result

-- the properties that it tells, within their limits
abbrev pub HearsProps : {R O : Type 0} {g : InputGhosts R} {h : OutputGhosts O} → ClientPort R O g h → ClientPort R O g h → Result PropMap ClientFault → Type 0
HearsProps old new result = (m : PropMap) → IsProps m → Hears (proplist_told m) (λ found. found ≡ m) old new result

-- a set of the effect of the one whose edit it tells, and the properties that it tells
pub record IsRevision (trees : List PathMap) (s : List Change) (m : PropMap) (found : List Change × PropMap) : Type 0 where
  pub effect_is : (q : Path) → effect trees found.0 q ≡ effect trees s q
  pub props_are : found.1 ≡ m

-- the same of a set that comes with its tree
abbrev pub IsRevisionMade : List PathMap → List Change → PropMap → Applied × PropMap → Type 0
IsRevisionMade trees s m found = IsRevision trees s m (found.0.set, found.1)

abbrev pub HearsRevision : {R O : Type 0} {g : InputGhosts R} {h : OutputGhosts O} → List PathMap → ClientPort R O g h → ClientPort R O g h → Result (Applied × PropMap) ClientFault → Type 0
HearsRevision trees old new result = (s : List Change) (m : PropMap) → MayBeSent trees s → IsProps m → Hears (revision_told trees s m) (IsRevisionMade trees s m) old new result
