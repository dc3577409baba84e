-- What a session says of its port, its reader and its writer.
use Rattle.std.specs.Prelude.{◌≡◌, ◌≢◌, ℕ, Bool, true, false, not, List, [], ◌∷◌, ◌++◌, map, Option, Some, Result, IfOk}
use Rattle.std.specs.Io.KnownBytes.{Appends}
use Rattle.ra_item.specs.Items.{Item, spell}
use Rattle.ra_item.specs.Streams.{Stream}
use Rattle.ra_item.specs.ItemStreams.{Takes, Ends, Stops, reader_of, is_spent, ahead}
use Rattle.ra_item.specs.declared.fault.ItemFault.{ItemFault}
use Rattle.ra_item.specs.declared.fault.ItemFault.TheVariants as item
use Rattle.ra_item.specs.declared.fault.NextFault.{NextFault}
use Rattle.ra_item.specs.declared.fault.NextFault.TheVariants as next
use Rattle.ra_item.specs.declared.stream.ItemStream.{ItemStream}
use Rattle.byte_streams.specs.Causes.{Counts, RoseBy}
use Rattle.byte_streams.specs.declared.input.Input.{Ghosts as InputGhosts}
use Rattle.repo_core.specs.Repository.{Repository}
use Rattle.ra_wire.specs.Openings.{login_in}
use Rattle.ra_wire.specs.Replies.{greeting, mechanisms}
use Rattle.ra_serve.specs.Sessions.{Turn, AllMayHalt, halts, answers, left, identity_text, asked_who, session, commands_of, logs_in, goes_on, ends_opening}
use Rattle.ra_serve.specs.Outputs.{items_of}
use Rattle.ra_serve.specs.declared.client.ClientItems.{ClientItems}
use Rattle.ra_serve.specs.declared.fault.End as declared
use Rattle.ra_serve.specs.declared.fault.End.TheVariants as end
use Rattle.ra_serve.specs.declared.port.RepoPort.{Ghosts}

-- behind some items the bytes have a fault, of which no failure of the reader is the cause
abbrev pub no_failure : Counts
no_failure = record { before = 0; now = 0; reads = 0 }

abbrev pub HasFault : List Item → Option (List ℕ) → Option (List ℕ) → (List ℕ → Stream) → Bool → ItemFault → Type 0
HasFault xs before after was spent f = Stops xs before after was spent no_failure (next.Items f)

-- a refusal of the stream, which isn't for want of memory, is what ended the session
abbrev pub EndsBy : NextFault → declared.End → Type 0
EndsBy (next.Items f) e = (e ≡ end.Items f) × (f ≢ item.OutOfMemory)
EndsBy next.PeerFailed e = ⊥

-- where a session ended behind some items: the input ends there; or the last of them ended the opening; or there the bytes have
-- a fault
abbrev pub EndsAt : (List Item → Bool) → (List Item → Bool) → List Item → Option (List ℕ) → Option (List ℕ) → (List ℕ → Stream) → (List ℕ → Stream) → Bool → declared.End → Type 0
EndsAt stands over xs before after was is spent end.Input = (stands xs ≡ true) × Ends xs true before after was
EndsAt stands over xs before after was is spent end.Opening = (over xs ≡ true) × Takes xs before after was is
EndsAt stands over xs before after was is spent (end.Items f) = (stands xs ≡ true) × HasFault xs before after was spent f × (f ≢ item.OutOfMemory)

-- some turns were taken: their answers stand behind what the writer had, each refusal of the port's own is one that it may give,
-- and its count of these rose by as many
pub record Serves (spelled : Repository → List Turn → List ℕ) (asked : List Turn → List Turn) (stands over : List Item → Bool) (mirror : Bool) (x : Repository) (refused refused_now : ℕ) (told now : Option (List ℕ)) (new : Option Repository) (before after : Option (List ℕ)) (was is : List ℕ → Stream) (spent : Bool) (e : declared.End) : Type 0 where
  pub turns : List Turn
  pub lawful : AllMayHalt mirror x (asked turns)
  pub counted : RoseBy (halts (asked turns)) refused refused_now
  pub bytes : Appends told now (spelled x turns)
  pub repository : new ≡ Some (left mirror x (asked turns))
  pub ends : EndsAt stands over (map (λ t. t.item) turns) before after was is spent e

-- the same of a port, a stream and a writer, before and after
abbrev pub ServesBy : {P R W : Type 0} {g : _} → (Bool → Repository → List Turn → List ℕ) → (List Turn → List Turn) → (List Item → Bool) → (List Item → Bool) → (P → Option Repository) → (P → ℕ) → (P → Bool) → (R → Option (List ℕ)) → (W → Option (List ℕ)) → P → P → ItemStream R g → ItemStream R g → W → W → declared.End → Type 0
ServesBy spelled asked stands over repository refusals is_mirror remaining contents old new items items_now out now e =
    (x : Repository) → repository old ≡ Some x → Serves (spelled (is_mirror old)) asked stands over (is_mirror old) x (refusals old) (refusals new) (contents out) (contents now) (repository new) (remaining (reader_of items)) (remaining (reader_of items_now)) (ahead items) (ahead items_now) (is_spent items) e

-- ---- a whole session

abbrev pub ServesSession : {P R W : Type 0} {g : _} → (P → Option Repository) → (P → ℕ) → (P → Bool) → (R → Option (List ℕ)) → (W → Option (List ℕ)) → List ℕ → P → P → ItemStream R g → ItemStream R g → W → W → declared.End → Type 0
ServesSession repository refusals is_mirror remaining contents url = ServesBy (session url) commands_of goes_on ends_opening repository refusals is_mirror remaining contents

-- over a stream that was refused before a client is greeted, and told no more
abbrev pub OnlyGreets : {P W : Type 0} → (P → Option Repository) → (W → Option (List ℕ)) → P → P → W → W → declared.End → Type 0
OnlyGreets repository contents old new out now e = (repository new ≡ repository old) × Appends (contents out) (contents now) (spell greeting) × (e ≡ end.Items item.Failed)

-- whatever the port knows, these bytes stand behind what the writer had, and then what was said
abbrev pub SaysFirst : List ℕ → Option (List ℕ) → Option (List ℕ) → Type 0
SaysFirst first before now = (rest : List ℕ) × Appends before now (first ++ rest)

-- behind what the writer had stands the greeting
abbrev pub Greets : {W : Type 0} → (W → Option (List ℕ)) → W → W → Type 0
Greets contents out now = SaysFirst (spell greeting) (contents out) (contents now)

-- ---- its parts

abbrev pub any : List Item → Bool
any xs = true

abbrev pub none : List Item → Bool
none xs = false

abbrev pub all : List Turn → List Turn
all ts = ts

abbrev pub ServesCommands : {P R W : Type 0} {g : _} → (P → Option Repository) → (P → ℕ) → (P → Bool) → (R → Option (List ℕ)) → (W → Option (List ℕ)) → P → P → ItemStream R g → ItemStream R g → W → W → declared.End → Type 0
ServesCommands repository refusals is_mirror remaining contents = ServesBy answers all any none repository refusals is_mirror remaining contents

abbrev pub behind_one : List Turn → List Turn
behind_one [] = []
behind_one (t ∷ ts) = ts

abbrev pub goes_on_login : List Item → Bool
goes_on_login [] = true
goes_on_login (l ∷ xs) = logs_in (login_in l)

abbrev pub ends_at_login : List Item → Bool
ends_at_login (l ∷ []) = not (logs_in (login_in l))
ends_at_login _ = false

abbrev pub spelled_login : List ℕ → Bool → Repository → List Turn → List ℕ
spelled_login url mirror x ts = spell (mechanisms (identity_text x)) ++ asked_who url mirror x ts

abbrev pub ServesLogin : {P R W : Type 0} {g : _} → (P → Option Repository) → (P → ℕ) → (P → Bool) → (R → Option (List ℕ)) → (W → Option (List ℕ)) → List ℕ → P → P → ItemStream R g → ItemStream R g → W → W → declared.End → Type 0
ServesLogin repository refusals is_mirror remaining contents url = ServesBy (spelled_login url) behind_one goes_on_login ends_at_login repository refusals is_mirror remaining contents

-- ---- what serving a client answers: the writer, and where the session ended

abbrev pub HoldsSession : {P R O W E : Type 0} {g : InputGhosts R} → Ghosts P → (W → Option (List ℕ)) → P → P → ClientItems R O g → ClientItems R O g → W → List ℕ → Result (W × declared.End) E → Type 0
HoldsSession {P} {R} {O} {W} {E} {g} G contents old new items items_now out url result = IfOk result (λ r. ServesSession G.repository G.refusals G.is_mirror g.remaining contents url old new (items_of items) (items_of items_now) out r.0 r.1)

-- from the question who the client is
abbrev pub HoldsLogin : {P R O W E : Type 0} {g : InputGhosts R} → Ghosts P → (W → Option (List ℕ)) → P → P → ClientItems R O g → ClientItems R O g → W → List ℕ → Result (W × declared.End) E → Type 0
HoldsLogin {P} {R} {O} {W} {E} {g} G contents old new items items_now out url result = IfOk result (λ r. ServesLogin G.repository G.refusals G.is_mirror g.remaining contents url old new (items_of items) (items_of items_now) out r.0 r.1)

-- from the first command
abbrev pub HoldsCommands : {P R O W E : Type 0} {g : InputGhosts R} → Ghosts P → (W → Option (List ℕ)) → P → P → ClientItems R O g → ClientItems R O g → W → Result (W × declared.End) E → Type 0
HoldsCommands {P} {R} {O} {W} {E} {g} G contents old new items items_now out result = IfOk result (λ r. ServesCommands G.repository G.refusals G.is_mirror g.remaining contents old new (items_of items) (items_of items_now) out r.0 r.1)
