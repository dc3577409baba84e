-- Where a failed stream is told.
use Rattle.std.proofs.Common.{◌≡◌, ◌⊎◌, ◌≤◌, ℕ, Bool, true, false, List, [], Option, Result, Ok, Err, OnOk, IfErr, inl, inr, refl, ap, subst, arith}
use Rattle.byte_streams.specs.Causes.{Rose, Fails}
use Rattle.byte_streams.specs.Sinks.{inner_of}
use Rattle.byte_streams.specs.declared.input.Input.{Ghosts as InputGhosts}
use Rattle.byte_streams.specs.declared.output.Output.{Ghosts as OutputGhosts}
use Rattle.byte_streams.specs.declared.sink.Sink.{Sink}
use Rattle.node_base.specs.Props.{PropMap}
use Rattle.node_base.specs.Tree.{PathMap}
use Rattle.dump_load.specs.declared.load.Applied.{Applied}
use Rattle.ra_item.specs.Items.{Item, spell}
use Rattle.ra_item.specs.ItemStreams.{reader_of, Stops, is_spent, ahead}
use Rattle.ra_item.specs.declared.fault.ItemFault.TheVariants as item
use Rattle.ra_item.specs.declared.fault.NextFault.{NextFault}
use Rattle.ra_item.specs.declared.fault.NextFault.TheVariants as next
use Rattle.ra_item.specs.declared.stream.ItemStream.{ItemStream}
use Rattle.ra_edit.specs.declared.edit_fault.EditFault.TheVariants as edit
use Rattle.ra_client.specs.Faults.{of_next}
use Rattle.ra_wire.specs.Commands.{Command, LatestRev, RevProplist, ReplayRange}
use Rattle.ra_wire.specs.Requests.{hello, anonymous, command_item}
use Rattle.ra_client.specs.Exchanges.{Asks, AsksDeltas, AsksLatest, AsksProps, AsksRevision, TakesDeltaRevision, TakesRevision, LogsIn, Opens}
use Rattle.ra_client.specs.Said.{Reply, Repository, never, same, authorised_said, done_said, number_said, proplist_said, proplist_past, revprops_said, revprops_past, greeting_said, asks_said, welcome_said}
use Rattle.ra_client.specs.Steps.{Follows, Stopped, Went, Gives, IsIdle, OnInput, OnOutput, TakesItem, TakesWithin, OfItem, OfEnd, OfStream, TakesDeltas, TakesEdit, Sends, IsUnwritten, counts_of, IsLater}
use Rattle.ra_client.specs.Ports.{FailsMeanwhile, TellsPeer}
use Rattle.ra_client.specs.declared.fault.ClientFault.{ClientFault}
use Rattle.ra_client.specs.declared.fault.ClientFault.TheVariants as fault

rose_later : (p m n : ℕ) → p ≤ m → Rose m n → Rose p n
rose_later p m n h (inl r) = inl (omega (arith, h, r))
rose_later p m n h (inr r) = inr r

-- where a step was done no count has fallen, and it tells a failed stream only where there is a cause
record IsFair {S A : Type 0} (Later Cause : S → S → Type 0) (old new : S) (r : Result A ClientFault) : Type 0 where
  pub later : OnOk r (Later old new)
  pub peer : IfErr r (λ f. f ≡ fault.Edit edit.PeerFailed → Cause old new)

-- what joins two steps
record Joins {S : Type 0} (Later Cause : S → S → Type 0) : Type 0 where
  pub join : (a b c : S) → Later a b → Later b c → Later a c
  pub shift : (a b c : S) → Later a b → Cause b c → Cause a c

abbrev AreFair : {S A : Type 0} → (S → S → Type 0) → (S → S → Type 0) → (S → S → Result A ClientFault → Type 0) → Type 0
AreFair {S} {A} Later Cause step = (old new : S) (r : Result A ClientFault) → step old new r → IsFair Later Cause old new r

fair_err : {S A B : Type 0} (Later Cause : S → S → Type 0) (old new : S) (f : ClientFault) (r : Result B ClientFault) → r ≡ Err f → IsFair {A = A} Later Cause old new (Err f) → IsFair Later Cause old new r
fair_err Later Cause old new f (Ok v) e h = cc
fair_err Later Cause old new f (Err k) e h = record { later = tt; peer = λ told. let d : f ≡ fault.Edit edit.PeerFailed = cc in h.peer d }

follows_fair : {S A B : Type 0} (Later Cause : S → S → Type 0) (first : S → S → Result A ClientFault → Type 0) (second : A → S → S → Result B ClientFault → Type 0) → Joins Later Cause → AreFair Later Cause first → ((v : A) → AreFair Later Cause (second v)) → AreFair Later Cause (Follows first second)
follows_fair Later Cause first second joins one two old new r (Stopped f h e) = fair_err Later Cause old new f r e (one old new (Err f) h)
follows_fair Later Cause first second joins one two old new (Ok w) (Went mid v h k) = record { later = joins.join old mid new (one old mid (Ok v) h).later (two v mid new (Ok w) k).later; peer = tt }
follows_fair Later Cause first second joins one two old new (Err f) (Went mid v h k) = record { later = tt; peer = λ told. joins.shift old mid new (one old mid (Ok v) h).later ((two v mid new (Err f) k).peer told) }

gives_fair : {S A : Type 0} (Later Cause : S → S → Type 0) (step : S → S → Result (Unit {0}) ClientFault → Type 0) (v : A) → AreFair Later Cause step → AreFair Later Cause (Gives step v)
gives_fair Later Cause step v one old new (Ok w) h = record { later = (one old new (Ok tt) h.0).later; peer = tt }
gives_fair Later Cause step v one old new (Err f) h = record { later = tt; peer = (one old new (Err f) h).peer }

-- ---- on streams

abbrev LaterIn : {R : Type 0} {g : InputGhosts R} → ItemStream R g → ItemStream R g → Type 0
LaterIn old new = IsLater old new

abbrev FailsIn : {R : Type 0} {g : InputGhosts R} → ItemStream R g → ItemStream R g → Type 0
FailsIn old new = Fails (counts_of old new)

pub fails_later : (p m n reads : ℕ) → p ≤ m → Rose m n ⊎ (1099511627775 ≤ reads) → Rose p n ⊎ (1099511627775 ≤ reads)
fails_later p m n reads h (inl r) = inl (rose_later p m n h r)
fails_later p m n reads h (inr r) = inr r

joins_in : {R : Type 0} {g : InputGhosts R} → Joins {S = ItemStream R g} LaterIn FailsIn
joins_in {R} {g} = record {
  join = λ a b c h k. omega (arith, h, k);
  shift = λ a b c h k. fails_later (g.failures (reader_of a)) (g.failures (reader_of b)) (g.failures (reader_of c)) (g.reads (reader_of c)) h k;
}

-- a failed stream is told only by one that failed
next_peer : (e : NextFault) → of_next e ≡ fault.Edit edit.PeerFailed → e ≡ next.PeerFailed
next_peer next.PeerFailed h = refl
next_peer (next.Items item.Truncated) h = cc
next_peer (next.Items item.TooLong) h = cc
next_peer (next.Items item.Failed) h = cc
next_peer (next.Items item.BadItem) h = cc
next_peer (next.Items item.TooDeep) h = cc
next_peer (next.Items item.OutOfMemory) h = cc

item_peer : {R A T : Type 0} {g : InputGhosts R} (view : A → T) (what : Item → Option (Reply T)) (past : Item → Bool) (old new : ItemStream R g) (f : ClientFault) → TakesWithin view what past old new (Err f) → f ≡ fault.Edit edit.PeerFailed → FailsIn old new
item_peer view what past old new (fault.Edit k) (OfItem x t (inl is), l) told = cc
item_peer view what past old new (fault.Edit k) (OfItem x t (inr is), l) told = let long : k ≡ edit.TooLong = is.0 in cc
item_peer view what past old new fault.Refused (OfItem x t is, l) told = cc
item_peer view what past old new fault.BadAnswer (OfItem x t is, l) told = cc
item_peer view what past old new f (OfEnd t e, l) told = cc
item_peer {R} {A} {T} {g} view what past old new f (OfStream k stops e, l) told =
    let d : of_next k ≡ fault.Edit edit.PeerFailed = cc in
    subst (λ z. Stops [] (g.remaining (reader_of old)) (g.remaining (reader_of new)) (ahead old) (is_spent old) (counts_of old new) z) (next_peer k d) stops

within_fair : {R A T : Type 0} {g : InputGhosts R} (view : A → T) (what : Item → Option (Reply T)) (past : Item → Bool) → AreFair {S = ItemStream R g} LaterIn FailsIn (TakesWithin view what past)
within_fair view what past old new (Ok v) h = record { later = h.1.later; peer = tt }
within_fair view what past old new (Err f) h = record { later = tt; peer = item_peer view what past old new f h }

item_fair : {R A T : Type 0} {g : InputGhosts R} (view : A → T) (what : Item → Option (Reply T)) → AreFair {S = ItemStream R g} LaterIn FailsIn (TakesItem view what)
item_fair view what = within_fair view what never

edit_fair : {R : Type 0} {g : InputGhosts R} (trees : List PathMap) → AreFair {S = ItemStream R g} LaterIn FailsIn (TakesEdit trees)
edit_fair trees old new (Ok applied) h = record { later = h.1.later; peer = tt }
edit_fair trees old new (Err (fault.Edit e)) h = record { later = tt; peer = λ told. let d : e ≡ edit.PeerFailed = cc in h.0.2 d }
edit_fair trees old new (Err fault.Refused) h = absurd h.0
edit_fair trees old new (Err fault.BadAnswer) h = absurd h.0

deltas_fair : {R : Type 0} {g : InputGhosts R} (trees : List PathMap) → AreFair {S = ItemStream R g} LaterIn FailsIn (TakesDeltas trees)
deltas_fair trees old new (Ok applied) h = record { later = h.1.later; peer = tt }
deltas_fair trees old new (Err (fault.Edit e)) h = record { later = tt; peer = λ told. let d : e ≡ edit.PeerFailed = cc in h.0.1 d }
deltas_fair trees old new (Err fault.Refused) h = absurd h.0
deltas_fair trees old new (Err fault.BadAnswer) h = absurd h.0

-- ---- on an input and an output

abbrev LaterOn : {R O : Type 0} {g : InputGhosts R} {h : OutputGhosts O} → ItemStream R g × Sink O h → ItemStream R g × Sink O h → Type 0
LaterOn {R} {O} {g} {h} old new = IsLater old.0 new.0 × (h.failures (inner_of old.1) ≤ h.failures (inner_of new.1))

abbrev FailsOn : {R O : Type 0} {g : InputGhosts R} {h : OutputGhosts O} → ItemStream R g × Sink O h → ItemStream R g × Sink O h → Type 0
FailsOn old new = FailsMeanwhile old new

joins_on : {R O : Type 0} {g : InputGhosts R} {h : OutputGhosts O} → Joins {S = ItemStream R g × Sink O h} LaterOn FailsOn
joins_on {R} {O} {g} {h} = record {
  join = λ a b c l k. (omega (arith, l.0, k.0), omega (arith, l.1, k.1));
  shift = shift_on;
}
  where
    shift_on : (a b c : ItemStream R g × Sink O h) → LaterOn a b → FailsOn b c → FailsOn a c
    shift_on a b c l (inl r) = inl (joins_in.shift a.0 b.0 c.0 l.0 r)
    shift_on a b c l (inr r) = inr (rose_later (h.failures (inner_of a.1)) (h.failures (inner_of b.1)) (h.failures (inner_of c.1)) l.1 r)

on_input : {R O A : Type 0} {g : InputGhosts R} {h : OutputGhosts O} (step : ItemStream R g → ItemStream R g → Result A ClientFault → Type 0) → AreFair LaterIn FailsIn step → AreFair {S = ItemStream R g × Sink O h} LaterOn FailsOn (OnInput step)
on_input {R} {O} {A} {g} {h} step one old new (Ok v) k = record { later = ((one old.0 new.0 (Ok v) k.0).later, (let e = ap (λ o. h.failures (inner_of o)) k.1 in omega (arith, e))); peer = tt }
on_input step one old new (Err f) k = record { later = tt; peer = λ told. inl ((one old.0 new.0 (Err f) k.0).peer told) }

on_output : {R O : Type 0} {g : InputGhosts R} {h : OutputGhosts O} (bytes : List ℕ) → AreFair {S = ItemStream R g × Sink O h} LaterOn FailsOn (OnOutput (Sends bytes))
on_output {R} {O} {g} {h} bytes old new (Ok u) k = record { later = ((let e = ap (λ i. g.failures (reader_of i)) k.1 in omega (arith, e)), k.0.later); peer = tt }
on_output bytes old new (Err f) k = record { later = tt; peer = λ told. unsent f k.0.refused told }
  where
    unsent : {B : Type 0} {before now : ℕ} (f : ClientFault) → IsUnwritten before now f → f ≡ fault.Edit edit.PeerFailed → B ⊎ Rose before now
    unsent f (inl r) told = inr r.1
    unsent f (inr r) told = cc

idle : {R O : Type 0} {g : InputGhosts R} {h : OutputGhosts O} → AreFair {S = ItemStream R g × Sink O h} LaterOn FailsOn IsIdle
idle {R} {O} {g} {h} old new (Ok u) k = record { later = ((let e = ap (λ s. g.failures (reader_of s.0)) k.0 in omega (arith, e)), (let e = ap (λ s. h.failures (inner_of s.1)) k.0 in omega (arith, e))); peer = tt }
idle old new (Err f) k = cc

-- ---- exchanges

asks_fair : {R O A : Type 0} {g : InputGhosts R} {h : OutputGhosts O} (c : Command) (answer : ItemStream R g → ItemStream R g → Result A ClientFault → Type 0) → AreFair LaterIn FailsIn answer → AreFair {S = ItemStream R g × Sink O h} LaterOn FailsOn (Asks c answer)
asks_fair c answer one = follows_fair LaterOn FailsOn _ _ joins_on (on_output (spell (command_item c))) (λ _. on_input _ (follows_fair LaterIn FailsIn _ _ joins_in (item_fair same authorised_said) (λ _. one)))

pub latest_tells : {R O : Type 0} {g : InputGhosts R} {h : OutputGhosts O} (old new : ItemStream R g × Sink O h) (r : Result ℕ ClientFault) → AsksLatest old new r → TellsPeer old new r
latest_tells old new r k = (asks_fair LatestRev _ (item_fair same number_said) old new r k).peer

pub props_tells : {R O : Type 0} {g : InputGhosts R} {h : OutputGhosts O} (n : ℕ) (old new : ItemStream R g × Sink O h) (r : Result PropMap ClientFault) → AsksProps n old new r → TellsPeer old new r
props_tells n old new r k = (asks_fair (RevProplist n) _ (within_fair same proplist_said proplist_past) old new r k).peer

revision_fair : {R : Type 0} {g : InputGhosts R} (trees : List PathMap) → AreFair {S = ItemStream R g} LaterIn FailsIn (TakesRevision trees)
revision_fair trees = follows_fair LaterIn FailsIn _ _ joins_in (within_fair same revprops_said revprops_past) (λ props. follows_fair LaterIn FailsIn _ _ joins_in (edit_fair trees) (λ applied. gives_fair LaterIn FailsIn _ (applied, props) (item_fair same done_said)))

pub revision_tells : {R O : Type 0} {g : InputGhosts R} {h : OutputGhosts O} (n : ℕ) (trees : List PathMap) (old new : ItemStream R g × Sink O h) (r : Result (Applied × PropMap) ClientFault) → AsksRevision n trees old new r → TellsPeer old new r
revision_tells n trees old new r k = (asks_fair (ReplayRange n n) _ (revision_fair trees) old new r k).peer

delta_revision_fair : {R : Type 0} {g : InputGhosts R} (trees : List PathMap) → AreFair {S = ItemStream R g} LaterIn FailsIn (TakesDeltaRevision trees)
delta_revision_fair trees = follows_fair LaterIn FailsIn _ _ joins_in (within_fair same revprops_said revprops_past) (λ props. follows_fair LaterIn FailsIn _ _ joins_in (deltas_fair trees) (λ applied. gives_fair LaterIn FailsIn _ (applied, props) (item_fair same done_said)))

pub deltas_tells : {R O : Type 0} {g : InputGhosts R} {h : OutputGhosts O} (n : ℕ) (trees : List PathMap) (old new : ItemStream R g × Sink O h) (r : Result (Applied × PropMap) ClientFault) → AsksDeltas n trees old new r → TellsPeer old new r
deltas_tells n trees old new r k = (asks_fair (ReplayRange n n) _ (delta_revision_fair trees) old new r k).peer

logs_fair : {R O : Type 0} {g : InputGhosts R} {h : OutputGhosts O} (asks : Bool) → AreFair {S = ItemStream R g × Sink O h} LaterOn FailsOn (LogsIn asks)
logs_fair false = idle
logs_fair true = follows_fair LaterOn FailsOn _ _ joins_on (on_output (spell anonymous)) (λ _. on_input _ (item_fair same done_said))

opens_fair : {R O A : Type 0} {g : InputGhosts R} {h : OutputGhosts O} (view : A → Repository) (url : List ℕ) → AreFair {S = ItemStream R g × Sink O h} LaterOn FailsOn (Opens view url)
opens_fair view url = follows_fair LaterOn FailsOn _ _ joins_on (on_input _ (item_fair same greeting_said)) (λ _. follows_fair LaterOn FailsOn _ _ joins_on (on_output (spell (hello url))) (λ _. follows_fair LaterOn FailsOn _ _ joins_on (on_input _ (item_fair same asks_said)) (λ asks. follows_fair LaterOn FailsOn _ _ joins_on (logs_fair asks) (λ _. on_input _ (item_fair view welcome_said)))))

pub opens_tells : {R O A : Type 0} {g : InputGhosts R} {h : OutputGhosts O} (view : A → Repository) (url : List ℕ) (old new : ItemStream R g × Sink O h) (r : Result A ClientFault) → Opens view url old new r → TellsPeer old new r
opens_tells view url old new r k = (opens_fair view url old new r k).peer
