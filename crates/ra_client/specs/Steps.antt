-- What a client does to its input and its output, step by step.
use Rattle.std.specs.Prelude.{◌≡◌, ◌⊎◌, ℕ, ◌≤◌, Bool, true, false, List, [], ◌∷◌, Option, Result, Ok, Err, OnOk, IfErr}
use Rattle.std.specs.Io.KnownBytes.{Appends, Keeps}
use Rattle.std.specs.declared.io.Error.{Error}
use Rattle.byte_streams.specs.declared.input.Input.{Ghosts as InputGhosts}
use Rattle.byte_streams.specs.declared.output.Output.{Ghosts as OutputGhosts}
use Rattle.byte_streams.specs.Causes.{Counts, Rose, Fails}
use Rattle.byte_streams.specs.Sinks.{inner_of}
use Rattle.byte_streams.specs.declared.sink.Sink.{Sink}
use Rattle.node_base.specs.Tree.{PathMap}
use Rattle.dump_load.specs.declared.load.Applied.{Applied}
use Rattle.ra_item.specs.Items.{Item}
use Rattle.ra_item.specs.Streams.{Stream}
use Rattle.ra_item.specs.ItemStreams.{Takes, Ends, Stops, reader_of, meanwhile, is_spent, ahead}
use Rattle.ra_item.specs.declared.fault.NextFault.{NextFault}
use Rattle.ra_item.specs.declared.stream.ItemStream.{ItemStream}
use Rattle.ra_edit.specs.declared.edit_fault.EditFault.TheVariants as edit
use Rattle.edit_road.specs.Receiving.{IsNextEdit, IsNextOfDeltas, Receives, Refuses, RefusesEdit, RefusesNextOfDeltas}
use Rattle.ra_client.specs.Faults.{of_next}
use Rattle.ra_client.specs.Said.{Reply, ToldWithin, never}
use Rattle.ra_client.specs.declared.fault.ClientFault.{ClientFault}
use Rattle.ra_client.specs.declared.fault.ClientFault.TheVariants as fault

-- ---- one behind another

-- the first is refused, or the second is done with what comes of the first
pub data Follows {S A B : Type 0} (first : S → S → Result A ClientFault → Type 0) (second : A → S → S → Result B ClientFault → Type 0) (old new : S) (result : Result B ClientFault) : Type 0 where
  Stopped : (f : ClientFault) → first old new (Err f) → result ≡ Err f → Follows first second old new result
  Went : (mid : S) (v : A) → first old mid (Ok v) → second v mid new result → Follows first second old new result

-- a step of which nothing comes, and then this
abbrev pub Gives : {S A : Type 0} → (S → S → Result (Unit {0}) ClientFault → Type 0) → A → S → S → Result A ClientFault → Type 0
Gives step v old new (Ok w) = step old new (Ok tt) × (w ≡ v)
Gives step v old new (Err f) = step old new (Err f)

-- nothing is done
abbrev pub IsIdle : {S : Type 0} → S → S → Result (Unit {0}) ClientFault → Type 0
IsIdle old new result = (new ≡ old) × (result ≡ Ok tt)

-- of an input and an output the one takes a step, and the other stays
abbrev pub OnInput : {S O A : Type 0} → (S → S → Result A ClientFault → Type 0) → S × O → S × O → Result A ClientFault → Type 0
OnInput step old new result = step old.0 new.0 result × (new.1 ≡ old.1)

abbrev pub OnOutput : {S O A : Type 0} → (O → O → Result A ClientFault → Type 0) → S × O → S × O → Result A ClientFault → Type 0
OnOutput step old new result = step old.1 new.1 result × (new.0 ≡ old.0)

-- ---- reading

-- the next item of a stream: what is made of it, unless it is past a limit; or the bytes end before it, or it is no item
pub data IsNext {A T : Type 0} (view : A → T) (what : Item → Option (Reply T)) (past : Item → Bool) (before after : Option (List ℕ)) (was is : List ℕ → Stream) (spent : Bool) (failed : Counts) (result : Result A ClientFault) : Type 0 where
  OfItem : (x : Item) → Takes (x ∷ []) before after was is → ToldWithin (past x) view (what x) result → IsNext view what past before after was is spent failed result
  OfEnd : Ends [] true before after was → result ≡ Err fault.BadAnswer → IsNext view what past before after was is spent failed result
  OfStream : (e : NextFault) → Stops [] before after was spent failed e → result ≡ Err (of_next e) → IsNext view what past before after was is spent failed result

-- what the input has given meanwhile
abbrev pub counts_of : {R : Type 0} {g : InputGhosts R} → ItemStream R g → ItemStream R g → Counts
counts_of {R} {g} old new = meanwhile g.failures g.reads old new

-- it hasn't failed less often
abbrev pub IsLater : {R : Type 0} {g : InputGhosts R} → ItemStream R g → ItemStream R g → Type 0
IsLater {R} {g} old new = g.failures (reader_of old) ≤ g.failures (reader_of new)

-- the same of a step, behind which the stream isn't spent where it was done
pub record Goes {R A : Type 0} {g : InputGhosts R} (old new : ItemStream R g) (result : Result A ClientFault) : Type 0 where
  pub later : IsLater old new
  pub goes_on : OnOk result (is_spent new ≡ false)

abbrev pub TakesWithin : {R A T : Type 0} {g : InputGhosts R} → (A → T) → (Item → Option (Reply T)) → (Item → Bool) → ItemStream R g → ItemStream R g → Result A ClientFault → Type 0
TakesWithin {R} {A} {T} {g} view what past old new result = IsNext view what past (g.remaining (reader_of old)) (g.remaining (reader_of new)) (ahead old) (ahead new) (is_spent old) (counts_of old new) result × Goes old new result

abbrev pub TakesItem : {R A T : Type 0} {g : InputGhosts R} → (A → T) → (Item → Option (Reply T)) → ItemStream R g → ItemStream R g → Result A ClientFault → Type 0
TakesItem view what = TakesWithin view what never

-- the next items are an edit of which this set is made over these trees, and it has the effect of a set that was to come; or they
-- aren't, and where one was to come, that is for memory or a read that failed
abbrev pub IsEdit : {R : Type 0} {g : InputGhosts R} → List PathMap → ItemStream R g → ItemStream R g → Result Applied ClientFault → Type 0
IsEdit {R} {g} trees old new (Ok a) = IsNextEdit g.remaining trees old new a.set × Receives g.remaining trees old new a.set
IsEdit {R} {g} trees old new (Err (fault.Edit e)) = RefusesEdit g.remaining g.failures g.reads trees old new e × Refuses g.remaining g.failures g.reads trees old new e × (e ≡ edit.PeerFailed → Fails (counts_of old new))
IsEdit trees old new (Err f) = ⊥

abbrev pub TakesEdit : {R : Type 0} {g : InputGhosts R} → List PathMap → ItemStream R g → ItemStream R g → Result Applied ClientFault → Type 0
TakesEdit trees old new result = IsEdit trees old new result × Goes old new result

-- the next items are an edit whose texts come as differences, of which this set is made over these trees; or they aren't
abbrev pub IsDeltas : {R : Type 0} {g : InputGhosts R} → List PathMap → ItemStream R g → ItemStream R g → Result Applied ClientFault → Type 0
IsDeltas {R} {g} trees old new (Ok a) = IsNextOfDeltas g.remaining trees old new a.set
IsDeltas {R} {g} trees old new (Err (fault.Edit e)) = RefusesNextOfDeltas g.remaining g.failures g.reads trees old new e × (e ≡ edit.PeerFailed → Fails (counts_of old new))
IsDeltas trees old new (Err f) = ⊥

abbrev pub TakesDeltas : {R : Type 0} {g : InputGhosts R} → List PathMap → ItemStream R g → ItemStream R g → Result Applied ClientFault → Type 0
TakesDeltas trees old new result = IsDeltas trees old new result × Goes old new result

-- ---- writing

-- why bytes aren't written: the output failed meanwhile, or memory ran out
abbrev pub IsUnwritten : ℕ → ℕ → ClientFault → Type 0
IsUnwritten before now f = ((f ≡ fault.Edit edit.PeerFailed) × Rose before now) ⊎ (f ≡ fault.Edit edit.OutOfMemory)

-- these bytes are written and handed on; or they aren't
pub record Sends {O : Type 0} {h : OutputGhosts O} (bytes : List ℕ) (old new : Sink O h) (result : Result (Unit {0}) ClientFault) : Type 0 where
  pub written : OnOk result (Appends (h.contents (inner_of old)) (h.contents (inner_of new)) bytes)
  pub handed : OnOk result (h.is_handed_on (inner_of new))
  pub later : OnOk result (h.failures (inner_of old) ≤ h.failures (inner_of new))
  pub refused : IfErr result (IsUnwritten (h.failures (inner_of old)) (h.failures (inner_of new)))

-- ---- the next item, before anything is made of it

abbrev pub IsItem : {R : Type 0} {g : InputGhosts R} → ItemStream R g → ItemStream R g → Result Item ClientFault → Type 0
IsItem {R} {g} old new (Ok x) = Takes (x ∷ []) (g.remaining (reader_of old)) (g.remaining (reader_of new)) (ahead old) (ahead new)
IsItem {R} {g} old new (Err f) = ((f ≡ fault.BadAnswer) × Ends [] true (g.remaining (reader_of old)) (g.remaining (reader_of new)) (ahead old)) ⊎ ((e : NextFault) × (f ≡ of_next e) × Stops [] (g.remaining (reader_of old)) (g.remaining (reader_of new)) (ahead old) (is_spent old) (counts_of old new) e)

abbrev pub IsComing : {R : Type 0} {g : InputGhosts R} → ItemStream R g → ItemStream R g → Result Item ClientFault → Type 0
IsComing old new result = IsItem old new result × Goes old new result

-- ---- parts of a writing

-- what is held back is handed on; or the output has failed
pub record IsFlushed {O : Type 0} {h : OutputGhosts O} (old new : Sink O h) (result : Result (Unit {0}) ClientFault) : Type 0 where
  pub kept : OnOk result (Keeps (h.contents (inner_of old)) (h.contents (inner_of new)))
  pub handed : OnOk result (h.is_handed_on (inner_of new))
  pub later : OnOk result (h.failures (inner_of old) ≤ h.failures (inner_of new))
  pub refused : IfErr result (IsUnwritten (h.failures (inner_of old)) (h.failures (inner_of new)))

-- the same behind a run of writes that ended so, before which the output had failed so often
pub record IsHandedOn {O : Type 0} {h : OutputGhosts O} (count : ℕ) (answer : Result (Unit {0}) Error) (old new : Sink O h) (result : Result (Unit {0}) ClientFault) : Type 0 where
  pub ended : OnOk result (answer ≡ Ok tt)
  pub kept : OnOk result (Keeps (h.contents (inner_of old)) (h.contents (inner_of new)))
  pub handed : OnOk result (h.is_handed_on (inner_of new))
  pub later : OnOk result (count ≤ h.failures (inner_of new))
  pub refused : IfErr result (IsUnwritten count (h.failures (inner_of new)))
