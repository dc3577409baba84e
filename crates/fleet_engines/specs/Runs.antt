-- What is made of a dump, and what the answer says of the bytes that were read.
use Rattle.std.specs.Prelude.{◌≡◌, ◌≤◌, ℕ, ◌-◌, ◌⊎◌, ◌&&◌, ◌||◌, not, Bool, true, false, List, [], ◌∷◌, ◌++◌, map, length, Option, Result, Ok, Err, if◌then◌else◌}
use Rattle.std.specs.Option.{option_map_or}
use Rattle.std.specs.List.{flat_map, slice_get}
use Rattle.std.specs.Io.KnownBytes.{Appends}
use Rattle.byte_streams.specs.Causes.{Counts, Fails, Rose}
use Rattle.node_base.specs.Tree.{PathMap}
use Rattle.node_base.specs.declared.refusal.Refusal.{Refusal}
use Rattle.node_base.specs.declared.refusal.Refusal.TheVariants.{Truncated, PeerFailed, OutOfMemory}
use Rattle.dump_text.specs.declared.record.DumpRecord.{DumpRecord}
use Rattle.dump_text.specs.declared.fault.DumpFault.{DumpFault}
use Rattle.dump_text.specs.declared.state.ReadState.{ReadState}
use Rattle.dump_text.specs.Canon.{canon_head, canon_entry, canon_node}
use Rattle.dump_text.specs.Streams.{Reads, Refuses, dump_by, records_of, is_between}
use Rattle.fleet_engines.specs.declared.product.Product.{Product}
use Rattle.fleet_engines.specs.declared.product.Product.TheVariants.{List as ListIt, Canon}
use Rattle.fleet_engines.specs.Listing.{listing}
use Rattle.dump_text.specs.Faults.{dump_refusal}
use Rattle.whole_texts.specs.Whole.{node_in}
use Rattle.fleet_engines.specs.Revisions.{Rev, Told, untold, is_lone, is_past_zero, Closes, CantClose, Takes, CantTake, Tells}

-- a revision in its canonical spelling
abbrev pub canon_of : Rev → List ℕ
canon_of r = canon_entry r.number r.props ++ flat_map canon_node (map node_in r.nodes)

-- the head and revision 0 in theirs
abbrev pub head_of : Told → List ℕ
head_of t = canon_head t.identity ++ canon_entry 0 t.zero

-- the listing of the newest tree
abbrev pub newest_listing : List PathMap → List ℕ
newest_listing trees = option_map_or (λ tree. listing (length trees - 1) tree) (slice_get trees (length trees - 1)) []

-- a revision other than 0 has begun
abbrev pub has_begun : Told → Bool
has_begun t = not (is_lone t.trees) || is_past_zero t.last

-- what is written behind some records: nothing of a listing; of a canonical spelling the head and revision 0 once another revision has begun, and each later revision that is whole
abbrev pub due : Product → Told → List Rev → List ℕ
due ListIt t out = []
due Canon t out = if has_begun t then head_of t ++ flat_map canon_of out else []

-- what is written of a whole stream
abbrev pub whole : Product → Told → List Rev → List ℕ
whole ListIt t out = newest_listing t.trees
whole Canon t out = head_of t ++ flat_map canon_of out

-- what a record adds: nothing to a listing; to a canonical spelling the head and revision 0, where another revision begins by it, and the revision that is whole by it
abbrev pub adds : Product → Told → Told → List Rev → List ℕ
adds ListIt t u out = []
adds Canon t u out = (if not (has_begun t) && has_begun u then head_of u else []) ++ flat_map canon_of out

-- what the end adds
abbrev pub ending : Product → Told → Told → List Rev → List ℕ
ending ListIt t u newest = newest_listing u.trees
ending Canon t u newest = (if not (has_begun t) then head_of u else []) ++ flat_map canon_of newest

-- what the records have told, what a writer holds, and how often it failed
pub record Held : Type 0 where
  pub told : Told
  pub contents : Option (List ℕ)
  pub failures : ℕ

-- a record more is taken
abbrev pub TakesOne : Product → Held → DumpRecord → Held → Type 0
TakesOne c p r q = (out : List Rev) × Takes p.told r q.told out × Appends p.contents q.contents (adds c p.told q.told out) × (q.failures ≡ p.failures)

-- it isn't: the writer failed; or nothing is written, and memory ran out or the record is refused
abbrev pub RefusesOne : Held → DumpRecord → Refusal → Held → Type 0
RefusesOne p r e q = Rose p.failures q.failures ⊎ ((q.contents ≡ p.contents) × ((e ≡ OutOfMemory) ⊎ CantTake p.told r e))

-- the last revision is whole, and what the end adds is written
abbrev pub EndsWith : Product → Held → Held → Type 0
EndsWith c p q = (all : Told) × (newest : List Rev) × Closes p.told all newest × Appends p.contents q.contents (ending c p.told all newest)

-- it isn't: the writer failed; or nothing is written, and memory ran out or the last revision is refused
abbrev pub CantEnd : Held → Refusal → Held → Type 0
CantEnd p e q = Rose p.failures q.failures ⊎ ((q.contents ≡ p.contents) × ((e ≡ OutOfMemory) ⊎ CantClose p.told e))

-- the records have told that, and what a writer holds is what it held at the start and what is due
pub record Stands (c : Product) (rs : List DumpRecord) (t : Told) (start now : Option (List ℕ)) : Type 0 where
  pub out : List Rev
  pub tells : Tells untold rs t out
  pub written : Appends start now (due c t out)

-- why a stream, in which texts may be given as deltas or may not, is refused behind some records that told that: the next record can't be taken; or the byte behind them shows a fault of the text; or the stream ends there, in a record; or the last revision can't be closed; or memory ran out, or a peer failed, before the next record was taken
pub data Why (deltas : Bool) (bytes : List ℕ) (rs : List DumpRecord) (t : Told) (e : Refusal) : Type 0 where
  record_refused : (r : DumpRecord) (more : List DumpRecord) → records_of (dump_by deltas bytes) ≡ rs ++ r ∷ more → CantTake t r e → Why deltas bytes rs t e
  byte_refused : (f : DumpFault) → dump_by deltas bytes ≡ Refuses rs f → e ≡ dump_refusal f → Why deltas bytes rs t e
  cut_short : (reader : ReadState) → dump_by deltas bytes ≡ Reads rs reader → is_between reader ≡ false → e ≡ Truncated → Why deltas bytes rs t e
  last_refused : (reader : ReadState) → dump_by deltas bytes ≡ Reads rs reader → is_between reader ≡ true → CantClose t e → Why deltas bytes rs t e
  stopped : (more : List DumpRecord) → records_of (dump_by deltas bytes) ≡ rs ++ more → (e ≡ OutOfMemory) ⊎ (e ≡ PeerFailed) → Why deltas bytes rs t e

-- a stream is refused, and what is due of the records before the fault is written, and nothing else
pub record Refused (deltas : Bool) (c : Product) (bytes : List ℕ) (start now : Option (List ℕ)) (e : Refusal) : Type 0 where
  pub records : List DumpRecord
  pub told : Told
  pub stands : Stands c records told start now
  pub why : Why deltas bytes records told e

-- a stream is a whole dump, each of its revisions makes a tree, and what it comes to is written, and nothing else
pub record Accepted (deltas : Bool) (c : Product) (bytes : List ℕ) (start now : Option (List ℕ)) : Type 0 where
  pub records : List DumpRecord
  pub reader : ReadState
  pub read : dump_by deltas bytes ≡ Reads records reader
  pub ended : is_between reader ≡ true
  pub told : Told
  pub out : List Rev
  pub tells : Tells untold records told out
  pub all : Told
  pub newest : List Rev
  pub closes : Closes told all newest
  pub written : Appends start now (whole c all (out ++ newest))

-- an output's failure is told by PeerFailed, and by nothing else: its count of failures rose, and else it is as it was
abbrev pub Counted : {T : Type 0} → Result T Refusal → ℕ → ℕ → Type 0
Counted (Ok x) before now = now ≡ before
Counted (Err e) before now = ((e ≡ PeerFailed) × Rose before now) ⊎ ((e ≡ PeerFailed → ⊥) × (now ≡ before))

-- the same for an input and an output; the input fails too where it was read as often as one stream may be
abbrev pub BothCounted : {T : Type 0} → Result T Refusal → Counts → ℕ → ℕ → Type 0
BothCounted (Ok x) input before now = (input.now ≡ input.before) × (now ≡ before)
BothCounted (Err e) input before now = (input.before ≤ input.now) × (((e ≡ PeerFailed) × (Fails input ⊎ Rose before now)) ⊎ ((e ≡ PeerFailed → ⊥) × (input.now ≡ input.before) × (now ≡ before)))
