-- Records that are taken one after another, and what becomes of the stream that brings them.
use Rattle.std.specs.Prelude.{◌≡◌, ◌⊎◌, ℕ, Bool, true, false, List, [], ◌∷◌, ◌++◌, Option}
use Rattle.std.specs.Io.KnownBytes.{Consumes, IsAtEnd}
use Rattle.node_base.specs.declared.refusal.Refusal.{Refusal}
use Rattle.node_base.specs.declared.refusal.Refusal.TheVariants.{Truncated, PeerFailed, OutOfMemory}
use Rattle.dump_text.specs.Faults.{dump_refusal}
use Rattle.dump_text.specs.Streams.{Reads, Refuses, dump_by, records_of, is_between}
use Rattle.dump_text.specs.declared.fault.DumpFault.{DumpFault}
use Rattle.dump_text.specs.declared.record.DumpRecord.{DumpRecord}
use Rattle.dump_text.specs.declared.state.ReadState.{ReadState}

-- who takes records, where he keeps what he makes of them, and who is told
pub record Place (K S O : Type 0) : Type 0 where
  pub taker : K
  pub store : S
  pub output : O

abbrev pub place : {K S O : Type 0} → K → S → O → Place K S O
place k s o = record { taker = k; store = s; output = o }

-- records one after another, each of which is taken
abbrev pub TakesAll : {P : Type 0} → (P → DumpRecord → P → Type 0) → P → List DumpRecord → P → Type 0
TakesAll {P} takes p [] q = q ≡ p
TakesAll {P} takes p (r ∷ rs) q = (m : P) × takes p r m × TakesAll takes m rs q

-- of some records the first were taken, and the next was refused
pub record Stops {P : Type 0} (takes : P → DumpRecord → P → Type 0) (refuses : P → DumpRecord → Refusal → P → Type 0) (first : P) (rs : List DumpRecord) (e : Refusal) (last : P) : Type 0 where
  pub taken : List DumpRecord
  pub next : DumpRecord
  pub rest : List DumpRecord
  pub split : rs ≡ taken ++ next ∷ rest
  pub before : P
  pub front : TakesAll takes first taken before
  pub why : refuses before next e last

-- bytes, in which texts may be given as deltas or may not, were read as records, and these were taken
pub record Reached {P : Type 0} (deltas : Bool) (takes : P → DumpRecord → P → Type 0) (bytes : List ℕ) (reader : ReadState) (first now : P) : Type 0 where
  pub records : List DumpRecord
  pub read : dump_by deltas bytes ≡ Reads records reader
  pub taken : TakesAll takes first records now

-- a stream is a whole dump, whose records were taken, and then its end
pub record Done {P : Type 0} (deltas : Bool) (takes : P → DumpRecord → P → Type 0) (ends : P → P → Type 0) (bytes : List ℕ) (first last : P) : Type 0 where
  pub reader : ReadState
  pub before : P
  pub reached : Reached deltas takes bytes reader first before
  pub ended : is_between reader ≡ true
  pub end : ends before last

-- a stream is refused, and the records before that were taken: the next one is refused; or the byte behind them shows a fault of the text; or the stream ends there, in a record; or its end is refused; or memory ran out, or a peer failed, before the next record was taken
pub data Halts {P : Type 0} (deltas : Bool) (takes : P → DumpRecord → P → Type 0) (refuses : P → DumpRecord → Refusal → P → Type 0) (cant_end : P → Refusal → P → Type 0) (bytes : List ℕ) (first : P) (e : Refusal) (last : P) : Type 0 where
  record_refused : (rs : List DumpRecord) (next : DumpRecord) (more : List DumpRecord) (before : P) → records_of (dump_by deltas bytes) ≡ rs ++ next ∷ more → TakesAll takes first rs before → refuses before next e last → Halts deltas takes refuses cant_end bytes first e last
  byte_refused : (rs : List DumpRecord) (f : DumpFault) → dump_by deltas bytes ≡ Refuses rs f → TakesAll takes first rs last → e ≡ dump_refusal f → Halts deltas takes refuses cant_end bytes first e last
  cut_short : (reader : ReadState) → Reached deltas takes bytes reader first last → is_between reader ≡ false → e ≡ Truncated → Halts deltas takes refuses cant_end bytes first e last
  end_refused : (reader : ReadState) (before : P) → Reached deltas takes bytes reader first before → is_between reader ≡ true → cant_end before e last → Halts deltas takes refuses cant_end bytes first e last
  stopped : (rs more : List DumpRecord) → records_of (dump_by deltas bytes) ≡ rs ++ more → TakesAll takes first rs last → (e ≡ OutOfMemory) ⊎ (e ≡ PeerFailed) → Halts deltas takes refuses cant_end bytes first e last

-- these bytes of a stream were read, and what is said of its bytes holds whatever follows them, or they were all
pub record OfStream (old now : Option (List ℕ)) (says : List ℕ → Type 0) : Type 0 where
  pub bytes : List ℕ
  pub read : Consumes old now bytes
  pub holds : ((rest : List ℕ) → says (bytes ++ rest)) ⊎ (IsAtEnd now × says bytes)
