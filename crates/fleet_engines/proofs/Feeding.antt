-- Pieces of a stream, and what they bring.
use Rattle.std.proofs.Common.{◌≡◌, ℕ, ◌⊎◌, Bool, true, false, List, [], ◌∷◌, ◌++◌, Result, Ok, Err, refl, sym, ap, subst, ◌∙◌, append_assoc, append-nil, inl, inr}
use Rattle.std.proofs.lemmas.Bool.{false≢true, true≢false}
use Rattle.std.specs.Bool.{if◌then◌else◌}
use Rattle.std.specs.Result.{OnErr, is_ok}
use Rattle.node_base.specs.declared.refusal.Refusal.{Refusal}
use Rattle.node_base.specs.declared.refusal.Refusal.TheVariants.{PeerFailed}
use Rattle.dump_text.specs.declared.fault.DumpFault.{DumpFault}
use Rattle.dump_text.specs.declared.fault.DumpFault.TheVariants.{Failed, OutOfMemory, Truncated}
use Rattle.dump_text.specs.declared.record.DumpRecord.{DumpRecord}
use Rattle.dump_text.specs.declared.state.ReadState.{ReadState}
use Rattle.dump_text.specs.Faults.{dump_refusal}
use Rattle.dump_text.specs.Streams.{Stream, Reads, Refuses, reading, dump_by, fresh_by, one_byte, records_of, has_failed, is_between, IsFront, StreamIs}
use Rattle.fleet_engines.specs.Pieces.{behind}
use Rattle.fleet_engines.specs.Takers.{TakesAll, Stops, Reached, Halts, record_refused, byte_refused, cut_short, stopped}
use Rattle.fleet_engines.proofs.Behind.{not_failed, records_dont_matter}

-- ---- pieces

joins : (s : Stream) (a b : List ℕ) → reading s (a ++ b) ≡ reading (reading s a) b
joins s [] b = refl
joins s (x ∷ a) b = joins (one_byte s x) a b

stays : (rs : List DumpRecord) (f : DumpFault) (bs : List ℕ) → reading (Refuses rs f) bs ≡ Refuses rs f
stays rs f [] = refl
stays rs f (b ∷ bs) = stays rs f bs

records_behind : (rs : List DumpRecord) (s : Stream) → records_of (behind rs s) ≡ rs ++ records_of s
records_behind rs (Reads xs r) = refl
records_behind rs (Refuses xs f) = refl

-- a reader goes on behind the records that it has given
goes_on : (rs : List DumpRecord) (r : ReadState) (bs : List ℕ) → reading (Reads rs r) bs ≡ behind rs (reading (Reads [] r) bs)
goes_on rs r bs = ap (λ x. reading (Reads x r) bs) (sym (append-nil rs)) ∙ records_dont_matter rs (Reads [] r) bs

dump_on : (deltas : Bool) (bytes piece : List ℕ) (rs : List DumpRecord) (r : ReadState) → dump_by deltas bytes ≡ Reads rs r → dump_by deltas (bytes ++ piece) ≡ behind rs (reading (Reads [] r) piece)
dump_on deltas bytes piece rs r e = joins (Reads [] (fresh_by deltas)) bytes piece ∙ ap (λ s. reading s piece) e ∙ goes_on rs r piece

pub later_records : (deltas : Bool) (bytes rest : List ℕ) (rs : List DumpRecord) (r : ReadState) → dump_by deltas bytes ≡ Reads rs r → (more : List DumpRecord) × (records_of (dump_by deltas (bytes ++ rest)) ≡ rs ++ more)
later_records deltas bytes rest rs r e = (records_of (reading (Reads [] r) rest), ap records_of (dump_on deltas bytes rest rs r e) ∙ records_behind rs (reading (Reads [] r) rest))

grows : (s : Stream) (bs : List ℕ) → (more : List DumpRecord) × (records_of (reading s bs) ≡ records_of s ++ more)
grows (Reads rs r) bs = (records_of (reading (Reads [] r) bs), ap records_of (goes_on rs r bs) ∙ records_behind rs (reading (Reads [] r) bs))
grows (Refuses rs f) bs = ([], ap records_of (stays rs f bs) ∙ sym (append-nil rs))

-- records of a piece are the next ones of the stream
next_records : (deltas : Bool) (bytes piece rest : List ℕ) (rs out : List DumpRecord) (r : ReadState) → dump_by deltas bytes ≡ Reads rs r → IsFront out (reading (Reads [] r) piece) → (more : List DumpRecord) × (records_of (dump_by deltas ((bytes ++ piece) ++ rest)) ≡ (rs ++ out) ++ more)
next_records deltas bytes piece rest rs out r e front =
    let s = reading (Reads [] r) piece in
    let g = grows (dump_by deltas (bytes ++ piece)) rest in
    let here : records_of (dump_by deltas (bytes ++ piece)) ≡ (rs ++ out) ++ front.0 =
    ap records_of (dump_on deltas bytes piece rs r e) ∙ records_behind rs s ∙ ap (λ x. rs ++ x) front.1 ∙ sym (append_assoc rs out front.0) in
    (front.0 ++ g.0, ap records_of (joins (Reads [] (fresh_by deltas)) (bytes ++ piece) rest) ∙ g.1 ∙ ap (λ x. x ++ g.0) here ∙ append_assoc (rs ++ out) front.0 g.0)

-- what a call of the reader answers
refuses_or_lacks : (f : DumpFault) (new : ReadState) (out : List DumpRecord) (s : Stream) → StreamIs (Err f) new out s → (f ≡ OutOfMemory) ⊎ (s ≡ Refuses out f)
refuses_or_lacks OutOfMemory new out s h = inl refl
refuses_or_lacks f new out s h = inr h

front_of : (a : Result (Unit {0}) DumpFault) (new : ReadState) (out : List DumpRecord) (s : Stream) → StreamIs a new out s → OnErr a (IsFront out s) → IsFront out s
front_of (Ok u) new out s h p = ([], ap records_of h ∙ sym (append-nil out))
front_of (Err f) new out s h p = p

-- ---- the end

fault_in : Result (Unit {0}) DumpFault → DumpFault
fault_in (Ok u) = Failed
fault_in (Err f) = f

fits_end : (b : Bool) (u : Unit {0}) → ◌≡◌ {A = Result (Unit {0}) DumpFault} (Ok u) (if b then Ok tt else Err Truncated) → b ≡ true
fits_end true u e = refl
fits_end false u e = absurd (true≢false (ap is_ok e))

no_end : (b : Bool) (f : DumpFault) → ◌≡◌ {A = Result (Unit {0}) DumpFault} (Err f) (if b then Ok tt else Err Truncated) → (b ≡ false) × (f ≡ Truncated)
unfolding fault_in
no_end true f e = absurd (false≢true (ap is_ok e))
no_end false f e = (refl, ap fault_in e)

-- ---- who takes the records

regroup : (a b : List DumpRecord) (x : DumpRecord) (c d : List DumpRecord) → (a ++ (b ++ x ∷ c)) ++ d ≡ (a ++ b) ++ x ∷ (c ++ d)
regroup a b x c d = ap (λ l. l ++ d) (sym (append_assoc a b (x ∷ c))) ∙ append_assoc (a ++ b) (x ∷ c) d

-- records more
pub takes_on : {P : Type 0} (takes : P → DumpRecord → P → Type 0) (p m q : P) (rs more : List DumpRecord) → TakesAll takes p rs m → TakesAll takes m more q → TakesAll takes p (rs ++ more) q
takes_on takes p m q [] more t k = subst (λ x. TakesAll takes x more q) t k
takes_on takes p m q (r ∷ rs) more t k = (t.0, t.1, takes_on takes t.0 m q rs more t.2 k)

module _ {P : Type 0} (deltas : Bool) (takes : P → DumpRecord → P → Type 0) (refuses : P → DumpRecord → Refusal → P → Type 0) (cant_end : P → Refusal → P → Type 0) where
  -- a piece is taken
  pub fed_ok : (bytes piece : List ℕ) (old new : ReadState) (out : List DumpRecord) (first a b : P) → (has_failed old ≡ false → reading (Reads [] old) piece ≡ Reads out new) → TakesAll takes a out b
      → Reached deltas takes bytes old first a → Reached deltas takes (bytes ++ piece) new first b
  fed_ok bytes piece old new out first a b h t p = record {
    records = p.records ++ out;
    read = dump_on deltas bytes piece p.records old p.read ∙ ap (behind p.records) (h (not_failed deltas bytes p.records old p.read));
    taken = takes_on takes first a b p.records out p.taken t;
  }

  -- a piece shows a fault, and its records before that were taken
  pub fed_err : (bytes piece rest : List ℕ) (old new : ReadState) (out : List DumpRecord) (first a b : P) (f : DumpFault)
      → (has_failed old ≡ false → StreamIs (Err f) new out (reading (Reads [] old) piece)) → (has_failed old ≡ false → IsFront out (reading (Reads [] old) piece)) → TakesAll takes a out b
      → Reached deltas takes bytes old first a → Halts deltas takes refuses cant_end ((bytes ++ piece) ++ rest) first (dump_refusal f) b
  fed_err bytes piece rest old new out first a b f h front t p =
      let fine = not_failed deltas bytes p.records old p.read in
      let all = takes_on takes first a b p.records out p.taken t in
      elim (refuses_or_lacks f new out (reading (Reads [] old) piece) (h fine)) [
        | inl lacks ↦ let n = next_records deltas bytes piece rest p.records out old p.read (front fine) in stopped (p.records ++ out) n.0 n.1 all (inl (ap dump_refusal lacks))
        | inr shown ↦
            byte_refused (p.records ++ out) f
            (joins (Reads [] (fresh_by deltas)) (bytes ++ piece) rest ∙ ap (λ s. reading s rest) (dump_on deltas bytes piece p.records old p.read ∙ ap (behind p.records) shown) ∙ stays (p.records ++ out) f rest)
            all refl
      ]

  -- a record of a piece isn't taken
  pub fed_stops : (bytes piece rest : List ℕ) (old new : ReadState) (out : List DumpRecord) (first a b : P) (answer : Result (Unit {0}) DumpFault) (e : Refusal)
      → (has_failed old ≡ false → StreamIs answer new out (reading (Reads [] old) piece)) → (has_failed old ≡ false → OnErr answer (IsFront out (reading (Reads [] old) piece))) → Stops takes refuses a out e b
      → Reached deltas takes bytes old first a → Halts deltas takes refuses cant_end ((bytes ++ piece) ++ rest) first e b
  fed_stops bytes piece rest old new out first a b answer e h front s p =
      let fine = not_failed deltas bytes p.records old p.read in
      let n = next_records deltas bytes piece rest p.records out old p.read (front_of answer new out (reading (Reads [] old) piece) (h fine) (front fine)) in
      let all : records_of (dump_by deltas ((bytes ++ piece) ++ rest)) ≡ (p.records ++ s.taken) ++ s.next ∷ (s.rest ++ n.0) =
      n.1 ∙ ap (λ x. (p.records ++ x) ++ n.0) s.split ∙ regroup p.records s.taken s.next s.rest n.0 in
      record_refused (p.records ++ s.taken) s.next (s.rest ++ n.0) s.before all (takes_on takes first a s.before p.records s.taken p.taken s.front) s.why

  -- the reader failed behind these bytes
  pub peer_failed : (bytes rest : List ℕ) (reader : ReadState) (first now : P) (e : Refusal) → e ≡ PeerFailed → Reached deltas takes bytes reader first now → Halts deltas takes refuses cant_end (bytes ++ rest) first e now
  peer_failed bytes rest reader first now e d p = let n = later_records deltas bytes rest p.records reader p.read in stopped p.records n.0 n.1 p.taken (inr d)

  -- the end comes in a record
  pub is_cut : (bytes : List ℕ) (reader : ReadState) (first now : P) (r : Result (Unit {0}) DumpFault) (f : DumpFault) → (has_failed reader ≡ false → r ≡ (if is_between reader then Ok tt else Err Truncated)) → r ≡ Err f
      → Reached deltas takes bytes reader first now → Halts deltas takes refuses cant_end bytes first (dump_refusal f) now
  is_cut bytes reader first now r f h e p = let n = no_end (is_between reader) f (sym e ∙ h (not_failed deltas bytes p.records reader p.read)) in cut_short reader p n.0 (ap dump_refusal n.1)

-- the end comes between records
pub ends_between : {P : Type 0} (deltas : Bool) (takes : P → DumpRecord → P → Type 0) (bytes : List ℕ) (reader : ReadState) (first now : P) (r : Result (Unit {0}) DumpFault) (u : Unit {0}) → (has_failed reader ≡ false → r ≡ (if is_between reader then Ok tt else Err Truncated)) → r ≡ Ok u
    → Reached deltas takes bytes reader first now → is_between reader ≡ true
ends_between deltas takes bytes reader first now r u h e p = fits_end (is_between reader) u (sym e ∙ h (not_failed deltas bytes p.records reader p.read))
