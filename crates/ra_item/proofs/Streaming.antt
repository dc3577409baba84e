-- Items that are ready, and what is read behind them.
use Rattle.std.proofs.Common.{◌≡◌, ◌≢◌, ℕ, ◌+◌, ◌≤◌, inl, inr, arith, length, length-append, Bool, true, false, List, [], ◌∷◌, ◌++◌, Option, Result, Ok, Err, refl, sym, ap, subst, ◌∙◌, append_assoc}
use Rattle.std.proofs.lemmas.List.{reverse-reverse, reverse-append, length-reverse}
use Rattle.std.specs.Prelude.{reverse, OnOk}
use Rattle.std.proofs.KnownBytes.{Consumes-nil, Consumes-trans}
use Rattle.ra_item.specs.Items.{Item}
use Rattle.ra_item.specs.Reading.{Step, Next, Gives, Refused, one_step}
use Rattle.byte_streams.specs.Causes.{Counts, Fails}
use Rattle.ra_item.specs.Streams.{Stream, Reads, Refuses, of_step, one_byte, reading, items_of, StreamIs}
use Rattle.ra_item.specs.declared.fault.ItemFault.{ItemFault}
use Rattle.ra_item.specs.declared.fault.ItemFault.TheVariants as item
use Rattle.ra_item.specs.declared.reading.Reading.{Reading}
use Rattle.ra_item.specs.Streams.{is_failed}
use Rattle.ra_item.specs.Rests.{is_open, is_of_byte, is_sound, is_over}
use Rattle.ra_item.proofs.ByteFaults.{of_bytes}
use Rattle.ra_item.proofs.Runs.{reading-append, reading-refused}
use Rattle.ra_item.specs.ItemStreams.{behind, rest_of, Takes, Ends, Breaks, Stops}
use Rattle.ra_item.specs.declared.fault.NextFault.{NextFault}
use Rattle.ra_item.specs.declared.fault.NextFault.TheVariants as next
use Rattle.ra_item.specs.declared.stream.Rest.{Rest}
use Rattle.ra_item.specs.declared.stream.Rest.TheVariants as rest

-- ---- pieces, and items in front

behind_step : (xs ys : List Item) (s : Step) → of_step (xs ++ ys) s ≡ behind xs (of_step ys s)
behind_step xs ys (Next r) = refl
behind_step xs ys (Gives x r) = ap (λ l. Reads l r) (append_assoc xs ys (x ∷ []))
behind_step xs ys (Refused f) = refl

behind_byte : (xs : List Item) (s : Stream) (b : ℕ) → one_byte (behind xs s) b ≡ behind xs (one_byte s b)
behind_byte xs (Reads ys r) b = behind_step xs ys (one_step r b)
behind_byte xs (Refuses ys f) b = refl

pub behind_reading : (xs : List Item) (s : Stream) (bs : List ℕ) → reading (behind xs s) bs ≡ behind xs (reading s bs)
behind_reading xs s [] = refl
behind_reading xs s (b ∷ bs) = ap (λ t. reading t bs) (behind_byte xs s b) ∙ behind_reading xs (one_byte s b) bs

pub behind_none : (s : Stream) → behind [] s ≡ s
behind_none (Reads ys r) = refl
behind_none (Refuses ys f) = refl

pub behind_more : (xs ys : List Item) (s : Stream) → behind xs (behind ys s) ≡ behind (xs ++ ys) s
behind_more xs ys (Reads zs r) = ap (λ l. Reads l r) (sym (append_assoc xs ys zs))
behind_more xs ys (Refuses zs f) = ap (λ l. Refuses l f) (sym (append_assoc xs ys zs))

-- ---- a piece is taken

pub taken_ok : (r : Rest) (old new : Reading) (ready out turned : List Item) (piece more : List ℕ) → is_open r ≡ true → ready ≡ [] → turned ≡ reverse out
    → reading (Reads ready old) piece ≡ Reads out new → rest_of r ready old (piece ++ more) ≡ rest_of r turned new more
taken_ok rest.Open old new ready out turned piece more o e t h =
    ap (λ l. reading (Reads (reverse l) old) (piece ++ more)) e
    ∙ reading-append (Reads [] old) piece more
    ∙ ap (λ s. reading s more) (subst (λ l. reading (Reads l old) piece ≡ Reads out new) e h)
    ∙ ap (λ l. reading (Reads l new) more) (sym (reverse-reverse out) ∙ ap reverse (sym t))
taken_ok (rest.Refused f) old new ready out turned piece more o e t h = cc
taken_ok rest.Spent old new ready out turned piece more o e t h = cc

is_refused : (f : ItemFault) (new : Reading) (out : List Item) (s : Stream) → f ≢ item.OutOfMemory → StreamIs (Err f) new out s → s ≡ Refuses out f
is_refused item.Truncated new out s n h = h
is_refused item.TooLong new out s n h = h
is_refused item.Failed new out s n h = h
is_refused item.BadItem new out s n h = h
is_refused item.TooDeep new out s n h = h
is_refused item.OutOfMemory new out s n h = absurd (n refl)

taken_err : (r : Rest) (old new : Reading) (ready out : List Item) (f : ItemFault) (now : List ℕ → Stream) (piece more : List ℕ) → is_open r ≡ true → ready ≡ [] → f ≢ item.OutOfMemory
    → ((bytes : List ℕ) → now bytes ≡ Refuses out f) → StreamIs (Err f) new out (reading (Reads ready old) piece) → rest_of r ready old (piece ++ more) ≡ now more
taken_err rest.Open old new ready out f now piece more o e n w h =
    ap (λ l. reading (Reads (reverse l) old) (piece ++ more)) e
    ∙ reading-append (Reads [] old) piece more
    ∙ ap (λ s. reading s more) (is_refused f new out (reading (Reads [] old) piece) n (subst (λ l. StreamIs (Err f) new out (reading (Reads l old) piece)) e h))
    ∙ reading-refused out f more
    ∙ sym (w more)
taken_err (rest.Refused g) old new ready out f now piece more o e n w h = cc
taken_err rest.Spent old new ready out f now piece more o e n w h = cc

pub taken_unless : {E : Type 0} (t : Result (Unit {0}) E) (r : Rest) (old new : Reading) (ready out : List Item) (f : ItemFault) (now : List ℕ → Stream) (piece : List ℕ) → is_open r ≡ true → ready ≡ []
    → OnOk t ((f ≢ item.OutOfMemory) × ((bytes : List ℕ) → now bytes ≡ Refuses out f)) → StreamIs (Err f) new out (reading (Reads ready old) piece) → OnOk t ((more : List ℕ) → rest_of r ready old (piece ++ more) ≡ now more)
taken_unless (Ok u) r old new ready out f now piece o e p h = λ more. taken_err r old new ready out f now piece more o e p.0 p.1 h
taken_unless (Err e) r old new ready out f now piece o z p h = tt

pub refused_of_byte : (r : Rest) (old new : Reading) (ready out : List Item) (f : ItemFault) (piece : List ℕ) → is_failed old ≡ false → StreamIs (Err f) new out (reading (Reads ready old) piece) → f ≢ item.OutOfMemory → is_of_byte f ≡ true
refused_of_byte r old new ready out f piece h s n = of_bytes ready out old f piece h (is_refused f new out (reading (Reads ready old) piece) n s)

-- ---- what was taken, one after another

pub takes_none : (a : Option (List ℕ)) (s : List ℕ → Stream) → Takes [] a a s s
takes_none a s = record { bytes = []; consumed = Consumes-nil a; items = λ more. sym (behind_none (s more)) }

pub takes_more : (xs ys : List Item) (a b d : Option (List ℕ)) (s t u : List ℕ → Stream) → Takes xs a b s t → Takes ys b d t u → Takes (xs ++ ys) a d s u
takes_more xs ys a b d s t u p q = record {
  bytes = p.bytes ++ q.bytes;
  consumed = Consumes-trans a b d p.bytes q.bytes p.consumed q.consumed;
  items = λ more.
      ap s (append_assoc p.bytes q.bytes more)
      ∙ p.items (q.bytes ++ more)
      ∙ ap (behind xs) (q.items more)
      ∙ behind_more xs ys (u more);
}

pub takes_end : (xs ys : List Item) (whole : Bool) (a b d : Option (List ℕ)) (s t : List ℕ → Stream) → Takes xs a b s t → Ends ys whole b d t → Ends (xs ++ ys) whole a d s
takes_end xs ys whole a b d s t p q = record {
  bytes = p.bytes ++ q.bytes;
  consumed = Consumes-trans a b d p.bytes q.bytes p.consumed q.consumed;
  end = q.end;
  last = q.last;
  items = p.items q.bytes ∙ ap (behind xs) q.items;
  between = q.between;
}

pub takes_break : (xs ys : List Item) (f : ItemFault) (a b d : Option (List ℕ)) (s t : List ℕ → Stream) → Takes xs a b s t → Breaks ys f b d t → Breaks (xs ++ ys) f a d s
takes_break xs ys f a b d s t p q = record {
  bytes = p.bytes ++ q.bytes;
  consumed = Consumes-trans a b d p.bytes q.bytes p.consumed q.consumed;
  items = λ more. ap s (append_assoc p.bytes q.bytes more) ∙ p.items (q.bytes ++ more) ∙ ap (behind xs) (q.items more);
}

pub takes_stop : (xs ys : List Item) (f : NextFault) (a b d : Option (List ℕ)) (s t : List ℕ → Stream) (before spent : Bool) (now whole : Counts) → Takes xs a b s t → (spent ≡ true → before ≡ true) → (Fails now → Fails whole) → Stops ys b d t spent now f → Stops (xs ++ ys) a d s before whole f
takes_stop xs ys (next.Items item.Truncated) a b d s t before spent now whole p g h q = takes_end xs ys false a b d s t p q
takes_stop xs ys (next.Items item.TooLong) a b d s t before spent now whole p g h q = takes_break xs ys item.TooLong a b d s t p q
takes_stop xs ys (next.Items item.BadItem) a b d s t before spent now whole p g h q = takes_break xs ys item.BadItem a b d s t p q
takes_stop xs ys (next.Items item.TooDeep) a b d s t before spent now whole p g h q = takes_break xs ys item.TooDeep a b d s t p q
takes_stop xs ys (next.Items item.Failed) a b d s t before spent now whole p g h q = g q
takes_stop xs ys (next.Items item.OutOfMemory) a b d s t before spent now whole p g h q = tt
takes_stop xs ys next.PeerFailed a b d s t before spent now whole p g h q = h q

-- a failure in the last of some calls is one of them all
pub fails_since : (first before now reads : ℕ) → first ≤ before → Fails (record { before = before; now = now; reads = reads }) → Fails (record { before = first; now = now; reads = reads })
fails_since first before now reads h (inl (inl r)) = inl (inl (omega (arith, h, r)))
fails_since first before now reads h (inl (inr r)) = inl (inr r)
fails_since first before now reads h (inr r) = inr r

of_fault : (f : ItemFault) (a b : Option (List ℕ)) (s : List ℕ → Stream) (before : Bool) (failed : Counts) → is_of_byte f ≡ true → Breaks [] f a b s → Stops [] a b s before failed (next.Items f)
of_fault item.TooLong a b s before failed k p = p
of_fault item.BadItem a b s before failed k p = p
of_fault item.TooDeep a b s before failed k p = p
of_fault item.Truncated a b s before failed k p = cc
of_fault item.Failed a b s before failed k p = cc
of_fault item.OutOfMemory a b s before failed k p = cc

-- a refusal that was found stands at the front now
pub stops_here : (r : Rest) (f : ItemFault) (a b : Option (List ℕ)) (s : List ℕ → Stream) (ready : List Item) (old : Reading) (before : Bool) (failed : Counts) → r ≡ rest.Refused f → is_sound r ≡ true → ready ≡ [] → Takes [] a b s (rest_of r ready old)
    → Stops [] a b s before failed (next.Items f)
stops_here r f a b s ready old before failed e sound none p =
    let k : is_of_byte f ≡ true = ap is_sound (sym e) ∙ sound in
    let front : (more : List ℕ) → s (p.bytes ++ more) ≡ Refuses [] f = λ more. p.items more ∙ ap (λ q. behind [] (rest_of q ready old more)) e ∙ ap (λ l. Refuses (reverse l) f) none in
    of_fault f a b s before failed k (record { bytes = p.bytes; consumed = p.consumed; items = front })

first : (r : Rest) (left : List Item) (x : Item) (now : Reading) (more : List ℕ) → is_over r ≡ false → rest_of r (left ++ x ∷ []) now more ≡ behind (x ∷ []) (rest_of r left now more)
first rest.Open left x now more n =
    ap (λ l. reading (Reads l now) more) (reverse-append left (x ∷ []))
    ∙ behind_reading (x ∷ []) (Reads (reverse left) now) more
first (rest.Refused f) left x now more n = ap (λ l. Refuses l f) (reverse-append left (x ∷ []))
first rest.Spent left x now more n = cc

-- the next item is taken from those that are ready
pub popped : (r : Rest) (a b : Option (List ℕ)) (s : List ℕ → Stream) (now : Reading) (ready left : List Item) (x : Item) → is_sound r ≡ true → is_over r ≡ false → ready ≡ left ++ x ∷ [] → Takes [] a b s (rest_of r ready now) → Takes (x ∷ []) a b s (rest_of r left now)
popped r a b s now ready left x sound n e p = record {
  bytes = p.bytes;
  consumed = p.consumed;
  items = λ more. p.items more ∙ behind_none (rest_of r ready now more) ∙ ap (λ l. rest_of r l now more) e ∙ first r left x now more n;
}

-- reading on
pub goes_on : (a b d : Option (List ℕ)) (s t u : List ℕ → Stream) → Takes [] a b s t → Takes [] b d t u → Takes [] a d s u
goes_on = takes_more [] []

not_spent : (spent before : Bool) → spent ≡ false → spent ≡ true → before ≡ true
not_spent true before n h = cc
not_spent false before n h = cc

-- a refusal behind what was taken
pub stops_later : (a b d : Option (List ℕ)) (s t : List ℕ → Stream) (before spent : Bool) (first mid now reads : ℕ) (f : NextFault) → Takes [] a b s t → spent ≡ false → first ≤ mid → Stops [] b d t spent (record { before = mid; now = now; reads = reads }) f → Stops [] a d s before (record { before = first; now = now; reads = reads }) f
stops_later a b d s t before spent first mid now reads f p n h = takes_stop [] [] f a b d s t before spent _ _ p (not_spent spent before n) (fails_since first mid now reads h)

-- ---- no more items come than bytes

step_adds : (xs : List Item) (s : Step) → length (items_of (of_step xs s)) ≤ length xs + 1
step_adds xs (Next r) = omega arith
step_adds xs (Gives x r) = omega (arith, length-append xs (x ∷ []))
step_adds xs (Refused f) = omega arith

byte_adds : (s : Stream) (b : ℕ) → length (items_of (one_byte s b)) ≤ length (items_of s) + 1
byte_adds (Reads xs r) b = step_adds xs (one_step r b)
byte_adds (Refuses xs f) b = omega arith

pub reading_adds : (s : Stream) (bs : List ℕ) → length (items_of (reading s bs)) ≤ length (items_of s) + length bs
reading_adds s [] = omega arith
reading_adds s (b ∷ bs) = omega (arith, byte_adds s b, reading_adds (one_byte s b) bs)

-- the items of a piece, the last one first, are no more than its bytes
pub few_ok : (ready out turned : List Item) (old new : Reading) (piece : List ℕ) → ready ≡ [] → turned ≡ reverse out → reading (Reads ready old) piece ≡ Reads out new → length turned ≤ length piece
few_ok ready out turned old new piece e t h =
    omega (arith, ap length t, length-reverse out, ap length e, ap (λ s. length (items_of s)) h, reading_adds (Reads ready old) piece)

pub few_unless : {E : Type 0} (t : Result (Unit {0}) E) (ready out turned : List Item) (old new : Reading) (f : ItemFault) (now : List ℕ → Stream) (piece : List ℕ) → ready ≡ [] → OnOk t (turned ≡ reverse out) → OnOk t ((f ≢ item.OutOfMemory) × ((bytes : List ℕ) → now bytes ≡ Refuses out f)) → StreamIs (Err f) new out (reading (Reads ready old) piece) → OnOk t (length turned ≤ length piece)
few_unless (Ok u) ready out turned old new f now piece e t p h =
    omega (arith, ap length t, length-reverse out, ap length e, ap (λ s. length (items_of s)) (is_refused f new out (reading (Reads ready old) piece) p.0 h), reading_adds (Reads ready old) piece)
few_unless (Err x) ready out turned old new f now piece e t p h = tt
