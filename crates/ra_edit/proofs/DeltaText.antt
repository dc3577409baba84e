-- Texts that come as differences: what they make is within the limit, and read as new data in windows.
use Rattle.std.proofs.Common.{◌≡◌, ℕ, zero, suc, ◌≤◌, ◌<◌, List, [], ◌∷◌, ◌++◌, length, take, drop, refl, sym, ap, subst, ◌∙◌, append_assoc, append-nil, length-append, take-append-drop, arith, Bool, true, false, Result, Ok, Err}
use Rattle.std.proofs.lemmas.List.{length-drop}
use Rattle.svndiff.specs.declared.limits.TheConstants.{TEXT_BYTES}
use Rattle.svndiff.specs.DeltaStreams as deltas
use Rattle.svndiff.specs.declared.delta.Delta.{Delta}
use Rattle.svndiff.specs.declared.instructions.Instruction.{Instruction}
use Rattle.svndiff.specs.declared.reading.Reading.{Reading}
use Rattle.svndiff.specs.declared.window.Awaited.{Awaited}
use Rattle.svndiff.specs.declared.window.Awaited.TheVariants as at
use Rattle.svndiff.specs.declared.window.Window.{Window}
use Rattle.svndiff.specs.Spelling.{window, windows, windows_within}
use Rattle.svndiff.specs.Streams.{Reads, reading}
use Rattle.svndiff.specs.DeltaReading.{is_failed}
use Rattle.svndiff.specs.declared.delta_fault.DeltaFault.{DeltaFault}
use Rattle.svndiff.specs.declared.delta_fault.DeltaFault.TheVariants as fault
use Rattle.svndiff.proofs.DeltaRuns.{reading-append, reading-refused}
use Rattle.svndiff.proofs.DeltaStanding.{Part, StreamStands, from_start}
use Rattle.svndiff.proofs.Read.{window_read}
use Rattle.svndiff.proofs.Spelled.{window_is}
use Rattle.ra_edit.specs.DeltaEdits.{IsAwaiting}
use Rattle.ra_edit.specs.Differences.{GoesOn, RefusedBehind}
use Rattle.ra_edit.proofs.EditRead.{take_some}

part_fits : (base : List ℕ) (p : Awaited) (w : Window) (is : List Instruction) (new text bytes : List ℕ) → Part base p w is new text bytes → length text ≤ TEXT_BYTES
part_fits base (at.Magic k) w is new text bytes h = omega (arith, ap length h.1)
part_fits base at.Between w is new text bytes h = omega (arith, h.0.room_is)
part_fits base (at.Head f count n) w is new text bytes h = omega (arith, h.3.room_is)
part_fits base at.Instruction w is new text bytes h = omega (arith, h.3.whole.room_is)
part_fits base (at.Length k count n) w is new text bytes h = omega (arith, h.4.whole.room_is)
part_fits base (at.Offset k size count n) w is new text bytes h = omega (arith, h.5.whole.room_is)
part_fits base at.NewData w is new text bytes h = omega (arith, h.3.whole.room_is)
part_fits base at.Whole w is new text bytes h = omega (arith, h.3.whole.room_is)
part_fits base at.Failed w is new text bytes h = absurd h

-- what the bytes of a difference make so far
pub delta_fits : (base bytes text : List ℕ) (d : Delta) → deltas.stream_of base bytes ≡ deltas.Reads text d → length text ≤ TEXT_BYTES
delta_fits base bytes text d e =
    let h : StreamStands base (deltas.Reads text d) bytes = subst (λ s. StreamStands base s bytes) e (from_start base bytes) in
    part_fits base d.window.place d.window d.instructions d.fresh text bytes h.2

pub delta_more : (base bytes more text made : List ℕ) (d e : Delta) → deltas.stream_of base bytes ≡ deltas.Reads text d → GoesOn base d more made e → deltas.stream_of base (bytes ++ more) ≡ deltas.Reads (text ++ made) e
delta_more base bytes more text made d e h k = reading-append base (deltas.Reads [] deltas.begun) bytes more ∙ ap (λ s. deltas.reading base s more) h ∙ k text

-- ---- new data in windows

pub record MadeRead (text made : List ℕ) (r : Reading) (bytes : List ℕ) : Type 0 where
  pub new : Reading
  pub reads : reading (Reads text r) bytes ≡ Reads (text ++ made) new
  pub awaits : IsAwaiting (text ++ made) new

none_made : (text : List ℕ) (r : Reading) → IsAwaiting text r → MadeRead text [] r []
none_made text r a = record { new = r; reads = ap (λ t. Reads t r) (sym (append-nil text)); awaits = subst (λ t. IsAwaiting t r) (sym (append-nil text)) a }

window_made : (text part rest more : List ℕ) (r : Reading) → 0 < length part → length part ≤ 65536 → IsAwaiting text r → length (text ++ (part ++ rest)) ≤ TEXT_BYTES → ((new : Reading) → IsAwaiting (text ++ part) new → length ((text ++ part) ++ rest) ≤ TEXT_BYTES → MadeRead (text ++ part) rest new more) → MadeRead text (part ++ rest) r (window part ++ more)
window_made text part rest more r some short a fits behind =
    let l1 = length-append text (part ++ rest) in
    let l2 = length-append part rest in
    let l3 = length-append text part in
    let run = window_read text (window part) part more r a.0 (window_is part some short) (omega (arith, a.1, fits, l1, l2)) in
    let next = behind run.0 (run.1, omega (arith, run.2, a.1, fits, l1, l2, l3)) (subst (λ l. length l ≤ TEXT_BYTES) (sym (append_assoc text part rest)) fits) in
    record {
      new = next.new;
      reads = run.3 ∙ next.reads ∙ ap (λ t. Reads t next.new) (append_assoc text part rest);
      awaits = subst (λ t. IsAwaiting t next.new) (append_assoc text part rest) next.awaits;
    }

made_within : (k : ℕ) (text made : List ℕ) (r : Reading) → length made ≤ k → IsAwaiting text r → length (text ++ made) ≤ TEXT_BYTES → MadeRead text made r (windows_within k made)
made_within zero text [] r h a fits = none_made text r a
made_within zero text (b ∷ made) r h a fits = absurd (omega (arith, h))
made_within (suc k) text [] r h a fits = none_made text r a
made_within (suc k) text (b ∷ made) r h a fits =
    let d = length-drop 65536 (b ∷ made) in
    let s = take_some 65536 (b ∷ made) (omega arith) (omega arith) in
    let joined = take-append-drop 65536 (b ∷ made) in
    subst (λ l. MadeRead text l r (window (take 65536 (b ∷ made)) ++ windows_within k (drop 65536 (b ∷ made)))) joined
    (window_made text (take 65536 (b ∷ made)) (drop 65536 (b ∷ made)) (windows_within k (drop 65536 (b ∷ made))) r s.0 s.1 a (subst (λ l. length (text ++ l) ≤ TEXT_BYTES) (sym joined) fits)
    (λ new aw l. made_within k (text ++ take 65536 (b ∷ made)) (drop 65536 (b ∷ made)) new (omega (arith, d, h)) aw l))

pub made_read : (text made : List ℕ) (r : Reading) → IsAwaiting text r → length (text ++ made) ≤ TEXT_BYTES → MadeRead text made r (windows made)
made_read text made r a fits = made_within (length made) text made r (omega arith) a fits

-- ---- bytes that are refused

failed_at : (p : Awaited) (w : Window) → is_failed (record w { place = p }) ≡ true → p ≡ at.Failed
failed_at at.Failed w e = refl
failed_at p w e = cc

-- after a refusal each byte is
spent_refuses : (base text rest : List ℕ) (d : Delta) → is_failed d.window ≡ true → (rest ≡ [] → ⊥) → deltas.reading base (deltas.Reads text d) rest ≡ deltas.Refuses text fault.Failed
spent_refuses base text [] d e some = absurd (some refl)
spent_refuses base text (b ∷ rest) d e some =
    ap (λ p. deltas.reading base (deltas.settled base text (deltas.any_byte (length base) (record d { window = record d.window { place = p } }) b)) rest) (failed_at d.window.place d.window e)
    ∙ reading-refused base text fault.Failed rest

pub bytes_refused : (base other bytes rest so_far : List ℕ) (d e : Delta) (f : DeltaFault) (b : Bool) → is_failed e.window ≡ b → other ≡ base → ((text : List ℕ) → deltas.reading base (deltas.Reads text d) bytes ≡ deltas.reading base (deltas.Reads (text ++ so_far) e) rest) → (is_failed e.window ≡ false → deltas.Tells f other e rest) → (is_failed e.window ≡ true → f ≡ fault.Failed) → (rest ≡ [] → ⊥) → RefusedBehind f base d bytes
bytes_refused base other bytes rest so_far d e fault.OutOfMemory b is same h tells spent some = tt
bytes_refused base other bytes rest so_far d e f false is same h tells spent some =
    (so_far, λ text. h text ∙ subst (λ x. deltas.reading x (deltas.Reads (text ++ so_far) e) rest ≡ deltas.Refuses (text ++ so_far) f) same (tells is (text ++ so_far)))
bytes_refused base other bytes rest so_far d e f true is same h tells spent some =
    (so_far, λ text. h text ∙ spent_refuses base (text ++ so_far) rest e is some ∙ ap (deltas.Refuses (text ++ so_far)) (sym (spent is)))

abbrev fault_of : {A : Type 0} → Result A DeltaFault → DeltaFault → DeltaFault
fault_of (Ok x) f = f
fault_of (Err e) f = e

pub same_fault : {A : Type 0} (r : Result A DeltaFault) (f g : DeltaFault) → r ≡ Err f → r ≡ Err g → f ≡ g
same_fault r f g e h = ap (λ x. fault_of x f) (sym e ∙ h)
