-- Slots that stand behind an open gate, and what breaks them.
use Rattle.std.proofs.Common.{◌≡◌, ◌≢◌, ◌<◌, ◌≤◌, ◌+◌, ◌^◌, ◌⊎◌, inl, inr, ℕ, List, [], ◌∷◌, ◌++◌, length, take, drop, get_or, refl, sym, ◌∙◌, ap, subst, arith, append_assoc, length-append, length-drop, take-append-drop}
use Rattle.std.proofs.lemmas.List.{take_at, drop_at, drop_more, drop-drop}
use Rattle.fleet_disk.specs.Image.{Image}
use Rattle.gate_log.specs.declared.fault.LogFault.{LogFault}
use Rattle.gate_log.specs.declared.fault.LogFault.TheVariants.{DeviceFailed, Failed, Damaged, NoRepository, ThereAlready, LogFull, OutOfMemory}
use Rattle.gate_log.specs.declared.version.LogVersion.{LogVersion}
use Rattle.gate_log.specs.Faults.{IsEntryFault}
use Rattle.gate_log.specs.Version.{gates_of, sum_of, IsOf, sum_size, slot_size}
use Rattle.gate_log.specs.Slots.{eight_bytes, part, mark, slots}
use Rattle.gate_log.specs.Standing.{IsRising, last_end, IsDamagedAt, IsSlot}
use Rattle.gate_log.proofs.Alike.{mark_length, one_mark, one_length}
use Rattle.gate_log.proofs.EndLemmas.{length-eight_bytes, length-mark, length-sum, slot_sum}

module _ (v : LogVersion) (from : ℕ) (journal behind : List ℕ) where
  -- too few bytes for a slot
  pub short_slot : length behind < slot_size v → (end : ℕ) → IsSlot v from end journal behind → ⊥
  short_slot short end slot =
      omega (arith, short, slot_sum v, ap length slot.bytes, length-append (mark v end (part from end journal)) (slot.next_gate ∷ slot.rest), length-mark v end (part from end journal))

  -- the eight bytes of a slot are its length's
  length_is : (read end : ℕ) → take 8 behind ≡ eight_bytes read → read < 2 ^ 64 → IsSlot v from end journal behind → end ≡ read
  length_is read end is small slot =
      let there : take 8 behind ≡ eight_bytes end =
      ap (λ (l : List ℕ). take 8 l) (slot.bytes ∙ append_assoc (eight_bytes end) (sum_of v (part from end journal)) (slot.next_gate ∷ slot.rest))
      ∙ take_at (eight_bytes end) (sum_of v (part from end journal) ++ slot.next_gate ∷ slot.rest) 8 (length-eight_bytes end) in
      one_length end read slot.fits small (sym there ∙ is)

  -- a length that doesn't rise
  pub low_slot : (read : ℕ) → take 8 behind ≡ eight_bytes read → read < 2 ^ 64 → read ≤ from → (end : ℕ) → IsSlot v from end journal behind → ⊥
  low_slot read is small low end slot = omega (arith, length_is read end is small slot, slot.rises, low)

  -- one past the journal's end
  pub high_slot : (read : ℕ) → take 8 behind ≡ eight_bytes read → read < 2 ^ 64 → length journal < read → (end : ℕ) → IsSlot v from end journal behind → ⊥
  high_slot read is small high end slot = omega (arith, length_is read end is small slot, slot.within, high)

  -- the bytes behind the length of a slot
  sum_there : (end : ℕ) → IsSlot v from end journal behind → take (sum_size v) (drop 8 behind) ≡ sum_of v (part from end journal)
  sum_there end slot =
      let sum : List ℕ = sum_of v (part from end journal) in
      let tail : List ℕ = slot.next_gate ∷ slot.rest in
      let back : drop 8 behind ≡ sum ++ tail = ap (λ (l : List ℕ). drop 8 l) (slot.bytes ∙ append_assoc (eight_bytes end) sum tail) ∙ drop_at (eight_bytes end) (sum ++ tail) 8 (length-eight_bytes end) in
      ap (λ (l : List ℕ). take (sum_size v) l) back ∙ take_at sum tail (sum_size v) (length-sum v (part from end journal))

  -- another sum
  pub other_sum : (read : ℕ) → take 8 behind ≡ eight_bytes read → read < 2 ^ 64 → ((take (sum_size v) (drop 8 behind) ≡ sum_of v (part from read journal)) → ⊥) → (end : ℕ) → IsSlot v from end journal behind → ⊥
  other_sum read is small differs end slot =
      differs (subst (λ (k : ℕ). take (sum_size v) (drop 8 behind) ≡ sum_of v (part from k journal)) (length_is read end is small slot) (sum_there end slot))

  -- the slot of an entry
  pub whole_slot : (read : ℕ) → from < read → read ≤ length journal → read < 2 ^ 64 → slot_size v ≤ length behind → take 8 behind ≡ eight_bytes read → take (sum_size v) (drop 8 behind) ≡ sum_of v (part from read journal) → IsSlot v from read journal behind
  whole_slot read rises within small long is sum =
      let back : List ℕ = drop 8 behind in
      let tail : List ℕ = drop (sum_size v) back in
      let some : 0 < length tail = omega (arith, length-drop (sum_size v) back, length-drop 8 behind, long, slot_sum v) in
      let front : behind ≡ mark v read (part from read journal) ++ tail =
      sym (take-append-drop 8 behind)
      ∙ ap (λ (l : List ℕ). l ++ back) is
      ∙ ap (λ (l : List ℕ). eight_bytes read ++ l) (sym (take-append-drop (sum_size v) back) ∙ ap (λ (l : List ℕ). l ++ tail) sum)
      ∙ sym (append_assoc (eight_bytes read) (sum_of v (part from read journal)) tail) in
      record {
        rises = rises;
        within = within;
        fits = small;
        next_gate = get_or tail 0 0;
        rest = drop 1 tail;
        bytes = front ∙ ap (λ (l : List ℕ). mark v read (part from read journal) ++ l) (drop_more tail 0 0 some);
      }

-- an entry whose slot breaks the format
pub damaged_at : (v : LogVersion) (image : Image) (ends : List ℕ) (at : ℕ) → IsOf v image → IsRising 0 ends → last_end 0 ends ≤ length image.journal → last_end 0 ends < 2 ^ 64 → at < length (gates_of v image) → get_or (gates_of v image) at 0 ≡ 1
    → gates_of v image ≡ slots v 0 ends image.journal ++ drop at (gates_of v image) → ((end : ℕ) → IsSlot v (last_end 0 ends) end image.journal (drop (at + 1) (gates_of v image)) → ⊥) → IsDamagedAt (length ends) image
damaged_at v image ends at is up within fits inside is_open so_far breaks = record {
  version = v;
  is = is;
  ends = ends;
  count = refl;
  rising = up;
  within = within;
  fits = fits;
  rest = drop (at + 1) (gates_of v image);
  gates = so_far ∙ ap (λ (l : List ℕ). slots v 0 ends image.journal ++ l) (drop_more (gates_of v image) at 0 inside ∙ ap (λ (x : ℕ). x ∷ drop (at + 1) (gates_of v image)) is_open);
  breaks = breaks;
}

-- which entry the search calls damaged
abbrev number_in : LogFault → ℕ
number_in (Damaged n) = n
number_in DeviceFailed = 0
number_in Failed = 0
number_in NoRepository = 0
number_in ThereAlready = 0
number_in LogFull = 0
number_in OutOfMemory = 0

pub entry_told : (n entry : ℕ) (fault : LogFault) → IsEntryFault n fault → fault ≡ Damaged entry → n ≡ entry
entry_told n entry fault (inl device) is = cc
entry_told n entry fault (inr (inl damaged)) is = ap (λ (f : LogFault). number_in f) (sym damaged ∙ is)
entry_told n entry fault (inr (inr memory)) is = cc

pub damaged_is : (n entry : ℕ) (fault : LogFault) → n ≡ entry → fault ≡ Damaged entry → fault ≡ Damaged n
damaged_is n entry fault same is = is ∙ ap (λ (k : ℕ). Damaged k) (sym same)
