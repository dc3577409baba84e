-- Ends of entries, their slots and their parts of a journal.
use Rattle.std.proofs.Common.{◌≡◌, ◌<◌, ◌≤◌, ◌+◌, ◌-◌, ◌*◌, ◌^◌, ℕ, zero, suc, Some, slice_get, subst, List, [], ◌∷◌, ◌++◌, length, get_or, take, drop, replicate, refl, sym, ◌∙◌, ap, arith, append_assoc, length-append, length-drop, take-append-drop}
use Rattle.std.proofs.lemmas.List.{take-append-le, drop-append-le, take_all, take_at, drop_at, append-nil, drop_more, take_more}
use borrow.Rule.Slice.PartMut.{put_mid}
use Rattle.md5.proofs.StandardFacts.{length-md5}
use Rattle.gate_log.specs.declared.version.LogVersion.{LogVersion}
use Rattle.gate_log.specs.declared.version.LogVersion.TheVariants.{First, Second}
use Rattle.gate_log.specs.Version.{sum_of, sum_size, slot_size, gate_place}
use Rattle.gate_log.specs.Slots.{eight_bytes, part, mark, slot, slots, gates_size}
use Rattle.gate_log.specs.Standing.{last_end, IsRising, parts, IsSlot}

pub length-eight_bytes : (n : ℕ) → length (eight_bytes n) ≡ 8
unfolding eight_bytes
length-eight_bytes n = refl

-- eight bytes and sixteen, written over closed gates
pub slot_written : (front behind : List ℕ) → length front ≡ 8 → put_mid 8 16 (front ++ replicate 17 0) behind ≡ front ++ behind ++ 0 ∷ []
slot_written front behind long =
    ap (λ (l : List ℕ). l ++ (behind ++ drop 16 (drop 8 (front ++ replicate 17 0)))) (take_at front (replicate 17 0) 8 long)
    ∙ ap (λ (l : List ℕ). front ++ (behind ++ drop 16 l)) (drop_at front (replicate 17 0) 8 long)
    ∙ sym (append_assoc front behind (0 ∷ []))

pub length-sum : (v : LogVersion) (entry : List ℕ) → length (sum_of v entry) ≡ sum_size v
length-sum First entry = refl
length-sum Second entry = length-md5 entry

pub slot_sum : (v : LogVersion) → slot_size v ≡ 9 + sum_size v
slot_sum First = refl
slot_sum Second = refl

pub place_zero : (v : LogVersion) → gate_place v 0 ≡ 0
place_zero First = refl
place_zero Second = refl

pub place_more : (v : LogVersion) (n : ℕ) → gate_place v (suc n) ≡ gate_place v n + slot_size v
place_more First n = omega arith
place_more Second n = omega arith

pub length-mark : (v : LogVersion) (end : ℕ) (entry : List ℕ) → length (mark v end entry) ≡ 8 + sum_size v
length-mark v end entry = omega (arith, length-append (eight_bytes end) (sum_of v entry), length-eight_bytes end, length-sum v entry)

pub length-slots : (v : LogVersion) (from : ℕ) (ends journal : List ℕ) → length (slots v from ends journal) ≡ gate_place v (length ends)
length-slots v from [] journal = sym (place_zero v)
length-slots v from (end ∷ ends) journal = omega (arith, length-append (mark v end (part from end journal)) (slots v end ends journal), length-mark v end (part from end journal), length-slots v end ends journal, place_more v (length ends), slot_sum v)

pub length_push : (ends : List ℕ) (end : ℕ) → length (ends ++ end ∷ []) ≡ suc (length ends)
length_push ends end = omega (arith, length-append ends (end ∷ []))

pub place_push : (v : LogVersion) (ends : List ℕ) (end : ℕ) → gate_place v (length (ends ++ end ∷ [])) ≡ gate_place v (length ends) + slot_size v
place_push v ends end = ap (λ (n : ℕ). gate_place v n) (length_push ends end) ∙ place_more v (length ends)

pub slots_push : (v : LogVersion) (from : ℕ) (ends journal : List ℕ) (end : ℕ) → slots v from (ends ++ end ∷ []) journal ≡ slots v from ends journal ++ slot v end (part (last_end from ends) end journal)
slots_push v from [] journal end = append-nil (slot v end (part from end journal))
slots_push v from (e ∷ ends) journal end =
    ap (λ (l : List ℕ). slot v e (part from e journal) ++ l) (slots_push v e ends journal end)
    ∙ sym (append_assoc (slot v e (part from e journal)) (slots v e ends journal) (slot v end (part (last_end e ends) end journal)))

pub last_end_push : (from : ℕ) (ends : List ℕ) (end : ℕ) → last_end from (ends ++ end ∷ []) ≡ end
last_end_push from [] end = refl
last_end_push from (e ∷ ends) end = last_end_push e ends end

pub rising_push : (from : ℕ) (ends : List ℕ) (end : ℕ) → IsRising from ends → last_end from ends < end → IsRising from (ends ++ end ∷ [])
rising_push from [] end up more = (more, tt)
rising_push from (e ∷ ends) end (here, up) more = (here, rising_push e ends end up more)

-- an entry ends behind those before it
pub next_rises : (from : ℕ) (ends : List ℕ) (i : ℕ) → IsRising from ends → i < length ends → last_end from (take i ends) < get_or ends i 0
next_rises from [] i up inside = absurd (omega (arith, inside))
next_rises from (e ∷ ends) zero (here, up) inside = here
next_rises from (e ∷ ends) (suc i) (here, up) inside = next_rises e ends i up (omega (arith, inside))

-- the last of so many ends, and one more
pub last_more : (ends : List ℕ) (i : ℕ) → i < length ends → last_end 0 (take (i + 1) ends) ≡ get_or ends i 0
last_more ends i inside = ap (λ (l : List ℕ). last_end 0 l) (take_more ends i 0 inside) ∙ last_end_push 0 (take i ends) (get_or ends i 0)

-- the slots of so many, and one more
pub slots_take : (v : LogVersion) (ends journal : List ℕ) (i : ℕ) → i < length ends → slots v 0 (take (i + 1) ends) journal ≡ slots v 0 (take i ends) journal ++ slot v (get_or ends i 0) (part (last_end 0 (take i ends)) (get_or ends i 0) journal)
slots_take v ends journal i inside = ap (λ (l : List ℕ). slots v 0 l journal) (take_more ends i 0 inside) ∙ slots_push v 0 (take i ends) journal (get_or ends i 0)

-- an end is no more than the last
pub grows : (from : ℕ) (ends : List ℕ) → IsRising from ends → from ≤ last_end from ends
grows from [] up = omega arith
grows from (e ∷ ends) (here, up) = omega (arith, here, grows e ends up)

-- there are no more entries than bytes
pub few : (from : ℕ) (ends : List ℕ) → IsRising from ends → from + length ends ≤ last_end from ends
few from [] up = omega arith
few from (e ∷ ends) (here, up) = omega (arith, here, few e ends up)

small_place : (v : LogVersion) (n : ℕ) → n ≤ 2 ^ 56 → gates_size v n < 2 ^ 64
small_place First n small = omega (arith, small)
small_place Second n small = omega (arith, small)

-- so the gates of a journal within its limit have a place
pub few_places : (v : LogVersion) (ends : List ℕ) → IsRising 0 ends → last_end 0 ends ≤ 2 ^ 56 → gates_size v (length ends) < 2 ^ 64
few_places v ends up within = small_place v (length ends) (omega (arith, few 0 ends up, within))

part_front : (from end : ℕ) (journal more : List ℕ) → from < end → end ≤ length journal → part from end (journal ++ more) ≡ part from end journal
part_front from end journal more here inside =
    ap (λ (l : List ℕ). take (end - from) l) (drop-append-le from journal more (omega (arith, here, inside)))
    ∙ take-append-le (end - from) (drop from journal) more (omega (arith, length-drop from journal, inside, here))

-- what stands behind the last end changes no part
pub parts_front : (from : ℕ) (ends journal more : List ℕ) → IsRising from ends → last_end from ends ≤ length journal → parts from ends (journal ++ more) ≡ parts from ends journal
parts_front from [] journal more up within = refl
parts_front from (e ∷ ends) journal more (here, up) within =
    ap (λ (l : List ℕ). l ∷ parts e ends (journal ++ more)) (part_front from e journal more here (omega (arith, within, grows e ends up)))
    ∙ ap (λ (l : List (List ℕ)). part from e journal ∷ l) (parts_front e ends journal more up within)

-- nor a slot
pub slots_front : (v : LogVersion) (from : ℕ) (ends journal more : List ℕ) → IsRising from ends → last_end from ends ≤ length journal → slots v from ends (journal ++ more) ≡ slots v from ends journal
slots_front v from [] journal more up within = refl
slots_front v from (e ∷ ends) journal more (here, up) within =
    ap (λ (p : List ℕ). slot v e p ++ slots v e ends (journal ++ more)) (part_front from e journal more here (omega (arith, within, grows e ends up)))
    ∙ ap (λ (l : List ℕ). slot v e (part from e journal) ++ l) (slots_front v e ends journal more up within)

-- the part behind the last end
pub part_last : (from end : ℕ) (journal entry : List ℕ) → from ≡ length journal → end ≡ length journal + length entry → part from end (journal ++ entry) ≡ entry
part_last from end journal entry all is =
    ap (λ (l : List ℕ). take (end - from) l) (drop_at journal entry from (sym all)) ∙ take_all (end - from) entry (omega (arith, all, is))

-- one more entry behind the last
pub parts_push : (from : ℕ) (ends journal entry : List ℕ) (end : ℕ) → IsRising from ends → last_end from ends ≡ length journal → end ≡ length journal + length entry
    → parts from (ends ++ end ∷ []) (journal ++ entry) ≡ parts from ends journal ++ entry ∷ []
parts_push from [] journal entry end up all is =
    ap (λ (l : List ℕ). l ∷ []) (part_last from end journal entry all is)
parts_push from (e ∷ ends) journal entry end (here, up) all is =
    ap (λ (l : List ℕ). l ∷ parts e (ends ++ end ∷ []) (journal ++ entry)) (part_front from e journal entry here (omega (arith, all, grows e ends up)))
    ∙ ap (λ (l : List (List ℕ)). part from e journal ∷ l) (parts_push e ends journal entry end up all is)

last_cons : (from e : ℕ) (ends : List ℕ) → get_or (e ∷ ends) (length ends) 0 ≡ last_end from (e ∷ ends)
last_cons from e [] = refl
last_cons from e (f ∷ ends) = last_cons e f ends

-- the last end, by its number
pub last_at : (from : ℕ) (ends : List ℕ) → 1 ≤ length ends → get_or ends (length ends - 1) 0 ≡ last_end from ends
last_at from [] some = absurd (omega arith)
last_at from (e ∷ ends) some = let at : length (e ∷ ends) - 1 ≡ length ends = omega arith in ap (λ (k : ℕ). get_or (e ∷ ends) k 0) at ∙ last_cons from e ends

pub length_parts : (from : ℕ) (ends journal : List ℕ) → length (parts from ends journal) ≡ length ends
length_parts from [] journal = refl
length_parts from (e ∷ ends) journal = omega (arith, length_parts e ends journal)

-- where an entry begins
abbrev start_of : ℕ → List ℕ → ℕ → ℕ
start_of from ends zero = from
start_of from [] (suc i) = from
start_of from (e ∷ ends) (suc i) = start_of e ends i

start_behind : (from : ℕ) (ends : List ℕ) (i : ℕ) → i < length ends → start_of from ends (suc i) ≡ get_or ends i 0
start_behind from [] i inside = absurd (omega arith)
start_behind from (e ∷ ends) zero inside = refl
start_behind from (e ∷ ends) (suc i) inside = start_behind e ends i (omega arith)

part_at : (from : ℕ) (ends : List ℕ) (i : ℕ) (journal : List ℕ) → i < length ends → slice_get (parts from ends journal) i ≡ Some (take (get_or ends i 0 - start_of from ends i) (drop (start_of from ends i) journal))
part_at from [] i journal inside = absurd (omega arith)
part_at from (e ∷ ends) zero journal inside = refl
part_at from (e ∷ ends) (suc i) journal inside = part_at e ends i journal (omega arith)

in_order : (from : ℕ) (ends : List ℕ) (i : ℕ) → IsRising from ends → i < length ends → start_of from ends i < get_or ends i 0
in_order from [] i up inside = absurd (omega arith)
in_order from (e ∷ ends) zero (here, up) inside = here
in_order from (e ∷ ends) (suc i) (here, up) inside = in_order e ends i up (omega arith)

-- no end passes the last
pub below_last : (from : ℕ) (ends : List ℕ) (i : ℕ) → IsRising from ends → i < length ends → get_or ends i 0 ≤ last_end from ends
below_last from [] i up inside = absurd (omega arith)
below_last from (e ∷ ends) zero (here, up) inside = grows e ends up
below_last from (e ∷ ends) (suc i) (here, up) inside = below_last e ends i up (omega arith)

-- the part of an entry, between two ends
pub record IsPart (ends : List ℕ) (i start end : ℕ) : Type 0 where
  pub part : (journal : List ℕ) → slice_get (parts 0 ends journal) i ≡ Some (take (end - start) (drop start journal))
  pub order : start < end

pub first_part : (ends : List ℕ) → IsRising 0 ends → 0 < length ends → IsPart ends 0 0 (get_or ends 0 0)
first_part ends up inside = record { part = λ journal. part_at 0 ends 0 journal inside; order = in_order 0 ends 0 up inside }

pub later_part : (ends : List ℕ) (i : ℕ) → IsRising 0 ends → suc i < length ends → IsPart ends (suc i) (get_or ends i 0) (get_or ends (suc i) 0)
later_part ends i up inside =
    let start = start_behind 0 ends i (omega (arith, inside)) in
    record {
      part = λ journal. subst (λ (k : ℕ). slice_get (parts 0 ends journal) (suc i) ≡ Some (take (get_or ends (suc i) 0 - k) (drop k journal))) start (part_at 0 ends (suc i) journal inside);
      order = subst (λ (k : ℕ). k < get_or ends (suc i) 0) start (in_order 0 ends (suc i) up inside);
    }

pub part_behind : (ends : List ℕ) (i : ℕ) → IsRising 0 ends → 0 < i → i < length ends → IsPart ends i (get_or ends (i - 1) 0) (get_or ends i 0)
part_behind ends zero up some inside = absurd (omega arith)
part_behind ends (suc i) up some inside = let back : i ≡ suc i - 1 = omega arith in subst (λ (k : ℕ). IsPart ends (suc i) (get_or ends k 0) (get_or ends (suc i) 0)) back (later_part ends i up inside)

-- one slot more
pub slots_more : (v : LogVersion) (ends journal gates : List ℕ) (at end : ℕ) → at ≡ gate_place v (length ends) → at < length gates → get_or gates at 0 ≡ 1 → IsSlot v (last_end 0 ends) end journal (drop (at + 1) gates) → gates ≡ slots v 0 ends journal ++ drop at gates
    → gates ≡ slots v 0 (ends ++ end ∷ []) journal ++ drop (at + slot_size v) gates
slots_more v ends journal gates at end place inside is_open behind so_far =
    let tail : List ℕ = behind.next_gate ∷ behind.rest in
    let new : List ℕ = slot v end (part (last_end 0 ends) end journal) in
    let here : drop at gates ≡ new ++ tail = drop_more gates at 0 inside ∙ ap (λ (x : ℕ). x ∷ drop (at + 1) gates) is_open ∙ ap (λ (l : List ℕ). 1 ∷ l) behind.bytes in
    let whole : gates ≡ slots v 0 (ends ++ end ∷ []) journal ++ tail =
    so_far
    ∙ ap (λ (l : List ℕ). slots v 0 ends journal ++ l) here
    ∙ sym (append_assoc (slots v 0 ends journal) new tail)
    ∙ ap (λ (l : List ℕ). l ++ tail) (sym (slots_push v 0 ends journal end)) in
    let size : length (slots v 0 (ends ++ end ∷ []) journal) ≡ at + slot_size v = length-slots v 0 (ends ++ end ∷ []) journal ∙ place_push v ends end ∙ ap (λ (n : ℕ). n + slot_size v) (sym place) in
    let back : drop (at + slot_size v) gates ≡ tail = ap (λ (l : List ℕ). drop (at + slot_size v) l) whole ∙ drop_at (slots v 0 (ends ++ end ∷ []) journal) tail (at + slot_size v) size in
    whole ∙ ap (λ (l : List ℕ). slots v 0 (ends ++ end ∷ []) journal ++ l) (sym back)
