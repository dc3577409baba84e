-- What a stop leaves while what is behind the entries is cut.
use Rattle.std.proofs.Common.{◌≡◌, ◌≢◌, ◌<◌, ◌≤◌, ◌+◌, ◌-◌, ℕ, List, [], ◌∷◌, ◌++◌, length, take, drop, get_or, refl, sym, ◌∙◌, ap, subst, arith, append_assoc, length-append, take-append-drop}
use Rattle.std.proofs.Math.Seq.{take-append-add}
use Rattle.std.proofs.lemmas.List.{get_or_at, length-take-le}
use Rattle.fleet_disk.specs.declared.disk.DiskFile.TheVariants.{Journal}
use Rattle.fleet_disk.specs.Image.{Image}
use Rattle.fleet_disk.specs.Rules.{CutBack, OnFile, Follows, Only}
use Rattle.gate_log.specs.declared.version.LogVersion.{LogVersion}
use Rattle.gate_log.specs.declared.version.LogVersion.TheVariants.{First}
use Rattle.gate_log.specs.Version.{file_of, gates_of, others_of, IsOf, IsBeside, gate_place, IsCleared}
use Rattle.gate_log.specs.Slots.{slots}
use Rattle.gate_log.specs.Standing.{last_end, IsRising, parts, StandsAt, Stands, IsAtRest, gate_behind}
use Rattle.gate_log.proofs.EndLemmas.{length-slots, parts_front, slots_front}
use Rattle.gate_log.proofs.Versions.{going_is, idle_after, on_journal, on_gates, first_others, beside_journal, beside_gates, beside_first}

-- entries with these ends stand
pub record Keeps (v : LogVersion) (ends : List ℕ) (entries : List (List ℕ)) (image : Image) : Type 0 where
  pub stands : StandsAt v ends image
  pub same : parts 0 ends image.journal ≡ entries

pub kept : (v : LogVersion) (ends : List ℕ) (entries : List (List ℕ)) (image : Image) → Keeps v ends entries image → Stands image entries × IsOf v image
kept v ends entries image keeps = ((v, ends, keeps.stands, sym keeps.same), keeps.stands.is)

-- a journal that is cut no further than the last end
front_of : (old new : List ℕ) → take (length new) old ≡ new → new ++ drop (length new) old ≡ old
front_of old new front = ap (λ (l : List ℕ). l ++ drop (length new) old) (sym front) ∙ take-append-drop (length new) old

front_same : (ends old new : List ℕ) → IsRising 0 ends → take (length new) old ≡ new → last_end 0 ends ≤ length new → parts 0 ends new ≡ parts 0 ends old
front_same ends old new up front within = sym (parts_front 0 ends new (drop (length new) old) up within) ∙ ap (λ (l : List ℕ). parts 0 ends l) (front_of old new front)

front_slots : (v : LogVersion) (ends old new : List ℕ) → IsRising 0 ends → take (length new) old ≡ new → last_end 0 ends ≤ length new → slots v 0 ends old ≡ slots v 0 ends new
front_slots v ends old new up front within = sym (ap (λ (l : List ℕ). slots v 0 ends l) (front_of old new front)) ∙ slots_front v 0 ends new (drop (length new) old) up within

pub journal_cut : (v : LogVersion) (ends : List ℕ) (entries : List (List ℕ)) (place : ℕ) (old new : Image) → 0 < length ends → place ≡ last_end 0 ends → Keeps v ends entries old → OnFile Journal (CutBack place) old new → Keeps v ends entries new
journal_cut v ends entries place old new some is keeps goes =
    let was = keeps.stands in
    let step = on_journal v (CutBack place) old new goes in
    let within : last_end 0 ends ≤ length new.journal = omega (arith, step.journal.no_shorter, was.within, is) in
    let gates : gates_of v new ≡ slots v 0 ends new.journal ++ was.next_gate ∷ was.rest =
    step.gates ∙ was.gates ∙ ap (λ (l : List ℕ). l ++ was.next_gate ∷ was.rest) (front_slots v ends old.journal new.journal was.rising step.journal.front within) in
    record {
      stands = record {
        is = going_is v old new ends new.journal was.next_gate was.rest some gates was.is (first_others v old new step.others);
        rising = was.rising;
        within = within;
        fits = was.fits;
        next_gate = was.next_gate;
        rest = was.rest;
        gates = gates;
        closed = was.closed;
      };
      same = front_same ends old.journal new.journal was.rising step.journal.front within ∙ keeps.same;
    }

-- the front of gates, cut behind the closed one or later
gates_front : (front gates rest : List ℕ) (next place m : ℕ) → gates ≡ front ++ next ∷ rest → length front ≡ place → place + 1 ≤ m → take m gates ≡ front ++ next ∷ take (m - (place + 1)) rest
gates_front front gates rest next place m is size long =
    let whole : length (front ++ next ∷ []) ≡ place + 1 = omega (arith, length-append front (next ∷ []), size) in
    let sum : m ≡ length (front ++ next ∷ []) + (m - (place + 1)) = omega (arith, whole, long) in
    ap (λ (k : ℕ). take k gates) sum
    ∙ ap (λ (l : List ℕ). take (length (front ++ next ∷ []) + (m - (place + 1))) l) (is ∙ sym (append_assoc front (next ∷ []) rest))
    ∙ take-append-add (front ++ next ∷ []) rest (m - (place + 1))
    ∙ append_assoc front (next ∷ []) (take (m - (place + 1)) rest)

gates_length : (front gates rest : List ℕ) (next place : ℕ) → gates ≡ front ++ next ∷ rest → length front ≡ place → length gates ≡ place + 1 + length rest
gates_length front gates rest next place is size = omega (arith, ap length is, length-append front (next ∷ rest), size)

pub gates_room : (v : LogVersion) (ends : List ℕ) (image : Image) → StandsAt v ends image → gate_place v (length ends) + 1 ≤ length (gates_of v image)
gates_room v ends image stands =
    omega (arith, gates_length (slots v 0 ends image.journal) (gates_of v image) stands.rest stands.next_gate (gate_place v (length ends)) stands.gates (length-slots v 0 ends image.journal))

pub gates_cut : (v : LogVersion) (ends : List ℕ) (entries : List (List ℕ)) (place : ℕ) (old new : Image) → 0 < length ends → place ≡ gate_place v (length ends) + 1 → Keeps v ends entries old → OnFile (file_of v) (CutBack place) old new → Keeps v ends entries new
gates_cut v ends entries place old new some is keeps goes =
    let was = keeps.stands in
    let step = on_gates v (CutBack place) old new goes in
    let long : gate_place v (length ends) + 1 ≤ length (gates_of v new) = omega (arith, step.gates.no_shorter, gates_room v ends old was, is) in
    let more : List ℕ = take (length (gates_of v new) - (gate_place v (length ends) + 1)) was.rest in
    let gates : gates_of v new ≡ slots v 0 ends new.journal ++ was.next_gate ∷ more =
    sym step.gates.front
    ∙ gates_front (slots v 0 ends old.journal) (gates_of v old) was.rest was.next_gate (gate_place v (length ends)) (length (gates_of v new)) was.gates (length-slots v 0 ends old.journal) long
    ∙ ap (λ (l : List ℕ). slots v 0 ends l ++ was.next_gate ∷ more) (sym step.journal) in
    record {
      stands = record {
        is = going_is v old new ends new.journal was.next_gate more some gates was.is (first_others v old new step.others);
        rising = was.rising;
        within = omega (arith, was.within, ap length step.journal);
        fits = was.fits;
        next_gate = was.next_gate;
        rest = more;
        gates = gates;
        closed = was.closed;
      };
      same = ap (λ (l : List ℕ). parts 0 ends l) step.journal ∙ keeps.same;
    }

-- what is cut beside the gates
pub beside_cut : (v : LogVersion) (ends : List ℕ) (entries : List (List ℕ)) (old new : Image) → 0 < length ends → Keeps v ends entries old → IsBeside v old new → Keeps v ends entries new
beside_cut v ends entries old new some keeps beside =
    let was = keeps.stands in
    let journal = beside_journal v old new beside in
    let gates : gates_of v new ≡ slots v 0 ends new.journal ++ was.next_gate ∷ was.rest =
    beside_gates v old new beside ∙ was.gates ∙ ap (λ (l : List ℕ). slots v 0 ends l ++ was.next_gate ∷ was.rest) (sym journal) in
    record {
      stands = record {
        is = going_is v old new ends new.journal was.next_gate was.rest some gates was.is (beside_first v old new beside);
        rising = was.rising;
        within = omega (arith, was.within, ap length journal);
        fits = was.fits;
        next_gate = was.next_gate;
        rest = was.rest;
        gates = gates;
        closed = was.closed;
      };
      same = ap (λ (l : List ℕ). parts 0 ends l) journal ∙ keeps.same;
    }

-- once all is cut
pub cut_rest : (v : LogVersion) (ends : List ℕ) (place1 place2 : ℕ) (old new : Image) → place1 ≡ last_end 0 ends → place2 ≡ gate_place v (length ends) + 1 → StandsAt v ends old → new.journal ≡ take place1 old.journal → gates_of v new ≡ take place2 (gates_of v old) → IsCleared v old new
    → IsAtRest v ends new × (parts 0 ends new.journal ≡ parts 0 ends old.journal)
cut_rest v ends place1 place2 old new is1 is2 was journal gates cleared = (
  record {
    fits = was.fits;
    journal = size ∙ is1;
    gates = now ∙ ap (λ (g : ℕ). slots v 0 ends new.journal ++ g ∷ []) (sym behind);
    closed = subst (λ (g : ℕ). g ≢ 1) (sym behind) was.closed;
    idle = idle_after v old new was.is cleared;
  },
  front_same ends old.journal new.journal was.rising front within,
)
  where
    size : length new.journal ≡ place1
    size = ap length journal ∙ length-take-le place1 old.journal (omega (arith, is1, was.within))

    front : take (length new.journal) old.journal ≡ new.journal
    front = ap (λ (k : ℕ). take k old.journal) size ∙ sym journal

    within : last_end 0 ends ≤ length new.journal
    within = omega (arith, size, is1)

    now : gates_of v new ≡ slots v 0 ends new.journal ++ was.next_gate ∷ []
    now = let none : place2 - (gate_place v (length ends) + 1) ≡ 0 = omega (arith, is2) in
        gates
        ∙ gates_front (slots v 0 ends old.journal) (gates_of v old) was.rest was.next_gate (gate_place v (length ends)) place2 was.gates (length-slots v 0 ends old.journal) (omega (arith, is2))
        ∙ ap (λ (k : ℕ). slots v 0 ends old.journal ++ was.next_gate ∷ take k was.rest) none
        ∙ ap (λ (l : List ℕ). l ++ was.next_gate ∷ []) (front_slots v ends old.journal new.journal was.rising front within)

    behind : gate_behind v ends new ≡ was.next_gate
    behind = ap (λ (l : List ℕ). get_or l (gate_place v (length ends)) 0) now ∙ get_or_at (slots v 0 ends new.journal) was.next_gate [] 0 (gate_place v (length ends)) (length-slots v 0 ends new.journal)

module _ (v : LogVersion) (ends : List ℕ) (rest : Image) (some : 0 < length ends) (was : StandsAt v ends rest) where
  abbrev entries : List (List ℕ)
  entries = parts 0 ends rest.journal

  at_first : Keeps v ends entries rest
  at_first = record { stands = was; same = refl }

  pub still_stands : (c : Image) → c ≡ rest → Stands c entries × IsOf v c
  still_stands c is = subst (λ (i : Image). Stands i entries × IsOf v i) (sym is) (kept v ends entries rest at_first)

  first : (place : ℕ) (old new : Image → Type 0) → place ≡ last_end 0 ends → Only rest old → Follows (OnFile Journal (CutBack place)) old new → (c : Image) → new c → Keeps v ends entries c
  first place old new is only follows c left =
      let from = follows c left in
      journal_cut v ends entries place rest c some is at_first (subst (λ (d : Image). OnFile Journal (CutBack place) d c) (only from.0 from.1) from.2)

  pub journal_left : (place : ℕ) (old new : Image → Type 0) → place ≡ last_end 0 ends → Only rest old → Follows (OnFile Journal (CutBack place)) old new → (c : Image) → new c → Stands c entries × IsOf v c
  journal_left place old new is only follows c left = kept v ends entries c (first place old new is only follows c left)

  second : (place1 place2 : ℕ) (old mid new : Image → Type 0) → place1 ≡ last_end 0 ends → place2 ≡ gate_place v (length ends) + 1 → Only rest old → Follows (OnFile Journal (CutBack place1)) old mid → Follows (OnFile (file_of v) (CutBack place2)) mid new
      → (c : Image) → new c → Keeps v ends entries c
  second place1 place2 old mid new is1 is2 only follows then c left =
      let from = then c left in
      gates_cut v ends entries place2 from.0 c some is2 (first place1 old mid is1 only follows from.0 from.1) from.2

  pub gates_left : (place1 place2 : ℕ) (old mid new : Image → Type 0) → place1 ≡ last_end 0 ends → place2 ≡ gate_place v (length ends) + 1 → Only rest old → Follows (OnFile Journal (CutBack place1)) old mid → Follows (OnFile (file_of v) (CutBack place2)) mid new
      → (c : Image) → new c → Stands c entries × IsOf v c
  gates_left place1 place2 old mid new is1 is2 only follows then c left = kept v ends entries c (second place1 place2 old mid new is1 is2 only follows then c left)

  pub beside_left : (place1 place2 : ℕ) (old mid later new : Image → Type 0) → place1 ≡ last_end 0 ends → place2 ≡ gate_place v (length ends) + 1 → Only rest old → Follows (OnFile Journal (CutBack place1)) old mid → Follows (OnFile (file_of v) (CutBack place2)) mid later → Follows (IsBeside v) later new
      → (c : Image) → new c → Stands c entries × IsOf v c
  beside_left place1 place2 old mid later new is1 is2 only follows then last c left =
      let from = last c left in
      kept v ends entries c (beside_cut v ends entries from.0 c some (second place1 place2 old mid later is1 is2 only follows then from.0 from.1) from.2)
