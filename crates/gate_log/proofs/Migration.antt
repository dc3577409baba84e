-- What a stop leaves in an upgrade.
use Rattle.std.proofs.Common.{◌≡◌, ◌≢◌, ◌<◌, ◌≤◌, ◌+◌, ◌⊎◌, inl, inr, ℕ, List, [], ◌∷◌, ◌++◌, length, take, drop, get_or, refl, sym, ◌∙◌, ap, subst, arith, length-append, take-append-drop}
use Rattle.std.proofs.lemmas.Bool.{cases_eq}
use Rattle.std.proofs.lemmas.List.{drop_more, get_or_at}
use Rattle.fleet_disk.specs.declared.disk.DiskFile.TheVariants.{Gate, Slots}
use Rattle.fleet_disk.specs.Image.{Image}
use Rattle.fleet_disk.specs.Rules.{overwritten, Torn, CutBack, OnFile}
use Rattle.gate_log.specs.declared.version.LogVersion.TheVariants.{First, Second}
use Rattle.gate_log.specs.Slots.{slots}
use Rattle.gate_log.specs.Standing.{last_end, IsRising, parts, StandsAt, Stands, IsAtRest, gate_behind}
use Rattle.gate_log.specs.Upgrade.{IsUnbegun, IsStaged, IsSwitching, IsSwitched}
use Rattle.gate_log.specs.Version.{IsBegun, gate_place}
use Rattle.gate_log.proofs.EndLemmas.{length-slots}
use Rattle.gate_log.proofs.Images.{over_end, torn_byte, over_byte}
use Rattle.gate_log.proofs.Versions.{idle_is, begun_by}

begun_more : (bytes more : List ℕ) → IsBegun bytes → IsBegun (bytes ++ more)
begun_more [] more (long, is) = absurd (omega (arith, long))
begun_more (x ∷ bytes) more (long, is) = (omega (arith, long, length-append bytes more), is)

-- a front isn't begun where the whole isn't
front_idle : (old new : List ℕ) → take (length new) old ≡ new → ¬ IsBegun old → ¬ IsBegun new
front_idle old new front idle begun =
    idle (subst (λ (l : List ℕ). IsBegun l) (ap (λ (l : List ℕ). l ++ drop (length new) old) (sym front) ∙ take-append-drop (length new) old) (begun_more new (drop (length new) old) begun))

first_byte : (bytes : List ℕ) (x : ℕ) → take 1 bytes ≡ x ∷ [] → get_or bytes 0 0 ≡ x
first_byte [] x is = cc
first_byte (y ∷ bytes) x is = ap (λ (l : List ℕ). get_or l 0 0) is

-- while `slots` is emptied
pub emptying : (rest c : Image) → ¬ IsBegun rest.slots → OnFile Slots (CutBack 0) rest c → IsUnbegun rest c
emptying rest c idle goes = record { journal = goes.1; gate = goes.2; idle = front_idle rest.slots c.slots goes.0.front idle }

-- while its first gate is written
pub beginning : (rest mid c : Image) → mid.journal ≡ rest.journal → mid.gate ≡ rest.gate → mid.slots ≡ [] → OnFile Slots (Torn 0 1) mid c → IsUnbegun rest c
beginning rest mid c journal gate none goes = record {
  journal = goes.1 ∙ journal;
  gate = goes.2 ∙ gate;
  idle = λ begun. omega (arith, begun.0, goes.0.no_longer, ap length none);
}

-- while it is filled
pub filling : (rest mid c : Image) (n : ℕ) → mid.journal ≡ rest.journal → mid.gate ≡ rest.gate → mid.slots ≡ 0 ∷ [] → OnFile Slots (Torn 1 n) mid c → IsUnbegun rest c
filling rest mid c n journal gate one goes = record {
  journal = goes.1 ∙ journal;
  gate = goes.2 ∙ gate;
  idle = λ begun. omega (arith, begun.1, first_byte c.slots 0 (goes.0.before ∙ ap (λ (l : List ℕ). take 1 l) one));
}

-- once it is emptied, begun and filled
pub emptied : (rest mid : Image) → OnFile Slots (λ (old new : List ℕ). new ≡ take 0 old) rest mid → mid.slots ≡ []
emptied rest mid goes = goes.0

pub one_gate : (old new : List ℕ) → old ≡ [] → new ≡ overwritten 0 (0 ∷ []) old → new ≡ 0 ∷ []
one_gate old new none is = is ∙ ap (λ (l : List ℕ). overwritten 0 (0 ∷ []) l) none

pub filled_up : (old new bytes : List ℕ) → old ≡ 0 ∷ [] → new ≡ overwritten 1 bytes old → new ≡ 0 ∷ bytes
filled_up old new bytes one is = is ∙ ap (λ (l : List ℕ). overwritten 1 bytes l) one ∙ over_end 1 bytes (0 ∷ []) refl

split_one : (bytes : List ℕ) → 0 < length bytes → bytes ≡ get_or bytes 0 0 ∷ drop 1 bytes
split_one bytes some = drop_more bytes 0 0 some

-- while its first gate is opened
pub opening : (rest c : Image) → 0 < length rest.slots → OnFile Slots (Torn 0 1) rest c → IsSwitching rest c
opening rest c some goes = record {
  journal = goes.1;
  first = get_or c.slots 0 0;
  slots = torn_byte [] (get_or rest.slots 0 0) (drop 1 rest.slots) c.slots 0 refl (subst (λ (l : List ℕ). Torn 0 1 l c.slots) (split_one rest.slots some) goes.0);
  either = inl goes.2;
}

pub opened_first : (old new : List ℕ) → 0 < length old → new ≡ overwritten 0 (1 ∷ []) old → new ≡ 1 ∷ drop 1 old
opened_first old new some is = is ∙ ap (λ (l : List ℕ). overwritten 0 (1 ∷ []) l) (split_one old some) ∙ over_byte [] (get_or old 0 0) 1 (drop 1 old) 0 refl

-- while `gate` is emptied
pub closing : (rest mid c : Image) → mid.journal ≡ rest.journal → mid.slots ≡ 1 ∷ drop 1 rest.slots → OnFile Gate (CutBack 0) mid c → IsSwitching rest c
closing rest mid c journal slots goes = record {
  journal = goes.1 ∙ journal;
  first = 1;
  slots = goes.2 ∙ slots;
  either = inr refl;
}

-- some entry begins `slots`
begun_some : (ends journal : List ℕ) (next : ℕ) (rest bytes : List ℕ) → 0 < length ends → bytes ≡ slots Second 0 ends journal ++ next ∷ rest → IsBegun bytes
begun_some [] journal next rest bytes some is = absurd (omega (arith, some))
begun_some (e ∷ ends) journal next rest bytes some is = begun_by e ends journal next rest bytes is

-- and is an open gate
pub open_first : (ends journal : List ℕ) (bytes : List ℕ) → 0 < length ends → bytes ≡ slots Second 0 ends journal ++ 0 ∷ [] → 1 ∷ drop 1 bytes ≡ slots Second 0 ends journal ++ 0 ∷ []
open_first [] journal bytes some is = absurd (omega (arith, some))
open_first (e ∷ ends) journal bytes some is = ap (λ (l : List ℕ). 1 ∷ drop 1 l) is

module _ (ends : List ℕ) (rest : Image) (some : 0 < length ends) (up : IsRising 0 ends) (at_rest : IsAtRest First ends rest) where
  abbrev pub entries : List (List ℕ)
  entries = parts 0 ends rest.journal

  -- in the first version, while `slots` isn't begun
  stands_first : (c : Image) → c.journal ≡ rest.journal → c.gate ≡ rest.gate → ¬ IsBegun c.slots → Stands c entries
  stands_first c journal gate idle =
      let now : c.gate ≡ slots First 0 ends c.journal ++ gate_behind First ends rest ∷ [] = gate ∙ at_rest.gates ∙ ap (λ (l : List ℕ). slots First 0 ends l ++ gate_behind First ends rest ∷ []) (sym journal) in (
        First,
        ends,
        record {
          is = idle_is First ends c.journal (gate_behind First ends rest) [] c now at_rest.closed idle;
          rising = up;
          within = omega (arith, at_rest.journal, ap length journal);
          fits = at_rest.fits;
          next_gate = gate_behind First ends rest;
          rest = [];
          gates = now;
          closed = at_rest.closed;
        },
        ap (λ (l : List ℕ). parts 0 ends l) (sym journal),
      )

  -- in the second, with its first gate open
  stands_second : (c : Image) → c.journal ≡ rest.journal → c.slots ≡ slots Second 0 ends rest.journal ++ 0 ∷ [] → Stands c entries
  stands_second c journal bytes =
      let now : c.slots ≡ slots Second 0 ends c.journal ++ 0 ∷ [] = bytes ∙ ap (λ (l : List ℕ). slots Second 0 ends l ++ 0 ∷ []) (sym journal) in (
        Second,
        ends,
        record {
          is = inl (begun_some ends c.journal 0 [] c.slots some now);
          rising = up;
          within = omega (arith, at_rest.journal, ap length journal);
          fits = at_rest.fits;
          next_gate = 0;
          rest = [];
          gates = now;
          closed = omega arith;
        },
        ap (λ (l : List ℕ). parts 0 ends l) (sym journal),
      )

  pub unbegun_stands : (c : Image) → IsUnbegun rest c → Stands c entries
  unbegun_stands c is = stands_first c is.journal is.gate is.idle

  pub still_first : (c : Image) → c ≡ rest → Stands c entries
  still_first c is = stands_first c (ap (λ (i : Image). i.journal) is) (ap (λ (i : Image). i.gate) is) (subst (λ (i : Image). ¬ IsBegun i.slots) (sym is) at_rest.idle)

  module _ (bytes : List ℕ) (whole : 1 ∷ bytes ≡ slots Second 0 ends rest.journal ++ 0 ∷ []) (staged : Image) (is : IsStaged bytes rest staged) where
    all_but_first : drop 1 staged.slots ≡ bytes
    all_but_first = ap (λ (l : List ℕ). drop 1 l) is.slots

    pub switching_stands : (c : Image) → IsSwitching staged c → Stands c entries
    switching_stands c goes = elim (cases_eq goes.first 1) [
      | inl open_gate ↦ stands_second c (goes.journal ∙ is.journal) (goes.slots ∙ ap (λ (x : ℕ). x ∷ drop 1 staged.slots) open_gate ∙ ap (λ (l : List ℕ). 1 ∷ l) all_but_first ∙ whole)
      | inr shut ↦ elim goes.either [
        | inl gate ↦ stands_first c (goes.journal ∙ is.journal) (gate ∙ is.gate) (λ begun. shut (sym (ap (λ (l : List ℕ). get_or l 0 0) goes.slots) ∙ begun.1))
        | inr open_gate ↦ absurd (shut open_gate)
      ]
    ]

    pub switched_bytes : (new : Image) → IsSwitched staged new → new.slots ≡ slots Second 0 ends rest.journal ++ 0 ∷ []
    switched_bytes new goes = goes.slots ∙ ap (λ (l : List ℕ). 1 ∷ l) all_but_first ∙ whole

    pub switched_rest : (new : Image) → IsSwitched staged new → IsAtRest Second ends new
    switched_rest new goes = record {
      fits = at_rest.fits;
      journal = ap length (goes.journal ∙ is.journal) ∙ at_rest.journal;
      gates = now ∙ ap (λ (g : ℕ). slots Second 0 ends new.journal ++ g ∷ []) (sym behind);
      closed = subst (λ (g : ℕ). g ≢ 1) (sym behind) (omega arith);
      idle = goes.gate;
    }
      where
        now : new.slots ≡ slots Second 0 ends new.journal ++ 0 ∷ []
        now = switched_bytes new goes ∙ ap (λ (l : List ℕ). slots Second 0 ends l ++ 0 ∷ []) (sym (goes.journal ∙ is.journal))

        behind : gate_behind Second ends new ≡ 0
        behind = ap (λ (l : List ℕ). get_or l (gate_place Second (length ends)) 0) now ∙ get_or_at (slots Second 0 ends new.journal) 0 [] 0 (gate_place Second (length ends)) (length-slots Second 0 ends new.journal)
