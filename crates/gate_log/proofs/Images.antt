-- What a stop leaves in each step of an append.
use Rattle.std.proofs.Common.{◌≡◌, ◌≢◌, ◌<◌, ◌≤◌, ◌+◌, ◌-◌, ◌*◌, ◌^◌, inl, inr, ℕ, List, [], ◌∷◌, ◌++◌, length, take, drop, get_or, refl, sym, ◌∙◌, ap, subst, arith, append_assoc, length-append, length-drop, take-append-drop}
use Rattle.std.proofs.lemmas.Bool.{cases_eq}
use Rattle.std.proofs.lemmas.List.{append-nil, take_all, drop_all, take_at, drop_at, drop_more, get_or_at}
use Rattle.fleet_disk.specs.Image.{Image}
use Rattle.fleet_disk.specs.Rules.{overwritten, Torn}
use Rattle.gate_log.specs.declared.version.LogVersion.{LogVersion}
use Rattle.gate_log.specs.Version.{gates_of, others_of, IsOf, gate_place, IsIdle}
use Rattle.gate_log.specs.Slots.{part, mark, slot, slots}
use Rattle.gate_log.specs.Standing.{last_end, IsRising, parts, StandsAt, Stands, IsAtRest, IsEither, gate_behind}
use Rattle.gate_log.proofs.EndLemmas.{length-slots, slots_push, slots_front, part_last, last_end_push, rising_push, parts_front, parts_push}
use Rattle.gate_log.proofs.Versions.{idle_is}

-- a write at the end, done
pub over_end : (at : ℕ) (bytes old : List ℕ) → at ≡ length old → overwritten at bytes old ≡ old ++ bytes
over_end at bytes old is =
    ap (λ (l : List ℕ). l ++ bytes ++ drop (at + length bytes) old) (take_all at old (omega (arith, is)))
    ∙ ap (λ (l : List ℕ). old ++ bytes ++ l) (drop_all (at + length bytes) old (omega (arith, is)))
    ∙ append-nil (old ++ bytes)

-- a write at the end, torn
pub torn_end : (at n : ℕ) (old new : List ℕ) → at ≡ length old → Torn at n old new → new ≡ old ++ drop at new
torn_end at n old new is torn =
    sym (take-append-drop at new) ∙ ap (λ (l : List ℕ). l ++ drop at new) (torn.before ∙ take_all at old (omega (arith, is)))

-- a write of one byte, torn: any byte there
pub torn_byte : (front : List ℕ) (gate : ℕ) (rest new : List ℕ) (at : ℕ) → at ≡ length front → Torn at 1 (front ++ gate ∷ rest) new → new ≡ front ++ get_or new at 0 ∷ rest
torn_byte front gate rest new at is torn =
    let long : length (front ++ gate ∷ rest) ≡ at + (1 + length rest) = omega (arith, length-append front (gate ∷ rest), is) in
    let head : take at new ≡ front = torn.before ∙ take_at front (gate ∷ rest) at (sym is) in
    let split : front ++ gate ∷ rest ≡ (front ++ gate ∷ []) ++ rest = sym (append_assoc front (gate ∷ []) rest) in
    let tail : drop (at + 1) new ≡ rest =
    torn.after ∙ ap (λ (l : List ℕ). drop (at + 1) l) split ∙ drop_at (front ++ gate ∷ []) rest (at + 1) (omega (arith, length-append front (gate ∷ []), is)) in
    sym (take-append-drop at new)
    ∙ ap (λ (l : List ℕ). l ++ drop at new) head
    ∙ ap (λ (l : List ℕ). front ++ l) (drop_more new at 0 (omega (arith, torn.no_shorter, long)) ∙ ap (λ (l : List ℕ). get_or new at 0 ∷ l) tail)

-- one byte, written
pub over_byte : (front : List ℕ) (gate new_gate : ℕ) (rest : List ℕ) (at : ℕ) → at ≡ length front → overwritten at (new_gate ∷ []) (front ++ gate ∷ rest) ≡ front ++ new_gate ∷ rest
over_byte front gate new_gate rest at is =
    let split : front ++ gate ∷ rest ≡ (front ++ gate ∷ []) ++ rest = sym (append_assoc front (gate ∷ []) rest) in
    let tail : drop (at + 1) (front ++ gate ∷ rest) ≡ rest =
    ap (λ (l : List ℕ). drop (at + 1) l) split ∙ drop_at (front ++ gate ∷ []) rest (at + 1) (omega (arith, length-append front (gate ∷ []), is)) in
    ap (λ (l : List ℕ). l ++ new_gate ∷ [] ++ drop (at + 1) (front ++ gate ∷ rest)) (take_at front (gate ∷ rest) at (sym is))
    ∙ ap (λ (l : List ℕ). front ++ new_gate ∷ [] ++ l) tail
    ∙ append_assoc front (new_gate ∷ []) rest

-- an image that goes on behind another's ends
pub record Extends (v : LogVersion) (old new : Image) : Type 0 where
  pub journal_more : List ℕ
  pub gates_more : List ℕ
  pub journal : new.journal ≡ old.journal ++ journal_more
  pub gates : gates_of v new ≡ gates_of v old ++ gates_more
  pub others : others_of v new ≡ others_of v old

module _ (v : LogVersion) (ends : List ℕ) (rest : Image) (up : IsRising 0 ends) (at_rest : IsAtRest v ends rest) where
  abbrev pub entries : List (List ℕ)
  entries = parts 0 ends rest.journal

  -- the slots of the entries that stand, in a journal that goes on
  same_slots : (journal more : List ℕ) → journal ≡ rest.journal ++ more → slots v 0 ends journal ≡ slots v 0 ends rest.journal
  same_slots journal more is = ap (λ (l : List ℕ). slots v 0 ends l) is ∙ slots_front v 0 ends rest.journal more up (omega (arith, at_rest.journal))

  -- an image with these slots, a closed gate behind them and the other file as it was
  stands_with : (c : Image) (gate : ℕ) (more behind : List ℕ) → c.journal ≡ rest.journal ++ more → gates_of v c ≡ slots v 0 ends rest.journal ++ gate ∷ behind → gate ≢ 1 → others_of v c ≡ others_of v rest → Stands c entries
  stands_with c gate more behind journal gates shut others =
      let now : gates_of v c ≡ slots v 0 ends c.journal ++ gate ∷ behind = gates ∙ ap (λ (l : List ℕ). l ++ gate ∷ behind) (sym (same_slots c.journal more journal)) in (
        v,
        ends,
        record {
          is = idle_is v ends c.journal gate behind c now shut (subst (λ (l : List ℕ). IsIdle v l) (sym others) at_rest.idle);
          rising = up;
          within = omega (arith, at_rest.journal, ap length journal, length-append rest.journal more);
          fits = at_rest.fits;
          next_gate = gate;
          rest = behind;
          gates = now;
          closed = shut;
        },
        sym (parts_front 0 ends rest.journal more up (omega (arith, at_rest.journal))) ∙ ap (λ (l : List ℕ). parts 0 ends l) (sym journal),
      )

  -- what is written behind the ends changes no entry that stands
  pub extended : (c : Image) → Extends v rest c → Stands c entries
  extended c more = stands_with c (gate_behind v ends rest) more.journal_more more.gates_more more.journal
      (more.gates ∙ ap (λ (l : List ℕ). l ++ more.gates_more) at_rest.gates ∙ append_assoc (slots v 0 ends rest.journal) (gate_behind v ends rest ∷ []) more.gates_more)
      at_rest.closed more.others

  -- with the entry and its slot behind the ends, the gate decides
  module _ (entry : List ℕ) (end : ℕ) (some : 0 < length entry) (is : end ≡ length rest.journal + length entry) (fits : end < 2 ^ 64) where
    -- the gates with this one for the entry
    abbrev pub gates_with : ℕ → List ℕ
    gates_with gate = slots v 0 ends rest.journal ++ gate ∷ (mark v end entry ++ 0 ∷ [])

    pub staged_gates : gates_of v rest ++ (mark v end entry ++ 0 ∷ []) ≡ gates_with (gate_behind v ends rest)
    staged_gates = ap (λ (l : List ℕ). l ++ (mark v end entry ++ 0 ∷ [])) at_rest.gates ∙ append_assoc (slots v 0 ends rest.journal) (gate_behind v ends rest ∷ []) (mark v end entry ++ 0 ∷ [])

    new_slots : slots v 0 (ends ++ end ∷ []) (rest.journal ++ entry) ≡ slots v 0 ends rest.journal ++ slot v end entry
    new_slots =
        slots_push v 0 ends (rest.journal ++ entry) end
        ∙ ap (λ (l : List ℕ). l ++ slot v end (part (last_end 0 ends) end (rest.journal ++ entry))) (same_slots (rest.journal ++ entry) entry refl)
        ∙ ap (λ (p : List ℕ). slots v 0 ends rest.journal ++ slot v end p) (part_last (last_end 0 ends) end rest.journal entry (sym at_rest.journal) is)

    pub opened_gates : (journal : List ℕ) → journal ≡ rest.journal ++ entry → gates_with 1 ≡ slots v 0 (ends ++ end ∷ []) journal ++ 0 ∷ []
    opened_gates journal same =
        sym (append_assoc (slots v 0 ends rest.journal) (slot v end entry) (0 ∷ []))
        ∙ ap (λ (l : List ℕ). l ++ 0 ∷ []) (sym new_slots)
        ∙ ap (λ (l : List ℕ). slots v 0 (ends ++ end ∷ []) l ++ 0 ∷ []) (sym same)

    new_rising : IsRising 0 (ends ++ end ∷ [])
    new_rising = rising_push 0 ends end up (omega (arith, at_rest.journal, is, some))

    new_parts : parts 0 (ends ++ end ∷ []) (rest.journal ++ entry) ≡ entries ++ entry ∷ []
    new_parts = parts_push 0 ends rest.journal entry end up (sym at_rest.journal) is

    new_length : length (rest.journal ++ entry) ≡ end
    new_length = omega (arith, length-append rest.journal entry, is)

    with_entry : (c : Image) → c.journal ≡ rest.journal ++ entry → gates_of v c ≡ gates_with 1 → others_of v c ≡ others_of v rest → Stands c (entries ++ entry ∷ [])
    with_entry c journal gates others =
        let now : gates_of v c ≡ slots v 0 (ends ++ end ∷ []) c.journal ++ 0 ∷ [] = gates ∙ opened_gates c.journal journal in (
          v,
          ends ++ end ∷ [],
          record {
            is = idle_is v (ends ++ end ∷ []) c.journal 0 [] c now (omega arith) (subst (λ (l : List ℕ). IsIdle v l) (sym others) at_rest.idle);
            rising = new_rising;
            within = omega (arith, last_end_push 0 ends end, ap length journal, new_length);
            fits = omega (arith, last_end_push 0 ends end, fits);
            next_gate = 0;
            rest = [];
            gates = now;
            closed = omega arith;
          },
          sym new_parts ∙ ap (λ (l : List ℕ). parts 0 (ends ++ end ∷ []) l) (sym journal),
        )

    pub gate_decides : (c : Image) (gate : ℕ) → c.journal ≡ rest.journal ++ entry → gates_of v c ≡ gates_with gate → others_of v c ≡ others_of v rest → IsEither entries entry c
    gate_decides c gate journal gates others = elim (cases_eq gate 1) [
      | inl open_gate ↦ inr (with_entry c journal (gates ∙ ap (λ (g : ℕ). gates_with g) open_gate) others)
      | inr shut ↦ inl (stands_with c gate entry (mark v end entry ++ 0 ∷ []) journal gates shut others)
    ]

    -- the entry stands, and nothing is behind it
    pub at_rest_push : (c : Image) → c.journal ≡ rest.journal ++ entry → gates_of v c ≡ gates_with 1 → others_of v c ≡ others_of v rest → IsAtRest v (ends ++ end ∷ []) c × (parts 0 (ends ++ end ∷ []) c.journal ≡ entries ++ entry ∷ [])
    at_rest_push c journal gates others = (
      record {
        fits = omega (arith, last_end_push 0 ends end, fits);
        journal = ap length journal ∙ new_length ∙ sym (last_end_push 0 ends end);
        gates = now ∙ ap (λ (g : ℕ). slots v 0 (ends ++ end ∷ []) c.journal ++ g ∷ []) (sym behind);
        closed = subst (λ (g : ℕ). g ≢ 1) (sym behind) (omega arith);
        idle = subst (λ (l : List ℕ). IsIdle v l) (sym others) at_rest.idle;
      },
      ap (λ (l : List ℕ). parts 0 (ends ++ end ∷ []) l) journal ∙ new_parts,
    )
      where
        now : gates_of v c ≡ slots v 0 (ends ++ end ∷ []) c.journal ++ 0 ∷ []
        now = gates ∙ opened_gates c.journal journal

        behind : gate_behind v (ends ++ end ∷ []) c ≡ 0
        behind = ap (λ (l : List ℕ). get_or l (gate_place v (length (ends ++ end ∷ []))) 0) now ∙ get_or_at (slots v 0 (ends ++ end ∷ []) c.journal) 0 [] 0 (gate_place v (length (ends ++ end ∷ []))) (length-slots v 0 (ends ++ end ∷ []) c.journal)
