-- What a stop leaves after each device call of an append.
use Rattle.std.proofs.Common.{◌≡◌, ◌<◌, ◌≤◌, ◌+◌, ◌^◌, Bool, true, false, IsTrue, ℕ, List, [], ◌∷◌, ◌++◌, length, get_or, refl, sym, ◌∙◌, ap, subst, arith, length-append}
use Rattle.std.proofs.lemmas.List.{append-nil}
use Rattle.fleet_disk.specs.declared.disk.DiskFile.TheVariants.{Journal}
use Rattle.fleet_disk.specs.Image.{Image}
use Rattle.fleet_disk.specs.Rules.{overwritten, Torn, OnFile, Follows, Only}
use Rattle.gate_log.specs.declared.version.LogVersion.{LogVersion}
use Rattle.gate_log.specs.Version.{file_of, gates_of, others_of, IsOf, gate_place}
use Rattle.gate_log.specs.Slots.{mark, slots}
use Rattle.gate_log.specs.Standing.{last_end, IsRising, parts, Stands, IsAtRest, IsEither, gate_behind}
use Rattle.gate_log.proofs.EndLemmas.{length-slots}
use Rattle.gate_log.proofs.Images.{Extends, torn_end, torn_byte, over_byte, extended, staged_gates, opened_gates, gate_decides, at_rest_push, gates_with}
use Rattle.gate_log.proofs.Versions.{on_journal, on_gates, idle_is}

-- an entry behind the ends of a journal, as much of it as there is
record Written (v : LogVersion) (old new : Image) : Type 0 where
  pub more : List ℕ
  pub journal : new.journal ≡ old.journal ++ more
  pub gates : gates_of v new ≡ gates_of v old
  pub others : others_of v new ≡ others_of v old

module _ (v : LogVersion) (ends : List ℕ) (rest : Image) (up : IsRising 0 ends) (at_rest : IsAtRest v ends rest) where
  pub gates_length : length (gates_of v rest) ≡ gate_place v (length ends) + 1
  gates_length = omega (arith, ap length at_rest.gates, length-append (slots v 0 ends rest.journal) (gate_behind v ends rest ∷ []), length-slots v 0 ends rest.journal)

  -- before the first call
  pub still : (c : Image) → c ≡ rest → Stands c (parts 0 ends rest.journal)
  still c is = extended v ends rest up at_rest c (record {
    journal_more = [];
    gates_more = [];
    journal = ap (λ (i : Image). i.journal) is ∙ sym (append-nil rest.journal);
    gates = ap (λ (i : Image). gates_of v i) is ∙ sym (append-nil (gates_of v rest));
    others = ap (λ (i : Image). others_of v i) is;
  })

  -- after the entry's write
  first : (at n : ℕ) (old new : Image → Type 0) → at ≡ last_end 0 ends → Only rest old → Follows (OnFile Journal (Torn at n)) old new
      → (c : Image) → new c → Written v rest c
  first at n old new place only follows c left =
      let from = follows c left in
      let step = on_journal v (Torn at n) rest c (subst (λ (d : Image). OnFile Journal (Torn at n) d c) (only from.0 from.1) from.2) in
      record {
        more = _;
        journal = torn_end at n rest.journal c.journal (place ∙ sym at_rest.journal) step.journal;
        gates = step.gates;
        others = step.others;
      }

  pub first_left : (at n : ℕ) (old new : Image → Type 0) → at ≡ last_end 0 ends → Only rest old → Follows (OnFile Journal (Torn at n)) old new
      → (c : Image) → new c → Stands c (parts 0 ends rest.journal)
  first_left at n old new place only follows c left =
      let more = first at n old new place only follows c left in
      extended v ends rest up at_rest c (record { journal_more = more.more; gates_more = []; journal = more.journal; gates = more.gates ∙ sym (append-nil (gates_of v rest)); others = more.others })

  -- after its slot's
  pub second_left : (at n place m : ℕ) (old mid new : Image → Type 0) → at ≡ last_end 0 ends → place ≡ gate_place v (length ends) + 1 → Only rest old
      → Follows (OnFile Journal (Torn at n)) old mid → Follows (OnFile (file_of v) (Torn place m)) mid new
      → (c : Image) → new c → Stands c (parts 0 ends rest.journal)
  second_left at n place m old mid new start behind only follows then c left =
      let from = then c left in
      let more = first at n old mid start only follows from.0 from.1 in
      let step = on_gates v (Torn place m) from.0 c from.2 in
      let torn = subst (λ (g : List ℕ). Torn place m g (gates_of v c)) more.gates step.gates in
      extended v ends rest up at_rest c (record {
        journal_more = more.more;
        gates_more = _;
        journal = step.journal ∙ more.journal;
        gates = torn_end place m (gates_of v rest) (gates_of v c) (behind ∙ sym gates_length) torn;
        others = step.others ∙ more.others;
      })

  module _ (entry : List ℕ) (end : ℕ) (some : 0 < length entry) (is : end ≡ length rest.journal + length entry) (fits : end < 2 ^ 64) (staged : Image)
      (journal : staged.journal ≡ rest.journal ++ entry) (gates : gates_of v staged ≡ gates_of v rest ++ (mark v end entry ++ 0 ∷ [])) (others : others_of v staged ≡ others_of v rest) where
    whole : gates_of v staged ≡ gates_with v ends rest up at_rest entry end some is fits (gate_behind v ends rest)
    whole = gates ∙ staged_gates v ends rest up at_rest entry end some is fits

    -- after the gate's
    pub third_left : (at : ℕ) (old new : Image → Type 0) → at ≡ gate_place v (length ends) → Only staged old → Follows (OnFile (file_of v) (Torn at 1)) old new
        → (c : Image) → new c → IsEither (parts 0 ends rest.journal) entry c
    third_left at old new place only follows c left =
        let from = follows c left in
        let step = on_gates v (Torn at 1) staged c (subst (λ (d : Image). OnFile (file_of v) (Torn at 1) d c) (only from.0 from.1) from.2) in
        let torn = subst (λ (g : List ℕ). Torn at 1 g (gates_of v c)) whole step.gates in
        gate_decides v ends rest up at_rest entry end some is fits c (get_or (gates_of v c) at 0) (step.journal ∙ journal)
        (torn_byte (slots v 0 ends rest.journal) (gate_behind v ends rest) (mark v end entry ++ 0 ∷ []) (gates_of v c) at (place ∙ sym (length-slots v 0 ends rest.journal)) torn)
        (step.others ∙ others)

    -- with the gate open
    pub opened : (at : ℕ) (c : Image) → at ≡ gate_place v (length ends) → gates_of v c ≡ overwritten at (1 ∷ []) (gates_of v staged) → c.journal ≡ staged.journal → others_of v c ≡ others_of v staged
        → IsAtRest v (ends ++ end ∷ []) c × (parts 0 (ends ++ end ∷ []) c.journal ≡ parts 0 ends rest.journal ++ entry ∷ [])
    opened at c place over same beside =
        at_rest_push v ends rest up at_rest entry end some is fits c (same ∙ journal)
        (over ∙ ap (λ (l : List ℕ). overwritten at (1 ∷ []) l) whole ∙ over_byte (slots v 0 ends rest.journal) (gate_behind v ends rest) 1 (mark v end entry ++ 0 ∷ []) at (place ∙ sym (length-slots v 0 ends rest.journal)))
        (beside ∙ others)

    -- and the gates, byte by byte
    pub opened_bytes : (at : ℕ) (c : Image) → at ≡ gate_place v (length ends) → gates_of v c ≡ overwritten at (1 ∷ []) (gates_of v staged) → c.journal ≡ staged.journal → gates_of v c ≡ slots v 0 (ends ++ end ∷ []) c.journal ++ 0 ∷ []
    opened_bytes at c place over same =
        over ∙ ap (λ (l : List ℕ). overwritten at (1 ∷ []) l) whole ∙ over_byte (slots v 0 ends rest.journal) (gate_behind v ends rest) 1 (mark v end entry ++ 0 ∷ []) at (place ∙ sym (length-slots v 0 ends rest.journal))
        ∙ opened_gates v ends rest up at_rest entry end some is fits c.journal (same ∙ journal)

-- a call that hasn't failed
pub not_failed : (failed : Bool) → ¬ (IsTrue failed) → failed ≡ false
not_failed true working = absurd (working refl)
not_failed false working = refl

-- a log at rest has its version
pub rest_is : (v : LogVersion) (ends : List ℕ) (rest : Image) → IsAtRest v ends rest → IsOf v rest
rest_is v ends rest at_rest = idle_is v ends rest.journal (gate_behind v ends rest) [] rest at_rest.gates at_rest.closed at_rest.idle
