use Rattle.std.proofs.Common.{◌≡◌, ◌≤◌, ◌+◌, ◌^◌, ◌<◌, ◌++◌, [], ◌∷◌, Option, IfSome, Err, List, ℕ, length, drop, get_or, rules, sym, ◌∙◌, ap, subst, arith}
use Rattle.fleet_disk.specs.Image.{Image}
use Rattle.gate_log.specs.declared.fault.LogFault.{LogFault}
use Rattle.gate_log.specs.Lengths.{AreLengths, EndsWithin}
use Rattle.gate_log.specs.Slots.{slots}
use Rattle.gate_log.specs.Standing.{IsRising, last_end, IsDamagedAt, IsOpenAt, IsSlot, IsSlotAt}
use Rattle.gate_log.specs.Version.{gates_of, slot_size, gate_place}
use Rattle.gate_log.proofs.EndLemmas.{slots_more, place_push, rising_push, last_end_push}
use Rattle.gate_log.proofs.Damage.{damaged_at, entry_told, damaged_is}
use Rattle.gate_log.proofs.Looking.{looks_more}
use Rattle.gate_log.proofs.find.find_ends.Goals as goal

pub returns-in-Err-clause-damaged : goal.returns-in-Err-clause-damaged
returns-in-Err-clause-damaged g c h entry is =
    let D = g.D.Disk in
    let so_far = c.loop-at.invariant in
    let rest = D.reads c.args.disk.now in
    let v = c.args.lengths.now.version in
    let ends = c.loop-at.ends.items in
    let are = c.requires.lengths h in
    let same = so_far.looks.same h in
    let here = subst (λ (i : Image). AreLengths c.args.lengths.now i) (sym same) are in
    let count : c.len-entry.result ≡ length ends = search rules in
    let told : c.len-entry.result ≡ entry = entry_told c.len-entry.result entry c.in-Err.fault c.in-Err.ensures.no_other (cc) in
    let bad = subst (λ (i : Image). (get_or (gates_of v i) c.loop-at.at 0 ≡ 1) × ((end : ℕ) → IsSlot v c.loop-at.last end i.journal (drop (c.loop-at.at + 1) (gates_of v i)) → ⊥)) same
    (c.in-Err.ensures.damaged (so_far.looks.both_ways.0 h) here (ap (λ (f : LogFault). Err f) (damaged_is c.len-entry.result entry c.in-Err.fault told (cc)))) in
    subst (λ (k : ℕ). IsDamagedAt k rest) (sym count ∙ told)
    (damaged_at v rest ends c.loop-at.at (c.requires.is h) so_far.rising (omega (arith, so_far.last, so_far.within, are.0)) (omega (arith, so_far.last)) (omega (arith, c.loop-at-test.true, are.1)) bad.0 (so_far.slots h)
    (subst (λ (k : ℕ). (end : ℕ) → IsSlot v k end rest.journal (drop (c.loop-at.at + 1) (gates_of v rest)) → ⊥) so_far.last bad.1))

pub overflow_add-at : goal.overflow_add-at
overflow_add-at g c =
    let room = (subst (λ (o : Option ℕ). IfSome o (EndsWithin c.args.lengths.now c.loop-at.at c.loop-at.last)) c.in-Some.is c.in-Ok.ensures.bounds).2 in
    omega (arith, room, c.slot_bytes-at.ensures.size)

pub loop-at-preserved : goal.loop-at-preserved
loop-at-preserved g c =
    let D = g.D.Disk in
    let so_far = c.loop-at.invariant in
    let rest = D.reads c.args.disk.now in
    let v = c.args.lengths.now.version in
    let ends = c.loop-at.ends.items in
    let end = c.in-Some.end in
    let items : c.push.new.self.items ≡ ends ++ end ∷ [] = c.in_ok-push.ensures.items in
    let size = c.slot_bytes-at.ensures.size in
    let bounds = subst (λ (o : Option ℕ). IfSome o (EndsWithin c.args.lengths.now c.loop-at.at c.loop-at.last)) c.in-Some.is c.in-Ok.ensures.bounds in
    let room = bounds.2 in
    let order = bounds.0 in
    let within = bounds.1 in
    record {
      looks = looks_more D g.met.D.Disk.only_now c.args.disk.now c.loop-at.disk c.next_end.new.disk so_far.looks c.next_end.ensures.looks.only;
      place = omega (arith, so_far.place, size, place_push v ends end, ap (λ (l : List ℕ). gate_place v (length l)) items);
      next = λ some. omega (arith, room, size);
      last = sym (ap (λ (l : List ℕ). last_end 0 l) items ∙ last_end_push 0 ends end);
      rising = subst (λ (l : List ℕ). IsRising 0 l) (sym items) (rising_push 0 ends end so_far.rising (omega (arith, so_far.last, order)));
      within = within;
      slots = λ h.
          let are = c.requires.lengths h in
          let same = so_far.looks.same h in
          let h1 = so_far.looks.both_ways.0 h in
          let here = subst (λ (i : Image). AreLengths c.args.lengths.now i) (sym same) are in
          let found = subst (λ (i : Image). IsOpenAt v c.loop-at.at i × IsSlotAt v c.loop-at.at c.loop-at.last end i) same
          (subst (λ (o : Option ℕ). IfSome o (λ (e : ℕ). IsOpenAt v c.loop-at.at (D.reads c.loop-at.disk) × IsSlotAt v c.loop-at.at c.loop-at.last e (D.reads c.loop-at.disk))) c.in-Some.is (c.in-Ok.ensures.found h1 here).1) in
          let is_open = found.0 in
          let slot = found.1 in
          slots_more v ends rest.journal (gates_of v rest) c.loop-at.at end so_far.place (omega (arith, c.loop-at-test.true, are.1)) is_open (subst (λ (k : ℕ). IsSlot v k end rest.journal (drop (c.loop-at.at + 1) (gates_of v rest))) so_far.last slot) (so_far.slots h)
          ∙ ap (λ (n : ℕ). slots v 0 (ends ++ end ∷ []) rest.journal ++ drop (c.loop-at.at + n) (gates_of v rest)) (sym size)
          ∙ ap (λ (l : List ℕ). slots v 0 l rest.journal ++ drop (c.loop-at.at + c.slot_bytes-at.result) (gates_of v rest)) (sym items);
    }
