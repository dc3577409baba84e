use Rattle.std.proofs.Common.{rules, ◌≡◌, ◌<◌, ◌≤◌, ◌+◌, ◌^◌, ◌↔◌, ℕ, List, IsTrue, length, take, drop, sym, subst, arith, length-drop}
use Rattle.std.proofs.lemmas.List.{drop-drop}
use Rattle.fleet_disk.specs.declared.disk.DiskFile.{DiskFile}
use Rattle.fleet_disk.specs.Image.{Image, bytes_of}
use Rattle.gate_log.specs.Slots.{eight_bytes, part}
use Rattle.gate_log.specs.Version.{gates_of, sum_of, sum_size, slot_size}
use Rattle.gate_log.proofs.Damage.{short_slot, low_slot, high_slot, other_sum, whole_slot}
use Rattle.gate_log.proofs.EndLemmas.{slot_sum}
use Rattle.gate_log.proofs.find.slot_end.Goals.{then-end-start-via-then-end-start, then-end-start-via-else-end-start+then-end-lengths}
use Rattle.gate_log.proofs.find.slot_end.Goals as goal

pub returns-then-lengths-at-clause-damaged : goal.returns-then-lengths-at-clause-damaged
returns-then-lengths-at-clause-damaged g c h are is =
    let D = g.D.Disk in
    let rest = D.reads c.args.disk.now in
    let v = c.args.lengths.now.version in
    let gates = gates_of v rest in
    let behind = drop (c.args.at + 1) gates in
    short_slot v c.args.start rest.journal behind (omega (arith, are.1, c.if-lengths-at.true, c.slot_bytes.ensures.size, length-drop (c.args.at + 1) gates, c.requires))

pub returns-then-end-start-clause-damaged : goal.returns-then-end-start-clause-damaged
returns-then-end-start-clause-damaged g c h are is =
    let D = g.D.Disk in
    let rest = D.reads c.args.disk.now in
    let v = c.args.lengths.now.version in
    let gates = gates_of v rest in
    let behind = drop (c.args.at + 1) gates in
    let long : c.args.at + 1 + slot_size v ≤ length gates = omega (arith, are.1, c.if-lengths-at.false, c.slot_bytes.ensures.size, c.requires) in
    let room : c.args.at + 1 + 8 ≤ length (bytes_of c.gates_file.result rest) = subst (λ (file : DiskFile). c.args.at + 1 + 8 ≤ length (bytes_of file rest)) (sym c.gates_file.ensures) (omega (arith, long, slot_sum v)) in
    let end = c.in_ok-end.end in
    let small : end < 2 ^ 64 = omega arith in
    let read : take 8 behind ≡ eight_bytes end = subst (λ (file : DiskFile). take 8 (drop (c.args.at + 1) (bytes_of file rest)) ≡ eight_bytes end) c.gates_file.ensures (c.in_ok-end.ensures.length h room) in
    elim c.then-end-start.branch [
      | then-end-start-via-then-end-start w ↦ low_slot v c.args.start rest.journal behind end read small (omega (arith, w.if-end-start.true))
      | then-end-start-via-else-end-start+then-end-lengths w ↦ high_slot v c.args.start rest.journal behind end read small (omega (arith, w.if-end-lengths.true, are.0))
    ]

pub returns-then-not-is_whole-clause-damaged : goal.returns-then-not-is_whole-clause-damaged
returns-then-not-is_whole-clause-damaged g c h are is =
    let D = g.D.Disk in
    let rest = D.reads c.args.disk.now in
    let v = c.args.lengths.now.version in
    let gates = gates_of v rest in
    let behind = drop (c.args.at + 1) gates in
    let long : c.args.at + 1 + slot_size v ≤ length gates = omega (arith, are.1, c.if-lengths-at.false, c.slot_bytes.ensures.size, c.requires) in
    let room : c.args.at + 1 + 8 ≤ length (bytes_of c.gates_file.result rest) = subst (λ (file : DiskFile). c.args.at + 1 + 8 ≤ length (bytes_of file rest)) (sym c.gates_file.ensures) (omega (arith, long, slot_sum v)) in
    let end = c.in_ok-end.end in
    let small : end < 2 ^ 64 = omega arith in
    let read : take 8 behind ≡ eight_bytes end = subst (λ (file : DiskFile). take 8 (drop (c.args.at + 1) (bytes_of file rest)) ≡ eight_bytes end) c.gates_file.ensures (c.in_ok-end.ensures.length h room) in
    let looks = c.read_length.ensures.looks.only in
    let same = looks.same h in
    let h1 = looks.both_ways.0 h in
    let within : end ≤ length rest.journal = omega (arith, are.0, c.if-end-lengths.false) in
    let inside : c.args.at + 1 + 8 + sum_size v ≤ length gates = omega (arith, long, slot_sum v) in
    let whole : IsTrue c.in_ok-is_whole.is_whole ↔ (take (sum_size v) (drop 8 behind) ≡ sum_of v (part c.args.start end rest.journal)) =
    subst (λ (l : List ℕ). IsTrue c.in_ok-is_whole.is_whole ↔ (take (sum_size v) l ≡ sum_of v (part c.args.start end rest.journal))) (sym (drop-drop 8 (c.args.at + 1) gates))
    (subst (λ (i : Image). IsTrue c.in_ok-is_whole.is_whole ↔ (take (sum_size v) (drop (c.args.at + 1 + 8) (gates_of v i)) ≡ sum_of v (part c.args.start end i.journal))) same
    (c.in_ok-is_whole.ensures.sum h1 (subst (λ (i : Image). c.args.at + 1 + 8 + sum_size v ≤ length (gates_of v i)) (sym same) inside) (subst (λ (i : Image). end ≤ length i.journal) (sym same) within))) in
    other_sum v c.args.start rest.journal behind end read small (λ it. let yes : IsTrue c.in_ok-is_whole.is_whole = whole.1 it in search rules)

pub returns-clause-slot : goal.returns-clause-slot
returns-clause-slot g c h are =
    let D = g.D.Disk in
    let rest = D.reads c.args.disk.now in
    let v = c.args.lengths.now.version in
    let gates = gates_of v rest in
    let behind = drop (c.args.at + 1) gates in
    let long : c.args.at + 1 + slot_size v ≤ length gates = omega (arith, are.1, c.if-lengths-at.false, c.slot_bytes.ensures.size, c.requires) in
    let room : c.args.at + 1 + 8 ≤ length (bytes_of c.gates_file.result rest) = subst (λ (file : DiskFile). c.args.at + 1 + 8 ≤ length (bytes_of file rest)) (sym c.gates_file.ensures) (omega (arith, long, slot_sum v)) in
    let end = c.in_ok-end.end in
    let small : end < 2 ^ 64 = omega arith in
    let read : take 8 behind ≡ eight_bytes end = subst (λ (file : DiskFile). take 8 (drop (c.args.at + 1) (bytes_of file rest)) ≡ eight_bytes end) c.gates_file.ensures (c.in_ok-end.ensures.length h room) in
    let looks = c.read_length.ensures.looks.only in
    let same = looks.same h in
    let h1 = looks.both_ways.0 h in
    let within : end ≤ length rest.journal = omega (arith, are.0, c.if-end-lengths.false) in
    let inside : c.args.at + 1 + 8 + sum_size v ≤ length gates = omega (arith, long, slot_sum v) in
    let whole : IsTrue c.in_ok-is_whole.is_whole ↔ (take (sum_size v) (drop 8 behind) ≡ sum_of v (part c.args.start end rest.journal)) =
    subst (λ (l : List ℕ). IsTrue c.in_ok-is_whole.is_whole ↔ (take (sum_size v) l ≡ sum_of v (part c.args.start end rest.journal))) (sym (drop-drop 8 (c.args.at + 1) gates))
    (subst (λ (i : Image). IsTrue c.in_ok-is_whole.is_whole ↔ (take (sum_size v) (drop (c.args.at + 1 + 8) (gates_of v i)) ≡ sum_of v (part c.args.start end i.journal))) same
    (c.in_ok-is_whole.ensures.sum h1 (subst (λ (i : Image). c.args.at + 1 + 8 + sum_size v ≤ length (gates_of v i)) (sym same) inside) (subst (λ (i : Image). end ≤ length i.journal) (sym same) within))) in
    let yes : IsTrue c.in_ok-is_whole.is_whole = search rules in
    whole_slot v c.args.start rest.journal behind end (omega (arith, c.if-end-start.false)) within small (omega (arith, long, length-drop (c.args.at + 1) gates)) read (whole.0 yes)
