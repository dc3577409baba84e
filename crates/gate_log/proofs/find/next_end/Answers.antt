use Rattle.std.proofs.Common.{rules, ◌≡◌, ◌<◌, ◌+◌, ℕ, List, IsTrue, IsErrOf, length, drop, get_or, sym, subst, arith, ◌∙◌}
use Rattle.fleet_disk.specs.declared.disk.DiskFile.{DiskFile}
use Rattle.fleet_disk.specs.Image.{Image, bytes_of}
use Rattle.gate_log.specs.Lengths.{AreLengths}
use Rattle.gate_log.specs.Standing.{IsSlot}
use Rattle.gate_log.specs.Version.{gates_of}
use Rattle.gate_log.proofs.find.next_end.Goals as goal

pub returns-in-Err-clause-damaged : goal.returns-in-Err-clause-damaged
returns-in-Err-clause-damaged g c h are is =
    let D = g.D.Disk in
    let rest = D.reads c.args.disk.now in
    let v = c.args.lengths.now.version in
    let looks = c.gate_is_open.ensures.looks.only in
    let same = looks.same h in
    let inside : c.args.at < length (bytes_of c.gates_file.result rest) = subst (λ (file : DiskFile). c.args.at < length (bytes_of file rest)) (sym c.gates_file.ensures) (omega (arith, are.1, c.requires.inside)) in
    let yes : IsTrue c.in_ok-is_open.is_open = search rules in
    let is_open = subst (λ (file : DiskFile). get_or (bytes_of file rest) c.args.at 0 ≡ 1) c.gates_file.ensures ((c.in_ok-is_open.ensures.open h inside).0 yes) in
    let same_lengths = subst (λ (i : Image). AreLengths c.args.lengths.now i) (sym same) are in
    (is_open, subst (λ (i : Image). (end : ℕ) → IsSlot v c.args.start end i.journal (drop (c.args.at + 1) (gates_of v i)) → ⊥) same (c.in-Err.ensures.damaged (looks.both_ways.0 h) same_lengths (cc)))
