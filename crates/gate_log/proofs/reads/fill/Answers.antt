use Rattle.std.proofs.Common.{◌≡◌, ◌≤◌, ◌+◌, ◌-◌, ℕ, List, length, take, drop, ◌∙◌, ap, subst, arith, length-append, length-drop}
use Rattle.std.proofs.lemmas.List.{length-take-le}
use borrow.Rule.Slice.PartMut.{put_mid, same_len_mid}
use Rattle.fleet_disk.specs.Image.{Image, bytes_of}
use Rattle.fleet_disk.specs.Rules.{IsRead}
use Rattle.gate_log.proofs.Filling.{filled, put_end}
use Rattle.gate_log.proofs.Looking.{looks_more}
use Rattle.gate_log.proofs.reads.fill.Goals as goal

pub loop-done-preserved : goal.loop-done-preserved
loop-done-preserved g c =
    let D = g.D.Disk in
    let so_far = c.loop-done.invariant in
    let at = c.args.at in
    let done = c.loop-done.done in
    let buf = c.loop-done.buf in
    let part = c.read_some.new.buf in
    let count = c.in_ok-count.count in
    let size : length (put_mid done (length buf - done) buf part) ≡ length buf = same_len_mid done (length buf - done) buf part c.read_some.auto.buf in
    let rest : length (take (length buf - done) (drop done buf)) ≡ length buf - done = length-take-le (length buf - done) (drop done buf) (omega (arith, length-drop done buf)) in
    let read = λ (h : D.honest c.args.disk.now). subst (λ (i : Image). IsRead (bytes_of c.args.file i) (at + done) count (take (length buf - done) (drop done buf)) part) (so_far.looks.same h) (c.in_ok-count.ensures.bytes (so_far.looks.both_ways.0 h)) in
    record {
      within = omega (arith, size, rest, c.in_ok-count.ensures.within, so_far.within);
      same_length = size ∙ so_far.same_length;
      looks = looks_more D g.met.D.Disk.only_now c.args.disk.now c.loop-done.disk c.read_some.new.disk so_far.looks c.read_some.ensures.looks.only;
      inside = λ h. let r = read h in let was = so_far.inside h in omega (arith, r.inside, was);
      bytes = λ h. filled (bytes_of c.args.file (D.reads c.args.disk.now)) c.args.buf.now buf part at done count (read h) (so_far.bytes h) (so_far.inside h) so_far.within;
    }
