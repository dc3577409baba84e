use Rattle.std.proofs.Common.{arith}
use Rattle.gate_log.proofs.Alike.{one_list, only_device}
use Rattle.gate_log.proofs.EndLemmas.{length_parts}
use Rattle.gate_log.proofs.Steps.{still}
use Rattle.gate_log.proofs.log.GateLog.open.Goals as goal

pub returns-in-Ok-clause-opened : goal.returns-in-Ok-clause-opened
returns-in-Ok-clause-opened g c =
    let D = g.D.Disk in
    let e = c.in-Ok.ensures in
    let v = c.in-Ok.found.version in
    let ends = c.in-Ok.found.ends.items in
    let left = D.reads c.recover.new.disk in
    record {
      found = λ h entries stands some. one_list (D.reads c.args.disk) _ entries (e.done h).stands stands;
      stands = λ h. (e.done h).stands;
      some = omega (arith, length_parts 0 ends left.journal, e.ends.0);
      working = λ no. cc;
      files = λ h. (e.done h).cut;
      version = λ h. (e.done h).is;
      durable = λ h image may. still v ends left e.ends.1 (e.done h).at_rest image (e.durable h image may);
      settles = e.settles;
    }

pub returns-in-Err-clause-refused : goal.returns-in-Err-clause-refused
returns-in-Err-clause-refused g c =
    let e = c.in-Err.ensures in
    record {
      due = λ h entries stands some. only_device (g.D.Disk.reads c.args.disk) entries c.in-Err.fault stands some e.finds.no_other (λ n is. e.finds.damaged h n (cc)) (λ is. e.finds.missing h (cc));
      damaged = λ h entry is. e.finds.damaged h entry (cc);
      missing = λ h is. e.finds.missing h (cc);
      no_other = e.finds.no_other;
      settles = e.settles_err;
      kept = e.kept.kept;
      looks = e.kept.looks;
    }
