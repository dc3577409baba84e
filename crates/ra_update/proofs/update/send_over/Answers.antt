use Rattle.ra_update.proofs.Makes.{both_written}
use Rattle.ra_update.proofs.update.send_over.Goals as goal

pub returns-clause-written : goal.returns-clause-written
returns-clause-written g c =
    both_written g.W.Write.contents c.args.facts.now c.args.reported.now c.as_slice-2.result.now c.in_ok-trees.trees.items c.args.changes.now c.args.out c.in_ok-sent.sent.inner c.ended.result
    c.as_slice-2.ensures.value c.in_ok-trees.ensures c.in_ok-sent.ensures.written c.ended.ensures.written
