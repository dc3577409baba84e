use Rattle.ra_update.proofs.Makes.{is_update, may_stop}
use Rattle.ra_update.proofs.update.send_update.Goals as goal

pub returns-clause-sent : goal.returns-clause-sent
returns-clause-sent g c =
    is_update g.W.Write.contents c.args.reported.now c.args.facts.now c.args.out c.as_slice.result.now c.in_ok-changes.changes.items c.send_over.result
    c.as_slice.ensures.value c.drive_has_the_effect.ensures c.in_ok-changes.ensures.between c.in_ok-changes.ensures.normal c.in_ok-changes.ensures.effect c.send_over.ensures.written c.send_over.ensures.faultless

pub returns-clause-refused : goal.returns-clause-refused
returns-clause-refused g c = may_stop c.args.reported.now c.as_slice.result.now c.in_ok-changes.changes.items c.send_over.result c.as_slice.ensures.value c.in_ok-changes.ensures.faultless c.send_over.ensures.refused
