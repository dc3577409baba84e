use Rattle.std.proofs.Common.{refl}
use Rattle.ra_report.proofs.Sending.{told_update}
use Rattle.ra_report.proofs.send.send_with.Goals as goal

pub returns-in-Ok : goal.returns-in-Ok
returns-in-Ok g c =
    told_update g.W.Write.contents c.args.plan.now c.args.identity.now c.tree.result.now _ c.args.out c.in-Ok.out c.tree.ensures refl refl refl refl c.as_slice.ensures.value refl refl c.in-Ok.ensures.sent
