use Rattle.std.proofs.Common.{None, refl}
use Rattle.ra_wire.specs.Commands.{LatestRev}
use Rattle.browse_wire.specs.Asks.{Plain}
use Rattle.ra_denial.specs.declared.stop.Stop.TheVariants as stop
use Rattle.ra_denial.proofs.Adding.{more_stopped}
use Rattle.ra_denial.proofs.Causes.{own_stop}
use Rattle.ra_browse.proofs.Exits.{tells_stop, none_denied}
use Rattle.ra_browse.proofs.answer.latest.Goals as goal

pub returns-in-Err-clause-told : goal.returns-in-Err-clause-told
returns-in-Err-clause-told g c = λ at.
    tells_stop g.P.RepoPort.repository g.P.RepoPort.refusals g.W.Write.contents at (Plain LatestRev) c.args.port.now c.latest.new.self c.args.out c.tell.result (stop.Port c.in-Err.fault) (λ x. None) refl (λ x. (λ h. refl, refl)) c.tell.ensures
    (λ x e. own_stop c.in-Err.fault _ _ (c.in-Err.ensures.refused x e)) (λ x w d. none_denied w _ d)

pub returns-in-Err-clause-adds : goal.returns-in-Err-clause-adds
returns-in-Err-clause-adds g c = more_stopped g.W.Write.contents c.args.out c.tell.result (stop.Port c.in-Err.fault) c.tell.ensures
