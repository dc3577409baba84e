use Rattle.std.proofs.Common.{refl, subst}
use Rattle.std.specs.Io.KnownBytes.{Appends}
use Rattle.ra_item.specs.Items.{spell}
use Rattle.ra_wire.specs.Commands.{RevProplist}
use Rattle.ra_wire.specs.Replies.{proplist}
use Rattle.browse_wire.specs.Asks.{Plain}
use Rattle.ra_denial.specs.Denials.{no_revision}
use Rattle.ra_denial.proofs.Adding.{more_stopped}
use Rattle.ra_denial.proofs.Causes.{is_there}
use Rattle.ra_browse.proofs.Exits.{tells_stop, told_there}
use Rattle.ra_browse.proofs.answer.proplist.Goals as goal

pub returns-in-Err-clause-told : goal.returns-in-Err-clause-told
returns-in-Err-clause-told g c = λ at.
    tells_stop g.P.RepoPort.repository g.P.RepoPort.refusals g.W.Write.contents at (Plain (RevProplist c.args.number)) c.args.port.now c.props_asked.new.port c.args.out c.tell.result c.stopped.result (λ x. no_revision x c.args.number) refl (λ x. (λ h. refl, refl)) c.tell.ensures
    (λ x e. c.stopped.ensures x _ _ c.args.number (c.in-Err.ensures.refused x e)) (λ x w d. d)

pub returns-in_ok-write_proplist-in-Ok-clause-told : goal.returns-in_ok-write_proplist-in-Ok-clause-told
returns-in_ok-write_proplist-in-Ok-clause-told g c = λ at x e.
    told_there x at (Plain (RevProplist c.args.number)) _ _ _ (λ h. refl, refl) (is_there x c.args.number (c.in-Ok.ensures.there x e))
    (subst (λ m. Appends (g.W.Write.contents c.args.out) (g.W.Write.contents c.write_proplist.new.out) (spell (proplist m))) (c.in-Ok.ensures.props x e) c.in_ok-write_proplist-in-Ok.ensures)

pub returns-in-Err-clause-adds : goal.returns-in-Err-clause-adds
returns-in-Err-clause-adds g c = more_stopped g.W.Write.contents c.args.out c.tell.result c.stopped.result c.tell.ensures
