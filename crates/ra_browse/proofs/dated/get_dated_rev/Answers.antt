use Rattle.std.proofs.Common.{refl, subst}
use Rattle.std.specs.Io.KnownBytes.{Appends}
use Rattle.ra_item.specs.Items.{spell}
use Rattle.ra_wire.specs.Replies.{number}
use Rattle.browse_wire.specs.Asks.{DatedRev}
use Rattle.ra_denial.proofs.Adding.{more_stopped}
use Rattle.ra_browse.specs.Answers.{dated_denied}
use Rattle.ra_browse.proofs.Exits.{tells_stop, told_there}
use Rattle.ra_browse.proofs.dated.get_dated_rev.Goals as goal

pub returns-in-Err-clause-told : goal.returns-in-Err-clause-told
returns-in-Err-clause-told g c = λ at.
    tells_stop g.P.RepoPort.repository g.P.RepoPort.refusals g.W.Write.contents at (DatedRev c.args.date.now) c.args.port.now c.find.new.port c.args.out c.tell.result c.in-Err.stop (λ x. dated_denied x c.args.date.now) refl (λ x. (λ h. refl, refl)) c.tell.ensures
    c.in-Err.ensures.found (λ x w d. d)

pub returns-in_ok-write_latest-in-Ok-clause-told : goal.returns-in_ok-write_latest-in-Ok-clause-told
returns-in_ok-write_latest-in-Ok-clause-told g c = λ at x e.
    let f = c.in-Ok.ensures.found x e in
    told_there x at (DatedRev c.args.date.now) _ _ _ (λ h. refl, refl) f.0
    (subst (λ n. Appends (g.W.Write.contents c.args.out) (g.W.Write.contents c.write_latest.new.out) (spell (number n))) f.1 c.in_ok-write_latest-in-Ok.ensures)

pub returns-in-Err-clause-adds : goal.returns-in-Err-clause-adds
returns-in-Err-clause-adds g c = more_stopped g.W.Write.contents c.args.out c.tell.result c.in-Err.stop c.tell.ensures
