use Rattle.std.proofs.Common.{refl}
use Rattle.std.specs.FinMap as finite
use Rattle.uuid.specs.Text.{hyphenated_text, lower}
use Rattle.ra_wire.specs.Commands.{GetFile}
use Rattle.browse_wire.specs.Asks.{Plain}
use Rattle.ra_serve.specs.Answers.{asked}
use Rattle.ra_denial.specs.Denials.{no_revision}
use Rattle.ra_denial.specs.Places.{place_as}
use Rattle.ra_denial.proofs.Adding.{more_stopped}
use Rattle.ra_browse.specs.Answers.{file_told}
use Rattle.ra_browse.specs.Tellings.{made_as}
use Rattle.ra_browse.proofs.Exits.{tells_bytes, tells_stop, file_reply, first_one}
use Rattle.ra_serve.proofs.Adding.{more_by}
use Rattle.ra_browse.proofs.file.get_file.Goals as goal

pub returns-in-Ok-clause-told : goal.returns-in-Ok-clause-told
returns-in-Ok-clause-told g c =
    tells_bytes g.P.RepoPort.repository g.P.RepoPort.refusals g.W.Write.contents (place_as c.args.place.now) (Plain (GetFile c.args.path.now c.args.number c.args.wanted.props c.args.wanted.contents)) c.args.port.now c.see.new.port c.args.out c.tell_file.result
    (file_told c.in-Ok.seen.number c.args.wanted.props c.args.wanted.contents (hyphenated_text lower c.in-Ok.seen.identity) (made_as c.in-Ok.seen.made) (finite.get c.in-Ok.seen.tree c.in-Ok.seen.names.items)) (λ x. (λ h. refl, refl)) c.tell_file.ensures
    (λ x e. let f = c.in-Ok.ensures.found x e in file_reply x (place_as c.args.place.now) c.args.path.now c.args.number c.args.wanted.props c.args.wanted.contents c.in-Ok.seen f.0 f.1)

pub returns-in-Err-clause-told : goal.returns-in-Err-clause-told
returns-in-Err-clause-told g c =
    tells_stop g.P.RepoPort.repository g.P.RepoPort.refusals g.W.Write.contents (place_as c.args.place.now) (Plain (GetFile c.args.path.now c.args.number c.args.wanted.props c.args.wanted.contents)) c.args.port.now c.see.new.port c.args.out c.tell.result c.in-Err.stop
    (λ x. no_revision x (asked x c.args.number)) refl (λ x. (λ h. refl, refl)) c.tell.ensures c.in-Err.ensures.found (λ x w d. first_one _ _ w d)

pub returns-in-Err-clause-adds : goal.returns-in-Err-clause-adds
returns-in-Err-clause-adds g c = more_stopped g.W.Write.contents c.args.out c.tell.result c.in-Err.stop c.tell.ensures

pub returns-in-Ok-clause-adds : goal.returns-in-Ok-clause-adds
returns-in-Ok-clause-adds g c = more_by g.W.Write.contents c.args.out _ c.tell_file.result c.tell_file.ensures
