use Rattle.std.proofs.Common.{◌∙◌, ap, subst}
use Rattle.std.specs.Prelude.{None}
use Rattle.std.specs.Io.KnownBytes.{Appends}
use Rattle.ra_item.specs.Items.{spell}
use Rattle.std.specs.FinMap as finite
use Rattle.ra_wire.specs.Commands.{RevProp}
use Rattle.ra_wire.specs.Replies.{value}
use Rattle.repo_core.specs.Repository.{props_at}
use Rattle.ra_serve.specs.Ports.{no_revision}
use Rattle.ra_serve.proofs.Exits.{replied, tells_refusal}
use Rattle.ra_serve.proofs.Adding.{more_refused}
use Rattle.ra_serve.proofs.answer.prop.Goals as goal

pub returns-in-Err-clause-told : goal.returns-in-Err-clause-told
returns-in-Err-clause-told g c =
    tells_refusal g.P.RepoPort.repository g.P.RepoPort.refusals g.P.RepoPort.is_mirror g.W.Write.contents (RevProp c.args.number c.args.name.now) c.args.port.now c.props_asked.new.port c.args.out c.refuse.result c.in-Err.fault (λ x. no_revision x c.args.number) c.refuse.ensures c.in-Err.ensures.refused (λ x e d. d) c.props_asked.ensures.stays.repository

pub returns-in_ok-write_value-in-Ok-clause-told : goal.returns-in_ok-write_value-in-Ok-clause-told
returns-in_ok-write_value-in-Ok-clause-told g c = λ x e.
    replied (g.P.RepoPort.is_mirror c.args.port.now) x (RevProp c.args.number c.args.name.now) _ _ _ _ None (c.in-Ok.ensures.there x e)
    (subst (λ v. Appends (g.W.Write.contents c.args.out) (g.W.Write.contents c.write_value.new.out) (spell (value v)))
    (c.get.ensures ∙ ap (λ m. finite.get m c.as_bytes.result.now) (c.in-Ok.ensures.props x e) ∙ ap (finite.get (props_at x.revisions c.args.number)) c.as_bytes.ensures) c.in_ok-write_value-in-Ok.ensures)
    (c.props_asked.ensures.stays.repository ∙ e)

pub returns-in-Err-clause-adds : goal.returns-in-Err-clause-adds
returns-in-Err-clause-adds g c = more_refused g.W.Write.contents c.args.out c.refuse.result c.in-Err.fault c.refuse.ensures
