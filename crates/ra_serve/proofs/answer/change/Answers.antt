use Rattle.std.proofs.Common.{◌∙◌, sym}
use Rattle.std.specs.Option.{option_map, option_copied}
use Rattle.repo_core.specs.Refusals.{wanted}
use Rattle.ra_wire.specs.Commands.{ChangeProp, previous_as}
use Rattle.ra_serve.specs.Ports.{change_due}
use Rattle.ra_serve.proofs.Exits.{tells_refusal, change_told}
use Rattle.ra_serve.proofs.Adding.{more_refused}
use Rattle.ra_serve.proofs.answer.change.Goals as goal

pub returns-clause-told : goal.returns-clause-told
returns-clause-told g c =
    tells_refusal g.P.RepoPort.repository g.P.RepoPort.refusals g.P.RepoPort.is_mirror g.W.Write.contents (ChangeProp c.args.number c.args.name.now (option_map (λ v. v.items) c.args.value.now) (previous_as c.args.old)) c.args.port.now c.change_asked.new.port c.args.out c.refuse.result c.in-Err.fault (λ x. change_due x c.args.number c.args.name.now (option_copied c.lent.result) (wanted c.expected-expected.result)) c.refuse.ensures c.in-Err.ensures.refused
    (λ x e d. change_told _ x c.args.number c.args.name.now (option_copied c.lent.result) _ (wanted c.expected-expected.result) (previous_as c.args.old) _ (sym c.read_only.ensures ∙ c.if-read_only.false) c.lent.ensures c.expected-expected.ensures d)
    c.in-Err.ensures.same

pub returns-clause-adds : goal.returns-clause-adds
returns-clause-adds g c = more_refused g.W.Write.contents c.args.out c.refuse.result c.in-Err.fault c.refuse.ensures
