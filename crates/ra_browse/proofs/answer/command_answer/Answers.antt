use Rattle.std.proofs.Common.{◌∙◌, sym}
use Rattle.browse_wire.specs.Asks.{ask_as}
use Rattle.ra_denial.specs.Places.{place_as}
use Rattle.ra_browse.proofs.Exits.{answers_other}
use Rattle.ra_serve.proofs.Adding.{more_by}
use Rattle.ra_browse.proofs.answer.command_answer.Goals as goal

pub returns-clause-told : goal.returns-clause-told
returns-clause-told g c = answers_other g.P.RepoPort.repository g.P.RepoPort.refusals g.W.Write.contents (place_as c.args.place.now) (ask_as c.args.command.now) c.args.port.now c.args.out c.deny.result c.unanswered.result (sym c.is_answered.ensures ∙ c.if-is_answered.false) c.unanswered.ensures c.deny.ensures

pub returns-clause-adds : goal.returns-clause-adds
returns-clause-adds g c = more_by g.W.Write.contents c.args.out _ c.deny.result c.deny.ensures
