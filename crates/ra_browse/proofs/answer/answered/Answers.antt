use Rattle.browse_wire.specs.Asks.{ask_as}
use Rattle.ra_denial.specs.Places.{place_as}
use Rattle.ra_browse.proofs.Exits.{answers_command}
use Rattle.ra_item.specs.Items.{spell}
use Rattle.ra_wire.specs.Replies.{authorised}
use Rattle.ra_serve.proofs.Adding.{more_behind}
use Rattle.ra_browse.proofs.answer.answered.Goals as goal

pub returns-in-Ok-clause-told : goal.returns-in-Ok-clause-told
returns-in-Ok-clause-told g c = answers_command g.P.RepoPort.repository g.P.RepoPort.refusals g.W.Write.contents (place_as c.args.place.now) (ask_as c.args.command.now) c.args.port.now c.reply.new.port c.args.out c.in-Ok.out c.reply.result c.requires.taken c.in-Ok.ensures c.reply.ensures.told

pub returns-in-Ok-clause-adds : goal.returns-in-Ok-clause-adds
returns-in-Ok-clause-adds g c = more_behind g.W.Write.contents c.args.out c.in-Ok.out (spell authorised) c.reply.result c.in-Ok.ensures c.reply.ensures.adds
