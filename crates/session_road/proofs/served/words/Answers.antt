use Rattle.ra_item.specs.Items.{spell}
use Rattle.ra_wire.specs.Commands.{command_as}
use Rattle.ra_wire.specs.Requests.{hello, anonymous, command_item}
use Rattle.session_road.specs.Served.{asked_url}
use Rattle.session_road.proofs.Sessions.{said_whole}
use Rattle.session_road.proofs.served.words.Goals as goal

pub returns : goal.returns
returns c = said_whole c.new-out.result.items c.write_hello.new.out.items c.write_anonymous.new.out.items c.write_command.new.out.items (spell (hello asked_url)) (spell anonymous) (spell (command_item (command_as c.args.command.now))) c.new-out.ensures.items c.in_ok-write_hello.ensures c.in_ok-write_anonymous.ensures c.in_ok-write_command.ensures
