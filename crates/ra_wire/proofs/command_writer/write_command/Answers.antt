use Rattle.std.proofs.Common.{sym, subst}
use Rattle.std.specs.Prelude.{OnOk}
use Rattle.std.specs.Io.KnownBytes.{Appends}
use Rattle.ra_item.specs.Items.{spell}
use Rattle.ra_wire.specs.Commands.{command_as}
use Rattle.ra_wire.specs.Requests.{command_item}
use Rattle.ra_wire.specs.declared.command.Command.{Command}
use Rattle.ra_wire.proofs.command_writer.write_command.Goals as goal

pub returns-in-CheckPath : goal.returns-in-CheckPath
returns-in-CheckPath g c = subst (λ (x : Command). OnOk c.write_at.result (Appends (g.W.Write.contents c.args.out.now) (g.W.Write.contents c.write_at.new.out) (spell (command_item (command_as x))))) (sym c.in-CheckPath.is) c.write_at.ensures

pub returns-in-ChangeProp : goal.returns-in-ChangeProp
returns-in-ChangeProp g c = subst (λ (x : Command). OnOk c.write_change.result (Appends (g.W.Write.contents c.args.out.now) (g.W.Write.contents c.write_change.new.out) (spell (command_item (command_as x))))) (sym c.in-ChangeProp.is) c.write_change.ensures

pub returns-in-RevProplist : goal.returns-in-RevProplist
returns-in-RevProplist g c = subst (λ (x : Command). OnOk c.write_numbered.result (Appends (g.W.Write.contents c.args.out.now) (g.W.Write.contents c.write_numbered.new.out) (spell (command_item (command_as x))))) (sym c.in-RevProplist.is) c.write_numbered.ensures
