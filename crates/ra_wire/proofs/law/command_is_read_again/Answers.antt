use Rattle.std.proofs.Common.{subst, sym}
use Rattle.ra_wire.specs.Commands.{CheckPath, GetFile, GetDir, command_as}
use Rattle.ra_wire.specs.ReadAgain.{IsReadAgain}
use Rattle.ra_wire.specs.declared.command.Command.{Command}
use Rattle.ra_wire.proofs.ReadAgain.{command_again}
use Rattle.ra_wire.proofs.law.command_is_read_again.Goals as goal

pub returns-in-CheckPath : goal.returns-in-CheckPath
returns-in-CheckPath c = subst (λ (x : Command). IsReadAgain (command_as x)) (sym c.in-CheckPath.is) (command_again (CheckPath c.in-CheckPath.path c.in-CheckPath.field-1) c.path_is_kept.ensures)

pub returns-in-GetFile : goal.returns-in-GetFile
returns-in-GetFile c = subst (λ (x : Command). IsReadAgain (command_as x)) (sym c.in-GetFile.is) (command_again (GetFile c.in-GetFile.path c.in-GetFile.field-1 c.in-GetFile.field-2 c.in-GetFile.field-3) c.path_is_kept-in-GetFile.ensures)

pub returns-in-GetDir : goal.returns-in-GetDir
returns-in-GetDir c = subst (λ (x : Command). IsReadAgain (command_as x)) (sym c.in-GetDir.is) (command_again (GetDir c.in-GetDir.path c.in-GetDir.field-1 c.in-GetDir.field-2 c.in-GetDir.field-3) c.path_is_kept-in-GetDir.ensures)
