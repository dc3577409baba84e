use Rattle.std.proofs.Common.{◌≡◌, false, take}
use Rattle.clap.specs.Words.{app_of}
use Rattle.clap.specs.declared.builder.command.Command.TheViews.{out-Command as fields_of}
use Rattle.command_words.specs.Words.{with_commands_app}
use Rattle.command_words.proofs.builder.with_commands.Given as goal

abbrev pub invariant-loop-command : goal.invariant-loop-command
invariant-loop-command l =
    (app_of l.program ≡ with_commands_app (app_of l.fn.program) (take l.command-index l.commands))
    × ((fields_of l.fn.program).has_globals ≡ false → (fields_of l.program).has_globals ≡ false)
