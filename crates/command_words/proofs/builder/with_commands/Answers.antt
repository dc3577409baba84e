use Rattle.std.proofs.Common.{◌||◌, ◌∙◌, ap, sym, take}
use Rattle.std.proofs.lemmas.List.Sums.{fold_more}
use Rattle.clap.specs.Words.{App, app_of, with_subcommand}
use Rattle.clap.specs.declared.builder.command.Command.TheViews.{out-Command as fields_of}
use Rattle.command_words.specs.Words.{subcommand_app, with_commands_app}
use Rattle.command_words.proofs.builder.with_commands.Goals as goal

pub loop-command-preserved : goal.loop-command-preserved
loop-command-preserved c =
    let added = c.in_ok-program.ensures in
    let so_far : App = with_commands_app (app_of c.args.program) (take c.loop-command.command-index c.args.commands.now) in (
      added.shape c.in_ok-subcommand.ensures.local ∙ ap (λ app. with_subcommand app (app_of c.in_ok-subcommand.field-0).top) c.loop-command.invariant.0
          ∙ ap (λ app. with_subcommand so_far app.top) c.in_ok-subcommand.ensures.app
          ∙ sym (fold_more (λ app command. with_subcommand app (subcommand_app command).top) (app_of c.args.program) c.args.commands.now c.loop-command.command-index _ c.loop-command-test.true),
      λ local. added.globals ∙ ap (λ g. g || (fields_of c.in_ok-subcommand.field-0).has_globals) (c.loop-command.invariant.1 local) ∙ c.in_ok-subcommand.ensures.local,
    )
