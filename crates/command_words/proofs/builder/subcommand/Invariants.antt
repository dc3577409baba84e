use Rattle.std.proofs.Common.{◌≡◌, false, take}
use Rattle.std.specs.List.{fold}
use Rattle.clap.specs.Words.{app_of, new_app, with_rule}
use Rattle.clap.specs.declared.builder.command.Command.TheViews.{out-Command as fields_of}
use Rattle.command_words.specs.Words.{rule_of_word}
use Rattle.command_words.proofs.builder.subcommand.Given as goal

abbrev pub invariant-loop-word : goal.invariant-loop-word
invariant-loop-word l = (app_of l.whole ≡ fold (λ app word. with_rule app (rule_of_word word)) (new_app l.command.name.now) (take l.word-index l.command.words.now))
    × ((fields_of l.whole).has_globals ≡ false)
