use Rattle.std.proofs.Common.{◌||◌, ◌∙◌, ap, sym, take}
use Rattle.std.specs.List.{fold}
use Rattle.std.proofs.lemmas.List.Sums.{fold_more}
use Rattle.clap.specs.Words.{App, new_app, rule_of, with_rule}
use Rattle.command_words.specs.Words.{rule_of_word}
use Rattle.command_words.proofs.builder.subcommand.Goals as goal

pub loop-word-preserved : goal.loop-word-preserved
loop-word-preserved c =
    let added = c.in_ok-whole.ensures in
    let so_far : App = fold (λ app word. with_rule app (rule_of_word word)) (new_app c.args.command.now.name.now) (take c.loop-word.word-index c.args.command.now.words.now) in (
      added.shape c.arg.ensures.local ∙ ap (λ app. with_rule app (rule_of c.arg.result)) c.loop-word.invariant.0 ∙ ap (with_rule so_far) c.arg.ensures.rule
          ∙ sym (fold_more (λ app word. with_rule app (rule_of_word word)) (new_app c.args.command.now.name.now) c.args.command.now.words.now c.loop-word.word-index _ c.loop-word-test.true),
      added.globals ∙ ap (λ g. g || c.arg.result.global) c.loop-word.invariant.1 ∙ c.arg.ensures.local,
    )
