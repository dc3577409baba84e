use Rattle.std.proofs.Common.{ap, refl, subst, true, map, string_bytes, ◌≡◌, ◌∙◌}
use Rattle.std.proofs.lemmas.Result.{IfOk-weaker}
use Rattle.clap.specs.Faults.{fault_of, is_simple_and_free}
use Rattle.clap.specs.Kinds.{FailsBy}
use Rattle.clap.specs.Words.{is_simple, subcommand_of}
use Rattle.clap.proofs.OnLiterals.{clap_on_literals}
use Rattle.command_words.specs.Words.{svnfleet_app}
use Rattle.command_words.proofs.command_line.matches_of.Goals as goal

simple : is_simple svnfleet_app ≡ true
unfolding clap_on_literals
simple = refl

free : is_simple_and_free svnfleet_app ≡ true
unfolding clap_on_literals
free = refl

pub returns-clause-found : goal.returns-clause-found
returns-clause-found c =
    let app = c.in_ok-program.ensures.app in
    IfOk-weaker c.try_get_matches_from.result _ _ (λ m h. (h (ap is_simple app ∙ simple)).1 ∙ ap (λ a. subcommand_of a (map string_bytes c.args.words.now)) app) c.try_get_matches_from.ensures.matches

pub returns-clause-kinds : goal.returns-clause-kinds
returns-clause-kinds c =
    let app = c.in_ok-program.ensures.app in
    subst (λ a. FailsBy (fault_of a (map string_bytes c.args.words.now)) c.try_get_matches_from.result) app (c.try_get_matches_from.ensures.kinds (ap is_simple_and_free app ∙ free))
