use Rattle.std.proofs.Common.{Some, sym, ap, subst, ◌∙◌, IfErr}
use Rattle.clap.specs.Words.{rows_of, found_of}
use Rattle.command_words.specs.Usages.{IsRefusedAt}
use Rattle.command_words.proofs.command_line.asked.Goals as goal

pub returns-in-Some-initialize-default-clause-usage : goal.returns-in-Some-initialize-default-clause-usage
returns-in-Some-initialize-default-clause-usage c =
    subst (λ k. IfErr c.initialize_named.result (IsRefusedAt k)) (ap (λ n. Some (n, rows_of (found_of c.in-Some-initialize-default.given.now))) (sym c.in-Some-initialize-default.is-initialize) ∙ c.in-Some-initialize-default.ensures) c.initialize_named.ensures.usage

pub returns-in-Some-synchronize-default-clause-usage : goal.returns-in-Some-synchronize-default-clause-usage
returns-in-Some-synchronize-default-clause-usage c =
    subst (λ k. IfErr c.synchronize_named.result (IsRefusedAt k)) (ap (λ n. Some (n, rows_of (found_of c.in-Some-synchronize-default.given.now))) (sym c.in-Some-synchronize-default.is-synchronize) ∙ c.in-Some-synchronize-default.ensures) c.synchronize_named.ensures.usage

pub returns-in-Some-text-default-clause-usage : goal.returns-in-Some-text-default-clause-usage
returns-in-Some-text-default-clause-usage c =
    subst (λ k. IfErr c.copy_revprops_named.result (IsRefusedAt k)) (ap (λ n. Some (n, rows_of (found_of c.in-Some-text-default.given.now))) (sym c.in-Some-text-default.is-text) ∙ c.in-Some-text-default.ensures) c.copy_revprops_named.ensures.usage
