use Rattle.std.proofs.Common.{sym, ap, refl, ◌∙◌}
use Rattle.sync_core.specs.Tokens.{is_token}
use Rattle.command_words.proofs.Refusing.{token_refused}
use Rattle.command_words.proofs.command_line.token_of.Goals as goal

pub returns-in-None-clause-usage : goal.returns-in-None-clause-usage
returns-in-None-clause-usage c = token_refused _ _ _ _ (sym c.in-Some.ensures) (ap is_token (sym (c.in_ok-from_slice.ensures.items ∙ c.as_bytes.ensures.value)) ∙ c.in-None.ensures.none refl) c.wrong.ensures
