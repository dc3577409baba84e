use Rattle.std.proofs.Common.{rules, sym}
use Rattle.command_words.proofs.Refusing.{root_refused}
use Rattle.command_words.proofs.root_url.root_url_named.Goals as goal

pub returns-then-not-is_root_url-clause-usage : goal.returns-then-not-is_root_url-clause-usage
returns-then-not-is_root_url-clause-usage c = root_refused _ _ _ (sym c.in-Some.ensures) (search rules) c.wrong.ensures
