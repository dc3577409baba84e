use Rattle.std.proofs.Common.{ℕ, sym, subst}
use Rattle.clap.specs.Words.{rows_of, found_of}
use Rattle.command_words.specs.Values.{SpellsUpTo}
use Rattle.command_words.proofs.Refusing.{timeout_refused}
use Rattle.command_words.proofs.command_line.timeout_of.Goals as goal

pub returns-in-None-clause-usage : goal.returns-in-None-clause-usage
returns-in-None-clause-usage c = timeout_refused (rows_of (found_of c.args.given.now)) _ _ _ (sym c.in-Some.ensures) (subst (λ v. (n : ℕ) → SpellsUpTo 43200 v n → ⊥) c.as_bytes.ensures.value c.in-None.ensures.none) c.wrong.ensures
