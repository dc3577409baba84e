use Rattle.std.proofs.Common.{ℕ, sym, subst}
use Rattle.command_words.specs.Values.{SpellsUpTo}
use Rattle.command_words.proofs.Refusing.{port_refused}
use Rattle.command_words.proofs.command_line.port_of.Goals as goal

pub returns-in-None-clause-usage : goal.returns-in-None-clause-usage
returns-in-None-clause-usage c = port_refused _ _ _ (sym c.in-Some.ensures) (subst (λ v. (n : ℕ) → SpellsUpTo 65535 v n → ⊥) c.as_bytes.ensures.value c.in-None.ensures.none) c.wrong.ensures
