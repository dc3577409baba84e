use Rattle.std.proofs.Common.{sym, ◌∙◌}
use Rattle.command_words.proofs.Refusing.{seconds_refused, server_refused, twice_refused}
use Rattle.command_words.proofs.command_line.places.Goals as goal

pub returns-in-None-clause-usage : goal.returns-in-None-clause-usage
returns-in-None-clause-usage c =
    server_refused _ _ _ _ _ _ _ c.in_ok-source.ensures.value c.as_str.ensures.value c.as_str-then-is_on_server.ensures.value c.as_str-in-None.ensures.value (sym c.is_on_server.ensures ∙ c.if-is_on_server.true) c.in-None.ensures.none c.wrong.ensures

pub returns-then-eq-clause-usage : goal.returns-then-eq-clause-usage
returns-then-eq-clause-usage c = twice_refused _ _ _ _ _ _ _ _ c.in_ok-mirror.ensures.value c.in_ok-source.ensures.value c.as_str-2.ensures.value c.as_str-3.ensures.value c.as_str-then-eq.ensures.value (sym c.eq.ensures ∙ c.if-eq.true) c.wrong-then-eq.ensures

pub returns-in-Err-clause-usage : goal.returns-in-Err-clause-usage
returns-in-Err-clause-usage c = seconds_refused _ _ _ c.in-Err.ensures.usage
