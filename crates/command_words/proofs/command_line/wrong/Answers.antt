use Rattle.std.proofs.Common.{string_bytes, subst}
use Rattle.command_words.specs.Lines.{IsLineOf}
use Rattle.command_words.proofs.Refusing.{value_line}
use Rattle.command_words.proofs.command_line.wrong.Goals as goal

pub returns-in-Ok-line_of : goal.returns-in-Ok-line_of
returns-in-Ok-line_of c =
    value_line c.args.help.now c.args.value.now c.args.wanted.now (string_bytes c.in-Ok.wrong) (string_bytes c.in-Ok-line_of.line) c.in-Ok.ensures.ok
    (subst (λ w. IsLineOf c.args.help.now w (string_bytes c.in-Ok-line_of.line)) c.as_str.ensures.value c.in-Ok-line_of.ensures.told) c.in-Ok-line_of.ensures.clean
    c.in-Ok-line_of.ensures.one
