use Rattle.std.proofs.Common.{◌∙◌, rules}
use Rattle.command_words.proofs.Spelled.{identity_is}
use Rattle.command_words.proofs.command_line.identity_of.Goals as goal

pub returns : goal.returns
returns c = c.ok.ensures.value ∙ identity_is c.args.value.now c.as_bytes.result.now c.try_parse_ascii.result (search rules) c.as_bytes.ensures.value c.try_parse_ascii.ensures.ok c.try_parse_ascii.ensures.bytes
