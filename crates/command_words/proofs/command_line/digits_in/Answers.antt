use Rattle.std.proofs.Common.{Some, sym, ◌∙◌, codes}
use Rattle.std.proofs.lemmas.Bool.Decides.{Decides-eqb}
use Rattle.std.proofs.lemmas.Slice.Eq.{strip_prefix_is, strip_suffix_is}
use Rattle.command_words.proofs.Sources.{digits_stand}
use Rattle.command_words.proofs.command_line.digits_in.Goals as goal

pub returns-clause-some : goal.returns-clause-some
returns-clause-some c =
    digits_stand c.args.source.now c.in_ok-rest.rest.now c.strip_suffix.result
    (sym c.as_bytes.ensures.value ∙ strip_prefix_is Decides-eqb c.as_bytes.result.now (codes "svn://127.0.0.1:") (Some c.in_ok-rest.rest) c.in_ok-rest.ensures.cases)
    (strip_suffix_is Decides-eqb c.in_ok-rest.rest.now (codes "/") c.strip_suffix.result c.strip_suffix.ensures.cases)
