use Rattle.std.proofs.Common.{◌∙◌, sym, arith}
use Rattle.dump_text.proofs.Identities.{none_of, hyphenated_alone}
use Rattle.dump_text.proofs.header.identity_from.Goals as goal

pub returns-in-Err : goal.returns-in-Err
returns-in-Err c = sym (sym (hyphenated_alone c.args.value.now (omega arith)) ∙ none_of _ (λ h. let e = c.in-Err.ensures.ok.1 h in cc))
