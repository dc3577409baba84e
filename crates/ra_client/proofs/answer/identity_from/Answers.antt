use Rattle.std.proofs.Common.{◌∙◌, sym, arith}
use Rattle.ra_client.proofs.Identities.{none_of, hyphenated_alone}
use Rattle.ra_client.proofs.answer.identity_from.Goals as goal

pub returns-in-Err : goal.returns-in-Err
returns-in-Err c = sym (sym (hyphenated_alone c.args.text.now (omega arith)) ∙ none_of _ (λ h. let e = c.in-Err.ensures.ok.1 h in cc))
