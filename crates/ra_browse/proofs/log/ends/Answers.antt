use Rattle.std.proofs.Common.{arith, ◌∙◌}
use Rattle.ra_serve.specs.Answers.{asked}
use Rattle.ra_browse.specs.Histories.{newer}
use Rattle.ra_history.proofs.Sharing.{refused_above}
use Rattle.ra_browse.proofs.Fronts.{newer_left, newer_right}
use Rattle.ra_browse.proofs.log.ends.Goals as goal

pub returns-in-Err-clause-refused : goal.returns-in-Err-clause-refused
returns-in-Err-clause-refused g c = λ x e.
    let a = asked x c.args.start in
    let b = asked x c.args.end in
    refused_above x _ _ _ a (newer a b) c.in-Err.fault (omega arith) (newer_left a b) (c.in-Err.ensures.refused x e)

pub returns-in-Err-asked-clause-refused : goal.returns-in-Err-asked-clause-refused
returns-in-Err-asked-clause-refused g c = λ x e.
    let a = asked x c.args.start in
    let b = asked x c.args.end in
    refused_above x _ _ _ b (newer a b) c.in-Err-asked.fault c.asked.ensures.stays.goes.later (newer_right a b) (c.in-Err-asked.ensures.refused x (c.asked.ensures.stays.repository ∙ e))
