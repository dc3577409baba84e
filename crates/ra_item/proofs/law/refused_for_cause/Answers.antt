use Rattle.ra_item.proofs.Causes.{refused_for_cause}
use Rattle.ra_item.proofs.law.refused_for_cause.Goals as goal

pub returns : goal.returns
returns c = refused_for_cause
