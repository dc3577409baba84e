use Rattle.ra_item.proofs.Canon.{refused_is_no_front}
use Rattle.ra_item.proofs.law.refused_is_no_front.Goals as goal

pub returns : goal.returns
returns c = refused_is_no_front
