use Rattle.ra_item.proofs.Read.{refused_behind}
use Rattle.ra_item.proofs.law.refused_behind_items.Goals as goal

pub returns : goal.returns
returns c = refused_behind
