use Rattle.ra_browse.proofs.Mades.{refused_made}
use Rattle.ra_browse.proofs.made.made_at.Goals as goal

pub returns-in-Err-clause-found : goal.returns-in-Err-clause-found
returns-in-Err-clause-found g c = λ x e. refused_made x _ _ c.args.number c.in-Err.fault c.unmade.result (c.in-Err.ensures.refused x e) c.unmade.ensures
