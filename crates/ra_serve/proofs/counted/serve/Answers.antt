use Rattle.std.proofs.Common.{ap, sym, subst}
use Rattle.ra_serve.proofs.Handed.{greets_else, serves_else}
use Rattle.ra_item.specs.Items.{spell}
use Rattle.ra_wire.specs.Replies.{greeting}
use Rattle.ra_serve.proofs.Adding.{says_else}
use Rattle.ra_serve.proofs.counted.serve.Goals as goal

pub returns-in-Ok-clause-served : goal.returns-in-Ok-clause-served
returns-in-Ok-clause-served g c = λ x e. serves_else _ _ _ _ _ x _ _ _ _ _ _ _ _ _ _ _ _ _ (ap g.O.Output.contents c.new-out.ensures) (sym (ap g.O.Output.contents c.into_inner.ensures)) (c.in-Ok.ensures.served x e)

pub returns-in-Ok-clause-spent : goal.returns-in-Ok-clause-spent
returns-in-Ok-clause-spent g c = λ s. greets_else g.P.RepoPort.repository g.O.Output.contents _ _ _ _ _ _ _ c.new-out.ensures c.into_inner.ensures (c.in-Ok.ensures.spent s)

pub returns-in-Ok-clause-handed : goal.returns-in-Ok-clause-handed
returns-in-Ok-clause-handed g c = subst g.O.Output.is_handed_on (sym c.into_inner.ensures) c.in-Ok.ensures.handed

pub returns-in-Ok-clause-greets : goal.returns-in-Ok-clause-greets
returns-in-Ok-clause-greets g c = says_else (spell greeting) _ _ _ _ (ap g.O.Output.contents c.new-out.ensures) (sym (ap g.O.Output.contents c.into_inner.ensures)) c.in-Ok.ensures.greets
