use Rattle.std.proofs.Common.{ap, sym}
use Rattle.ra_reader.proofs.Handed.{browses_else}
use Rattle.ra_item.specs.Items.{spell}
use Rattle.ra_serve.proofs.Adding.{says_else}
use Rattle.ra_reader.specs.Sessions.{greeting}
use Rattle.ra_reader.proofs.counted.browse_to.Goals as goal

pub returns-in-Ok-clause-served : goal.returns-in-Ok-clause-served
returns-in-Ok-clause-served g c = λ x e. browses_else _ _ _ _ _ _ _ _ _ _ _ _ _ _ _ _ _ (ap g.O.Output.contents c.new.ensures) (sym (ap g.O.Output.contents c.into_inner.ensures)) (c.in-Ok.ensures.served x e)

pub returns-in-Ok-clause-greets : goal.returns-in-Ok-clause-greets
returns-in-Ok-clause-greets g c = says_else (spell greeting) _ _ _ _ (ap g.O.Output.contents c.new.ensures) (sym (ap g.O.Output.contents c.into_inner.ensures)) c.in-Ok.ensures.greets
