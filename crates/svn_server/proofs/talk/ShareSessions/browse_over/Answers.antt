use Rattle.std.proofs.Common.{ap, refl, true}
use Rattle.svn_server.proofs.Greeted.{begins_by}
use Rattle.svn_server.proofs.talk.ShareSessions.browse_over.Goals as goal

pub returns-in-Ok : goal.returns-in-Ok
returns-in-Ok g c = begins_by true true _ _ _ _ refl (ap g.W.Write.contents c.new-out.ensures.inner) (ap g.W.Write.contents c.into_inner.ensures) c.in-Ok.ensures.greets
