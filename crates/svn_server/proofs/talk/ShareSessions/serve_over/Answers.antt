use Rattle.std.proofs.Common.{IfOk, ap, false, subst, sym}
use Rattle.svn_server.specs.Ends.{BeginsWell}
use Rattle.svn_server.proofs.Greeted.{begins_by}
use Rattle.svn_server.proofs.talk.ShareSessions.serve_over.Goals as goal

pub returns-in-Ok : goal.returns-in-Ok
returns-in-Ok g c = begins_by _ false _ _ _ _ c.if-self.false (ap g.W.Write.contents c.new-out.ensures.inner) (ap g.W.Write.contents c.into_inner.ensures) c.in-Ok.ensures.greets

pub returns-then-self : goal.returns-then-self
returns-then-self g c = subst (λ b. IfOk c.browse_over.result (λ r. BeginsWell b (g.W.Write.contents c.args.output) (g.W.Write.contents r.0))) (sym c.if-self.true) c.browse_over.ensures
