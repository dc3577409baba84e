use Rattle.std.proofs.Common.{sym, ap, subst}
use Rattle.sync_core.specs.Deeds.{deed_of}
use Rattle.sync_job.specs.Words.{master_of, mirror_of}
use Rattle.sync_job.specs.Worlds.{Happens}
use Rattle.sync_job.proofs.ports.JobPorts.act.Goals as goal

pub returns-in-Call-clause-happens : goal.returns-in-Call-clause-happens
returns-in-Call-clause-happens g c =
    subst (λ d. Happens (g.M.MasterPort.is_at (master_of c.args.self.now)) (g.M.MasterPort.is_at (master_of c.step.new.self)) (g.N.MirrorPort.stands (mirror_of c.args.self.now)) (g.N.MirrorPort.stands (mirror_of c.step.new.self)) (g.N.MirrorPort.seat (mirror_of c.args.self.now)) (g.N.MirrorPort.seat (mirror_of c.step.new.self)) d c.step.result c.args.trees.now.items c.args.trees.now.items)
    (sym (ap deed_of c.in-Call.is)) (c.step.ensures.happens c.args.trees.now.items)

pub returns-in-AskIdentity-clause-happens : goal.returns-in-AskIdentity-clause-happens
returns-in-AskIdentity-clause-happens g c =
    subst (λ d. Happens (g.M.MasterPort.is_at (master_of c.args.self.now)) (g.M.MasterPort.is_at (master_of c.identity.new.self)) (g.N.MirrorPort.stands (mirror_of c.args.self.now)) (g.N.MirrorPort.stands (mirror_of c.identity.new.self)) (g.N.MirrorPort.seat (mirror_of c.args.self.now)) (g.N.MirrorPort.seat (mirror_of c.identity.new.self)) d c.identity.result c.args.trees.now.items c.args.trees.now.items)
    (sym (ap deed_of c.in-AskIdentity.is)) (c.identity.ensures.happens c.args.trees.now.items)

pub returns-in-AskLatest-clause-happens : goal.returns-in-AskLatest-clause-happens
returns-in-AskLatest-clause-happens g c =
    subst (λ d. Happens (g.M.MasterPort.is_at (master_of c.args.self.now)) (g.M.MasterPort.is_at (master_of c.latest.new.self)) (g.N.MirrorPort.stands (mirror_of c.args.self.now)) (g.N.MirrorPort.stands (mirror_of c.latest.new.self)) (g.N.MirrorPort.seat (mirror_of c.args.self.now)) (g.N.MirrorPort.seat (mirror_of c.latest.new.self)) d c.latest.result c.args.trees.now.items c.args.trees.now.items)
    (sym (ap deed_of c.in-AskLatest.is)) (c.latest.ensures.happens c.args.trees.now.items)

pub returns-in-FetchProps-clause-happens : goal.returns-in-FetchProps-clause-happens
returns-in-FetchProps-clause-happens g c =
    subst (λ d. Happens (g.M.MasterPort.is_at (master_of c.args.self.now)) (g.M.MasterPort.is_at (master_of c.fetch_props.new.self)) (g.N.MirrorPort.stands (mirror_of c.args.self.now)) (g.N.MirrorPort.stands (mirror_of c.fetch_props.new.self)) (g.N.MirrorPort.seat (mirror_of c.args.self.now)) (g.N.MirrorPort.seat (mirror_of c.fetch_props.new.self)) d c.fetch_props.result c.args.trees.now.items c.args.trees.now.items)
    (sym (ap deed_of c.in-FetchProps.is)) (c.fetch_props.ensures.happens c.args.trees.now.items)
