use Rattle.sync_job.proofs.Stopping.{opens_again}
use Rattle.sync_job.proofs.law.stops_open_again.Goals as goal

pub returns : goal.returns
returns g c = opens_again c.every_run.ensures.mirrors g.M.MasterPort.is_at g.N.MirrorPort.stands
