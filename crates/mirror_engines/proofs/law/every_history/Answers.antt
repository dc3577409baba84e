use Rattle.mirror_engines.proofs.Histories.{every_history}
use Rattle.mirror_engines.proofs.law.every_history.Goals as goal

pub returns : goal.returns
returns g c = every_history g.D.Disk (record { every = c.every_run.ensures.mirrors; starts = c.every_run.ensures.starts; one = c.one_verdict.ensures.one_repository; reopens = c.one_verdict.ensures.kept_reopens })
