use Rattle.sync_core.specs.Jobs.{Sync}
use Rattle.sync_job.proofs.Endings.{sync_run}
use Rattle.sync_job.proofs.run.run_sync.Goals as goal

pub returns : goal.returns
returns g c = record { run = sync_run (record { lawful = c.jobs_follow.ensures.lawful; asked = c.jobs_follow.ensures.asked; follows = c.jobs_follow.ensures.follows; ended = c.jobs_end.ensures.ended }) c.args.token c.args.steal c.sync.result _ _ _ _ c.run_job.result c.result_of.result c.sync.ensures.start c.sync.ensures.begun c.run_job.ensures.ran c.result_of.ensures; left = record { mirror = c.run_job.ensures.mirror; asked = c.run_job.ensures.asked; answered = c.run_job.ensures.answered; world = c.run_job.ensures.world (Sync c.args.token c.args.steal) c.sync.ensures.begun; stops = c.run_job.ensures.stops (Sync c.args.token c.args.steal) c.sync.ensures.begun } }
