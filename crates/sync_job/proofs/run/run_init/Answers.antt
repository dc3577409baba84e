use Rattle.sync_core.specs.Jobs.{Initialise}
use Rattle.sync_job.proofs.OtherEndings.{init_run}
use Rattle.sync_job.proofs.run.run_init.Goals as goal

pub returns : goal.returns
returns g c = record { run = init_run (record { lawful = c.jobs_follow.ensures.lawful; asked = c.jobs_follow.ensures.asked; follows = c.jobs_follow.ensures.follows; ended = c.jobs_end.ensures.ended }) c.args.url c.init.result _ _ _ _ c.run_job.result c.result_of.result c.init.ensures.start c.init.ensures.begun c.run_job.ensures.ran c.result_of.ensures; left = record { mirror = c.run_job.ensures.mirror; asked = c.run_job.ensures.asked; answered = c.run_job.ensures.answered; world = c.run_job.ensures.world (Initialise c.args.url) c.init.ensures.begun; stops = c.run_job.ensures.stops (Initialise c.args.url) c.init.ensures.begun } }
