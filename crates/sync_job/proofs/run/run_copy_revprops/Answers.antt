use Rattle.sync_core.specs.Jobs.{CopyProps}
use Rattle.sync_job.proofs.OtherEndings.{copy_run}
use Rattle.sync_job.proofs.run.run_copy_revprops.Goals as goal

pub returns : goal.returns
returns g c = record { run = copy_run (record { lawful = c.jobs_follow.ensures.lawful; asked = c.jobs_follow.ensures.asked; follows = c.jobs_follow.ensures.follows; ended = c.jobs_end.ensures.ended }) c.args.token c.args.low c.args.high c.copy_props.result _ _ _ _ c.run_job.result c.result_of.result c.copy_props.ensures.start c.copy_props.ensures.begun c.run_job.ensures.ran c.result_of.ensures; left = record { mirror = c.run_job.ensures.mirror; asked = c.run_job.ensures.asked; answered = c.run_job.ensures.answered; world = c.run_job.ensures.world (CopyProps c.args.token) c.copy_props.ensures.begun; stops = c.run_job.ensures.stops (CopyProps c.args.token) c.copy_props.ensures.begun } }
