use Rattle.sync_core.specs.Jobs.{CopyProps}
use Rattle.sync_job.specs.Runs.{IsWithin}
use Rattle.sync_job.specs.Words.{calls_of, mirror_of}
use Rattle.mirror_share.proofs.Happening.{is_served}
use Rattle.mirror_share.proofs.runs.run_copy_revprops_at.Goals as goal

pub returns-clause-served : goal.returns-clause-served
returns-clause-served g c =
    let run = c.run_copy_revprops.ensures.run in
    is_served (IsWithin c.args.low c.args.high) (CopyProps c.args.token) (mirror_of c.args.ports.now) (mirror_of c.run_copy_revprops.new.ports) (calls_of c.args.ports.now) (calls_of c.run_copy_revprops.new.ports) run.more c.requires run.adds run.right c.run_copy_revprops.ensures.left.asked
