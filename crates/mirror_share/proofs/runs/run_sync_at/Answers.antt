use Rattle.sync_core.specs.Jobs.{Sync}
use Rattle.sync_job.specs.Runs.{IsCopying}
use Rattle.sync_job.specs.Words.{calls_of, mirror_of}
use Rattle.mirror_share.proofs.Happening.{is_served}
use Rattle.mirror_share.proofs.runs.run_sync_at.Goals as goal

pub returns-clause-served : goal.returns-clause-served
returns-clause-served g c =
    let run = c.run_sync.ensures.run in
    is_served IsCopying (Sync c.args.token c.args.steal) (mirror_of c.args.ports.now) (mirror_of c.run_sync.new.ports) (calls_of c.args.ports.now) (calls_of c.run_sync.new.ports) run.more c.requires run.adds run.right c.run_sync.ensures.left.asked
