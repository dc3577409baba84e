use Rattle.std.proofs.Common.{sym, subst}
use Rattle.fleet_jobs.specs.declared.order.Work.{Work}
use Rattle.sync_job.specs.Words.{calls_of}
use Rattle.fleet_shares.specs.Jobs.{IsRunOf}
use Rattle.fleet_shares.proofs.Ending.{unheard}
use Rattle.fleet_shares.proofs.job.run_under.Goals as goal

pub returns-in-Sync : goal.returns-in-Sync
returns-in-Sync g c = record {
  ran = subst (λ (w : Work). IsRunOf w c.args.token (calls_of c.run_sync.new.ports) c.run_sync.result) (sym c.in-Sync.is) (unheard _ _ _ _ _ _ _ c.requires c.run_sync.ensures.run);
  asked = c.run_sync.ensures.left.asked;
  answered = c.run_sync.ensures.left.answered;
}

pub returns-in-Copy : goal.returns-in-Copy
returns-in-Copy g c = record {
  ran = subst (λ (w : Work). IsRunOf w c.args.token (calls_of c.run_copy_revprops.new.ports) c.run_copy_revprops.result) (sym c.in-Copy.is) (unheard _ _ _ _ _ _ _ c.requires c.run_copy_revprops.ensures.run);
  asked = c.run_copy_revprops.ensures.left.asked;
  answered = c.run_copy_revprops.ensures.left.answered;
}
