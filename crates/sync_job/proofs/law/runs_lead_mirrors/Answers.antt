use Rattle.sync_job.proofs.Leading.{fronts_keep_sets, fronts_stay_first, synced_has_all}
use Rattle.sync_job.proofs.law.runs_lead_mirrors.Goals as goal

pub returns : goal.returns
returns c = record { trees = fronts_stay_first c.calls_move_numbers.ensures.commits; sets = fronts_keep_sets c.calls_move_numbers.ensures.commits; all = synced_has_all c.calls_move_numbers.ensures.commits }
