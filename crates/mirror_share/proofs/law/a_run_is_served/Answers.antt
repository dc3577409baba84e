use Rattle.mirror_share.proofs.Serving.{sync-is-served, copy-is-served}
use Rattle.mirror_share.proofs.law.a_run_is_served.Goals as goal

pub returns-clause-sync : goal.returns-clause-sync
returns-clause-sync c = sync-is-served

pub returns-clause-copy : goal.returns-clause-copy
returns-clause-copy c = copy-is-served
