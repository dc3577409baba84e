use Rattle.std.proofs.Common.{subst}
use Rattle.repo_core.specs.Repository.{IsRepository}
use Rattle.mirror_engines.specs.declared.work.Work.TheVariants as work
use Rattle.mirror_engines.proofs.Bringing.{brings}
use Rattle.mirror_engines.proofs.runs.run_work.Goals as goal

pub returns-in-Initialize-clause-brings : goal.returns-in-Initialize-clause-brings
returns-in-Initialize-clause-brings g c =
    brings g.M.MasterPort c.args.master c.args.work (work.Initialize c.in-Initialize.url) c.args.mirror c.run_initialize.result.0 _ _ _ c.run_initialize.result.2 c.in-Initialize.is c.runs_lead_mirrors.ensures.trees c.runs_lead_mirrors.ensures.sets c.runs_lead_mirrors.ensures.all c.ends_keep_all.ensures
    (subst IsRepository c.repo-repo.ensures.value c.is_repository.ensures) c.run_initialize.ensures.ran c.run_initialize.ensures.world

pub returns-in-Synchronize-clause-brings : goal.returns-in-Synchronize-clause-brings
returns-in-Synchronize-clause-brings g c =
    brings g.M.MasterPort c.args.master c.args.work (work.Synchronize c.in-Synchronize.token c.in-Synchronize.steal) c.args.mirror c.run_synchronize.result.0 _ _ _ c.run_synchronize.result.2 c.in-Synchronize.is c.runs_lead_mirrors.ensures.trees c.runs_lead_mirrors.ensures.sets c.runs_lead_mirrors.ensures.all c.ends_keep_all.ensures
    (subst IsRepository c.repo-repo.ensures.value c.is_repository.ensures) c.run_synchronize.ensures.ran c.run_synchronize.ensures.world

pub returns-in-CopyRevprops-clause-brings : goal.returns-in-CopyRevprops-clause-brings
returns-in-CopyRevprops-clause-brings g c =
    brings g.M.MasterPort c.args.master c.args.work (work.CopyRevprops c.in-CopyRevprops.token c.in-CopyRevprops.low c.in-CopyRevprops.high) c.args.mirror c.run_copy_revprops.result.0 _ _ _ c.run_copy_revprops.result.2 c.in-CopyRevprops.is c.runs_lead_mirrors.ensures.trees c.runs_lead_mirrors.ensures.sets c.runs_lead_mirrors.ensures.all c.ends_keep_all.ensures
    (subst IsRepository c.repo-repo.ensures.value c.is_repository.ensures) c.run_copy_revprops.ensures.ran c.run_copy_revprops.ensures.world
