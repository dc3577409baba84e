use Rattle.std.proofs.Common.{refl}
use Rattle.svn_ends.specs.Runs.{Unreached}
use Rattle.svn_ends.proofs.work.run_work_from.Goals as goal

pub returns-in-Err-clause-ran : goal.returns-in-Err-clause-ran
returns-in-Err-clause-ran g c = Unreached c.unreached.result refl c.unreached.ensures refl refl
