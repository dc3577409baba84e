use Rattle.std.proofs.Common.{refl}
use Rattle.session_road.proofs.Mirrored.{mirrored_served}
use Rattle.session_road.proofs.runs.run_served.Goals as goal

pub returns-clause-ran : goal.returns-clause-ran
returns-clause-ran g c = record { master = c.new-master.result; serves = c.new-master.ensures; run = c.run_work.ensures.ran }

pub returns-clause-mirrored : goal.returns-clause-mirrored
returns-clause-mirrored g c = mirrored_served _ c.new-master.result c.args.work c.args.mirror c.run_work.result.0 c.run_work.result.2 c.args.source.now c.new-master.ensures refl refl c.run_work.ensures.brings
