use Rattle.fleet_main.proofs.Dumping.{one_head}
use Rattle.fleet_main.proofs.law.one_head.Goals as goal

pub returns : goal.returns
returns c = one_head c.one_verdict.ensures.one_repository c.one_verdict.ensures.kept_reopens
