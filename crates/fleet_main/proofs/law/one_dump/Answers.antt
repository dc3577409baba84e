use Rattle.fleet_main.proofs.Dumping.{one_dump}
use Rattle.fleet_main.proofs.law.one_dump.Goals as goal

pub returns : goal.returns
returns c = one_dump c.one_verdict.ensures.one_repository c.one_verdict.ensures.kept_reopens c.one_verdict.ensures.one_text
