use Rattle.std.proofs.Common.{subst}
use Rattle.std.specs.Result.{OnErr}
use Rattle.byte_streams.specs.Causes.{Rose}
use Rattle.fleet_engines.specs.Runs.{Counted}
use Rattle.mirror_engines.proofs.lines.say.Goals as goal

pub returns-clause-peer : goal.returns-clause-peer
returns-clause-peer g c = subst (λ n. Counted c.hand_on.result n (g.O.Output.failures c.hand_on.new.output)) c.in_ok-write_told.ensures.peer c.hand_on.ensures.peer

pub returns-clause-failed : goal.returns-clause-failed
returns-clause-failed g c = subst (λ n. OnErr c.hand_on.result (Rose n (g.O.Output.failures c.hand_on.new.output))) c.in_ok-write_told.ensures.peer c.hand_on.ensures.failed
