use Rattle.std.proofs.Common.{subst}
use Rattle.byte_streams.specs.Causes.{Rose}
use Rattle.fleet_main.specs.Doing.{not_done, not_handed_on}
use Rattle.fleet_main.proofs.bringing.fleet_flushed.Goals as goal

pub returns-in-Err-clause-refused : goal.returns-in-Err-clause-refused
returns-in-Err-clause-refused g c =
    not_done (g.O.Output.contents c.fleet_told-told.new.output) (g.O.Output.failures c.fleet_told-told.new.output) c.in-Err.ensures.refused c.hand_on-flushed.ensures.kept c.hand_on-flushed.ensures.later

pub returns-in-Err-flushed-clause-refused : goal.returns-in-Err-flushed-clause-refused
returns-in-Err-flushed-clause-refused g c =
    not_handed_on (record { written = g.O.Output.contents c.fleet_told-told.new.output; done = (c.in-Ok.done, c.in-Ok.ensures.done); kept = c.hand_on-flushed.ensures.kept }) c.in-Err-flushed.ensures.only_peer
    (subst (λ n. Rose n (g.O.Output.failures c.hand_on-flushed.new.output)) c.in-Ok.ensures.unfailed c.in-Err-flushed.ensures.failed)
