use Rattle.std.proofs.Common.{ap}
use Rattle.fleet_engines.specs.Histories.{told_of}
use Rattle.fleet_engines.proofs.history.History.take.Goals as goal

pub returns-in_ok-closed-in-Revision-clause-taken : goal.returns-in_ok-closed-in-Revision-clause-taken
returns-in_ok-closed-in-Revision-clause-taken c =
    rw c.in-Revision.is (told_of c.close.new.self, c.in_ok-closed-in-Revision.ensures.closed, ap (λ l. record (told_of c.close.new.self) { last = l }) c.begin.ensures)
