use Rattle.std.proofs.Common.{ap, refl}
use Rattle.fleet_engines.specs.Histories.{told_of}
use Rattle.fleet_engines.proofs.history.History.add_node.Goals as goal

pub returns-in-Ok-clause-taken : goal.returns-in-Ok-clause-taken
returns-in-Ok-clause-taken c =
    let a = c.in-Ok.ensures.ok in
    (a.0, a.1, a.2, ap (λ l. record (told_of c.args.self.now) { last = l }) a.3, refl)
