use Rattle.std.proofs.Common.{ap, sym, ◌∙◌}
use Rattle.dump_load.specs.declared.fault.ChangeFault.TheVariants.{OutOfOrder}
use Rattle.dump_load.specs.Faults.{fault_if}
use Rattle.dump_load.proofs.Combining.{takes_again, takes_next, refuses}
use Rattle.dump_load.proofs.records.take_in.Goals as goal

pub returns-then-replaces-clause-taken : goal.returns-then-replaces-clause-taken
returns-then-replaces-clause-taken c = λ ys rest w up.
    takes_again ys rest c.args.combined.now.items c.pop.new.self.items c.in-Some.last c.args.change w c.in-Some.ensures.items c.replacing.result c.push-then-replaces.new.self.items c.replacing.ensures c.in_ok-push-2.ensures.items
    (sym c.replaces.ensures ∙ c.if-replaces.true)

pub returns-then-clashes-clause-refused : goal.returns-then-clashes-clause-refused
returns-then-clashes-clause-refused c = λ ys rest w up.
    ap (λ b. fault_if b OutOfOrder)
    (refuses ys rest c.args.combined.now.items c.pop.new.self.items c.in-Some.last c.args.change w c.in-Some.ensures.items up (sym c.replaces.ensures ∙ c.if-replaces.false) (sym c.clashes.ensures ∙ c.if-clashes.true))

pub returns-clause-taken : goal.returns-clause-taken
returns-clause-taken c = λ ys rest w up.
    takes_next ys rest c.args.combined.now.items c.pop.new.self.items c.in-Some.last c.args.change w c.in-Some.ensures.items c.push-2.new.self.items c.push-3.new.self.items c.in_ok-push-3.ensures.items c.in_ok-push-4.ensures.items up
    (sym c.clashes.ensures ∙ c.if-clashes.false)
