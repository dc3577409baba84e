use Rattle.std.proofs.Common.{not, sym, ap, subst, ◌∙◌}
use Rattle.std.specs.Option.{option_copied}
use Rattle.std.specs.FinMap as map
use Rattle.dump_load.specs.Deltas.{delta_fault_of, of_delta_fault}
use Rattle.dump_load.specs.Faults.{IsRefusal}
use Rattle.dump_load.proofs.DeltaLooks.{list_refused}
use Rattle.dump_load.proofs.delta.with_delta.Goals as goal

pub returns-in-Err-clause-refused : goal.returns-in-Err-clause-refused
returns-in-Err-clause-refused c =
    subst (λ e. IsRefusal e (delta_fault_of c.args.trees.now c.args.first (map.get c.args.tree.now) (option_copied c.args.delta) c.args.change)) (sym c.delta_fault.ensures)
    (subst (λ o. IsRefusal (of_delta_fault c.in-Err.fault) (delta_fault_of c.args.trees.now c.args.first (map.get c.args.tree.now) (option_copied o) c.args.change)) (sym c.in-Some.is)
    (list_refused c.args.trees.now c.args.first (map.get c.args.tree.now) c.in-Some.delta.now c.args.change _ c.in-Err.fault (ap not (c.is_none.ensures ∙ ap not c.if-is_none.false)) (sym c.in_ok-list.ensures ∙ c.in-Some-2.is) c.in-Err.ensures.fault))
