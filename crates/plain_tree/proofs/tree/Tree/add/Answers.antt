use Rattle.std.proofs.Common.{[], Option, sym, ap, ◌∙◌}
use Rattle.std.specs.Prelude.{is_some}
use Rattle.std.specs.FinMap.{get}
use Rattle.node_base.specs.Path.{Path, same_path, is_front}
use Rattle.node_base.specs.declared.node.Node.{Node}
use Rattle.node_base.specs.declared.fault.TreeFault.TheVariants.{BadPath, PathThere}
use Rattle.node_base.specs.Tree.{blocked}
use Rattle.path_tree.specs.Calls.{fault_if}
use Rattle.path_tree.proofs.Faults.{first_none, second_none, blocked-marked}
use Rattle.plain_tree.proofs.tree.Tree.add.Goals as goal

pub put_node-requires-clause-not_blocked : goal.put_node-requires-clause-not_blocked
put_node-requires-clause-not_blocked c =
    let p = c.args.path.now in
    let none = sym c.add_fault.ensures ∙ c.in_default.is in
    ap (λ (f : Path → Option Node). blocked f p) (λ i q. c.in_ok-mark.ensures.ok q i)
    ∙ blocked-marked (get c.in_ok-next.next) (λ q. is_front q c.names.result.now) c.args.node.changed p
    ∙ ap (λ m. blocked (get m) p) c.in_ok-next.ensures
    ∙ first_none (blocked (get c.args.self.now) p) (fault_if (is_some (get c.args.self.now p)) PathThere) (second_none (fault_if (same_path p []) BadPath) _ none)
