use Rattle.std.proofs.Common.{[], sym, ◌∙◌}
use Rattle.std.specs.Prelude.{is_some}
use Rattle.std.specs.FinMap.{get}
use Rattle.node_base.specs.Path.{same_path}
use Rattle.node_base.specs.declared.fault.TreeFault.TheVariants.{BadPath, PathThere}
use Rattle.node_base.specs.Tree.{blocked}
use Rattle.path_tree.specs.Calls.{fault_if}
use Rattle.path_tree.proofs.Faults.{first_none, second_none}
use Rattle.path_tree.proofs.tree.Tree.add.Goals as goal

pub put_node-requires-clause-not_blocked : goal.put_node-requires-clause-not_blocked
put_node-requires-clause-not_blocked c =
    let p = c.args.path.now in
    first_none (blocked (get c.args.self.now) p) (fault_if (is_some (get c.args.self.now p)) PathThere) (second_none (fault_if (same_path p []) BadPath) _ (sym c.add_fault.ensures ∙ c.in_default.is))
