use Rattle.std.proofs.Common.{◌≡◌, ◌++◌, not, drop}
use Rattle.std.specs.FinMap.Entries.{where_key}
use Rattle.node_base.specs.Path.{name_cmp}
use Rattle.node_base.specs.Props.{is_sync}
use Rattle.node_base.proofs.prop_list.PropList.others.Given as goal

abbrev pub invariant-loop-entry : goal.invariant-loop-entry
invariant-loop-entry l = l.entries.items ++ where_key name_cmp (λ n. not (is_sync n)) (drop l.entry-index l.entry-items) ≡ where_key name_cmp (λ n. not (is_sync n)) l.entry-items
