use Rattle.std.proofs.Common.{◌≡◌, drop}
use Rattle.node_base.proofs.DeltaLists.{put_list}
use Rattle.node_base.proofs.prop_delta.PropDelta.put_over.Given as goal

abbrev pub invariant-loop-name : goal.invariant-loop-name
invariant-loop-name l = put_list (drop l.name-index l.name-items) l.list ≡ put_list l.name-items l.fn.list
