-- A row is shared by threads, since its revisions go between them and are shared by them.
use denote.RattleType.{RattleType}
use denote.Param.Send.{IsSend, IsSync, sendable}
use Rattle.std.proofs.Crossing.{crosses, Vec-sync}
use Rattle.node_base.proofs.name.NodeName.TheSendSync as name
use Rattle.node_base.proofs.node.Node.TheSendSync as node
use Rattle.node_base.proofs.revision.RevNo.TheSendSync as number
use Rattle.path_tree.proofs.branch.Branch.TheLaws.TheKnot as branch
use Rattle.path_tree.proofs.reach.Reach.TheSendSync as reach
use Rattle.path_tree.specs.contracts.branch.Branch as Branch
use Rattle.path_tree.specs.contracts.tree.Tree as Tree
use Rattle.dump_load.proofs.set.ChangeSet.TheSendSync as set
use Rattle.once_cell.specs.contracts.race.once_box.OnceBox as OnceBox
use Rattle.once_cell.proofs.race.once_box.OnceBox.TheSendSync as once
use Rattle.store_share.specs.contracts.rev.Rev as Rev
use Rattle.store_share.specs.contracts.row.RevRow as RevRow

ruleset of_nodes = (name.the_send, name.the_sync, node.the_send, node.the_sync, reach.the_send, reach.the_sync)

pub tree_send : IsSend Tree.the_row
tree_send = search (sendable, crosses, branch.both_send-Branch, branch.both_sync-Branch, of_nodes) depth 20

pub tree_sync : IsSync Tree.the_row
tree_sync = search (sendable, crosses, branch.both_send-Branch, branch.both_sync-Branch, of_nodes) depth 20

pub rev_send : IsSend Rev.the_row
rev_send = let a = tree_send in search (sendable, set.the_send, number.the_send) depth 20

pub rev_sync : IsSync Rev.the_row
rev_sync = let a = tree_sync in search (sendable, set.the_sync, number.the_sync) depth 20

cell_sync : IsSync (OnceBox.the_row Rev.the_row)
cell_sync = once.the_sync Rev.the_row rev_send rev_sync

pub row_sync : IsSync RevRow.the_row
row_sync = let v = Vec-sync (OnceBox.the_row Rev.the_row) cell_sync in search sendable depth 20
