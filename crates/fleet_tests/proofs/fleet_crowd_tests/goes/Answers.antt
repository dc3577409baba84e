use denote.Param.Send.{sendable}
use Rattle.std.proofs.Crossing.{crosses}
use Rattle.fleet_disk.proofs.memory.MemDisk.TheSendSync as disk
use Rattle.fleet_disk.specs.contracts.memory.MemDiskDisk.TheImpl.{ghosts}
use Rattle.fleet_shares.proofs.Crosses.{shares_send, shares_sync}
use Rattle.fleet_tests.proofs.fleet_crowd_tests.goes.Goals as goal

pub map_indices-requires-sync-F : goal.map_indices-requires-sync-F
map_indices-requires-sync-F g c κs within =
    let b = c.type_bounds in
    let s = shares_send _ _ _ _ _ _ g.M.RowName g.L0.MirrorName g.L0.RowName g.L1.MirrorName g.L1.RowName g.L2.MirrorName g.L2.RowName g.L3.MirrorName g.L3.RowName ghosts b.send-M b.send-L0 b.send-L1 b.send-L2 b.send-L3 disk.the_send in
    let t = shares_sync _ _ _ _ _ _ g.M.RowName g.L0.MirrorName g.L0.RowName g.L1.MirrorName g.L1.RowName g.L2.MirrorName g.L2.RowName g.L3.MirrorName g.L3.RowName ghosts b.send-M b.send-L0 b.send-L1 b.send-L2 b.send-L3 disk.the_send in
    let r = b.sync-R in
    search (sendable, crosses) depth 30
