use denote.Param.Send.{sendable}
use Rattle.std.proofs.Crossing.{crosses}
use Rattle.fleet_disk.proofs.memory.MemDisk.TheSendSync as disk
use Rattle.fleet_disk.specs.contracts.memory.MemDiskDisk.TheImpl.{ghosts}
use Rattle.store_share.proofs.Crosses as master
use Rattle.mirror_share.proofs.Crosses as mirror
use Rattle.fleet_tests.proofs.board.Board.TheSendSync as board
use Rattle.fleet_tests.proofs.crowd_tests.goes.Goals as goal

pub map_indices-requires-sync-F : goal.map_indices-requires-sync-F
map_indices-requires-sync-F g c κs within =
    let b = c.type_bounds in
    let m = master.share_sync _ _ g.M.RowName ghosts b.send-M disk.the_send in
    let one = mirror.share_sync _ _ g.A.MirrorName g.A.RowName g.D.Disk b.send-A b.send-D in
    let other = mirror.share_sync _ _ g.B.MirrorName g.B.RowName g.D.Disk b.send-B b.send-D in
    let r = b.sync-R in
    search (sendable, crosses, board.the_sync) depth 30
