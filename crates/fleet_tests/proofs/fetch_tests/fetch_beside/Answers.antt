use denote.Param.Send.{sendable}
use Rattle.std.proofs.Crossing.{crosses}
use Rattle.fleet_disk.proofs.memory.MemDisk.TheSendSync as disk
use Rattle.fleet_disk.specs.contracts.memory.MemDiskDisk.TheImpl.{ghosts}
use Rattle.store_share.proofs.Crosses.{share_sync}
use Rattle.fleet_tests.proofs.fetch_tests.Waiting.TheSendSync as waiting
use Rattle.fleet_tests.proofs.fetch_tests.fetch_beside.Goals as goal

pub map_indices-requires-sync-F : goal.map_indices-requires-sync-F
map_indices-requires-sync-F g c κs within =
    let b = c.type_bounds in
    let s = share_sync _ _ g.L.RowName ghosts b.send-L disk.the_send in
    let r = b.sync-R in
    search (sendable, crosses, waiting.the_sync) depth 30
