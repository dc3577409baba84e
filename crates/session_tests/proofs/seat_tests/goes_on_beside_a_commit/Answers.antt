use denote.Param.Send.{sendable}
use Rattle.fleet_disk.proofs.memory.MemDisk.TheSendSync as disk
use Rattle.fleet_disk.specs.contracts.memory.MemDiskDisk.TheImpl.{ghosts}
use Rattle.store_share.proofs.Crosses.{share_sync}
use Rattle.session_tests.proofs.seat_tests.goes_on_beside_a_commit.Goals as goal

pub join-number-requires-send-F : goal.join-number-requires-send-F
join-number-requires-send-F g c κs within =
    let a = share_sync _ _ g.L.RowName ghosts c.type_bounds.send-L disk.the_send in
    search sendable depth 20
