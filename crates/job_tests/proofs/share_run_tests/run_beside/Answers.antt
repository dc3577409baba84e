use denote.Param.Send.{sendable}
use Rattle.fleet_disk.proofs.memory.MemDisk.TheSendSync as disk
use Rattle.fleet_disk.specs.contracts.memory.MemDiskDisk.TheImpl.{ghosts}
use Rattle.mirror_share.proofs.Crosses.{share_sync}
use Rattle.job_tests.proofs.share_run_tests.run_beside.Goals as goal

pub join-answers-requires-send-F : goal.join-answers-requires-send-F
join-answers-requires-send-F g c κs within =
    let a = share_sync _ _ g.L.MirrorName g.L.RowName ghosts c.type_bounds.send-L disk.the_send in
    search sendable depth 20
