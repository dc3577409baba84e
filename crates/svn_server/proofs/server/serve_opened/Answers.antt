use denote.Param.Send.{sendable}
use Rattle.std.proofs.Crossing.{crosses}
use Rattle.store_share.proofs.Crosses.{share_sync}
use Rattle.svn_server.proofs.server.serve_opened.Goals as goal

pub serve_share-answer-requires-sync-S : goal.serve_share-answer-requires-sync-S
serve_share-answer-requires-sync-S g c κs within =
    let b = c.type_bounds in
    let a = share_sync _ _ g.L.RowName g.D.Disk b.send-L b.send-D in
    search (sendable, crosses) depth 30
