use denote.Param.Send.{sendable}
use Rattle.std.proofs.Crossing.{crosses}
use Rattle.sockets.proofs.troubles.Troubles.TheSendSync as troubles
use Rattle.svn_server.proofs.server.serve_share.Goals as goal

pub serve-requires-sync-S : goal.serve-requires-sync-S
serve-requires-sync-S g c κs within =
    let b = c.type_bounds in
    let a = b.sync-S in
    let l = b.sync-L in
    let r = b.sync-R in
    let t = b.sync-T in
    search (sendable, crosses, troubles.the_field_sync) depth 30
