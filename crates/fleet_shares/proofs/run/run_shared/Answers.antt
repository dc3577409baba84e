use denote.Param.Send.{sendable}
use Rattle.std.proofs.Crossing.{crosses}
use Rattle.std.proofs.Common.{◌∙◌}
use Rattle.std.specs.Arc.{arc_value}
use Rattle.fleet_shares.proofs.Crosses.{shares_send, shares_sync}
use Rattle.fleet_shares.proofs.Forgetting.{over_shares}
use Rattle.fleet_shares.proofs.run.run_shared.Goals as goal

pub start-requires-send-J : goal.start-requires-send-J
start-requires-send-J g c κs within =
    let b = c.type_bounds in
    let s = shares_send _ _ _ _ _ _ g.M.RowName g.L0.MirrorName g.L0.RowName g.L1.MirrorName g.L1.RowName g.L2.MirrorName g.L2.RowName g.L3.MirrorName g.L3.RowName g.D.Disk b.send-M b.send-L0 b.send-L1 b.send-L2 b.send-L3 b.send-D in
    let t = shares_sync _ _ _ _ _ _ g.M.RowName g.L0.MirrorName g.L0.RowName g.L1.MirrorName g.L1.RowName g.L2.MirrorName g.L2.RowName g.L3.MirrorName g.L3.RowName g.D.Disk b.send-M b.send-L0 b.send-L1 b.send-L2 b.send-L3 b.send-D in
    search (sendable, crosses) depth 20

pub start-requires-sync-J : goal.start-requires-sync-J
start-requires-sync-J g c κs within =
    let b = c.type_bounds in
    let s = shares_send _ _ _ _ _ _ g.M.RowName g.L0.MirrorName g.L0.RowName g.L1.MirrorName g.L1.RowName g.L2.MirrorName g.L2.RowName g.L3.MirrorName g.L3.RowName g.D.Disk b.send-M b.send-L0 b.send-L1 b.send-L2 b.send-L3 b.send-D in
    let t = shares_sync _ _ _ _ _ _ g.M.RowName g.L0.MirrorName g.L0.RowName g.L1.MirrorName g.L1.RowName g.L2.MirrorName g.L2.RowName g.L3.MirrorName g.L3.RowName g.D.Disk b.send-M b.send-L0 b.send-L1 b.send-L2 b.send-L3 b.send-D in
    search (sendable, crosses) depth 20

pub returns : goal.returns
returns g c =
    over_shares (arc_value c.args.shares.now) c.new-runner.result c.in_ok-fleet.fleet.runner c.new-own.result c.args.orders.items c.answer_all.result.items c.in_ok-fleet.ensures.runner (c.new-runner.ensures ∙ c.in_ok-try_clone-2.ensures)
    (c.new-own.ensures ∙ c.in_ok-try_clone.ensures) c.answer_all.ensures
