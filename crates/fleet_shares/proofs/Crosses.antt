-- The shares of a fleet go between threads and are shared by them, as their disk and the names of their rows go.
use denote.RattleType.{RattleType}
use denote.Param.Send.{IsSend, IsSync, sendable}
use Rattle.std.proofs.Crossing.{crosses}
use Rattle.fleet_disk.specs.declared.disk.Disk as disk
use Rattle.store_share.proofs.RowCrosses.{row_sync}
use Rattle.store_share.proofs.Crosses.{book_field_send}
use Rattle.store_share.specs.contracts.share.MasterShare as MasterShare
use Rattle.store_share.specs.declared.name.RowName as name
use Rattle.mirror_share.proofs.Crosses.{mirror_send, mirror_sync, row_send}
use Rattle.mirror_share.specs.declared.name.MirrorName as mirror
use Rattle.fleet_shares.specs.contracts.shares.FleetShares as FleetShares

module _ (L D : RattleType) (l : name.Ghosts L.Denot) (d : disk.Ghosts D.Denot) where
  master_send : IsSend L → IsSend D → IsSend (MasterShare.the_field L D l d).row
  master_send s t = let a = book_field_send L D l d s t in let b = row_send in search (sendable, crosses) depth 20

  master_sync : IsSend L → IsSend D → IsSync (MasterShare.the_field L D l d).row
  master_sync s t = let a = book_field_send L D l d s t in let b = row_sync in search (sendable, crosses) depth 20

module _ (M L0 L1 L2 L3 D : RattleType) (m : name.Ghosts M.Denot) (n0 : mirror.Ghosts L0.Denot) (l0 : name.Ghosts L0.Denot) (n1 : mirror.Ghosts L1.Denot) (l1 : name.Ghosts L1.Denot) (n2 : mirror.Ghosts L2.Denot) (l2 : name.Ghosts L2.Denot) (n3 : mirror.Ghosts L3.Denot) (l3 : name.Ghosts L3.Denot) (d : disk.Ghosts D.Denot) where
  pub shares_send : IsSend M → IsSend L0 → IsSend L1 → IsSend L2 → IsSend L3 → IsSend D → IsSend (FleetShares.the_row M L0 L1 L2 L3 D m l0 l1 l2 l3 d n0 n1 n2 n3)
  shares_send s s0 s1 s2 s3 t =
      let a = master_send M D m d s t in
      let b = mirror_send L0 D n0 l0 d s0 t in
      let c = mirror_send L1 D n1 l1 d s1 t in
      let e = mirror_send L2 D n2 l2 d s2 t in
      let f = mirror_send L3 D n3 l3 d s3 t in
      search (sendable, crosses) depth 20

  pub shares_sync : IsSend M → IsSend L0 → IsSend L1 → IsSend L2 → IsSend L3 → IsSend D → IsSync (FleetShares.the_row M L0 L1 L2 L3 D m l0 l1 l2 l3 d n0 n1 n2 n3)
  shares_sync s s0 s1 s2 s3 t =
      let a = master_sync M D m d s t in
      let b = mirror_sync L0 D n0 l0 d s0 t in
      let c = mirror_sync L1 D n1 l1 d s1 t in
      let e = mirror_sync L2 D n2 l2 d s2 t in
      let f = mirror_sync L3 D n3 l3 d s3 t in
      search (sendable, crosses) depth 20
