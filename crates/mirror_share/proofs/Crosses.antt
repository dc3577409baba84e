-- A share goes between threads and is shared by them, as its disk and its name go.
use denote.RattleType.{RattleType}
use denote.Param.Send.{IsSend, IsSync, sendable}
use Rattle.std.proofs.Crossing.{crosses, Vec-send}
use Rattle.std.proofs.sync.ledger.Book.TheSendSync as ledger
use Rattle.std.proofs.sync.ledger.Share.TheSendSync as part
use Rattle.fleet_disk.specs.declared.disk.Disk as disk
use Rattle.once_cell.specs.contracts.race.once_box.OnceBox as OnceBox
use Rattle.once_cell.proofs.race.once_box.OnceBox.TheSendSync as once
use Rattle.store_share.proofs.RowCrosses.{rev_send, row_sync}
use Rattle.store_share.specs.contracts.rev.Rev as Rev
use Rattle.store_share.specs.contracts.row.RevRow as RevRow
use Rattle.store_share.proofs.Crosses.{book_field_send}
use Rattle.store_share.specs.declared.name.RowName as row
use Rattle.sync_core.proofs.seat.Seat.TheSendSync as seat
use Rattle.sync_core.proofs.token.Token.TheSendSync as token
use Rattle.sync_core.proofs.kept_call.KeptCall.TheSendSync as kept
use Rattle.sync_core.specs.contracts.kept_call.KeptCall as KeptCall
use Rattle.mirror_share.specs.contracts.book.MirrorBook as MirrorBook
use Rattle.mirror_share.specs.contracts.calls.CallBook as CallBook
use Rattle.mirror_share.specs.contracts.hand.Hand as Hand
use Rattle.mirror_share.specs.contracts.jobs.RunningJobs as RunningJobs
use Rattle.mirror_share.specs.contracts.ledgers.Ledgers as Ledgers
use Rattle.mirror_share.specs.contracts.share.MirrorShare as MirrorShare
use Rattle.mirror_share.specs.declared.name.MirrorName as name

cell_send : IsSend (OnceBox.the_row Rev.the_row)
cell_send = once.the_send Rev.the_row rev_send

pub row_send : IsSend RevRow.the_row
row_send = let v = Vec-send (OnceBox.the_row Rev.the_row) cell_send in search sendable depth 20

jobs_send : IsSend RunningJobs.the_field.row
jobs_send = search (sendable, crosses, token.the_send) depth 20

kept_send : IsSend KeptCall.the_row
kept_send = search (sendable, crosses, kept.the_field_send) depth 20

module _ (L D : RattleType) (n : name.Ghosts L.Denot) (r : row.Ghosts L.Denot) (d : disk.Ghosts D.Denot) where
  calls_send : IsSend L → IsSend D → IsSend (CallBook.the_field L D r d).row
  calls_send s t = let a = book_field_send L D r d s t in let b = jobs_send in let k = kept_send in search (sendable, crosses, seat.the_send) depth 20

  ledgers_send : IsSend L → IsSend (Ledgers.the_field L n r).row
  ledgers_send s = search (sendable, crosses, ledger.the_send) depth 20

  hand_send : IsSend L → IsSend (Hand.the_field L n r).row
  hand_send s = search (sendable, crosses, part.the_send) depth 20

  book_send : IsSend L → IsSend D → IsSend (MirrorBook.the_row L D r d n)
  book_send s t = let a = calls_send s t in let b = ledgers_send s in let h = hand_send s in search (sendable, crosses) depth 20

  pub mirror_send : IsSend L → IsSend D → IsSend (MirrorShare.the_field L D r d n).row
  mirror_send s t = let a = book_send s t in let b = row_send in search (sendable, crosses) depth 20

  pub mirror_sync : IsSend L → IsSend D → IsSync (MirrorShare.the_field L D r d n).row
  mirror_sync s t = let a = book_send s t in let b = row_sync in search (sendable, crosses) depth 20

  pub share_sync : IsSend L → IsSend D → IsSync (MirrorShare.the_row L D r d n)
  share_sync s t = let a = book_send s t in let b = row_sync in search (sendable, crosses) depth 20
