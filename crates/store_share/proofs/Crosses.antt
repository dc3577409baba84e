-- A share is shared by threads as its disk and the name of its row go between them.
use denote.RattleType.{RattleType}
use denote.Param.Send.{IsSend, IsSync, sendable}
use Rattle.std.proofs.Crossing.{crosses}
use Rattle.fleet_disk.specs.declared.disk.Disk as disk
use Rattle.dump_load.proofs.set.ChangeSet.TheSendSync as set
use Rattle.gate_log.proofs.log.GateLog.TheSendSync as log
use Rattle.node_base.proofs.props.Props.TheSendSync as props
use Rattle.node_base.proofs.revision.RevNo.TheSendSync as number
use Rattle.repo_core.proofs.entry.Entry.TheSendSync as entry
use Rattle.repo_core.specs.contracts.repo.Repo as Repo
use Rattle.repo_core.specs.contracts.staged.Staged as Staged
use Rattle.repo_store.specs.contracts.store.RepoStore as RepoStore
use Rattle.store_share.proofs.notes.RowNotes.TheSendSync as notes
use Rattle.store_share.proofs.RowCrosses.{tree_send, row_sync}
use Rattle.store_share.specs.contracts.book.MasterBook as MasterBook
use Rattle.store_share.specs.contracts.share.MasterShare as MasterShare
use Rattle.store_share.specs.declared.name.RowName as name

repo_send : IsSend Repo.the_row
repo_send = let a = tree_send in search (sendable, crosses, props.the_send, set.the_send) depth 20

staged_send : IsSend Staged.the_row
staged_send = let a = tree_send in search (sendable, crosses, entry.the_field_send) depth 20

module _ (D : RattleType) (d : disk.Ghosts D.Denot) where
  store_send : IsSend D → IsSend (RepoStore.the_field D d).row
  store_send s = let a = log.the_field_send D d s in let b = repo_send in let c = staged_send in search sendable depth 20

module _ (L D : RattleType) (l : name.Ghosts L.Denot) (d : disk.Ghosts D.Denot) where
  book_send : IsSend L → IsSend D → IsSend (MasterBook.the_row L D l d)
  book_send s t = let a = store_send D d t in search (sendable, number.the_send, notes.the_field_send) depth 20

  -- as a field of another type
  pub book_field_send : IsSend L → IsSend D → IsSend (MasterBook.the_field L D l d).row
  book_field_send s t = let a = store_send D d t in search (sendable, number.the_send, notes.the_field_send) depth 20

  pub share_sync : IsSend L → IsSend D → IsSync (MasterShare.the_row L D l d)
  share_sync s t = let a = book_send s t in let b = row_sync in search (sendable, crosses) depth 20
