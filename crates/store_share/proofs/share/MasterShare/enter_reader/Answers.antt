use Rattle.store_share.proofs.Locks.{shown_to}
use Rattle.store_share.proofs.share.MasterShare.enter_reader.Goals as goal

pub returns : goal.returns
returns g c = shown_to c.args.self.now c.deref_mut.result.now c.seat_reader.result c.seat_reader.ensures.safe c.seat_reader.ensures.seen c.seat_reader.ensures.known
