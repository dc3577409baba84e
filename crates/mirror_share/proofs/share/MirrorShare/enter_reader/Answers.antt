use Rattle.mirror_share.proofs.Locks.{shown_to}
use Rattle.mirror_share.proofs.share.MirrorShare.enter_reader.Goals as goal

pub returns : goal.returns
returns g c = shown_to c.args.self.now c.deref_mut.result.now.book c.seat_reader.result c.seat_reader.ensures.safe c.seat_reader.ensures.seen c.seat_reader.ensures.known
