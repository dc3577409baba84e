use Rattle.mirror_share.proofs.Locks.{seen_all}
use Rattle.mirror_share.proofs.share.MirrorShare.with_reader.Goals as goal

pub returns-in-Ok-clause-seen : goal.returns-in-Ok-clause-seen
returns-in-Ok-clause-seen g c =
    seen_all _ _ c.seat_reader-reader.result c.is_whole.ensures.whole c.into_book-book.ensures.book.1 c.into_book-book.ensures.book.0 c.seat_reader-reader.ensures.seen c.seat_reader-reader.ensures.known
