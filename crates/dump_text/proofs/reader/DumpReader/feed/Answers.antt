use Rattle.dump_text.proofs.Kept.{feed_kept}
use Rattle.dump_text.proofs.reader.DumpReader.feed.Goals as goal

pub returns-clause-held : goal.returns-clause-held
returns-clause-held c =
    feed_kept c.feed_piece.result c.args.out.now.items c.feed_piece.new.out.items c.args.self.now c.feed_piece.new.self c.args.piece.now c.feed_piece.ensures.reads c.feed_piece.ensures.failed c.feed_piece.ensures.later
