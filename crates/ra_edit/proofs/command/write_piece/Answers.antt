use Rattle.ra_edit.proofs.Chunks.{one_more_chunk}
use Rattle.ra_edit.proofs.command.write_piece.Goals as goal

pub loop-rest-preserved : goal.loop-rest-preserved
loop-rest-preserved g c =
    one_more_chunk (g.W.Write.contents c.args.out.now) (g.W.Write.contents c.loop-rest.out) (g.W.Write.contents c.write_chunk.new.out) c.args.file c.args.piece.now c.loop-rest.rest.now c.split_at.result.0.now c.split_at.result.1.now c.min.result c.loop-rest-test.true c.min.ensures c.split_at.ensures.front c.split_at.ensures.back c.loop-rest.invariant c.in_ok-write_chunk.ensures
