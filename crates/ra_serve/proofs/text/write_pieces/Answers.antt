use Rattle.ra_serve.proofs.Pieces.{one_more_piece}
use Rattle.ra_serve.proofs.text.write_pieces.Goals as goal

pub loop-rest-preserved : goal.loop-rest-preserved
loop-rest-preserved g c =
    one_more_piece (g.W.Write.contents c.args.out.now) (g.W.Write.contents c.loop-rest.out) (g.W.Write.contents c.write_text.new.out) c.args.text.now c.loop-rest.rest.now c.split_at.result.0.now c.split_at.result.1.now c.min.result c.loop-rest-test.true c.min.ensures c.split_at.ensures.front c.split_at.ensures.back c.loop-rest.invariant c.in_ok-write_text.ensures
