use Rattle.ra_log.proofs.Versions.{one_more_window}
use Rattle.ra_log.proofs.version.write_windows.Goals as goal

pub loop-rest-preserved : goal.loop-rest-preserved
loop-rest-preserved g c =
    one_more_window (g.W.Write.contents c.args.out.now) (g.W.Write.contents c.loop-rest.out) (g.W.Write.contents c.write_window_text.new.out) c.args.text.now c.loop-rest.rest.now c.split_at.result.0.now c.split_at.result.1.now c.min.result c.loop-rest-test.true c.min.ensures c.split_at.ensures.front c.split_at.ensures.back c.loop-rest.invariant c.in_ok-write_window_text.ensures
