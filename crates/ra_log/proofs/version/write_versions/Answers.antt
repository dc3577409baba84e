use Rattle.ra_log.proofs.Versions.{one_more_version, all_versions}
use Rattle.ra_log.proofs.version.write_versions.Goals as goal

pub loop-place-preserved : goal.loop-place-preserved
loop-place-preserved g c =
    one_more_version c.args.rows.now.props.items c.args.rows.now.trees.items (g.W.Write.contents c.args.out.now) (g.W.Write.contents c.loop-place.out) (g.W.Write.contents c.write_version.new.out) c.args.places.now c.loop-place.place-index c.place-item.result _ _ c.loop-place-test.true c.place-item.is c.node-new.ensures c.loop-place.invariant c.in_ok-write_version.ensures

pub returns : goal.returns
returns g c =
    all_versions c.args.rows.now.props.items c.args.rows.now.trees.items (g.W.Write.contents c.args.out.now) (g.W.Write.contents c.loop-place.out) c.args.places.now c.loop-place.place-index _ c.loop-place-test.false c.loop-place.invariant
