use Rattle.std.proofs.Common.{length, refl}
use Rattle.std.proofs.lemmas.Option.{slice_get_read}
use Rattle.mirror_share.proofs.Placing.{nowhere, nowhere_more}
use Rattle.mirror_share.proofs.jobs.place_of.Goals as goal

pub returns-clause-none : goal.returns-clause-none
returns-clause-none c = nowhere c.args.places.now c.args.token.now c.loop-i.i c.loop-i-test.false c.loop-i.invariant

pub loop-i-preserved : goal.loop-i-preserved
loop-i-preserved c =
    nowhere_more c.args.places.now c.args.token.now c.loop-i.i c.index-places-i.result c.loop-i.invariant
    (slice_get_read c.args.places.now (length c.args.places.now) c.loop-i.i c.index-places-i.result refl c.loop-i-test.true c.index-places-i.is)
    (c.is_of.ensures.no c.if-is_of.false)
