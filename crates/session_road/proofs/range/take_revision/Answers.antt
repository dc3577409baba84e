use Rattle.std.proofs.Common.{refl}
use Rattle.session_road.proofs.Taken.{revision_heard}
use Rattle.session_road.proofs.range.take_revision.Goals as goal

pub returns-clause-heard : goal.returns-clause-heard
returns-clause-heard g c = revision_heard {g = g.I.Input} c.args.repo.now c.args.number _ c.args.items.now c.take_next.new.items c.take_next.result (rw (c.index-count.ensures.number, c.trees-all.ensures.trees) refl) (c.each_revision_may_be_heard.ensures.heard c.requires.there) c.take_next.ensures.heard
