use Rattle.std.proofs.Common.{refl}
use Rattle.session_road.proofs.Heard.{heard}
use Rattle.session_road.proofs.law.each_revision_may_be_heard.Goals as goal

pub returns : goal.returns
returns c = record { heard = λ _. heard c.args.repo.now c.args.number c.in-Some.set.now c.in-Some-props.props.now _ c.in-Some.ensures.set c.in-Some-props.ensures c.entries-entries.ensures.rules c.in-Some.ensures.makes (rw (c.index-count.ensures.number, c.trees-all.ensures.trees) refl) c.set_may_be_sent.ensures }
