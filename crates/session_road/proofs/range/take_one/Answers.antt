use Rattle.ra_serve.specs.Answers.{revision_bytes}
use Rattle.session_road.specs.Ranges.{IsRevisionOf, HasMore}
use Rattle.session_road.proofs.Taken.{kept_or_not, keeps, on_any}
use Rattle.session_road.proofs.range.take_one.Goals as goal

pub returns-in-Ok-clause-heard : goal.returns-in-Ok-clause-heard
returns-in-Ok-clause-heard g c = kept_or_not {g = g.I.Input} (revision_bytes c.args.repo.now c.args.number) (IsRevisionOf c.args.repo.now c.args.number) (λ u. HasMore (IsRevisionOf c.args.repo.now c.args.number) c.args.found.now.items c.keep.new.found.items) c.args.items.now c.take_revision.new.items c.in-Ok.revision c.keep.result c.in-Ok.ensures.heard (keeps (IsRevisionOf c.args.repo.now c.args.number) c.args.found.now.items c.keep.new.found.items c.in-Ok.revision c.keep.result c.keep.ensures.kept c.keep.ensures.refused)

pub returns-in-Ok-clause-later : goal.returns-in-Ok-clause-later
returns-in-Ok-clause-later g c = on_any c.keep.result c.in-Ok.ensures.later
