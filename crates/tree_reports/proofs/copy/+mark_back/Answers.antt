use Rattle.std.proofs.lemmas.List.{nil_from_length}
use Rattle.std.specs.FinMap as finite
use Rattle.tree_reports.proofs.Copied.{none_back, one_on}
use Rattle.tree_reports.proofs.copy.+mark_back.Goals as goal

pub returns-in_default : goal.returns-in_default
returns-in_default t c =
    none_back (finite.get c.args.before.now) c.args.tree.now c.args.path.now (nil_from_length c.args.path.now c.in_default.ensures.cases)

pub returns : goal.returns
returns t c =
    one_on (finite.get c.args.before.now) (finite.get c.args.tree.now) c.args.path.now c.in-Some.above.now c.in-Some.field-0-0.now c.number_at.result c.mark.new.self c.mark_back.new.tree c.mark_back.result c.in-Some.ensures.cases.0 c.number_at.ensures c.in_ok-mark.ensures.ok c.mark_back.ensures
