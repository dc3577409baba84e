use Rattle.std.proofs.Common.{not}
use Rattle.tree_reports.proofs.SameParts.{props_test}
use Rattle.tree_reports.proofs.tell.parts_of.Goals as goal

pub returns : goal.returns
returns c = λ i. record { props = not (props_test c.args.old.now.props c.args.new.now.props c.equals.result c.equals.ensures i); text = not (c.is_same_text.ensures i) }
