use Rattle.std.proofs.Common.{◌≡◌, ◌++◌}
use Rattle.std.specs.Prelude.{Some}
use Rattle.std.specs.FinMap as finite
use Rattle.ra_item.specs.Items.{row}
use Rattle.ra_wire.specs.Answers.{properties_of}
use Rattle.ra_wire.proofs.props.all_props.Given as goal

abbrev pub invariant-loop-item : goal.invariant-loop-item
invariant-loop-item l = (properties_of finite.empty (row l.yielded) ≡ Some l.props) × (l.yielded ++ l.item-iterator.rest.items ≡ l.fn.items.items)
