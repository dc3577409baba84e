use Rattle.std.proofs.Common.{◌≡◌, ◌++◌}
use Rattle.std.specs.Prelude.{Some}
use Rattle.ra_item.specs.Items.{row}
use Rattle.ra_wire.specs.Params.{each}
use Rattle.browse_wire.specs.Fields.{path_of}
use Rattle.browse_wire.proofs.fields.all_paths.Given as goal

abbrev pub invariant-loop-item : goal.invariant-loop-item
invariant-loop-item l = (each path_of (row l.yielded) ≡ Some (l.paths.items)) × (l.yielded ++ l.item-iterator.rest.items ≡ l.fn.items.items)
