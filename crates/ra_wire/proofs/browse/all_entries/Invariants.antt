use Rattle.std.proofs.Common.{◌≡◌, ◌++◌}
use Rattle.std.specs.Prelude.{map, Some}
use Rattle.ra_item.specs.Items.{row}
use Rattle.ra_wire.specs.Params.{each}
use Rattle.ra_wire.specs.Answers.{dirent_in, dirent_as}
use Rattle.ra_wire.proofs.browse.all_entries.Given as goal

abbrev pub invariant-loop-item : goal.invariant-loop-item
invariant-loop-item l = (each dirent_in (row l.yielded) ≡ Some (map (dirent_as) l.entries.items)) × (l.yielded ++ l.item-iterator.rest.items ≡ l.fn.items.items)
