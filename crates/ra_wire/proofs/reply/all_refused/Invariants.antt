use Rattle.std.proofs.Common.{◌≡◌, ◌++◌}
use Rattle.std.specs.Prelude.{map, Some}
use Rattle.ra_item.specs.Items.{row}
use Rattle.ra_wire.specs.Params.{each}
use Rattle.ra_wire.specs.Answers.{refused_in, refused_as}
use Rattle.ra_wire.proofs.reply.all_refused.Given as goal

abbrev pub invariant-loop-item : goal.invariant-loop-item
invariant-loop-item l = (each refused_in (row l.yielded) ≡ Some (map (refused_as) l.all.items)) × (l.yielded ++ l.item-iterator.rest.items ≡ l.fn.items.items)
