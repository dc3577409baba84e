use Rattle.std.proofs.Common.{◌≡◌, ◌++◌}
use Rattle.std.specs.Prelude.{map, Some}
use Rattle.ra_item.specs.Items.{row}
use Rattle.ra_wire.specs.Params.{each}
use Rattle.browse_wire.specs.Fields.{text_of}
use Rattle.browse_wire.proofs.fields.all_texts.Given as goal

abbrev pub invariant-loop-item : goal.invariant-loop-item
invariant-loop-item l = (each text_of (row l.yielded) ≡ Some (map (λ t. t.items) l.texts.items)) × (l.yielded ++ l.item-iterator.rest.items ≡ l.fn.items.items)
