use Rattle.std.proofs.Common.{◌≡◌, ◌++◌}
use Rattle.std.specs.Prelude.{map, Some}
use Rattle.ra_item.specs.Items.{row}
use Rattle.ra_wire.specs.Params.{each, word_of}
use Rattle.ra_wire.proofs.params.all_words.Given as goal

abbrev pub invariant-loop-item : goal.invariant-loop-item
invariant-loop-item l = (each word_of (row l.yielded) ≡ Some (map (λ w. w.items) l.words.items)) × (l.yielded ++ l.item-iterator.rest.items ≡ l.fn.items.items)
