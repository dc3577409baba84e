use Rattle.std.proofs.Common.{◌≡◌, ◌+◌, ◌≤◌, length, drop}
use Rattle.ra_item.specs.Items.{row, spell_all}
use Rattle.ra_item.proofs.item.size_of_all.Given as goal

abbrev pub invariant-loop-item : goal.invariant-loop-item
invariant-loop-item l = (l.size ≤ 33554429) × (l.size + length (spell_all (row (drop l.item-index l.items))) ≡ length (spell_all (row l.items)))
