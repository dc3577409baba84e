use Rattle.std.proofs.Common.{◌≡◌, max, drop}
use Rattle.ra_item.specs.Items.{row, deepest, AllFit}
use Rattle.ra_item.proofs.item.depth_of.Given as goal

abbrev pub invariant-loop-item : goal.invariant-loop-item
invariant-loop-item l = (max l.depth (deepest (row (drop l.item-index l.items))) ≡ deepest (row l.items)) × (AllFit (row (drop l.item-index l.items)) → AllFit (row l.items))
