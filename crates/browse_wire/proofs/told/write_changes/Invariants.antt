use Rattle.std.proofs.Common.{take}
use Rattle.std.specs.List.{flat_map}
use Rattle.std.specs.Io.KnownBytes.{Appends}
use Rattle.ra_item.specs.Items.{spell}
use Rattle.browse_wire.specs.Told.{change_item}
use Rattle.browse_wire.proofs.told.write_changes.Given as goal

abbrev pub invariant-loop-change : goal.invariant-loop-change
invariant-loop-change g l = Appends (g.W.Write.contents l.fn.out) (g.W.Write.contents l.out) (flat_map (λ d. spell (change_item d)) (take l.change-index l.changes))
