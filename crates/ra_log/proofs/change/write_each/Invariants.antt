use Rattle.std.proofs.Common.{take}
use Rattle.std.specs.List.{flat_map}
use Rattle.std.specs.Io.KnownBytes.{Appends}
use Rattle.ra_item.specs.Items.{spell}
use Rattle.ra_log.specs.Entries.{change_item}
use Rattle.ra_log.proofs.change.write_each.Given as goal

abbrev pub invariant-loop-change : goal.invariant-loop-change
invariant-loop-change g l = Appends (g.W.Write.contents l.fn.out) (g.W.Write.contents l.out) (flat_map (λ d. spell (change_item l.trees l.number l.set d)) (take l.change-index l.changes))
