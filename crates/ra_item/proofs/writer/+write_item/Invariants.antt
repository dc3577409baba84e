use Rattle.std.proofs.Common.{◌++◌, ◌∷◌, [], take}
use Rattle.std.specs.List.{flat_map}
use Rattle.std.specs.Io.KnownBytes.{Appends}
use Rattle.ra_item.specs.Items.{spell, nesting}
use Rattle.ra_item.proofs.writer.+write_item.Given as goal

abbrev pub invariant-loop-part : goal.invariant-loop-part
invariant-loop-part g l = Appends (g.W.Write.contents l.fn.out) (g.W.Write.contents l.out) ((40 ∷ 32 ∷ []) ++ flat_map spell (take l.part-index l.part-items))

abbrev pub decreases-write_item : goal.decreases-write_item
decreases-write_item g l = nesting l.item.now
