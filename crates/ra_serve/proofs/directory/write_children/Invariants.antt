use Rattle.std.proofs.Common.{ℕ, List, Option, length}
use Rattle.std.specs.Io.KnownBytes.{Appends}
use Rattle.ra_serve.specs.Directories.{spelt, told_of}
use Rattle.ra_serve.proofs.directory.write_children.Given as goal

abbrev pub invariant-loop-children : goal.invariant-loop-children
invariant-loop-children g l = (w : Option (List ℕ)) → Appends (g.W.Write.contents l.out) w (spelt (told_of l.children)) → Appends (g.W.Write.contents l.fn.out) w (spelt (told_of l.fn.children))

abbrev pub decreases-loop-children : goal.decreases-loop-children
decreases-loop-children g l = length l.children
