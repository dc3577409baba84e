use Rattle.std.proofs.Common.{◌≡◌, ◌+◌, length}
use Rattle.ra_serve.specs.Directories.{spelt, told_of}
use Rattle.ra_serve.proofs.directory.room_behind.Given as goal

abbrev pub invariant-loop-children : goal.invariant-loop-children
invariant-loop-children l = l.room + length (spelt (told_of l.children)) ≡ l.left + length (spelt (told_of l.fn.children))

abbrev pub decreases-loop-children : goal.decreases-loop-children
decreases-loop-children l = length l.children
