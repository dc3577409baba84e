use Rattle.std.proofs.Common.{◌≡◌, ◌++◌, ℕ, List, length}
use Rattle.std.specs.Io.KnownBytes.{Appends}
use Rattle.ra_edit.specs.Commands.{parts}
use Rattle.ra_edit.specs.Written.{chunks}
use Rattle.ra_edit.proofs.command.write_piece.Given as goal

abbrev pub invariant-loop-rest : goal.invariant-loop-rest
invariant-loop-rest g l = (front : List ℕ) × Appends (g.W.Write.contents l.fn.out) (g.W.Write.contents l.out) front × (chunks l.file (parts l.piece) ≡ front ++ chunks l.file (parts l.rest))

abbrev pub decreases-loop-rest : goal.decreases-loop-rest
decreases-loop-rest g l = length l.rest
