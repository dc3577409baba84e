use Rattle.std.proofs.Common.{◌≡◌, ◌++◌, ℕ, List, length, map}
use Rattle.std.specs.Io.KnownBytes.{Appends}
use Rattle.editor_ends.specs.Parts.{pieces}
use Rattle.ra_item.specs.Items.{Text, row, spell_all}
use Rattle.ra_serve.proofs.text.write_pieces.Given as goal

abbrev pub invariant-loop-rest : goal.invariant-loop-rest
invariant-loop-rest g l = (front : List ℕ) × Appends (g.W.Write.contents l.fn.out) (g.W.Write.contents l.out) front × (spell_all (row (map Text (pieces l.text))) ≡ front ++ spell_all (row (map Text (pieces l.rest))))

abbrev pub decreases-loop-rest : goal.decreases-loop-rest
decreases-loop-rest g l = length l.rest
