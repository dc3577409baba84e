use Rattle.std.proofs.Common.{rules}
use Rattle.editor_ends.proofs.Showing.{stop_here, stop_before, stop_later}
use Rattle.editor_ends.proofs.parts.give_file.Goals as goal

pub returns-clause-stops : goal.returns-clause-stops
returns-clause-stops g c = search (rules, stop_here, stop_before, stop_later)
