use Rattle.std.proofs.Common.{rules}
use Rattle.editor_ends.proofs.Showing.{stopped_later}
use Rattle.editor_ends.proofs.parts.show_dir.Goals as goal

pub returns-in-Err-clause-stops : goal.returns-in-Err-clause-stops
returns-in-Err-clause-stops g c = search (rules, stopped_later)
