use Rattle.delta_editor.specs.Calls.{StaysShown}
use Rattle.ra_edit.proofs.Discarded.{Discarding}
use Rattle.ra_edit.proofs.receive_edit.discard_dirs.Given as goal

abbrev pub decreases-loop-dir : goal.decreases-loop-dir
decreases-loop-dir g l = goal.left-loop-dir g l

abbrev pub invariant-loop-dir : goal.invariant-loop-dir
invariant-loop-dir g l = StaysShown g.E.Editor.shows l.fn.editor l.left × Discarding g.E.Editor.dir_path g.E.Editor.lets_go l.fn.editor l.left l.fn.dirs.items l.open.items
