use Rattle.std.proofs.Common.{◌≡◌, ◌≤◌, true}
use Rattle.ra_edit.specs.Edit.{Stands}
use Rattle.ra_item.specs.ItemStreams.{reader_of, is_spent, left, ahead}
use Rattle.ra_edit.specs.Received.{Goes}
use Rattle.ra_edit.proofs.receive.take_commands.Given as goal

abbrev pub invariant-loop : goal.invariant-loop
invariant-loop g l =
    Goes g.E.Editor.shows l.fn.edit.editor l.edit.editor (g.I.Input.remaining (reader_of l.fn.items)) (g.I.Input.remaining (reader_of l.items)) (ahead l.fn.items) (ahead l.items) (Stands g.E.Editor.dir_path g.E.Editor.file_path l.edit.stage l.edit.dirs.items l.edit.file)
    × (is_spent l.items ≡ true → is_spent l.fn.items ≡ true)
    × (g.I.Input.failures (reader_of l.fn.items) ≤ g.I.Input.failures (reader_of l.items))
    × (g.E.Editor.began l.edit.editor ≡ g.E.Editor.began l.fn.edit.editor)

abbrev pub decreases-loop : goal.decreases-loop
decreases-loop g l = left l.items
