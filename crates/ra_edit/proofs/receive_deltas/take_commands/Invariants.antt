use Rattle.std.proofs.Common.{◌≡◌, ◌≤◌, true}
use Rattle.ra_edit.specs.DeltaEdits.{GoesBy, StandsWith, coming_in}
use Rattle.ra_item.specs.ItemStreams.{reader_of, is_spent, left, ahead}
use Rattle.ra_edit.proofs.receive_deltas.take_commands.Given as goal

abbrev pub invariant-loop : goal.invariant-loop
invariant-loop g l =
    GoesBy (g.E.TextEditor.has_text (g.E.TextEditor.texts l.fn.edit.edit.editor)) g.E.Editor.shows l.fn.edit.edit.editor l.edit.edit.editor (g.I.Input.remaining (reader_of l.fn.items)) (g.I.Input.remaining (reader_of l.items)) (ahead l.fn.items) (ahead l.items) (coming_in l.edit.coming) (StandsWith g.E.Editor.dir_path g.E.Editor.file_path l.edit.edit (coming_in l.edit.coming))
    × (is_spent l.items ≡ true → is_spent l.fn.items ≡ true)
    × (g.I.Input.failures (reader_of l.fn.items) ≤ g.I.Input.failures (reader_of l.items))
    × (g.E.Editor.began l.edit.edit.editor ≡ g.E.Editor.began l.fn.edit.edit.editor)

abbrev pub decreases-loop : goal.decreases-loop
decreases-loop g l = left l.items
