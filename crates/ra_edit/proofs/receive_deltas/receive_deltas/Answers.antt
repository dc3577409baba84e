use Rattle.ra_edit.proofs.DeltaDrives.{received, end_stops, abandons, came_from, stopped_from, own_with}
use Rattle.ra_edit.proofs.Drives.{not_ended}
use Rattle.ra_edit.proofs.LeftOpen.{stands_open}
use Rattle.ra_edit.specs.Refusals.{Meets}
use Rattle.ra_edit.specs.declared.receive_command.Command.TheVariants as command
use Rattle.ra_edit.proofs.receive_deltas.receive_deltas.Goals as goal

pub returns-in-Ok-clause-received : goal.returns-in-Ok-clause-received
returns-in-Ok-clause-received g c = received _ _ _ _ _ _ _ _ _ _ _ _ (came_from g.E.TextEditor.texts g.E.TextEditor.has_text _ _ _ _ _ _ _ _ _ _ c.new-edit.ensures.editor c.in_default.ensures.comes) (λ at item k h. c.in-Ok.ensures.done at item k h.0)

pub returns-in-Err-clause-refused : goal.returns-in-Err-clause-refused
returns-in-Err-clause-refused g c =
    rw c.spend.ensures.reader (abandons _ _ _ _ _ _ _ _ _ _ _ _ _ _ (stopped_from g.E.TextEditor.texts g.E.TextEditor.has_text _ _ _ _ _ _ _ _ _ _ _ _ c.new-edit.ensures.editor c.in-Err.ensures.refused) c.abort.ensures)

pub returns-in-Err-finish-clause-refused : goal.returns-in-Err-finish-clause-refused
returns-in-Err-finish-clause-refused g c =
    let e = c.in-Err-finish.ensures in
    rw (c.into.ensures, c.spend-in-Err-finish.ensures.reader) (abandons _ _ _ _ _ _ _ _ _ _ _ _ _ _ (stopped_from g.E.TextEditor.texts g.E.TextEditor.has_text _ _ _ _ _ _ _ _ _ _ _ _ c.new-edit.ensures.editor
    (end_stops _ _ _ _ _ _ _ _ _ _ _ _ _ _ _ _ c.take_commands.ensures.began (λ at h. e.refused at h.0) (own_with g.E.Editor.dir_path g.E.Editor.file_path c.take_commands.new.edit.edit _ (λ at x. Meets g.E.Editor.shows g.E.Editor.began g.E.Editor.refuses c.take_commands.new.edit.edit.editor at command.Finish x) _ e.own) (λ x h. not_ended g.E.Editor.dir_path g.E.Editor.file_path _ _ _ x h.0) (λ x h. stands_open g.E.Editor.dir_path g.E.Editor.file_path _ _ _ x h.0) c.in_default.ensures.comes)) e.gives_up)
