use Rattle.ra_edit.proofs.Drives.{received, end_stops, abandons, not_ended}
use Rattle.ra_edit.proofs.LeftOpen.{stands_open}
use Rattle.ra_edit.proofs.receive.receive.Goals as goal

pub returns-in-Ok-clause-received : goal.returns-in-Ok-clause-received
returns-in-Ok-clause-received g c = received _ _ _ _ _ _ _ _ _ _ _ c.new-edit.ensures.editor c.in_default.ensures.comes c.in-Ok.ensures.done

pub returns-in-Err-clause-refused : goal.returns-in-Err-clause-refused
returns-in-Err-clause-refused g c =
    rw c.spend.ensures.reader (abandons _ _ _ _ _ _ _ _ _ _ _ _ _ _ c.new-edit.ensures.editor c.in-Err.ensures.refused c.abort.ensures)

pub returns-in-Err-finish-clause-refused : goal.returns-in-Err-finish-clause-refused
returns-in-Err-finish-clause-refused g c =
    let e = c.in-Err-finish.ensures in
    rw (c.into.ensures, c.spend-in-Err-finish.ensures.reader) (abandons _ _ _ _ _ _ _ _ _ _ _ _ _ _ c.new-edit.ensures.editor (end_stops _ _ _ _ _ _ _ _ _ _ _ _ _ _ c.take_commands.ensures.began e.refused e.own (not_ended _ _ _ _ _) (stands_open g.E.Editor.dir_path g.E.Editor.file_path _ _ _) c.in_default.ensures.comes) e.gives_up)
