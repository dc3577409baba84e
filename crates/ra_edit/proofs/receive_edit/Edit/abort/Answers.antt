use Rattle.ra_edit.proofs.receive_edit.Edit.abort.Goals as goal

pub returns : goal.returns
returns g c = record { stopped = c.args.self.editor; last = c.into_editor.result; discarded = c.into_editor.ensures.let_go; ended = c.abort_edit.ensures }
