use Rattle.ra_edit.specs.DeltaEdits.{coming_in, DoneBy, RefusedBy}
use Rattle.ra_edit.specs.declared.receive_command.Command.TheVariants as command
use Rattle.ra_edit.proofs.DeltaDoes.{ok_at, err_at, ok_other, err_other, not_text}
use Rattle.ra_edit.proofs.delta_edit.DeltaEdit.step.Goals as goal

pub returns-in-TextStart-clause-moved : goal.returns-in-TextStart-clause-moved
returns-in-TextStart-clause-moved g c = rw c.in-TextStart.is c.text_start.ensures.moved

pub returns-in-TextStart-clause-refused : goal.returns-in-TextStart-clause-refused
returns-in-TextStart-clause-refused g c = rw c.in-TextStart.is c.text_start.ensures.refused

pub returns-in-Chunk-clause-moved : goal.returns-in-Chunk-clause-moved
returns-in-Chunk-clause-moved g c =
    let T = g.E.TextEditor in
    let E = g.E.Editor in
    let old = c.args.self.now in
    rw c.in-Chunk.is (ok_at (DoneBy (T.has_text (T.texts old.edit.editor)) E.shows E.dir_path E.file_path old.edit c.chunk.new.self.edit (coming_in old.coming) (coming_in c.chunk.new.self.coming) (command.Chunk c.in-Chunk.token c.in-Chunk.bytes)) c.chunk.result c.args.sum c.chunk.ensures.moved)

pub returns-in-Chunk-clause-refused : goal.returns-in-Chunk-clause-refused
returns-in-Chunk-clause-refused g c =
    let T = g.E.TextEditor in
    let E = g.E.Editor in
    let old = c.args.self.now in
    rw c.in-Chunk.is (err_at (RefusedBy (T.has_text (T.texts old.edit.editor)) E.shows E.began E.refuses E.dir_path E.file_path old.edit c.chunk.new.self.edit (coming_in old.coming) (command.Chunk c.in-Chunk.token c.in-Chunk.bytes)) c.chunk.result c.args.sum c.chunk.ensures.refused)

pub returns-in-TextEnd-clause-moved : goal.returns-in-TextEnd-clause-moved
returns-in-TextEnd-clause-moved g c =
    let T = g.E.TextEditor in
    let E = g.E.Editor in
    let old = c.args.self.now in
    rw c.in-TextEnd.is (ok_at (DoneBy (T.has_text (T.texts old.edit.editor)) E.shows E.dir_path E.file_path old.edit c.text_end.new.self.edit (coming_in old.coming) (coming_in c.text_end.new.self.coming) (command.TextEnd c.in-TextEnd.token)) c.text_end.result c.args.sum c.text_end.ensures.moved)

pub returns-in-TextEnd-clause-refused : goal.returns-in-TextEnd-clause-refused
returns-in-TextEnd-clause-refused g c =
    let T = g.E.TextEditor in
    let E = g.E.Editor in
    let old = c.args.self.now in
    rw c.in-TextEnd.is (err_at (RefusedBy (T.has_text (T.texts old.edit.editor)) E.shows E.began E.refuses E.dir_path E.file_path old.edit c.text_end.new.self.edit (coming_in old.coming) (command.TextEnd c.in-TextEnd.token)) c.text_end.result c.args.sum c.text_end.ensures.refused)

pub returns-in_default-clause-moved : goal.returns-in_default-clause-moved
returns-in_default-clause-moved g c =
    let T = g.E.TextEditor in
    let E = g.E.Editor in
    let old = c.args.self.now in
    ok_other (T.has_text (T.texts old.edit.editor)) E.shows E.dir_path E.file_path old.edit c.step.new.self (coming_in old.coming) c.args.command c.args.sum c.step.result (not_text _ c.in_default.not-TextStart c.in_default.not-Chunk c.in_default.not-TextEnd) c.step.ensures.moved

pub returns-in_default-clause-refused : goal.returns-in_default-clause-refused
returns-in_default-clause-refused g c =
    let e = c.step.ensures in
    err_other _ _ _ _ _ _ _ _ _ _ _ c.step.result (not_text _ c.in_default.not-TextStart c.in_default.not-Chunk c.in_default.not-TextEnd) e.refused e.own e.still
