use Rattle.std.proofs.Common.{◌∙◌, sym}
use Rattle.ra_edit.proofs.Steps.{end_moves}
use Rattle.ra_edit.proofs.receive_edit.Edit.close_edit.Goals as goal

pub returns-clause-moved : goal.returns-clause-moved
returns-clause-moved g c =
    let old = c.args.self.now in
    let k = c.is_closed.ensures.closed c.if-not-is_closed.false in
    λ at item f h. end_moves g.E.Editor.dir_path g.E.Editor.file_path g.E.Editor.shows old.editor old.stage old.dirs.items old.file item at c.has_root-root.result (sym c.is_announced.ensures ∙ c.if-is_announced.false) k.0 k.1 c.has_root-root.ensures f h
