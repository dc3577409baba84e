use Rattle.std.proofs.lemmas.Result.{err_from_is_err_and}
use Rattle.ra_edit.proofs.Refusing.{no_file, in_open}
use Rattle.ra_edit.proofs.Steps.{file_moved}
use Rattle.ra_edit.proofs.LeftOpen.{file_stays}
use Rattle.ra_edit.proofs.receive_edit.Edit.chunk.Goals as goal

pub returns-clause-moved : goal.returns-clause-moved
returns-clause-moved g c =
    λ at item k h. file_moved _ _ _ _ _ _ _ _ _ _ item at c.in-Some.is h (c.in_ok-give_bytes.ensures.moved item k)

pub returns-in_default-clause-refused : goal.returns-in_default-clause-refused
returns-in_default-clause-refused g c = λ at h. no_file _ _ _ _ _ at _ _ c.in_default.is h

pub returns-in_err-give_bytes-clause-refused : goal.returns-in_err-give_bytes-clause-refused
returns-in_err-give_bytes-clause-refused g c =
    let p = err_from_is_err_and c.from_residual.result c.from_residual.ensures.1 in
    rw (p.1, p.2) (λ at h. in_open _ _ _ _ _ _ at _ _ _ c.in-Some.is c.in_err-give_bytes.ensures.refused h)

pub returns-in_err-give_bytes-clause-still : goal.returns-in_err-give_bytes-clause-still
returns-in_err-give_bytes-clause-still g c =
    let p = err_from_is_err_and c.from_residual.result c.from_residual.ensures.1 in
    rw p.1 (file_stays g.E.Editor.dir_path g.E.Editor.file_path c.args.self.now.dirs.items c.in-Some.file c.give_bytes.new.file c.args.self.now.file c.in-Some.is c.in_err-give_bytes.ensures.path)
