use Rattle.std.proofs.Common.{◌≡◌, true, take}
use Rattle.ra_edit.specs.Edits.{is_free}
use Rattle.ra_edit.specs.Edit.{dirs_named}
use Rattle.ra_edit.proofs.receive_edit.Edit.is_free.Given as goal

abbrev pub invariant-loop-dir : goal.invariant-loop-dir
invariant-loop-dir g l = is_free l.token (dirs_named g.E.Editor.dir_path (take l.dir-index l.self.dirs.items)) ≡ true
