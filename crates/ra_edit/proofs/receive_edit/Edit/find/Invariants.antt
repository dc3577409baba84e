use Rattle.std.proofs.Common.{◌≡◌, false, take}
use Rattle.ra_edit.specs.Edit.{dirs_named}
use Rattle.ra_edit.specs.Refusals.{has_dir}
use Rattle.ra_edit.proofs.receive_edit.Edit.find.Given as goal

abbrev pub invariant-loop-i : goal.invariant-loop-i
invariant-loop-i g l = has_dir l.token (dirs_named g.E.Editor.dir_path (take l.i l.self.dirs.items)) ≡ false
