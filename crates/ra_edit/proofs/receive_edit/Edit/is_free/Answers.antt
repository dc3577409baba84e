use Rattle.std.proofs.Common.{sym}
use Rattle.ra_edit.proofs.Refusing.{in_use}
use Rattle.ra_edit.proofs.receive_edit.Edit.is_free.Goals as goal

pub returns-then-is_same : goal.returns-then-is_same
returns-then-is_same g c = sym (in_use g.E.Editor.dir_path c.args.self.now.dirs.items c.deref-dir-items.result.now c.loop-dir.dir-index c.dir-item.result c.as_slice.result.now c.args.token.now c.is_same.result c.deref-dir-items.ensures.value c.loop-dir-test.true c.dir-item.is c.as_slice.ensures.value c.is_same.ensures.same c.if-is_same.true)
