use Rattle.std.proofs.Common.{refl}
use Rattle.ra_edit.proofs.Told.{tell}
use Rattle.ra_edit.proofs.wire.WireEditorEditor.close_file.Goals as goal

pub returns-clause-shown : goal.returns-clause-shown
returns-clause-shown g c =
    tell _ _ _ _ _ _ _ _ _ refl refl c.at-at.ensures c.write_close_file-written.ensures c.sent.ensures.whole c.sent.ensures.kept c.sent.ensures.none_waits
