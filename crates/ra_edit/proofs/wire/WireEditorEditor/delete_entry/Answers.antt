use Rattle.std.proofs.Common.{refl}
use Rattle.ra_edit.proofs.Told.{tell}
use Rattle.ra_edit.proofs.wire.WireEditorEditor.delete_entry.Goals as goal

pub returns-clause-shown : goal.returns-clause-shown
returns-clause-shown g c =
    tell _ _ _ _ _ _ _ _ _ refl refl c.at-parent.ensures c.write_delete-written.ensures c.sent.ensures.whole c.sent.ensures.kept c.sent.ensures.none_waits
