use Rattle.std.proofs.Common.{refl, sym, append-nil}
use Rattle.ra_edit.proofs.Told.{tell}
use Rattle.ra_edit.proofs.wire.WireEditorEditor.text_piece.Goals as goal

pub returns-clause-shown : goal.returns-clause-shown
returns-clause-shown g c =
    tell _ _ _ _ _ _ _ _ _ refl (sym (append-nil _)) c.at-at.ensures c.write_piece-written.ensures c.sent.ensures.whole c.sent.ensures.kept c.sent.ensures.none_waits
