use Rattle.std.proofs.Common.{refl}
use Rattle.ra_edit.proofs.Told.{tell_end}
use Rattle.ra_edit.proofs.wire.WireEditorEditor.close_edit.Goals as goal

pub returns-clause-shown : goal.returns-clause-shown
returns-clause-shown g c =
    tell_end _ _ c.sent.new.out _ _ _ _ c.into_parts-out.ensures.inner refl c.write_bare-written.ensures c.in_ok-sent.ensures.whole c.in_ok-sent.ensures.kept c.in_ok-sent.ensures.none_waits
