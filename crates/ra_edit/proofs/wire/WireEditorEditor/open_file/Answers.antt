use Rattle.std.proofs.Common.{refl}
use Rattle.ra_edit.proofs.Told.{tell_open}
use Rattle.ra_edit.proofs.wire.WireEditorEditor.open_file.Goals as goal

pub returns-clause-shown : goal.returns-clause-shown
returns-clause-shown g c =
    tell_open _ _ _ _ _ _ _ _ _ _ _ _ refl c.of-place.ensures refl c.at-parent.ensures c.in-Some.ensures.0 c.in-Some.ensures.1 c.in-Some.ensures.2 c.write_open_node-written.ensures c.in_ok-sent.ensures.whole c.in_ok-sent.ensures.kept c.in_ok-sent.ensures.none_waits
