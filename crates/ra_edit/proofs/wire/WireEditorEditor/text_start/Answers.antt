use Rattle.std.proofs.Common.{refl, sym, codes, [], ◌∷◌, append_assoc}
use Rattle.ra_item.specs.Items.{spell, Text}
use Rattle.ra_edit.specs.Commands.{command, token, list, chunk}
use Rattle.svndiff.specs.Spelling.{head}
use Rattle.ra_edit.proofs.Told.{tell}
use Rattle.ra_edit.proofs.wire.WireEditorEditor.text_start.Goals as goal

pub returns-clause-shown : goal.returns-clause-shown
returns-clause-shown g c =
    let file = Text (token c.at-at.result) in
    tell _ _ _ _ _ _ _ _ _ refl (sym (append_assoc (spell (command (codes "apply-textdelta") (file ∷ list [] ∷ []))) (spell (chunk file head)) [])) c.at-at.ensures c.write_text_start-written.ensures c.sent.ensures.whole c.sent.ensures.kept c.sent.ensures.none_waits
