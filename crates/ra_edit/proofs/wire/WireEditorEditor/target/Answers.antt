use Rattle.std.proofs.Common.{refl, sym, ap, codes, [], ◌∷◌, ◌++◌}
use Rattle.ra_item.specs.Items.{spell, Number}
use Rattle.ra_edit.specs.Commands.{command}
use Rattle.ra_edit.proofs.Told.{tell}
use Rattle.ra_edit.proofs.wire.WireEditorEditor.target.Goals as goal

pub returns-clause-shown : goal.returns-clause-shown
returns-clause-shown g c =
    tell _ _ _ _ _ _ _ _ _ refl (ap (λ n. spell (command (codes "target-rev") (Number n ∷ [])) ++ []) (sym c.get.ensures.number)) refl c.write_numbered-written.ensures c.sent.ensures.whole c.sent.ensures.kept c.sent.ensures.none_waits
