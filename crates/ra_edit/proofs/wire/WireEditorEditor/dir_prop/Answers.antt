use Rattle.std.proofs.Common.{refl, sym, ap, codes, [], ◌∷◌, ◌++◌}
use Rattle.std.specs.Option.{option_map}
use Rattle.ra_item.specs.Items.{spell, Text}
use Rattle.ra_edit.specs.Commands.{command, token, string}
use Rattle.ra_edit.proofs.Told.{tell}
use Rattle.ra_edit.proofs.wire.WireEditorEditor.dir_prop.Goals as goal

pub returns-clause-shown : goal.returns-clause-shown
returns-clause-shown g c =
    tell _ _ _ _ _ _ _ _ _ refl (ap (λ n. spell (command (codes "change-dir-prop") (Text (token c.at-at.result) ∷ Text n ∷ string (option_map (λ v. v.now) c.args.value) ∷ [])) ++ []) (sym c.as_bytes-name.ensures)) c.at-at.ensures c.write_prop-written.ensures c.sent.ensures.whole c.sent.ensures.kept c.sent.ensures.none_waits
