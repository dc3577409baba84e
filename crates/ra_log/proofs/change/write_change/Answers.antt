use Rattle.std.proofs.Common.{◌∷◌, [], subst, OnOk}
use Rattle.std.specs.Option.{option_map}
use Rattle.std.specs.Io.KnownBytes.{Appends}
use Rattle.path_history.specs.declared.changed.ChangedPath.{ChangedPath}
use Rattle.ra_item.specs.Items.{spell, Word, Text}
use Rattle.ra_wire.specs.Commands.{truth_word}
use Rattle.ra_wire.specs.Replies.{list, node_kind_word}
use Rattle.browse_wire.specs.Told.{absolute, source_item}
use Rattle.ra_log.proofs.change.write_change.Goals as goal

pub returns : goal.returns
returns g c =
    let d = c.args.change.now in
    subst (λ (t : ChangedPath). OnOk c.write_parts.result (Appends (g.W.Write.contents c.args.out.now) (g.W.Write.contents c.write_parts.new.out)
    (spell (list (Text (absolute d.path) ∷ Word (t.letter ∷ []) ∷ source_item (option_map (λ s. (s.path, s.revision)) d.source) ∷ list (Text (node_kind_word c.args.kind) ∷ Word (truth_word t.text) ∷ Word (truth_word t.props) ∷ []) ∷ []))))) c.changed_path.ensures c.write_parts.ensures
