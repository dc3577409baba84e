use Rattle.std.proofs.Common.{codes, [], ◌∷◌}
use Rattle.ra_item.specs.Items.{spell, Text}
use Rattle.ra_edit.specs.Commands.{command, token, list, chunk}
use Rattle.svndiff.specs.Spelling.{head}
use Rattle.ra_edit.proofs.Chunks.{both_parts}
use Rattle.ra_edit.proofs.command.write_text_start.Goals as goal

pub returns : goal.returns
returns g c =
    both_parts c.write_bytes.result (g.W.Write.contents c.args.out.now) (g.W.Write.contents c.write_start.new.out) (g.W.Write.contents c.write_bytes.new.out) (spell (command (codes "apply-textdelta") (Text (token c.args.file) ∷ list [] ∷ []))) (spell (chunk (Text (token c.args.file)) head)) c.in_ok-write_start.ensures c.write_bytes.ensures
