use Rattle.std.proofs.Common.{◌++◌, ◌∷◌, ◌∙◌, sym}
use Rattle.node_base.specs.PathText.{path_text, slashed}
use Rattle.node_base.proofs.TextLemmas.{text_of_first}
use Rattle.dump_text.proofs.Writes.{join, wrote_as}
use Rattle.dump_text.proofs.writer.write_first.Goals as goal

pub returns : goal.returns
returns c =
    let first = c.args.first.now in
    let rest = slashed c.args.rest.now in
    let wrote = wrote_as c.args.out.now c.write.new.self c.as_bytes.result.now first (c.as_bytes.ensures.value ∙ c.as_str.ensures.text) c.write.ensures in
    wrote_as c.args.out.now c.write_slashed.new.out (first ++ rest) (path_text (first ∷ c.args.rest.now)) (sym (text_of_first first c.args.rest.now))
    (join c.args.out.now c.write.new.self c.write_slashed.new.out first rest wrote c.write_slashed.ensures)
