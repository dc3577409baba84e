use Rattle.std.proofs.Common.{◌∙◌, ap, sym}
use Rattle.std.specs.Prelude.{codes}
use Rattle.dump_text.specs.Canon.{header_line, kind_line}
use Rattle.dump_text.proofs.Writes.{wrote_as}
use Rattle.dump_text.proofs.writer.write_kind.Goals as goal

pub returns-in-Some : goal.returns-in-Some
returns-in-Some c =
    wrote_as c.args.out.now c.write_line.new.out (header_line (codes "Node-kind: ") c.as_bytes.result.now) (kind_line c.args.kind) (ap (header_line (codes "Node-kind: ")) (c.as_bytes.ensures.value ∙ c.kind_word-word.ensures) ∙ ap kind_line (sym c.in-Some.is)) c.write_line.ensures
