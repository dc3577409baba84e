use Rattle.std.proofs.Common.{◌++◌, ◌∙◌, ap, sym}
use Rattle.std.specs.Prelude.{codes}
use Rattle.std.specs.Fmt.{decimal as printed}
use Rattle.node_base.specs.PathText.{path_text}
use Rattle.dump_text.specs.Canon.{header_line, source_lines}
use Rattle.dump_text.proofs.Writes.{join, wrote_as}
use Rattle.dump_text.proofs.writer.write_source.Goals as goal

pub returns-in-Some : goal.returns-in-Some
returns-in-Some c =
    let name = codes "Node-copyfrom-rev: " in
    let number = header_line name (printed c.in-Some.source.revision) in
    let path = header_line (codes "Node-copyfrom-path: ") (path_text c.in-Some.source.path) in
    wrote_as c.args.out.now c.write_path.new.out (number ++ path) (source_lines c.args.source.now) (ap source_lines (sym c.in-Some.is))
    (join c.args.out.now c.write_count.new.out c.write_path.new.out number path
    (wrote_as c.args.out.now c.write_count.new.out (header_line name (printed c.from.result)) number (ap (λ n. header_line name (printed n)) (c.from.ensures ∙ c.get.ensures.number)) c.write_count.ensures)
    c.write_path.ensures)
