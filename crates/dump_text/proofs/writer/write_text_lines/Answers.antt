use Rattle.std.proofs.Common.{◌++◌, ap, sym, length}
use Rattle.std.specs.Prelude.{codes}
use Rattle.std.specs.Fmt.{decimal as printed}
use Rattle.hex.specs.Hex.{encode_lower}
use Rattle.md5.specs.Md5.{md5}
use Rattle.dump_text.specs.Canon.{header_line, text_lines}
use Rattle.dump_text.proofs.Writes.{join, wrote_as}
use Rattle.dump_text.proofs.writer.write_text_lines.Goals as goal

pub returns-in-Some : goal.returns-in-Some
returns-in-Some c =
    let name = codes "Text-content-length: " in
    let len = header_line name (printed (length c.in-Some.text)) in
    let sum = header_line (codes "Text-content-md5: ") (encode_lower (md5 c.in-Some.text)) in
    wrote_as c.args.out.now c.write_sum.new.out (len ++ sum) (text_lines c.args.text.now) (ap text_lines (sym c.in-Some.is))
    (join c.args.out.now c.write_count.new.out c.write_sum.new.out len sum
    (wrote_as c.args.out.now c.write_count.new.out (header_line name (printed c.len.result)) len (ap (λ n. header_line name (printed n)) c.len.ensures.len) c.write_count.ensures)
    c.write_sum.ensures)
