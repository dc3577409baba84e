use Rattle.std.proofs.Common.{◌++◌, ◌∷◌, [], ◌∙◌, ap}
use Rattle.std.specs.Prelude.{codes}
use Rattle.hex.specs.Hex.{encode_lower}
use Rattle.md5.specs.Md5.{md5}
use Rattle.dump_text.proofs.Writes.{join, wrote_as}
use Rattle.dump_text.proofs.writer.write_sum.Goals as goal

pub returns : goal.returns
returns c =
    let sum = encode_lower (md5 c.args.text.now) in
    join c.args.out.now c.write.new.self c.write-3.new.self (codes "Text-content-md5: ") (sum ++ 10 ∷ []) c.write.ensures
    (join c.write.new.self c.write-2.new.self c.write-3.new.self sum (10 ∷ [])
    (wrote_as c.write.new.self c.write-2.new.self c.as_slice.result.now sum (c.as_slice.ensures ∙ c.hex_of-digits.ensures ∙ ap encode_lower c.sum.ensures) c.write-2.ensures)
    c.write-3.ensures)
