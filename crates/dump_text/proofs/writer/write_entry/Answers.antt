use Rattle.std.proofs.Common.{◌++◌, ◌∷◌, [], ◌∙◌, ap, length}
use Rattle.std.specs.Prelude.{codes}
use Rattle.std.specs.Fmt.{decimal as printed}
use Rattle.node_base.specs.BlockCanon.{canon_block}
use Rattle.dump_text.specs.Canon.{header_line}
use Rattle.dump_text.proofs.Writes.{join, wrote_as}
use Rattle.dump_text.proofs.writer.write_entry.Goals as goal

pub returns : goal.returns
returns c =
    let len = length (canon_block c.args.props.now) in
    let block = canon_block c.args.props.now in
    let prop_name = codes "Prop-content-length: " in
    let content_name = codes "Content-length: " in
    let number_name = codes "Revision-number: " in
    let number = header_line number_name (printed c.args.number) in
    let prop_line = header_line prop_name (printed len) in
    let total_line = header_line content_name (printed len) in
    let s-0 = c.args.out.now in
    let s-1 = c.write_count.new.out in
    let s-2 = c.write_count-2.new.out in
    let s-3 = c.write_count-3.new.out in
    let s-4 = c.write.new.self in
    let s-5 = c.write_block.new.out in
    let s-6 = c.write-2.new.self in
    let w-1 = wrote_as s-0 s-1 (header_line number_name (printed c.from.result)) number (ap (λ n. header_line number_name (printed n)) (c.from.ensures ∙ c.get.ensures.number)) c.write_count.ensures in
    let w-2 = wrote_as s-1 s-2 (header_line prop_name (printed c.block_len-len.result)) prop_line (ap (λ n. header_line prop_name (printed n)) c.block_len-len.ensures) c.write_count-2.ensures in
    let w-3 = wrote_as s-2 s-3 (header_line content_name (printed c.block_len-len.result)) total_line (ap (λ n. header_line content_name (printed n)) c.block_len-len.ensures) c.write_count-3.ensures in
    let j-5 = join s-4 s-5 s-6 block (10 ∷ []) c.write_block.ensures c.write-2.ensures in
    let j-4 = join s-3 s-4 s-6 (10 ∷ []) (block ++ 10 ∷ []) c.write.ensures j-5 in
    let j-3 = join s-2 s-3 s-6 total_line (10 ∷ [] ++ (block ++ 10 ∷ [])) w-3 j-4 in
    let j-2 = join s-1 s-2 s-6 prop_line (total_line ++ (10 ∷ [] ++ (block ++ 10 ∷ []))) w-2 j-3 in
    join s-0 s-1 s-6 number (prop_line ++ (total_line ++ (10 ∷ [] ++ (block ++ 10 ∷ [])))) w-1 j-2
