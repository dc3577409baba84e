use Rattle.std.proofs.Common.{◌++◌, OnOk, subst}
use Rattle.std.specs.Io.KnownBytes.{Appends}
use Rattle.hex.specs.Hex.{encode_lower}
use Rattle.md5.specs.Md5.{md5}
use Rattle.uuid.specs.Text.{hyphenated_text, lower}
use Rattle.ra_item.specs.Items.{spell}
use Rattle.ra_serve.specs.Answers.{text_wanted}
use Rattle.ra_serve.proofs.Pieces.{both_parts}
use Rattle.ra_browse.specs.Answers.{file_found, props_told}
use Rattle.ra_browse.specs.Tellings.{made_as}
use Rattle.ra_browse.proofs.file.write_found.Goals as goal

pub returns : goal.returns
returns g c =
    let front = spell (file_found (encode_lower (md5 c.args.text.now)) c.args.seen.now.number (props_told c.args.wanted.props (hyphenated_text lower c.args.seen.now.identity) c.args.node.now (made_as c.args.seen.now.made))) in
    let a = g.W.Write.contents c.args.out.now in
    let b = g.W.Write.contents c.write_wanted.new.out in
    subst (λ t. OnOk c.write_wanted.result (Appends a b (front ++ text_wanted c.args.wanted.contents t))) c.as_slice.ensures
    (both_parts c.write_wanted.result a (g.W.Write.contents c.write_summed.new.out) b front (text_wanted c.args.wanted.contents c.as_slice.result.now) c.in_ok-write_summed.ensures c.write_wanted.ensures)
