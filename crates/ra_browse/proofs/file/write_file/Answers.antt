use Rattle.std.proofs.Common.{◌≡◌, ◌++◌, Some, OnOk, sym, subst}
use Rattle.std.specs.Io.KnownBytes.{Appends}
use Rattle.uuid.specs.Text.{hyphenated_text, lower}
use Rattle.ra_item.specs.Items.{Item, Number, spell}
use Rattle.ra_wire.specs.Replies.{before, behind, properties, string}
use Rattle.ra_serve.proofs.Pieces.{both_parts}
use Rattle.ra_browse.specs.Answers.{props_told}
use Rattle.ra_browse.specs.Tellings.{made_as}
use Rattle.ra_browse.proofs.Spelled.{spelled_three}
use Rattle.ra_browse.proofs.file.write_file.Goals as goal

pub returns : goal.returns
returns g c =
    let r = c.write_end.result in
    let a = g.W.Write.contents c.args.out.now in
    let b = g.W.Write.contents c.write_name.new.out in
    let d = g.W.Write.contents c.write_sum.new.out in
    let e = g.W.Write.contents c.write_number.new.out in
    let f = g.W.Write.contents c.write_props.new.out in
    let z = g.W.Write.contents c.write_end.new.out in
    let got = c.get.ensures.number in
    let from = c.from.ensures in
    let k : c.from.result ≡ c.args.seen.now.number = cc in
    let s : Item = string (Some c.args.sum.now) in
    let n : Item = Number c.args.seen.now.number in
    let p : Item = properties (props_told c.args.props (hyphenated_text lower c.args.seen.now.identity) c.args.node.now (made_as c.args.seen.now.made)) in
    subst (λ l. OnOk r (Appends a z l)) (sym (spelled_three c.args.name.now s n p))
    (both_parts r a b z (before c.args.name.now) (spell s ++ (spell n ++ (spell p ++ behind))) c.in_ok-write_name.ensures
    (both_parts r b d z (spell s) (spell n ++ (spell p ++ behind)) c.in_ok-write_sum.ensures
    (both_parts r d e z (spell n) (spell p ++ behind) (subst (λ m. Appends d e (spell (Number m))) k c.in_ok-write_number.ensures)
    (both_parts r e f z (spell p) behind c.in_ok-write_props.ensures c.write_end.ensures))))
