use Rattle.std.proofs.Common.{[], ◌∷◌, ◌++◌, codes}
use Rattle.ra_item.specs.Items.{Number, spell}
use Rattle.ra_wire.specs.Replies.{before, wanted_props}
use Rattle.ra_serve.proofs.Pieces.{both_parts}
use Rattle.ra_serve.proofs.directory.write_front.Goals as goal

pub returns : goal.returns
returns g c =
    let r = c.write_open.result in
    let a = g.W.Write.contents c.args.out.now in
    let b = g.W.Write.contents c.write_all.new.self in
    let d = g.W.Write.contents c.write_number.new.out in
    let e = g.W.Write.contents c.write_wanted.new.out in
    let z = g.W.Write.contents c.write_open.new.out in
    let n = spell (Number c.args.number) in
    let p = spell (wanted_props c.args.props c.args.node.now.props) in
    both_parts r a b z (before (codes "success")) (n ++ (p ++ 40 ∷ 32 ∷ [])) c.in_ok-write_all.ensures.bytes (both_parts r b d z n (p ++ 40 ∷ 32 ∷ []) c.in_ok-write_number.ensures (both_parts r d e z p (40 ∷ 32 ∷ []) c.in_ok-write_wanted.ensures c.write_open.ensures))
