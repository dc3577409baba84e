use Rattle.node_base.specs.Path.{Name}
use Rattle.std.proofs.Common.{◌≡◌, ℕ, List, [], ◌++◌, codes, sym, subst, OnOk}
use Rattle.std.specs.Fmt.{decimal}
use Rattle.std.specs.Io.KnownBytes.{Appends}
use Rattle.std.proofs.Common.{append-nil}
use Rattle.uuid.specs.Text.{hyphenated_text, lower}
use Rattle.ra_item.specs.Items.{spell}
use Rattle.ra_wire.specs.Replies.{property}
use Rattle.ra_serve.proofs.Pieces.{both_parts}
use Rattle.ra_browse.specs.Answers.{perhaps}
use Rattle.ra_browse.specs.Tellings.{made_as}
use Rattle.ra_browse.proofs.Spelled.{spelled, spelled_four}
use Rattle.ra_browse.proofs.pieces.write_entry.Goals as goal

pub returns : goal.returns
returns g c =
    let r = c.write_identity.result in
    let a = g.W.Write.contents c.args.out.now in
    let b = g.W.Write.contents c.write_changed.new.out in
    let d = g.W.Write.contents c.write_perhaps.new.out in
    let e = g.W.Write.contents c.write_perhaps-2.new.out in
    let z = g.W.Write.contents c.write_identity.new.out in
    let m = made_as c.args.made.now in
    let got = c.get.ensures in
    let from = c.from.ensures in
    let k : c.from.result ≡ c.args.node.now.changed = cc in
    let first : Name × List ℕ = (codes "svn:entry:committed-rev", decimal c.args.node.now.changed) in
    let dates = perhaps (codes "svn:entry:committed-date") m.date in
    let authors = perhaps (codes "svn:entry:last-author") m.author in
    let last : Name × List ℕ = (codes "svn:entry:uuid", hyphenated_text lower c.args.identity.now) in
    subst (λ l. OnOk r (Appends a z l)) (sym (spelled_four first dates authors last))
    (both_parts r a b z (spell (property first)) (spelled dates ++ (spelled authors ++ (spell (property last) ++ []))) (subst (λ n. Appends a b (spell (property (codes "svn:entry:committed-rev", decimal n)))) k c.in_ok-write_changed.ensures)
    (both_parts r b d z (spelled dates) (spelled authors ++ (spell (property last) ++ [])) c.in_ok-write_perhaps.ensures
    (both_parts r d e z (spelled authors) (spell (property last) ++ []) c.in_ok-write_perhaps-2.ensures
    (subst (λ l. OnOk r (Appends e z l)) (sym (append-nil (spell (property last)))) c.write_identity.ensures))))
