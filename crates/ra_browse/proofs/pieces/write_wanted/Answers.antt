use Rattle.std.proofs.Common.{[], ◌∷◌, ◌++◌, sym, subst, OnOk}
use Rattle.std.specs.FinMap as finite
use Rattle.std.specs.Io.KnownBytes.{Appends}
use Rattle.uuid.specs.Text.{hyphenated_text, lower}
use Rattle.ra_serve.proofs.Pieces.{both_parts}
use Rattle.ra_browse.specs.Answers.{entry_props}
use Rattle.ra_browse.specs.Tellings.{made_as}
use Rattle.ra_browse.proofs.Spelled.{spelled, spelled_list}
use Rattle.ra_browse.proofs.pieces.write_wanted.Goals as goal

pub returns : goal.returns
returns g c =
    let r = c.write_close.result in
    let a = g.W.Write.contents c.args.out.now in
    let b = g.W.Write.contents c.write_open.new.out in
    let d = g.W.Write.contents c.write_entries.new.out in
    let e = g.W.Write.contents c.write_entry.new.out in
    let z = g.W.Write.contents c.write_close.new.out in
    let es = finite.entries c.args.node.now.props in
    let fs = entry_props (hyphenated_text lower c.args.identity.now) c.args.node.now (made_as c.args.made.now) in
    let own : Appends b d (spelled es) = subst (λ l. Appends b d (spelled l)) c.entries.ensures.entries c.in_ok-write_entries.ensures in
    subst (λ l. OnOk r (Appends a z l)) (sym (spelled_list es fs))
    (both_parts r a b z (40 ∷ 32 ∷ []) (spelled es ++ (spelled fs ++ 41 ∷ 32 ∷ [])) c.in_ok-write_open.ensures
    (both_parts r b d z (spelled es) (spelled fs ++ 41 ∷ 32 ∷ []) own
    (both_parts r d e z (spelled fs) (41 ∷ 32 ∷ []) c.in_ok-write_entry.ensures c.write_close.ensures)))
