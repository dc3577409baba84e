use Rattle.std.proofs.Common.{◌∷◌, [], ◌∙◌, ap, sym, subst}
use Rattle.std.proofs.lemmas.List.{take_all}
use Rattle.std.specs.List.{flat_map}
use Rattle.std.specs.Io.KnownBytes.{Appends}
use Rattle.std.specs.Prelude.{List, ℕ}
use Rattle.browse_wire.specs.Asks.{revprops_as}
use Rattle.ra_log.proofs.Listed.{others_bytes, others_row, others_next}
use Rattle.ra_log.proofs.revprops.write_each.Goals as goal

pub loop-name-preserved : goal.loop-name-preserved
loop-name-preserved g c =
    let w = revprops_as c.args.wanted.now in
    let x = c.loop-name-item.result in
    others_next w c.args.entries.now c.loop-name.name-index (g.W.Write.contents c.args.out.now) (g.W.Write.contents c.loop-name.out) (g.W.Write.contents c.write_other.new.out) x c.loop-name-test.true c.loop-name-item.is c.loop-name.invariant
    (subst (λ n. Appends (g.W.Write.contents c.loop-name.out) (g.W.Write.contents c.write_other.new.out) (others_bytes w ((n, x.1) ∷ []))) c.as_bytes.ensures
    (subst (λ v. Appends (g.W.Write.contents c.loop-name.out) (g.W.Write.contents c.write_other.new.out) (others_bytes w ((c.as_bytes.result.now, v) ∷ []))) c.as_slice.ensures c.in_ok-write_other.ensures))

pub returns : goal.returns
returns g c =
    let w = revprops_as c.args.wanted.now in
    let all = take_all c.loop-name.name-index c.args.entries.now c.loop-name-test.false in
    subst (λ (l : List ℕ). Appends (g.W.Write.contents c.args.out.now) (g.W.Write.contents c.loop-name.out) l)
    (ap (flat_map (λ e. others_bytes w (e ∷ []))) all ∙ sym (others_row w c.args.entries.now)) c.loop-name.invariant
