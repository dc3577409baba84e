use Rattle.std.proofs.Common.{◌∙◌, ap, sym, subst}
use Rattle.std.proofs.lemmas.List.{take_all}
use Rattle.std.specs.List.{flat_map}
use Rattle.std.specs.Io.KnownBytes.{Appends}
use Rattle.std.specs.Prelude.{List, ℕ}
use Rattle.ra_item.specs.Items.{spell}
use Rattle.ra_log.specs.Entries.{change_item}
use Rattle.ra_log.proofs.Listed.{changes_row}
use Rattle.ra_log.proofs.change.write_each.Goals as goal

pub returns : goal.returns
returns g c =
    let all = take_all c.loop-change.change-index c.args.changes.now c.loop-change-test.false in
    subst (λ (l : List ℕ). Appends (g.W.Write.contents c.args.out.now) (g.W.Write.contents c.loop-change.out) l)
    (ap (flat_map (λ d. spell (change_item c.args.trees.now c.args.number c.args.set.now d))) all ∙ sym (changes_row c.args.trees.now c.args.number c.args.set.now c.args.changes.now)) c.loop-change.invariant
