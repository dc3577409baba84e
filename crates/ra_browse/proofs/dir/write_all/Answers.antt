use Rattle.std.proofs.Common.{◌∙◌, ap, sym, subst}
use Rattle.std.proofs.lemmas.List.{take_all}
use Rattle.std.specs.List.{flat_map}
use Rattle.std.specs.Io.KnownBytes.{Appends}
use Rattle.std.specs.Prelude.{List, ℕ}
use Rattle.ra_item.specs.Items.{spell}
use Rattle.ra_wire.specs.Answers.{dirent_as}
use Rattle.ra_wire.specs.Replies.{dirent}
use Rattle.ra_wire.proofs.Written.{entries_row}
use Rattle.ra_browse.proofs.dir.write_all.Goals as goal

pub returns : goal.returns
returns g c =
    let all = take_all c.loop-entry.entry-index c.args.entries.now c.loop-entry-test.false in
    subst (λ (l : List ℕ). Appends (g.W.Write.contents c.args.out.now) (g.W.Write.contents c.loop-entry.out) l) (ap (flat_map (λ d. spell (dirent (dirent_as d)))) all ∙ sym (entries_row c.args.entries.now)) c.loop-entry.invariant
