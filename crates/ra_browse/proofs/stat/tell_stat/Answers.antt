use Rattle.std.proofs.Common.{◌∙◌, IfOk, ap, subst}
use Rattle.std.specs.FinMap as finite
use Rattle.std.specs.Io.KnownBytes.{Appends}
use Rattle.ra_item.specs.Items.{spell}
use Rattle.ra_browse.specs.Answers.{stat_told}
use Rattle.ra_browse.specs.Tellings.{made_as}
use Rattle.ra_browse.proofs.stat.tell_stat.Goals as goal

pub returns-in-Ok : goal.returns-in-Ok
returns-in-Ok g c =
    subst (λ i. IfOk c.tell_info.result (λ w. Appends (g.W.Write.contents c.args.out) (g.W.Write.contents w) (spell i)))
    (c.in-Ok.ensures ∙ ap (λ o. stat_told o (made_as c.args.seen.made)) (c.get.ensures ∙ ap (finite.get c.args.seen.tree) c.as_slice.ensures.value)) c.tell_info.ensures
