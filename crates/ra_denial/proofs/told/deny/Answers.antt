use Rattle.std.proofs.Common.{subst}
use Rattle.std.specs.Io.KnownBytes.{Appends}
use Rattle.ra_item.specs.Items.{spell}
use Rattle.ra_wire.specs.Replies.{failure}
use Rattle.ra_denial.specs.Denials.{denial_number}
use Rattle.ra_denial.proofs.told.deny.Goals as goal

pub returns : goal.returns
returns g c =
    subst (λ t. Appends (g.W.Write.contents c.args.out) (g.W.Write.contents c.write_denied.new.out) (spell (failure (denial_number c.args.why) t))) c.text.ensures
    (subst (λ n. Appends (g.W.Write.contents c.args.out) (g.W.Write.contents c.write_denied.new.out) (spell (failure n c.text.result.now))) c.number.ensures c.in_ok-write_denied.ensures)
