use Rattle.std.proofs.Common.{OnOk, subst}
use Rattle.std.specs.Io.KnownBytes.{Appends}
use Rattle.node_base.specs.Refusals.{refusal_number}
use Rattle.ra_item.specs.Items.{spell}
use Rattle.ra_wire.specs.Replies.{failure}
use Rattle.ra_reader.specs.Takings.{refusal_for}
use Rattle.ra_reader.proofs.session.write_refused.Goals as goal

pub returns : goal.returns
returns g c =
    subst (λ t. OnOk c.write_failure.result (Appends (g.W.Write.contents c.args.out.now) (g.W.Write.contents c.write_failure.new.out) (spell (failure (refusal_number (refusal_for c.args.why)) t)))) c.text.ensures
    (subst (λ n. OnOk c.write_failure.result (Appends (g.W.Write.contents c.args.out.now) (g.W.Write.contents c.write_failure.new.out) (spell (failure n c.text.result.now)))) c.number.ensures c.write_failure.ensures)
