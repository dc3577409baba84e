use Rattle.std.proofs.Common.{subst}
use Rattle.std.specs.Io.KnownBytes.{Appends}
use Rattle.node_base.specs.Refusals.{refusal_number}
use Rattle.ra_item.specs.Items.{spell}
use Rattle.ra_wire.specs.Replies.{failure}
use Rattle.ra_serve.specs.Ports.{refusal_of}
use Rattle.ra_denial.proofs.told.refuse.Goals as goal

pub returns : goal.returns
returns g c =
    subst (λ t. Appends (g.W.Write.contents c.args.out) (g.W.Write.contents c.write_failure.new.out) (spell (failure (refusal_number (refusal_of c.args.fault)) t))) c.text.ensures
    (subst (λ n. Appends (g.W.Write.contents c.args.out) (g.W.Write.contents c.write_failure.new.out) (spell (failure n c.text.result.now))) c.number.ensures c.in_ok-write_failure.ensures)
