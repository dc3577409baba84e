use Rattle.std.proofs.Common.{subst, OnOk}
use Rattle.std.specs.Io.KnownBytes.{Appends}
use Rattle.ra_item.specs.Items.{spell}
use Rattle.ra_wire.specs.Replies.{string}
use Rattle.ra_log.proofs.revprops.write_value.Goals as goal

pub returns : goal.returns
returns g c = subst (λ v. OnOk c.write_string.result (Appends (g.W.Write.contents c.args.out.now) (g.W.Write.contents c.write_string.new.out) (spell (string v)))) c.value_told.ensures c.write_string.ensures
