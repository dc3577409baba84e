use Rattle.std.proofs.Common.{subst, OnOk}
use Rattle.std.specs.Io.KnownBytes.{Appends}
use Rattle.ra_item.specs.Items.{spell}
use Rattle.ra_wire.specs.Replies.{properties}
use Rattle.browse_wire.specs.Asks.{revprops_as}
use Rattle.ra_log.specs.Entries.{others_of}
use Rattle.ra_log.proofs.revprops.write_others.Goals as goal

pub returns : goal.returns
returns g c = subst (λ l. OnOk c.write_listed.result (Appends (g.W.Write.contents c.args.out.now) (g.W.Write.contents c.write_listed.new.out) (spell (properties (others_of (revprops_as c.args.wanted.now) l))))) c.entries.ensures.entries c.write_listed.ensures
