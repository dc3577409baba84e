use Rattle.std.proofs.Common.{map, subst, OnOk}
use Rattle.std.specs.Io.KnownBytes.{Appends}
use Rattle.ra_item.specs.Items.{spell}
use Rattle.ra_wire.specs.Replies.{list}
use Rattle.ra_log.specs.Entries.{change_item}
use Rattle.ra_log.proofs.change.write_all.Goals as goal

pub returns : goal.returns
returns g c = subst (λ l. OnOk c.write_list.result (Appends (g.W.Write.contents c.args.out.now) (g.W.Write.contents c.write_list.new.out) (spell (list (map (change_item c.args.trees.now c.args.number c.args.set.now) l))))) c.changes.ensures.value c.write_list.ensures
