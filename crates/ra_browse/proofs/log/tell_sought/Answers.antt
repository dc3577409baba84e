use Rattle.ra_log.specs.Entries.{log_as}
use Rattle.ra_browse.proofs.Logged.{logged_told, long_told}
use Rattle.ra_browse.proofs.log.tell_sought.Goals as goal

pub returns-in-Ok : goal.returns-in-Ok
returns-in-Ok g c = logged_told g.W.Write.contents (log_as c.args.order.now) c.args.sought.now c.deref.result.now c.deref-2.result.now c.deref-in-Ok.result.now c.in-Ok.numbers.items c.args.out c.tell_entries.result c.deref.ensures.value c.deref-2.ensures.value c.deref-in-Ok.ensures.value c.in-Ok.ensures.told c.tell_entries.ensures

pub returns-in-Err-TooLong : goal.returns-in-Err-TooLong
returns-in-Err-TooLong g c = long_told g.W.Write.contents (log_as c.args.order.now) c.args.sought.now c.deref.result.now c.deref-2.result.now c.args.out c.tell_behind_last.result c.deref.ensures.value c.deref-2.ensures.value (c.in-Err-TooLong.ensures.refused c.in-Err-TooLong.field-0-is) c.tell_behind_last.ensures
