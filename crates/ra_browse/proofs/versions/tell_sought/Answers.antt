use Rattle.ra_browse.proofs.FileVersions.{all_told, long_told}
use Rattle.ra_browse.proofs.versions.tell_sought.Goals as goal

pub returns-in-Ok : goal.returns-in-Ok
returns-in-Ok g c = all_told g.W.Write.contents c.args.sought.now c.deref.result.now c.in-Ok.places.items c.args.out c.tell_versions.result c.deref.ensures.value c.in-Ok.ensures.told c.tell_versions.ensures

pub returns-in-Err-TooLong : goal.returns-in-Err-TooLong
returns-in-Err-TooLong g c = long_told g.W.Write.contents c.args.sought.now c.args.out c.tell_behind_last.result (c.in-Err-TooLong.ensures.refused c.in-Err-TooLong.field-0-is) c.tell_behind_last.ensures
