-- Where a session stands: the root of its client's URL, and the path below it.
use Rattle.std.specs.Prelude.{not, Option, Some, Result, Ok, Err, if◌then◌else◌}
use Rattle.std.specs.Str.{bytes_eq}
use Rattle.dump_load.specs.Faults.{fault_if}
use Rattle.browse_wire.specs.Urls.{Url}
use Rattle.browse_wire.specs.declared.url.SessionUrl.{SessionUrl}
use Rattle.browse_wire.specs.declared.url.UrlFault.{UrlFault}
use Rattle.browse_wire.specs.declared.url.UrlFault.TheVariants as url
use Rattle.ra_denial.specs.declared.denial.Denial.{Denial}
use Rattle.ra_denial.specs.declared.denial.Denial.TheVariants as denial
use Rattle.ra_denial.specs.declared.stop.Stop.{Stop}
use Rattle.ra_denial.specs.declared.stop.Stop.TheVariants as stop

-- as it is in code
abbrev pub place_as : SessionUrl → Url
place_as u = (u.root.items, u.path)

-- what is read as a URL leads nowhere: it is none, or of another root
abbrev pub url_denied : Url → Result Url UrlFault → Option Denial
url_denied at (Err f) = Some denial.BadUrl
url_denied at (Ok to) = fault_if (not (bytes_eq to.0 at.0)) denial.OtherRoot

-- a URL of that root leads to its path
abbrev pub moved_to : Url → Result Url UrlFault → Url
moved_to at (Err f) = at
moved_to at (Ok to) = if bytes_eq to.0 at.0 then (at.0, to.1) else at

-- why a session stays where it is
abbrev pub url_stop : UrlFault → Stop
url_stop url.OutOfMemory = stop.OutOfMemory
url_stop url.OtherRoot = stop.Denied denial.OtherRoot
url_stop f = stop.Denied denial.BadUrl
