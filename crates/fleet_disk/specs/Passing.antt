-- What a call that changes nothing does to a host.
use Rattle.std.specs.Prelude.{Result}
use Rattle.fleet_disk.specs.Rules.{Stays}
use Rattle.fleet_disk.specs.declared.calls.HostCalls.{Ghosts}
use Rattle.fleet_disk.specs.declared.disk.DiskFault.{DiskFault}

-- it changes nothing of a host
abbrev pub HostStays : {H T : Type 0} → Ghosts H → H → H → Result T DiskFault → Type 0
HostStays G old new result = Stays G.honest G.reads G.may_leave G.clock G.left_since G.failures old new result
