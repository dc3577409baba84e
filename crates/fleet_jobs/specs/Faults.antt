-- The refusal that each fault of a fleet is.
use Rattle.node_base.specs.declared.refusal.Refusal.{Refusal}
use Rattle.node_base.specs.declared.refusal.Refusal.TheVariants as refusal
use Rattle.fleet_jobs.specs.declared.fault.FleetFault.{FleetFault}
use Rattle.fleet_jobs.specs.declared.fault.FleetFault.TheVariants as fault

abbrev pub refusal_of : FleetFault → Refusal
refusal_of fault.Failed = refusal.Failed
refusal_of fault.NoRepository = refusal.NoRepository
refusal_of fault.OutOfMemory = refusal.OutOfMemory
