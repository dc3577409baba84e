-- Refusals of a port, as what stops a call.
use Rattle.std.proofs.Common.{◌≡◌, ℕ, Bool, true, false, Some, None, refl}
use Rattle.std.specs.Prelude.{nat_le, length}
use Rattle.node_base.specs.declared.refusal.Refusal.TheVariants as refusal
use Rattle.dump_load.specs.Faults.{fault_if}
use Rattle.repo_core.specs.Repository.{Repository}
use Rattle.ra_serve.specs.declared.fault.PortFault.{PortFault}
use Rattle.ra_serve.specs.declared.fault.PortFault.TheVariants as fault
use Rattle.ra_serve.specs.Ports as port
use Rattle.ra_serve.specs.Ports.{MayRefuse}
use Rattle.ra_denial.specs.declared.denial.Denial.TheVariants as denial
use Rattle.ra_denial.specs.declared.stop.Stop.{Stop}
use Rattle.ra_denial.specs.declared.stop.Stop.TheVariants as stop
use Rattle.ra_denial.specs.Denials.{no_revision}
use Rattle.ra_denial.specs.Stops.{MayStop}

-- why a call stopped, by a refusal of its port
abbrev pub stop_of : PortFault → Stop
stop_of fault.NoSuchRevision = stop.Denied denial.NoRevision
stop_of f = stop.Port f

pub not_long : (b : Bool) → fault_if b refusal.NoSuchRevision ≡ Some refusal.TooLong → ⊥
not_long true e = cc
not_long false e = cc

pub not_other : (b : Bool) → fault_if b refusal.NoSuchRevision ≡ Some refusal.BaseMismatch → ⊥
not_other true e = cc
not_other false e = cc

there : (b : Bool) → fault_if b refusal.NoSuchRevision ≡ Some refusal.NoSuchRevision → fault_if b denial.NoRevision ≡ Some denial.NoRevision
there true e = refl
there false e = absurd cc

pub stops : (f : PortFault) (x : Repository) (before now n : ℕ) → MayRefuse before now f (port.no_revision x n) → MayStop before now (no_revision x n) (stop_of f)
stops fault.DeviceFailed x before now n m = (tt, m)
stops fault.Failed x before now n m = (tt, m)
stops fault.LogFull x before now n m = (tt, m)
stops fault.OutOfMemory x before now n m = (tt, m)
stops fault.NoSuchRevision x before now n m = there (nat_le (length x.revisions) n) m
stops fault.TooLong x before now n m = absurd (not_long (nat_le (length x.revisions) n) m)
stops fault.BaseMismatch x before now n m = absurd (not_other (nat_le (length x.revisions) n) m)

-- where nothing is due a refusal is the port's own
pub own_stop : (f : PortFault) (before now : ℕ) → MayRefuse before now f None → MayStop before now None (stop.Port f)
own_stop fault.DeviceFailed before now m = (tt, m)
own_stop fault.Failed before now m = (tt, m)
own_stop fault.LogFull before now m = (tt, m)
own_stop fault.OutOfMemory before now m = (tt, m)
own_stop fault.NoSuchRevision before now m = absurd cc
own_stop fault.TooLong before now m = absurd cc
own_stop fault.BaseMismatch before now m = absurd cc

none_there : (b : Bool) → fault_if b refusal.NoSuchRevision ≡ None → fault_if b denial.NoRevision ≡ None
none_there true e = absurd cc
none_there false e = refl

-- a revision that is there
pub is_there : (x : Repository) (n : ℕ) → port.no_revision x n ≡ None → no_revision x n ≡ None
is_there x n e = none_there (nat_le (length x.revisions) n) e
