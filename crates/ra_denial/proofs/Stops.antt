-- Why a call stopped, as why one that called it did.
use Rattle.std.proofs.Common.{ℕ, ◌≤◌, Option}
use Rattle.ra_serve.proofs.Causes.{rose_later}
use Rattle.ra_denial.specs.Stops.{Denies, MayStop}
use Rattle.ra_denial.specs.declared.denial.Denial.{Denial}
use Rattle.ra_denial.specs.declared.stop.Stop.{Stop}
use Rattle.ra_denial.specs.declared.stop.Stop.TheVariants as stop

-- behind others
pub later_stops : (p m n : ℕ) (d : Option Denial) (s : Stop) → p ≤ m → MayStop m n d s → MayStop p n d s
later_stops p m n d (stop.Denied w) h k = k
later_stops p m n d (stop.Port f) h k = (k.0, rose_later p m n h k.1)
later_stops p m n d stop.OutOfMemory h k = tt

-- without asking a port
pub denies_stops : (p n : ℕ) (d : Option Denial) (s : Stop) → Denies d s → MayStop p n d s
denies_stops p n d (stop.Denied w) h = h
denies_stops p n d (stop.Port f) h = absurd h
denies_stops p n d stop.OutOfMemory h = tt
