-- What a call comes to that something may stop.
use Rattle.std.specs.Prelude.{◌≡◌, ℕ, Option, Some, None, Result, Ok, Err}
use Rattle.fleet_disk.specs.Rules.{Rose}
use Rattle.repo_core.specs.Repository.{Repository}
use Rattle.ra_serve.specs.Ports.{IsOwn, Stays}
use Rattle.ra_serve.specs.declared.port.RepoPort.{Ghosts}
use Rattle.ra_denial.specs.declared.denial.Denial.{Denial}
use Rattle.ra_denial.specs.declared.stop.Stop.{Stop}
use Rattle.ra_denial.specs.declared.stop.Stop.TheVariants as stop

-- ---- one that asks a port

-- why it stopped: what is denied, or a refusal of the port's own, which it counts, or want of memory
abbrev pub MayStop : ℕ → ℕ → Option Denial → Stop → Type 0
MayStop before now due (stop.Denied d) = due ≡ Some d
MayStop before now due (stop.Port f) = IsOwn f × Rose before now
MayStop before now due stop.OutOfMemory = Unit {0}

-- what it came to: such a value where nothing is denied, or why it stopped
abbrev pub Comes : {A : Type 0} → ℕ → ℕ → Option Denial → (A → Type 0) → Result A Stop → Type 0
Comes before now due Is (Ok a) = (due ≡ None) × Is a
Comes before now due Is (Err s) = MayStop before now due s

-- the same of a port, where its repository was known
abbrev pub Finds : {P A : Type 0} → Ghosts P → (Repository → Option Denial) → (Repository → A → Type 0) → P → P → Result A Stop → Type 0
Finds G due Is old new result = (x : Repository) → G.repository old ≡ Some x → Comes (G.refusals old) (G.refusals new) (due x) (Is x) result

-- and the port's repository stays what it is
abbrev pub PortStays : {P : Type 0} → Ghosts P → P → P → Type 0
PortStays G old new = Stays (G.repository old) (G.repository new) (G.is_mirror old) (G.is_mirror new) (G.refusals old) (G.refusals new)

-- ---- one that asks no port

-- why it stopped: what is denied, or want of memory
abbrev pub Denies : Option Denial → Stop → Type 0
Denies due (stop.Denied d) = due ≡ Some d
Denies due (stop.Port f) = ⊥
Denies due stop.OutOfMemory = Unit {0}

-- it decided so: such a value where nothing is denied, or why it stopped
abbrev pub Decides : {A : Type 0} → Option Denial → (A → Type 0) → Result A Stop → Type 0
Decides due Is (Ok a) = (due ≡ None) × Is a
Decides due Is (Err s) = Denies due s
