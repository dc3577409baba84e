-- What calls that ask a port for sets say of it.
use Rattle.std.specs.Prelude.{◌≡◌, ℕ, Option, Some, None, Result, Ok, Err}
use Rattle.node_base.specs.declared.refusal.Refusal.{Refusal}
use Rattle.repo_core.specs.Repository.{Repository}
use Rattle.ra_serve.specs.Ports.{MayRefuse, Stays}
use Rattle.ra_serve.specs.declared.port.RepoPort.{Ghosts}
use Rattle.ra_history.specs.declared.stop.SetsStop.{SetsStop}
use Rattle.ra_history.specs.declared.stop.SetsStop.TheVariants as stop

-- why a call stopped: a refusal of the port that is due, or its own, which it counts, or want of memory
abbrev pub MayStop : ℕ → ℕ → Option Refusal → SetsStop → Type 0
MayStop before now due (stop.Port f) = MayRefuse before now f due
MayStop before now due stop.OutOfMemory = Unit {0}

-- what a call came to: such a value where nothing is due, or why it stopped
abbrev pub Comes : {A : Type 0} → ℕ → ℕ → Option Refusal → (A → Type 0) → Result A SetsStop → Type 0
Comes before now due Is (Ok a) = (due ≡ None) × Is a
Comes before now due Is (Err s) = MayStop before now due s

-- the same of a port, where its repository was known
abbrev pub Finds : {P A : Type 0} → Ghosts P → (Repository → Option Refusal) → (Repository → A → Type 0) → P → P → Result A SetsStop → Type 0
Finds G due Is old new result = (x : Repository) → G.repository old ≡ Some x → Comes (G.refusals old) (G.refusals new) (due x) (Is x) result

-- and the port's repository stays what it is
abbrev pub PortStays : {P : Type 0} → Ghosts P → P → P → Type 0
PortStays G old new = Stays (G.repository old) (G.repository new) (G.is_mirror old) (G.is_mirror new) (G.refusals old) (G.refusals new)
