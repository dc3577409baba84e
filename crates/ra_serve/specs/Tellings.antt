-- What the calls that answer say of their port and their writer.
use Rattle.std.specs.Prelude.{◌≡◌, ◌⊎◌, ℕ, Bool, List, Option, Some, Result, IfOk}
use Rattle.std.specs.Io.KnownBytes.{Appends}
use Rattle.fleet_disk.specs.Rules.{Rose}
use Rattle.repo_core.specs.Repository.{Repository}
use Rattle.ra_wire.specs.Commands.{Command}
use Rattle.ra_wire.specs.Reading.{Reading}
use Rattle.ra_serve.specs.Answers.{Halt, told, after_told, MayHalt, IsCalm, answer, behind, MayHaltAt}
use Rattle.ra_serve.specs.Ports.{Goes}
use Rattle.ra_serve.specs.declared.fault.ServeFault.{ServeFault}
use Rattle.ra_serve.specs.declared.port.RepoPort.{Ghosts}

-- behind what the writer held stands what a command is told, where the port refused it by itself only if its count rose
pub record Replied (mirror : Bool) (x : Repository) (c : Command) (rose : Type 0) (before now : Option (List ℕ)) (new : Option Repository) : Type 0 where
  pub halt : Option Halt
  pub lawful : MayHalt mirror x c halt
  pub counted : IsCalm halt ⊎ rose
  pub bytes : Appends before now (told mirror x c halt)
  pub repository : new ≡ Some (after_told mirror x c halt)

-- the same of an item
pub record Answered (mirror : Bool) (x : Repository) (read : Reading) (rose : Type 0) (before now : Option (List ℕ)) (new : Option Repository) : Type 0 where
  pub halt : Option Halt
  pub lawful : MayHaltAt mirror x read halt
  pub counted : IsCalm halt ⊎ rose
  pub bytes : Appends before now (answer mirror x read halt)
  pub repository : new ≡ Some (behind mirror x read halt)

-- a call told a command: where the port's repository was known
abbrev pub Tells : {P W : Type 0} → (P → Option Repository) → (P → ℕ) → (P → Bool) → (W → Option (List ℕ)) → Command → P → P → W → W → Type 0
Tells repository refusals is_mirror contents c old new before now =
    (x : Repository) → repository old ≡ Some x → Replied (is_mirror old) x c (Rose (refusals old) (refusals new)) (contents before) (contents now) (repository new)

-- it answered an item
abbrev pub Replies : {P W : Type 0} → (P → Option Repository) → (P → ℕ) → (P → Bool) → (W → Option (List ℕ)) → Reading → P → P → W → W → Type 0
Replies repository refusals is_mirror contents read old new before now =
    (x : Repository) → repository old ≡ Some x → Answered (is_mirror old) x read (Rose (refusals old) (refusals new)) (contents before) (contents now) (repository new)

-- and the port goes on
abbrev pub GoesOn : {P : Type 0} → (P → ℕ) → (P → Bool) → P → P → Type 0
GoesOn refusals is_mirror old new = Goes (is_mirror old) (is_mirror new) (refusals old) (refusals new)

-- ---- what a call answers that gives its writer back

-- these bytes were written behind what the writer had
abbrev pub Sends : {W E : Type 0} → (W → Option (List ℕ)) → W → List ℕ → Result W E → Type 0
Sends contents out bytes result = IfOk result (λ w. Appends (contents out) (contents w) bytes)

-- whatever the port knows, the writer keeps what it had: some bytes were written behind it
abbrev pub Adds : {W : Type 0} → (W → Option (List ℕ)) → W → W → Type 0
Adds contents out now = (rest : List ℕ) × Appends (contents out) (contents now) rest

abbrev pub GivesMore : {W E : Type 0} → (W → Option (List ℕ)) → W → Result W E → Type 0
GivesMore contents out result = IfOk result (λ w. Adds contents out w)

-- a command was told
abbrev pub TellsCommand : {P W : Type 0} → Ghosts P → (W → Option (List ℕ)) → P → P → W → Command → Result W ServeFault → Type 0
TellsCommand G contents old new out c result = IfOk result (Tells G.repository G.refusals G.is_mirror contents c old new out)

-- an item was answered
abbrev pub RepliesTo : {P W : Type 0} → Ghosts P → (W → Option (List ℕ)) → P → P → W → Reading → Result W ServeFault → Type 0
RepliesTo G contents old new out read result = IfOk result (Replies G.repository G.refusals G.is_mirror contents read old new out)
