-- What the call that answers a report says of its port and its writer.
use Rattle.std.specs.Prelude.{◌≡◌, ◌⊎◌, ℕ, Bool, List, Option, Some, is_some}
use Rattle.std.specs.Io.KnownBytes.{Appends}
use Rattle.fleet_disk.specs.Rules.{Rose}
use Rattle.repo_core.specs.Repository.{Repository}
use Rattle.browse_wire.specs.Asks.{Ask}
use Rattle.browse_wire.specs.Reports.{Report}
use Rattle.browse_wire.specs.Urls.{Url}
use Rattle.ra_serve.specs.declared.fault.PortFault.{PortFault}
use Rattle.ra_denial.specs.Halts.{IsCalm}
use Rattle.ra_report.specs.Edits.{Edit, MayEdit, IsLawful, finished}

-- behind what the writer held stands the edit that makes what is wanted of what was reported, or what is told in its place; the port
-- refused it by itself only if its count rose
pub record Finished (x : Repository) (at : Url) (c : Ask) (rs : List Report) (rose : Type 0) (before now : Option (List ℕ)) (sent : Bool) : Type 0 where
  pub halt : Option PortFault
  pub edit : Option Edit
  pub has : MayEdit x at c rs halt edit
  pub lawful : IsLawful halt
  pub counted : IsCalm halt ⊎ rose
  pub answer : sent ≡ is_some edit
  pub bytes : Appends before now (finished x at c rs edit halt)

-- the same of a port and a writer, before and after, where the port's repository was known
abbrev pub Finishes : {P W : Type 0} → (P → Option Repository) → (P → ℕ) → (W → Option (List ℕ)) → Url → Ask → List Report → P → P → W → W → Bool → Type 0
Finishes repository refusals contents at c rs old new before now sent =
    (x : Repository) → repository old ≡ Some x → Finished x at c rs (Rose (refusals old) (refusals new)) (contents before) (contents now) sent
