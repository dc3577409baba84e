-- What a client's items are taken for, as values are in code, and what the calls that take them say.
use Rattle.std.specs.Prelude.{◌≡◌, ◌⊎◌, ℕ, List, map, Option, Some, Result, Ok, Err}
use Rattle.std.specs.Io.KnownBytes.{Appends}
use Rattle.fleet_disk.specs.Rules.{Rose}
use Rattle.node_base.specs.declared.refusal.Refusal.{Refusal}
use Rattle.node_base.specs.declared.refusal.Refusal.TheVariants as refusal
use Rattle.ra_item.specs.Items.{Item}
use Rattle.repo_core.specs.Repository.{Repository}
use Rattle.browse_wire.specs.Asks.{ask_as}
use Rattle.browse_wire.specs.Reports.{report_as}
use Rattle.browse_wire.specs.Urls.{Url}
use Rattle.browse_wire.specs.declared.url.SessionUrl.{SessionUrl}
use Rattle.ra_denial.specs.Halts.{IsCalm}
use Rattle.ra_denial.specs.Places.{place_as}
use Rattle.ra_reader.specs.Standings.{Phase, Idle, Reporting, Spoilt, Edited, Standing, Added, standing_at, Said, More, AtEnd, GivenUp, Spoils, told_at, leads_to, HasAt}
use Rattle.ra_reader.specs.declared.phase.Phase as declared_phase
use Rattle.ra_reader.specs.declared.phase.Phase.TheVariants as coded
use Rattle.ra_reader.specs.declared.phase.Order as declared_order
use Rattle.ra_reader.specs.declared.said.Said as declared_said
use Rattle.ra_reader.specs.declared.said.Said.TheVariants as said
use Rattle.ra_reader.specs.declared.session.Misplaced.{Misplaced}
use Rattle.ra_reader.specs.declared.session.Misplaced.TheVariants as misplaced

-- ---- as values are in code

abbrev pub refusal_for : Misplaced → Refusal
refusal_for misplaced.TooLong = refusal.TooLong
refusal_for misplaced.BadPath = refusal.BadPath
refusal_for misplaced.BadShape = refusal.BadShape

abbrev pub placed_as : Result SessionUrl Misplaced → Result Url Refusal
placed_as (Ok u) = Ok (place_as u)
placed_as (Err m) = Err (refusal_for m)

abbrev pub order_as : declared_order.Order → Phase
order_as o = Reporting (ask_as o.command) (map report_as o.said.items)

abbrev pub phase_as : declared_phase.Phase → Phase
phase_as coded.Idle = Idle
phase_as (coded.Reporting o) = order_as o
phase_as (coded.Spoilt d) = Spoilt d
phase_as coded.Edited = Edited

abbrev pub standing_as : SessionUrl → declared_phase.Phase → Standing
standing_as u p = standing_at (place_as u) (phase_as p)

abbrev pub reporting_as : SessionUrl → declared_order.Order → Standing
reporting_as u o = standing_at (place_as u) (order_as o)

abbrev pub said_as : declared_said.Said → Said
said_as (said.More r) = More (report_as r)
said_as said.AtEnd = AtEnd
said_as said.GivenUp = GivenUp
said_as (said.Spoils d) = Spoils d

-- ---- calls

-- an item was taken: what it is told stands behind what the writer held, the port refused it by itself only if its count rose, and
-- so it led there
pub record Turned (x : Repository) (s : Standing) (item : Item) (rose : Type 0) (before now : Option (List ℕ)) (there : Standing) : Type 0 where
  pub added : Added
  pub has : HasAt x s.at s.phase item added
  pub counted : IsCalm added.halt ⊎ rose
  pub bytes : Appends before now (told_at x s.at s.phase item added)
  pub led : there ≡ leads_to s.at s.phase item added

-- the same of a port and a writer, where the port's repository was known
abbrev pub Turns : {P W : Type 0} → (P → Option Repository) → (P → ℕ) → (W → Option (List ℕ)) → Standing → Item → P → P → W → W → Standing → Type 0
Turns repository refusals contents s item old new before now there =
    (x : Repository) → repository old ≡ Some x → Turned x s item (Rose (refusals old) (refusals new)) (contents before) (contents now) there

-- a call that asks no port took it
abbrev pub Passes : {W : Type 0} → (W → Option (List ℕ)) → Standing → Item → W → W → Standing → Type 0
Passes contents s item before now there = (x : Repository) (p n : ℕ) → Turned x s item (Rose p n) (contents before) (contents now) there
