-- What comes of orders over opened stores.
use Rattle.std.specs.Prelude.{◌⊎◌, ℕ, List, is_some, Ok, Err}
use Rattle.std.specs.declared.marker.Brand.{Brand}
use Rattle.fleet_disk.specs.declared.disk.Disk.{Ghosts}
use Rattle.fleet_jobs.specs.Answers.{Answer}
use Rattle.fleet_jobs.specs.declared.order.Order.{Order}
use Rattle.mirror_share.specs.Locked.{IsKeptOut}
use Rattle.mirror_share.specs.declared.share.MirrorShare.{MirrorShare}
use Rattle.store_share.specs.declared.name.RowName.{Ghosts as RowGhosts}
use Rattle.store_share.specs.declared.share.MasterShare.{MasterShare}
use Rattle.fleet_shares.specs.Given.{IsAnswerAt}
use Rattle.fleet_shares.specs.Jobs.{HasRun}
use Rattle.fleet_shares.specs.Runners.{at_slot, has_at}
use Rattle.fleet_shares.specs.declared.stores.OpenedFleet.{OpenedFleet}

-- the order's job was run from a master to a mirror under threads, whose rows have these names, and ended as is answered; or it wasn't let
-- in, since a job of its token runs there, or memory ran out
abbrev pub HasEndedAt : {M L D : Type 0} → RowGhosts M → RowGhosts L → Ghosts D → Order → Answer → Type 0
HasEndedAt {M} {L} {D} m r g order (Ok n) = (master : MasterShare M D m g) × ((share : MirrorShare L D r g) × HasRun master share order (Ok tt))
HasEndedAt {M} {L} {D} m r g order (Err f) = (master : MasterShare M D m g) × ((share : MirrorShare L D r g) × (HasRun master share order (Err f) ⊎ IsKeptOut share order.token f))

-- a name of a row, which has these cells
abbrev pub named_by : List ℕ → RowGhosts Brand
named_by cells = record { cells = cells }

-- the same, whatever cells the rows have
abbrev pub HasEnded : {D : Type 0} → Ghosts D → Order → Answer → Type 0
HasEnded g order answer = (master : List ℕ) × ((mirror : List ℕ) × HasEndedAt (named_by master) (named_by mirror) g order answer)

-- the answer of an order, by whether its slot has an opened store, where the rows have these names
abbrev pub IsAnswerIn : {M L0 L1 L2 L3 D : Type 0} {g : _} → RowGhosts M → RowGhosts L0 → RowGhosts L1 → RowGhosts L2 → RowGhosts L3 → OpenedFleet D g → Order → Answer → Type 0
IsAnswerIn {g = g} m r0 r1 r2 r3 opened order answer =
    IsAnswerAt (has_at order.mirror (is_some opened.first) (is_some opened.second) (is_some opened.third) (is_some opened.fourth))
    (at_slot order.mirror (HasEndedAt m r0 g order answer) (HasEndedAt m r1 g order answer) (HasEndedAt m r2 g order answer) (HasEndedAt m r3 g order answer) ⊥) answer
