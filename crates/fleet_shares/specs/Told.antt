-- What is told of each mirror of a fleet.
use Rattle.std.specs.Prelude.{◌≡◌, ◌⊎◌, ℕ, ◌+◌, Bool, true, false, List, [], ◌∷◌, Option, Some, None, Result, Ok, Err, is_some}
use Rattle.std.specs.Option.{option_map}
use Rattle.fleet_disk.specs.declared.disk.Disk.{Ghosts}
use Rattle.fleet_jobs.specs.Answers.{Answer}
use Rattle.fleet_jobs.specs.declared.order.Order.{Order}
use Rattle.node_base.specs.declared.refusal.Refusal.{Refusal}
use Rattle.node_base.specs.declared.refusal.Refusal.TheVariants.{Failed, NoRepository}
use Rattle.repo_core.specs.Repository.{head_of}
use Rattle.repo_store.specs.Words.{revisions_of}
use Rattle.sync_core.specs.declared.fault.SyncFault.TheVariants.{Other}
use Rattle.fleet_shares.specs.Given.{IsAnswerAt}
use Rattle.fleet_shares.specs.Orders.{sync_order}
use Rattle.fleet_shares.specs.Ran.{HasEnded}
use Rattle.fleet_shares.specs.Stores.{store_at}
use Rattle.fleet_shares.specs.declared.stores.FleetStores.{FleetStores}

-- the newest revision of the store in a slot
abbrev pub head_at : {D : Type 0} {g : _} → FleetStores D g → ℕ → Option ℕ
head_at stores slot = option_map (λ s. head_of (revisions_of s)) (store_at stores slot)

-- how a mirror stands: its folder was refused; else the newest revision of its slot's store, or there is none
abbrev pub stand : Option Refusal → Option ℕ → Result ℕ Refusal
stand (Some e) head = Err e
stand None (Some head) = Ok head
stand None None = Err NoRepository

-- each in turn, from that slot on
abbrev pub stands : {D : Type 0} {g : _} → ℕ → List (Option Refusal) → FleetStores D g → List (Result ℕ Refusal)
stands slot [] stores = []
stands slot (r ∷ rs) stores = stand r (head_at stores slot) ∷ stands (slot + 1) rs stores

-- what is told of it: the refusal; else, of a job that ran well, the revision at which it stands, where it was brought up, or that it
-- failed (32); and of another job why it was refused
abbrev pub tell : Result ℕ Refusal → Bool → Answer → Answer
tell (Err e) brought answer = Err (Other e)
tell (Ok head) true (Ok n) = Ok head
tell (Ok head) false (Ok n) = Err (Other Failed)
tell (Ok head) brought (Err f) = Err f

-- one that has no answer has failed (32)
abbrev pub tell_next : Result ℕ Refusal → Bool → Option Answer → Answer
tell_next standing brought None = Err (Other Failed)
tell_next standing brought (Some answer) = tell standing brought answer

-- each in turn, from that slot on
abbrev pub tells : (ℕ → Bool) → ℕ → List (Result ℕ Refusal) → List Answer → List Answer
tells brought slot [] answers = []
tells brought slot (s ∷ ss) [] = tell_next s (brought slot) None ∷ tells brought (slot + 1) ss []
tells brought slot (s ∷ ss) (a ∷ more) = tell_next s (brought slot) (Some a) ∷ tells brought (slot + 1) ss more

-- what may be told of a mirror by how it stands in the end: its refusal; or that revision once its order's job has run well and has
-- brought it up; or why that was refused; or that it failed (32), where its job has run well and hasn't brought it up
abbrev pub IsTold : {D : Type 0} → Ghosts D → (Bool → Type 0) → Order → Result ℕ Refusal → Answer → Type 0
IsTold g Judged order (Err e) answer = answer ≡ Err (Other e)
IsTold g Judged order (Ok head) (Ok n) = HasEnded g order (Ok n) × (n ≡ head) × Judged true
IsTold g Judged order (Ok head) (Err f) = HasEnded g order (Err f) ⊎ ((f ≡ Other Failed) × HasEnded g order (Ok head) × Judged false)

-- one answer for each, where the order of a mirror is that of its slot, from this one on, and by whether each slot's mirror was brought up
abbrev pub AreTold : {D : Type 0} → Ghosts D → (ℕ → Bool → Type 0) → ℕ → List (Result ℕ Refusal) → List Answer → Type 0
AreTold g Judged slot [] [] = Unit {0}
AreTold g Judged slot [] (a ∷ more) = ⊥
AreTold g Judged slot (s ∷ ss) [] = ⊥
AreTold g Judged slot (s ∷ ss) (a ∷ more) = IsTold g (Judged slot) (sync_order slot) s a × AreTold g Judged (slot + 1) ss more

-- the answer of an order, by whether its slot has a store
abbrev pub IsAnswerOver : {D : Type 0} {g : _} → FleetStores D g → Order → Answer → Type 0
IsAnswerOver {g = g} stores order answer = IsAnswerAt (is_some (store_at stores order.mirror)) (HasEnded g order answer) answer

-- a mirror's store where there was one
abbrev pub SameSlots : {D : Type 0} {g : _} → FleetStores D g → FleetStores D g → Type 0
SameSlots old new = (slot : ℕ) → is_some (store_at new slot) ≡ is_some (store_at old slot)
