-- Orders that are given to a fleet, and the answer of each.
use Rattle.std.specs.Prelude.{◌≡◌, ◌⊎◌, ◌≤◌, ℕ, Bool, true, false, List, Vec, Result, [], ◌∷◌, Ok, Err, vec_capacity}
use Rattle.std.specs.declared.alloc.Global.{Global}
use Rattle.fleet_jobs.specs.Answers.{Answer}
use Rattle.fleet_jobs.specs.declared.fault.Unfinished.{Unfinished}
use Rattle.fleet_jobs.specs.declared.order.Order.{Order}
use Rattle.fleet_jobs.specs.declared.order.Outcome.{Outcome}
use Rattle.node_base.specs.declared.refusal.Refusal.TheVariants.{NoRepository}
use Rattle.sync_core.specs.declared.fault.SyncFault.TheVariants.{Other}
use Rattle.fleet_shares.specs.declared.answers.Due.{Due}
use Rattle.fleet_shares.specs.declared.answers.Due.TheVariants.{Waits, Ended}

-- an empty list with room for so many
abbrev pub HasRoom : {A : Type 0} → Vec A Global → ℕ → Type 0
HasRoom v n = (v.items ≡ []) × (n ≤ vec_capacity v)

-- the order itself, if it was accepted
abbrev pub accepted_if : Bool → Order → List Order
accepted_if true order = order ∷ []
accepted_if false order = []

-- the orders that wait
abbrev pub waiting_in : List Due → List Order
waiting_in [] = []
waiting_in (Waits o ∷ ds) = o ∷ waiting_in ds
waiting_in (Ended a ∷ ds) = waiting_in ds

-- an order was given: it waits, or its job was run and answered so
abbrev pub IsDue : (Order → Answer → Type 0) → Order → Due → Type 0
IsDue may order (Waits o) = o ≡ order
IsDue may order (Ended a) = may order a

-- the outcomes of the orders, or of the first ones
abbrev pub outcomes_in : Result (Vec Outcome Global) Unfinished → List Outcome
outcomes_in (Ok outcomes) = outcomes.items
outcomes_in (Err unfinished) = unfinished.outcomes.items

-- an order that waits is settled by the next outcome, if there is one; and the outcomes that are left then
abbrev pub settled : Due → List Outcome → Due
settled (Ended a) xs = Ended a
settled (Waits o) [] = Waits o
settled (Waits o) (x ∷ xs) = Ended x.result

abbrev pub behind : Due → List Outcome → List Outcome
behind (Ended a) xs = xs
behind (Waits o) [] = []
behind (Waits o) (x ∷ xs) = xs

-- what is answered of it: that; or what its job answers
abbrev pub IsPaid : (Order → Answer → Type 0) → Due → Answer → Type 0
IsPaid may (Waits o) answer = may o answer
IsPaid may (Ended a) answer = answer ≡ a

-- one answer for each, in order
abbrev pub AreAnswers : (Order → Answer → Type 0) → List Due → List Outcome → List Answer → Type 0
AreAnswers may [] xs [] = Unit {0}
AreAnswers may [] xs (a ∷ more) = ⊥
AreAnswers may (d ∷ ds) xs [] = ⊥
AreAnswers may (d ∷ ds) xs (a ∷ more) = IsPaid may (settled d xs) a × AreAnswers may ds (behind d xs) more

-- an order is answered as its job may answer it, which a worker ran, or who gave it
abbrev pub IsAnswered : (Order → Answer → Type 0) → (Order → Answer → Type 0) → Order → Answer → Type 0
IsAnswered worked own order answer = worked order answer ⊎ own order answer

-- where a slot has a mirror its order is answered as its job may answer it; else it has no repository (34)
abbrev pub IsAnswerAt : Bool → Type 0 → Answer → Type 0
IsAnswerAt false May answer = answer ≡ Err (Other NoRepository)
IsAnswerAt true May answer = May
