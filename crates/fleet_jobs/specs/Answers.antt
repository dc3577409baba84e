-- What comes of orders.
use Rattle.std.specs.Prelude.{◌≡◌, ℕ, true, List, Result}
use Rattle.std.specs.List.{AllZip}
use Rattle.sync_core.specs.declared.fault.SyncFault.{SyncFault}
use Rattle.fleet_jobs.specs.declared.order.Order.{Order}
use Rattle.fleet_jobs.specs.declared.order.Outcome.{Outcome}
use Rattle.fleet_jobs.specs.declared.order.Ticket.{Ticket}
use Rattle.fleet_jobs.specs.declared.queue.Hand.{Hand}
use Rattle.fleet_jobs.specs.Queue.{tickets}

-- what a job answers: the mirror's head, or why it was refused
abbrev pub Answer : Type 0
Answer = Result ℕ SyncFault

-- the outcome names the ticket, and has a result that the job of its order may answer
abbrev pub IsOutcomeOf : (Order → Answer → Type 0) → Ticket → Outcome → Type 0
IsOutcomeOf may t o = (o.order ≡ t.number) × may t.order o.result

-- one outcome for each ticket, in order
abbrev pub AreOutcomesOf : (Order → Answer → Type 0) → List Ticket → List Outcome → Type 0
AreOutcomesOf may ts os = AllZip (IsOutcomeOf may) ts os

-- the worker of that seat took tickets, and has one outcome for each
abbrev pub HasWorked : (Order → Answer → Type 0) → ℕ → Hand → List Outcome → Type 0
HasWorked may seat v os = (v.works ≡ true) × (v.seat ≡ seat) × AreOutcomesOf may (tickets v.taken) os
