-- A place for the outcome of each order, by its number: empty, or with an outcome.
use Rattle.std.specs.Prelude.{◌≡◌, ◌≢◌, ◌<◌, ℕ, List, [], ◌∷◌, length, Option, Some, None, slice_get, slice_set, fold}
use Rattle.fleet_jobs.specs.Answers.{Answer, IsOutcomeOf, AreOutcomesOf}
use Rattle.fleet_jobs.specs.Queue.{Message, tickets, worker, with_part}
use Rattle.fleet_jobs.specs.declared.order.Order.{Order}
use Rattle.fleet_jobs.specs.declared.order.Outcome.{Outcome}
use Rattle.fleet_jobs.specs.declared.order.Ticket.{Ticket}
use Rattle.fleet_jobs.specs.declared.queue.Hand.{Hand}

abbrev pub AreEmpty : List (Option Outcome) → Type 0
AreEmpty places = (n : ℕ) (o : Outcome) → slice_get places n ≢ Some (Some o)

-- an outcome in the place of the order that it names, and several, one behind another
abbrev pub put_in : List (Option Outcome) → Outcome → List (Option Outcome)
put_in places o = slice_set places o.order (Some o)

abbrev pub put_all : List (Option Outcome) → List Outcome → List (Option Outcome)
put_all places os = fold put_in places os

-- the outcomes up to the first place that is empty
abbrev pub front : List (Option Outcome) → List Outcome
front [] = []
front (Some o ∷ ps) = o ∷ front ps
front (None ∷ ps) = []

-- in the places is what came of these tickets: of them alone, and of each that has a place
pub record AreSettled (may : Order → Answer → Type 0) (ts : List Ticket) (places : List (Option Outcome)) : Type 0 where
  pub made : (n : ℕ) (o : Outcome) → slice_get places n ≡ Some (Some o) → (t : Ticket) × (k : ℕ) × (slice_get ts k ≡ Some t) × (t.number ≡ n) × IsOutcomeOf may t o
  pub filled : (t : Ticket) (k : ℕ) → slice_get ts k ≡ Some t → t.number < length places → (o : Outcome) × (slice_get places t.number ≡ Some (Some o))

-- the worker of a seat came back: with its part, and with one outcome for each ticket of it, which are put into their places
pub record CameBack (may : Order → Answer → Type 0) (seat : ℕ) (before after : Hand) (places placed : List (Option Outcome)) : Type 0 where
  pub taken : List Message
  pub outcomes : List Outcome
  pub part_is : after ≡ with_part before (worker seat taken)
  pub answers : AreOutcomesOf may (tickets taken) outcomes
  pub placed_is : placed ≡ put_all places outcomes
