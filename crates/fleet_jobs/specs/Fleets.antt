-- A fleet as its callers see it.
use Rattle.std.specs.Prelude.{◌≡◌, ◌<◌, ℕ, Bool, false, List, ◌++◌, length, take, Some, get_or, slice_get}
use Rattle.std.specs.List.{range_with_len}
use Rattle.fleet_jobs.specs.Queue.{Message, Taking, messages, tickets, seats_of, ArePartsOf, NoneAbove}
use Rattle.fleet_jobs.specs.declared.order.Ticket.{Ticket}
use Rattle.fleet_jobs.specs.declared.queue.Hand.{Hand}

-- the tickets of the orders that were accepted, in order; what runs them; which slots have a mirror; and how many workers were started
pub record FleetState (J : Type 0) : Type 0 where
  pub accepted : List Ticket
  pub runner : J
  pub slots : List Bool
  pub workers : ℕ

abbrev pub has_mirror : {J : Type 0} → FleetState J → ℕ → Bool
has_mirror f mirror = get_or f.slots mirror false

-- each ticket has the number of its place, from 0 up
abbrev pub AreNumbered : List Ticket → Type 0
AreNumbered ts = (k : ℕ) (t : Ticket) → slice_get ts k ≡ Some t → t.number ≡ k

-- all workers have ended, each with its part. What they took, and that is all that was taken, is a beginning of what was given, in order, each
-- once, and has the first so many of the accepted tickets; the others wait
pub record LeavesWaiting (giver : Hand) (workers : ℕ) (accepted : List Ticket) (ran : ℕ) : Type 0 where
  pub log : List Taking
  pub waiting : List Message
  pub given : tickets giver.given ≡ accepted
  pub order : giver.given ≡ messages log ++ waiting
  pub ended : seats_of giver.back ≡ range_with_len 0 workers
  pub parts : ArePartsOf log giver.back
  pub above : NoneAbove workers log
  pub taken : tickets (messages log) ≡ take ran accepted
  pub left : ran < length accepted
