-- What the rule of the queue says at every moment.
use Rattle.std.specs.Prelude.{◌≡◌, ℕ, true, List, ◌++◌}
use mathlib.Core.Option.{some}
use lib.ListN.{get_elem?}
use Rattle.fleet_jobs.specs.declared.queue.Hand.{Hand}
use Rattle.fleet_jobs.specs.Queue.{Message, Taking, messages, taken_by, Queued, IsTaken}

-- what the giver gave is what was taken, in order, and then what waits
abbrev pub TakenInOrder : Type 0
TakenInOrder = (waiting : List Message) (views : List Hand) → Queued waiting views → (port : ℕ) (v : Hand) → get_elem? views port ≡ some v → v.gives ≡ true → IsTaken v.seats v.given v.back waiting

-- one history explains the giver and every worker
pub record Shared (waiting : List Message) (views : List Hand) : Type 0 where
  pub given : List Message
  pub log : List Taking
  pub order : given ≡ messages log ++ waiting
  pub giver : (port : ℕ) (v : Hand) → get_elem? views port ≡ some v → v.gives ≡ true → v.given ≡ given
  pub workers : (port : ℕ) (v : Hand) → get_elem? views port ≡ some v → v.works ≡ true → v.taken ≡ taken_by v.seat log
  pub alone : (p q : ℕ) (v w : Hand) → get_elem? views p ≡ some v → get_elem? views q ≡ some w → v.works ≡ true → w.works ≡ true → v.seat ≡ w.seat → p ≡ q

abbrev pub WorkersShare : Type 0
WorkersShare = (waiting : List Message) (views : List Hand) → Queued waiting views → Shared waiting views
