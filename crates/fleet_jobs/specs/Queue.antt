-- The order queue: what was given is what was taken, in order, and then what waits; each worker took its part of it.
use Rattle.std.specs.Prelude.{◌≡◌, ◌≢◌, ℕ, ◌+◌, ◌<◌, ◌≤◌, true, false, List, [], ◌∷◌, ◌++◌, map, Option, Some, None}
use mathlib.Core.Bool.{cond}
use mathlib.Core.Option.{some}
use lib.Dec.{eqb}
use lib.ListN.{get_elem?}
use Rattle.crossbeam_channel.specs.Claims.{Pass, view}
use Rattle.fleet_jobs.specs.declared.order.Ticket.{Ticket}
use Rattle.fleet_jobs.specs.declared.queue.Hand.{Hand}
use Rattle.fleet_jobs.specs.declared.queue.Part.{Part}

-- what stands in the queue: a ticket, or None, at which a worker ends
abbrev pub Message : Type 0
Message = Option Ticket

-- the tickets among these messages
abbrev pub tickets : List Message → List Ticket
tickets [] = []
tickets (Some t ∷ ms) = t ∷ tickets ms
tickets (None ∷ ms) = tickets ms

-- what the holder of a seat may do and has done
abbrev pub known_by : Pass Message Hand → Hand
known_by seat = view seat

abbrev pub giver : ℕ → List Message → List Part → Hand
giver seats given back = record { gives = true; seats = seats; given = given; back = back; works = false; seat = 0; taken = [] }

abbrev pub worker : ℕ → List Message → Hand
worker seat taken = record { gives = false; seats = 0; given = []; back = []; works = true; seat = seat; taken = taken }

abbrev pub spent : Hand
spent = record { gives = false; seats = 0; given = []; back = []; works = false; seat = 0; taken = [] }

abbrev pub part : ℕ → List Message → Part
part seat taken = record { seat = seat; taken = taken }

-- a worker that took nothing yet
abbrev pub IsFresh : Hand → Type 0
IsFresh v = (v.works ≡ true) × (v.taken ≡ [])

-- the seats of the parts that are back, and the tickets of these
abbrev pub seats_of : List Part → List ℕ
seats_of ps = map (λ p. p.seat) ps

abbrev pub tickets_of : List Part → List Ticket
tickets_of [] = []
tickets_of (p ∷ ps) = tickets p.taken ++ tickets_of ps

-- a message is put
abbrev pub put : Hand → Message → Hand
put v x = record { gives = v.gives; seats = v.seats; given = v.given ++ x ∷ []; back = v.back; works = v.works; seat = v.seat; taken = v.taken }

-- a message is taken
abbrev pub took : Hand → Message → Hand
took v x = record { gives = v.gives; seats = v.seats; given = v.given; back = v.back; works = v.works; seat = v.seat; taken = v.taken ++ x ∷ [] }

abbrev pub one_seat_more : Hand → Hand
one_seat_more v = record { gives = v.gives; seats = v.seats + 1; given = v.given; back = v.back; works = v.works; seat = v.seat; taken = v.taken }

-- the part of a worker is back
abbrev pub with_part : Hand → Hand → Hand
with_part v w = record { gives = v.gives; seats = v.seats; given = v.given; back = v.back ++ part w.seat w.taken ∷ []; works = v.works; seat = v.seat; taken = v.taken }

-- one message that was taken, and from which seat
pub record Taking : Type 0 where
  pub by : ℕ
  pub message : Message

abbrev pub taking : ℕ → Message → Taking
taking by message = record { by = by; message = message }

-- the messages of a history
abbrev pub messages : List Taking → List Message
messages [] = []
messages (t ∷ ts) = t.message ∷ messages ts

-- those that were taken from one seat
abbrev pub taken_by : ℕ → List Taking → List Message
taken_by seat [] = []
taken_by seat (t ∷ ts) = cond (eqb t.by seat) (t.message ∷ taken_by seat ts) (taken_by seat ts)

-- what is so at one moment: who has each seat, how many seats were made, what was given, and the history of what was taken
pub record Moment : Type 0 where
  pub owner : ℕ
  pub who : ℕ → ℕ
  pub seats : ℕ
  pub given : List Message
  pub log : List Taking

-- the parts that are back are whole
abbrev pub ArePartsOf : List Taking → List Part → Type 0
ArePartsOf log back = (i : ℕ) (p : Part) → get_elem? back i ≡ some p → p.taken ≡ taken_by p.seat log

pub record GiverFits (m : Moment) (port : ℕ) (v : Hand) : Type 0 where
  pub port_is : port ≡ m.owner
  pub given_is : v.given ≡ m.given
  pub seats_are : v.seats ≡ m.seats
  pub parts : ArePartsOf m.log v.back
  pub kept : (i : ℕ) (p : Part) → get_elem? v.back i ≡ some p → (m.who p.seat ≡ m.owner) × (p.seat < m.seats)

pub record WorkerFits (m : Moment) (port : ℕ) (v : Hand) : Type 0 where
  pub port_is : m.who v.seat ≡ port
  pub other : port ≢ m.owner
  pub seated : v.seat < m.seats
  pub taken_is : v.taken ≡ taken_by v.seat m.log

abbrev pub Fits : Moment → ℕ → Hand → Type 0
Fits m port v = (v.gives ≡ true → GiverFits m port v) × (v.works ≡ true → WorkerFits m port v)

-- no seat above those that were made has taken anything
abbrev pub NoneAbove : ℕ → List Taking → Type 0
NoneAbove seats log = (seat : ℕ) → seats ≤ seat → taken_by seat log ≡ []

-- the rule
pub record Queued (items : List Message) (views : List Hand) : Type 0 where
  pub now : Moment
  pub order : now.given ≡ messages now.log ++ items
  pub above : NoneAbove now.seats now.log
  pub fits : (port : ℕ) (v : Hand) → get_elem? views port ≡ some v → Fits now port v

-- what was given is what was taken, in order, and then what waits; the parts are those of that history, and no seat above has any
pub record IsTaken (seats : ℕ) (given : List Message) (back : List Part) (waiting : List Message) : Type 0 where
  pub log : List Taking
  pub order : given ≡ messages log ++ waiting
  pub parts : ArePartsOf log back
  pub above : NoneAbove seats log
