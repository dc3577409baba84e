-- What a job's seat is to its caller.
use Rattle.std.specs.Prelude.{ℕ, Option, Result}
use Rattle.std.specs.Option.{option_map}
use Rattle.sync_core.specs.Mirror.{Call}
use Rattle.sync_core.specs.declared.fault.SyncFault.{SyncFault}
use Rattle.sync_core.specs.declared.reply.Reply.{Reply as Given}
use Rattle.mirror_share.specs.Carried.{IsCarried}
use Rattle.mirror_share.specs.Counts.{Counts, counts_as}
use Rattle.mirror_share.specs.declared.hand.Hand.{Hand}
use Rattle.mirror_share.specs.declared.seat.JobSeat.{JobSeat}

-- its place among the jobs that run, which is its number
abbrev pub place_of : {L : Type 0} → JobSeat L → ℕ
place_of seat = seat.place

-- what a hand counts
abbrev pub counts_in : {L : Type 0} → Hand L → Counts
counts_in hand = counts_as hand.merged.amount hand.copying.amount hand.head.amount

-- while it holds the lock, what its hand counts
abbrev pub hand_of : {L : Type 0} → JobSeat L → Option Counts
hand_of seat = option_map (λ hand. counts_in hand) seat.hand

-- a seat carries what its hand counts through a call
abbrev pub CarriesHand : {L : Type 0} → JobSeat L → JobSeat L → Call → Result Given SyncFault → Type 0
CarriesHand old new call result = IsCarried (hand_of old) (hand_of new) call result
