-- A shared mirror as a port.
use Rattle.std.specs.Prelude.{◌≡◌, List, [], ◌∷◌, ◌++◌, Option, Result, IfErr, IfOk, OnOk}
use Rattle.std.specs.List.{AllByRecursion}
use Rattle.node_base.specs.Tree.{PathMap}
use Rattle.store_share.specs.Seats.{known_by, seen_by, KeepsSeen, SeesOn}
use Rattle.store_share.specs.declared.seat.ReaderSeat.{ReaderSeat}
use Rattle.sync_core.specs.Mirror.{Call}
use Rattle.sync_core.specs.declared.fault.SyncFault.{SyncFault}
use Rattle.sync_core.specs.declared.reply.Reply.{Reply as Given}
use Rattle.sync_job.specs.Asked.{Asked}
use Rattle.sync_job.specs.Mirrors.{MirrorNow, IsFit}
use Rattle.mirror_share.specs.declared.port.SeatMirror.{SeatMirror}
use Rattle.mirror_share.specs.declared.seat.JobSeat.{JobSeat}
use Rattle.mirror_share.specs.declared.share.MirrorShare.{MirrorShare}
use Rattle.mirror_share.specs.Carried.{IsCarried}
use Rattle.mirror_share.specs.Counts.{Counts}
use Rattle.mirror_share.specs.Locked.{IsStepOf}
use Rattle.mirror_share.specs.Refused.{IsRefusalOf}
use Rattle.mirror_share.specs.Seats.{hand_of, place_of, CarriesHand}
use Rattle.mirror_share.specs.Seen.{HasSeenCommit, HasSeenHead}

-- of no mirror it is known that it stands there: others may call it between the calls of the job
abbrev pub NowhereStands : MirrorNow → Type 0
NowhereStands m = ⊥

-- nothing is said of the trees that it begins with
abbrev pub TellsNothing : List PathMap → Type 0
TellsNothing trees = Unit {0}

-- the job's seat
abbrev pub seat_of : {R L D : Type 0} {r : _} {g : _} → SeatMirror R L D r g → JobSeat L
seat_of port = port.seat

-- the reader's seat
abbrev pub reader_of : {R L D : Type 0} {r : _} {g : _} → SeatMirror R L D r g → ReaderSeat L r
reader_of port = port.reader

-- the share
abbrev pub share_of : {R L D : Type 0} {r : _} {g : _} → SeatMirror R L D r g → MirrorShare L D r g
share_of port = port.share.now

-- of a call that was done a reader has seen the revision that it committed, with its set, or the head that it told
pub record IsSeenBy {L : Type 0} {r : _} (reader : ReaderSeat L r) (call : Call) (result : Result Given SyncFault) : Type 0 where
  pub commit : OnOk result (HasSeenCommit call (known_by reader) (seen_by reader))
  pub head : IfOk result (λ x. HasSeenHead x (seen_by reader))

-- one call of a port: a step of the share's book from its seat's place, which the seat carries through; what was done in it the reader
-- has seen, and it knows what it knew; and what the call may be refused for
pub record IsCallAt {R L D : Type 0} {r : _} {g : _} (old new : SeatMirror R L D r g) (call : Call) (result : Result Given SyncFault) : Type 0 where
  pub refused : IfErr result (IsRefusalOf call)
  pub stepped : IsStepOf (share_of old) (place_of (seat_of old)) call result
  pub carried : CarriesHand (seat_of old) (seat_of new) call result
  pub done : IsSeenBy (reader_of new) call result
  pub later : SeesOn (reader_of old) (reader_of new)
  pub kept : KeepsSeen (reader_of old) (reader_of new)
  pub share : share_of new ≡ share_of old

-- a seat's calls one after another, each as a step says of one: from what its hand counted before them to what it counts behind them
abbrev pub AreCarried : Option Counts → List Asked → Option Counts → Type 0
AreCarried old [] new = new ≡ old
AreCarried old (a ∷ calls) new = IfOk a.result (IsFit a.call) × IfErr a.result (IsRefusalOf a.call) × ((next : Option Counts) × IsCarried old next a.call a.result × AreCarried next calls new)

-- since the port was as the first, at the same share and seat, these calls were made, each a step of the share's book, and what was done
-- in them its reader has seen; and so were carried
pub record WasAsked {R L D : Type 0} {r : _} {g : _} (now first : SeatMirror R L D r g) (calls : List Asked) : Type 0 where
  pub share : share_of now ≡ share_of first
  pub seat : place_of (seat_of now) ≡ place_of (seat_of first)
  pub steps : AllByRecursion (λ a. IsStepOf (share_of first) (place_of (seat_of first)) a.call a.result) calls
  pub seen : AllByRecursion (λ a. IsSeenBy (reader_of now) a.call a.result) calls
  pub carried : AreCarried (hand_of (seat_of first)) calls (hand_of (seat_of now))

-- since whatever the port was it was asked this too
abbrev pub IsAsked : {R L D : Type 0} {r : _} {g : _} → SeatMirror R L D r g → Asked → SeatMirror R L D r g → Type 0
IsAsked {R} {L} {D} {r} {g} old asked new = (first : SeatMirror R L D r g) (calls : List Asked) → WasAsked old first calls → WasAsked new first (calls ++ asked ∷ [])

-- it was asked nothing more
abbrev pub IsUnasked : {R L D : Type 0} {r : _} {g : _} → SeatMirror R L D r g → SeatMirror R L D r g → Type 0
IsUnasked {R} {L} {D} {r} {g} old new = (first : SeatMirror R L D r g) (calls : List Asked) → WasAsked old first calls → WasAsked new first calls

-- P of each mirror of which it is known that it stands there
abbrev pub OfNowhere : (MirrorNow → Type 0) → Type 0
OfNowhere P = (m : MirrorNow) → NowhereStands m → P m

-- P of the trees that it may begin with
abbrev pub OfUntold : (List PathMap → Type 0) → Type 0
OfUntold P = (trees : List PathMap) → TellsNothing trees → P trees
