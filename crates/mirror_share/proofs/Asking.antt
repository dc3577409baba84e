-- What a seat's port was asked.
use Rattle.std.proofs.Common.{◌≡◌, ◌≤◌, ℕ, List, [], ◌∷◌, ◌++◌, Option, Result, Ok, Err, refl, sym, ap, subst, ◌∙◌, arith}
use Rattle.std.specs.Prelude.{IfErr, IfOk, OnOk}
use Rattle.std.specs.List.{AllByRecursion}
use Rattle.std.specs.Option.{option_map}
use Rattle.store_share.specs.Seats.{known_by, seen_by}
use Rattle.store_share.specs.declared.rev.Rev.{Rev}
use Rattle.store_share.specs.declared.seat.ReaderSeat.{ReaderSeat}
use Rattle.sync_core.specs.Mirror.{Call, Init, TakeLock, StealLock, ReleaseLock, SetCopying, Commit, PutProps, SetMerged, ClearCopying, Look}
use Rattle.sync_core.specs.declared.fault.SyncFault.{SyncFault}
use Rattle.sync_core.specs.declared.reply.Reply.{Reply as Given}
use Rattle.sync_core.specs.declared.reply.Reply.TheVariants as given
use Rattle.sync_job.specs.Asked.{Asked, asked_as}
use Rattle.sync_job.specs.Mirrors.{IsFit}
use Rattle.sync_job.proofs.Telling.{all_append}
use Rattle.mirror_share.specs.declared.port.SeatMirror.{SeatMirror}
use Rattle.mirror_share.specs.Carried.{IsCarried}
use Rattle.mirror_share.specs.Counts.{Counts}
use Rattle.mirror_share.specs.Locked.{IsStepOf}
use Rattle.mirror_share.specs.Refused.{IsRefusalOf}
use Rattle.mirror_share.specs.Ports.{reader_of, seat_of, share_of, AreCarried, IsCallAt, IsSeenBy, WasAsked}
use Rattle.mirror_share.specs.Seats.{hand_of, place_of}
use Rattle.mirror_share.specs.Seen.{HasSeenCommit, HasSeenHead}

-- what was seen is seen for good

commit_still : (k k2 : ℕ → Option Rev) (seen now : ℕ) → seen ≤ now → ((n : ℕ) → n ≤ seen → k2 n ≡ k n) → (call : Call) → HasSeenCommit call k seen → HasSeenCommit call k2 now
commit_still k k2 seen now later kept (Commit n set props) h = (omega (arith, later, h.0), ap (option_map (λ (x : Rev). x.set)) (kept n h.0) ∙ h.1)
commit_still k k2 seen now later kept (Init url uuid props) h = tt
commit_still k k2 seen now later kept (TakeLock token) h = tt
commit_still k k2 seen now later kept (StealLock token) h = tt
commit_still k k2 seen now later kept ReleaseLock h = tt
commit_still k k2 seen now later kept (SetCopying n) h = tt
commit_still k k2 seen now later kept (PutProps n props) h = tt
commit_still k k2 seen now later kept (SetMerged n) h = tt
commit_still k k2 seen now later kept ClearCopying h = tt
commit_still k k2 seen now later kept Look h = tt

head_still : (seen now : ℕ) → seen ≤ now → (x : Given) → HasSeenHead x seen → HasSeenHead x now
head_still seen now later given.Done h = tt
head_still seen now later (given.Seen s) h = omega (arith, later, h)

module _ {L : Type 0} {r : _} (old new : ReaderSeat L r) (later : seen_by old ≤ seen_by new) (kept : (n : ℕ) → n ≤ seen_by old → known_by new n ≡ known_by old n) where
  commit_on : (call : Call) (result : Result Given SyncFault) → OnOk result (HasSeenCommit call (known_by old) (seen_by old)) → OnOk result (HasSeenCommit call (known_by new) (seen_by new))
  commit_on call (Ok x) h = commit_still (known_by old) (known_by new) (seen_by old) (seen_by new) later kept call h
  commit_on call (Err f) h = tt

  head_on : (result : Result Given SyncFault) → IfOk result (λ (x : Given). HasSeenHead x (seen_by old)) → IfOk result (λ (x : Given). HasSeenHead x (seen_by new))
  head_on (Ok x) h = head_still (seen_by old) (seen_by new) later x h
  head_on (Err f) h = tt

  seen_still : (calls : List Asked) → AllByRecursion (λ (a : Asked). IsSeenBy old a.call a.result) calls → AllByRecursion (λ (a : Asked). IsSeenBy new a.call a.result) calls
  seen_still [] h = tt
  seen_still (a ∷ calls) h = (record { commit = commit_on a.call a.result h.0.commit; head = head_on a.result h.0.head }, seen_still calls h.1)

carried_on : (old mid new : Option Counts) (calls : List Asked) (call : Call) (result : Result Given SyncFault) → IfOk result (IsFit call) → IfErr result (IsRefusalOf call) → IsCarried mid new call result → AreCarried old calls mid
    → AreCarried old (calls ++ asked_as call result ∷ []) new
carried_on old mid new [] call result fit refused carried h = (fit, refused, (new, subst (λ x. IsCarried x new call result) h carried, refl))
carried_on old mid new (b ∷ bs) call result fit refused carried h = (h.0, h.1, (h.2.0, h.2.1, carried_on h.2.0 mid new bs call result fit refused carried h.2.2))

-- a call more
pub asked_on : {R L D : Type 0} {r : _} {g : _} (first old new : SeatMirror R L D r g) (calls : List Asked) (call : Call) (result : Result Given SyncFault) → IsCallAt old new call result → IfOk result (IsFit call) → place_of (seat_of new) ≡ place_of (seat_of old)
    → WasAsked old first calls → WasAsked new first (calls ++ asked_as call result ∷ [])
asked_on first old new calls call result at fit seat h =
    record {
      share = at.share ∙ h.share;
      seat = seat ∙ h.seat;
      steps = all_append (λ a. IsStepOf (share_of first) (place_of (seat_of first)) a.call a.result) calls (asked_as call result ∷ []) h.steps
          (subst (λ s. IsStepOf s (place_of (seat_of first)) call result) h.share (subst (λ k. IsStepOf (share_of old) k call result) h.seat at.stepped), tt);
      seen = all_append (λ a. IsSeenBy (reader_of new) a.call a.result) calls (asked_as call result ∷ []) (seen_still (reader_of old) (reader_of new) at.later at.kept calls h.seen) (at.done, tt);
      carried = carried_on (hand_of (seat_of first)) (hand_of (seat_of old)) (hand_of (seat_of new)) calls call result fit at.refused at.carried h.carried;
    }

-- and none
pub asked_still : {R L D : Type 0} {r : _} {g : _} (first old new : SeatMirror R L D r g) (calls : List Asked) → share_of new ≡ share_of old → seat_of new ≡ seat_of old
    → seen_by (reader_of old) ≤ seen_by (reader_of new) → ((n : ℕ) → n ≤ seen_by (reader_of old) → known_by (reader_of new) n ≡ known_by (reader_of old) n)
    → WasAsked old first calls → WasAsked new first calls
asked_still first old new calls share seat later kept h = record {
  share = share ∙ h.share;
  seat = ap place_of seat ∙ h.seat;
  steps = h.steps;
  seen = seen_still (reader_of old) (reader_of new) later kept calls h.seen;
  carried = subst (λ s. AreCarried (hand_of (seat_of first)) calls (hand_of s)) (sym seat) h.carried;
}
