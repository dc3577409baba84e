-- What a run at a seat asked, and how that is served.
use Rattle.std.proofs.Common.{◌≡◌, ℕ, List, [], ◌∷◌, ◌++◌, map, Option, None, refl, sym, ap, subst, ◌∙◌}
use Rattle.std.proofs.lemmas.List.{append-nil, append_cancel_left}
use Rattle.std.specs.List.{AllZip}
use Rattle.sync_core.specs.Copies.{outcome_of}
use Rattle.sync_core.specs.Deeds.{Calls, AsksIdentity, AsksLatest, Fetches, FetchesProps, Ends}
use Rattle.sync_core.specs.Jobs.{Job, Order, begun}
use Rattle.sync_job.specs.Asked.{Asked}
use Rattle.sync_job.specs.Runs.{AreRight}
use Rattle.sync_job.specs.Said.{Spoken, Says, NoTree, Tells}
use Rattle.sync_job.specs.Telling.{IsSaidAs, KeepsTelling, calls_in}
use Rattle.mirror_share.specs.Ports.{seat_of, AreCarried, WasAsked}
use Rattle.mirror_share.specs.Counts.{Counts}
use Rattle.mirror_share.specs.Seats.{hand_of}
use Rattle.mirror_share.specs.Served.{Happening, Called, Spoke, said_as, AreCalls, IsServedIn}
use Rattle.mirror_share.specs.declared.port.SeatMirror.{SeatMirror}
use Rattle.mirror_share.proofs.Serving.{run_served}

-- what happened in a run whose list tells what was asked
record Happened (hand : Option Counts) (said : List Spoken) : Type 0 where
  all : List Happening
  same : map said_as all ≡ said
  calls : AreCalls hand all

happened : (said : List Spoken) (hand end : Option Counts) (made : List Asked) → AreCarried hand made end → AllZip IsSaidAs made (calls_in said) → Happened hand said
happened [] hand end made carried z = record { all = []; same = refl; calls = tt }
happened (Says (Calls call) o ∷ es) hand end [] carried z = absurd z
happened (Says (Calls call) o ∷ es) hand end (a ∷ made) carried z =
    let rest = happened es carried.2.0 end made carried.2.2 z.1 in
    record {
      all = Called a.call a.result z.0.answer carried.2.0 ∷ rest.all;
      same = ap (λ x. Says (Calls x) (outcome_of z.0.answer) ∷ map said_as rest.all) (sym z.0.call) ∙ ap (λ x. Says (Calls call) x ∷ map said_as rest.all) (sym z.0.outcome) ∙ ap (λ xs. Says (Calls call) o ∷ xs) rest.same;
      calls = (carried.0, carried.1, z.0.heard, carried.2.1, rest.calls);
    }
happened (Says AsksIdentity o ∷ es) hand end made carried z =
    let rest = happened es hand end made carried z in record { all = Spoke (Says AsksIdentity o) ∷ rest.all; same = ap (λ xs. Says AsksIdentity o ∷ xs) rest.same; calls = (tt, rest.calls) }
happened (Says AsksLatest o ∷ es) hand end made carried z =
    let rest = happened es hand end made carried z in record { all = Spoke (Says AsksLatest o) ∷ rest.all; same = ap (λ xs. Says AsksLatest o ∷ xs) rest.same; calls = (tt, rest.calls) }
happened (Says (Fetches n) o ∷ es) hand end made carried z =
    let rest = happened es hand end made carried z in record { all = Spoke (Says (Fetches n) o) ∷ rest.all; same = ap (λ xs. Says (Fetches n) o ∷ xs) rest.same; calls = (tt, rest.calls) }
happened (Says (FetchesProps n) o ∷ es) hand end made carried z =
    let rest = happened es hand end made carried z in record { all = Spoke (Says (FetchesProps n) o) ∷ rest.all; same = ap (λ xs. Says (FetchesProps n) o ∷ xs) rest.same; calls = (tt, rest.calls) }
happened (Says Ends o ∷ es) hand end made carried z =
    let rest = happened es hand end made carried z in record { all = Spoke (Says Ends o) ∷ rest.all; same = ap (λ xs. Says Ends o ∷ xs) rest.same; calls = (tt, rest.calls) }
happened (NoTree n o ∷ es) hand end made carried z =
    let rest = happened es hand end made carried z in record { all = Spoke (NoTree n o) ∷ rest.all; same = ap (λ xs. NoTree n o ∷ xs) rest.same; calls = (tt, rest.calls) }
happened (Tells t ∷ es) hand end made carried z =
    let rest = happened es hand end made carried z in record { all = Spoke (Tells t) ∷ rest.all; same = ap (λ xs. Tells t ∷ xs) rest.same; calls = (tt, rest.calls) }

served_in : (IsNumber : Job → ℕ → Type 0) (order : Order) (old new more said : List Spoken) (hand end : Option Counts) (made : List Asked) → hand ≡ None → new ≡ old ++ more → AreRight IsNumber (begun order) more → new ≡ old ++ said
    → AreCarried hand made end → AllZip IsSaidAs made (calls_in said) → IsServedIn (begun order) old new
served_in IsNumber order old new more said hand end made none adds right tells carried z =
    let h = happened said None end made (subst (λ x. AreCarried x made end) none carried) z in
    record {
      happened = h.all;
      adds = tells ∙ ap (λ xs. old ++ xs) (sym h.same);
      calls = h.calls;
      served = run_served IsNumber order h.all (subst (AreRight IsNumber (begun order)) (append_cancel_left old more said (sym adds ∙ tells) ∙ sym h.same) right) h.calls;
    }

-- a run at a seat that began without the hand
pub is_served : {Q L D : Type 0} {r : _} {g : _} (IsNumber : Job → ℕ → Type 0) (order : Order) (before now : SeatMirror Q L D r g) (old new more : List Spoken)
    → hand_of (seat_of before) ≡ None → new ≡ old ++ more → AreRight IsNumber (begun order) more → KeepsTelling (λ x first calls. WasAsked x first calls) before now old new → IsServedIn (begun order) old new
is_served IsNumber order before now old new more none adds right telling =
    let t = telling before old (record { made = []; more = []; adds = sym (append-nil old); asked = record { share = refl; seat = refl; steps = tt; seen = tt; carried = refl }; said = tt; others = tt }) in
    served_in IsNumber order old new more t.more (hand_of (seat_of before)) (hand_of (seat_of now)) t.made none adds right t.adds t.asked.carried t.said
