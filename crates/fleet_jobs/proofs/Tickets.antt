-- Tickets among messages, and their numbers.
use Rattle.std.proofs.Common.{◌≡◌, ⊎_elim, ◌+◌, List, [], ◌∷◌, ◌++◌, Some, None, IfSome, Result, Ok, Err, OnOk, IfErr, sym, refl, ap, ◌∙◌, append-nil, length, slice_get}
use Rattle.std.proofs.lemmas.List.{length-append}
use Rattle.std.proofs.lemmas.Option.{none-some}
use Rattle.fleet_jobs.proofs.Rows.{at_last}
use Rattle.fleet_jobs.specs.declared.order.Ticket.{Ticket}
use Rattle.fleet_jobs.specs.declared.queue.Hand.{Hand}
use Rattle.fleet_jobs.specs.Fleets.{AreNumbered}
use Rattle.fleet_jobs.specs.Queue.{Message, put, took, tickets}

pub tickets_append : (ms ns : List Message) → tickets (ms ++ ns) ≡ tickets ms ++ tickets ns
tickets_append [] ns = refl
tickets_append (Some t ∷ ms) ns = ap (λ l. t ∷ l) (tickets_append ms ns)
tickets_append (None ∷ ms) ns = tickets_append ms ns

pub taken_more : (v w : Hand) (m : Message) → w ≡ took v m → IfSome m (λ t. tickets w.taken ≡ tickets v.taken ++ t ∷ [])
taken_more v w (Some t) is = ap (λ (u : Hand). tickets u.taken) is ∙ tickets_append v.taken (Some t ∷ [])
taken_more v w None is = tt

pub taken_no_more : (v w : Hand) (m : Message) → w ≡ took v m → m ≡ None → tickets w.taken ≡ tickets v.taken
taken_no_more v w m is e = ap (λ (u : Hand). tickets u.taken) (is ∙ ap (took v) e) ∙ (tickets_append v.taken (None ∷ []) ∙ append-nil (tickets v.taken))

pub given_more : (v w : Hand) (t : Ticket) → w ≡ put v (Some t) → tickets w.given ≡ tickets v.given ++ t ∷ []
given_more v w t is = ap (λ (u : Hand). tickets u.given) is ∙ tickets_append v.given (Some t ∷ [])

pub given_no_more : (v w : Hand) → w ≡ put v None → tickets w.given ≡ tickets v.given
given_no_more v w is = ap (λ (u : Hand). tickets u.given) is ∙ (tickets_append v.given (None ∷ []) ∙ append-nil (tickets v.given))

pub counted_more : (v w : Hand) (t : Ticket) → w ≡ put v (Some t) → length (tickets w.given) ≡ length (tickets v.given) + 1
counted_more v w t is = ap length (given_more v w t is) ∙ length-append (tickets v.given) (t ∷ [])

pub numbered_more : (ts us : List Ticket) (t : Ticket) → us ≡ ts ++ t ∷ [] → AreNumbered ts → t.number ≡ length ts → AreNumbered us
numbered_more ts us t more h is k u e =
    ⊎_elim (λ x. h k u x) (λ (x : (k ≡ length ts) × (t ≡ u)). ap (λ (v : Ticket). v.number) (sym x.1) ∙ (is ∙ sym x.0)) (at_last ts t u k (ap (λ l. slice_get l k) (sym more) ∙ e))

pub numbered_none : (ts : List Ticket) → ts ≡ [] → AreNumbered ts
numbered_none ts is k t e = absurd (none-some t (ap (λ l. slice_get l k) (sym is) ∙ e))

-- whether it was put or not, the message at which a worker ends adds no ticket
pub put_none : (v w : Hand) (r : Result (Unit {0}) Message) → OnOk r (w ≡ put v None) → IfErr r (λ m. (m ≡ None) × (w ≡ v)) → (tickets w.given ≡ tickets v.given) × (w.seats ≡ v.seats)
put_none v w (Ok u) ok err = (given_no_more v w ok, ap (λ (h : Hand). h.seats) ok)
put_none v w (Err m) ok err = (ap (λ (h : Hand). tickets h.given) err.1, ap (λ (h : Hand). h.seats) err.1)
