-- Orders that were given, and what comes of them.
use Rattle.std.proofs.Common.{◌≡◌, inl, inr, ℕ, List, [], ◌∷◌, ◌++◌, map, length, take, Result, Ok, Err, IfOk, IfErr, Vec, vec_len, refl, sym, ap, subst, ◌∙◌, append_assoc, append-nil}
use Rattle.std.specs.List.{AllZip}
use Rattle.std.specs.declared.alloc.Global.{Global}
use Rattle.std.proofs.lemmas.List.{map-append}
use Rattle.fleet_jobs.specs.Answers.{Answer, AreOutcomesOf}
use Rattle.fleet_jobs.specs.declared.fault.Unfinished.{Unfinished}
use Rattle.fleet_jobs.specs.declared.order.Order.{Order}
use Rattle.fleet_jobs.specs.declared.order.Outcome.{Outcome}
use Rattle.fleet_jobs.specs.declared.order.Ticket.{Ticket}
use Rattle.fleet_shares.specs.Given.{behind, outcomes_in, settled, waiting_in, AreAnswers, IsAnswered, IsDue, IsPaid}
use Rattle.fleet_shares.specs.declared.answers.Due.{Due}
use Rattle.fleet_shares.specs.declared.answers.Due.TheVariants.{Waits, Ended}

abbrev order_of : Ticket → Order
order_of t = t.order

-- an order is accepted, of which the number is that of its ticket
pub accepted_one : (before after : List Ticket) (n : ℕ) (o : Order) → after ≡ before ++ record { number = n; order = o } ∷ [] → map (λ (t : Ticket). t.order) after ≡ map (λ (t : Ticket). t.order) before ++ o ∷ []
accepted_one before after n o e = ap (map order_of) e ∙ map-append order_of before (record { number = n; order = o } ∷ [])

pub accepted_none : (before after : List Ticket) → after ≡ before → map (λ (t : Ticket). t.order) after ≡ map (λ (t : Ticket). t.order) before ++ []
accepted_none before after e = ap (map order_of) e ∙ sym (append-nil (map order_of before))

-- one more waits, or has ended
waiting_more : (ds : List Due) (d : Due) → waiting_in (ds ++ d ∷ []) ≡ waiting_in ds ++ waiting_in (d ∷ [])
waiting_more [] d = refl
waiting_more (Waits o ∷ ds) d = ap (λ os. o ∷ os) (waiting_more ds d)
waiting_more (Ended a ∷ ds) d = waiting_more ds d

pub given_more : (before after : List Ticket) (ds pushed : List Due) (d : Due) → map (λ (t : Ticket). t.order) before ≡ waiting_in ds → map (λ (t : Ticket). t.order) after ≡ map (λ (t : Ticket). t.order) before ++ waiting_in (d ∷ [])
    → pushed ≡ ds ++ d ∷ [] → map (λ (t : Ticket). t.order) after ≡ waiting_in pushed
given_more before after ds pushed d was one more = one ∙ (ap (λ os. os ++ waiting_in (d ∷ [])) was ∙ (sym (waiting_more ds d) ∙ ap waiting_in (sym more)))

-- one answer more, whatever answers come behind it
pub paid_more : (may : Order → Answer → Type 0) (all ds left : List Due) (first xs after : List Outcome) (before pushed : List Answer) (due paid : Due) (a : Answer)
    → ((tail : List Answer) → AreAnswers may left xs tail → AreAnswers may all first (before ++ tail)) → left ≡ due ∷ ds → paid ≡ settled due xs → after ≡ behind due xs → IsPaid may paid a → pushed ≡ before ++ a ∷ []
    → (tail : List Answer) → AreAnswers may ds after tail → AreAnswers may all first (pushed ++ tail)
paid_more may all ds left first xs after before pushed due paid a was is one rest pays more tail h =
    subst (AreAnswers may all first) (sym (append_assoc before (a ∷ []) tail) ∙ ap (λ as'. as' ++ tail) (sym more))
    (was (a ∷ tail) (subst (λ ds'. AreAnswers may ds' xs (a ∷ tail)) (sym is) (subst (λ d. IsPaid may d a) one pays, subst (λ ys. AreAnswers may ds ys tail) rest h)))

pub paid_all : (may : Order → Answer → Type 0) (all left : List Due) (first xs : List Outcome) (answers : List Answer) → ((tail : List Answer) → AreAnswers may left xs tail → AreAnswers may all first (answers ++ tail)) → left ≡ []
    → AreAnswers may all first answers
paid_all may all left first xs answers was none = subst (AreAnswers may all first) (append-nil answers) (was [] (subst (λ ds. AreAnswers may ds xs []) (sym none) tt))

heads : (x y : Order) (xs ys : List Order) → x ∷ xs ≡ y ∷ ys → x ≡ y
heads x y xs ys e = cc

tails : (x y : Order) (xs ys : List Order) → x ∷ xs ≡ y ∷ ys → xs ≡ ys
tails x y xs ys e = cc

more_than_none : (x : Order) (xs : List Order) → [] ≡ x ∷ xs → ⊥
more_than_none x xs e = cc

none_of : (may : Order → Answer → Type 0) (ts : List Ticket) → AreOutcomesOf may (take 0 ts) []
none_of may [] = tt
none_of may (t ∷ ts) = tt

-- each order is answered
answered : (may own : Order → Answer → Type 0) (os : List Order) (ds : List Due) (ts : List Ticket) (xs : List Outcome) (as' : List Answer)
    → AllZip (IsDue own) os ds → map order_of ts ≡ waiting_in ds → AreOutcomesOf may (take (length xs) ts) xs → AreAnswers own ds xs as' → AllZip (IsAnswered may own) os as'
answered may own [] [] ts xs [] h e w p = tt
answered may own [] [] ts xs (a ∷ as') h e w p = absurd p
answered may own [] (d ∷ ds) ts xs as' h e w p = absurd h
answered may own (o ∷ os) [] ts xs as' h e w p = absurd h
answered may own (o ∷ os) (d ∷ ds) ts xs [] h e w p = absurd p
answered may own (o ∷ os) (Ended x ∷ ds) ts xs (a ∷ as') h e w p = (inr (subst (own o) (sym p.0) h.0), answered may own os ds ts xs as' h.1 e w p.1)
answered may own (o ∷ os) (Waits q ∷ ds) [] xs (a ∷ as') h e w p = absurd (more_than_none q (waiting_in ds) e)
answered may own (o ∷ os) (Waits q ∷ ds) (t ∷ ts) [] (a ∷ as') h e w p =
    (inr (subst (λ k. own k a) h.0 p.0), answered may own os ds ts [] as' h.1 (tails t.order q (map order_of ts) (waiting_in ds) e) (none_of may ts) p.1)
answered may own (o ∷ os) (Waits q ∷ ds) (t ∷ ts) (x ∷ xs) (a ∷ as') h e w p = (
  inl (subst (λ k. may k a) (heads t.order q (map order_of ts) (waiting_in ds) e ∙ h.0) (subst (may t.order) (sym p.0) w.0.1)),
  answered may own os ds ts xs as' h.1 (tails t.order q (map order_of ts) (waiting_in ds) e) w.1 p.1,
)

-- so many outcomes as there are tickets
whole : (may : Order → Answer → Type 0) (ts : List Ticket) (xs : List Outcome) → AreOutcomesOf may ts xs → AreOutcomesOf may (take (length xs) ts) xs
whole may [] [] a = tt
whole may [] (x ∷ xs) a = absurd a
whole may (t ∷ ts) [] a = absurd a
whole may (t ∷ ts) (x ∷ xs) a = (a.0, whole may ts xs a.1)

-- however a fleet ends, its outcomes are those of the first orders that it accepted
outcomes_so : (may : Order → Answer → Type 0) (ts : List Ticket) (r : Result (Vec Outcome Global) Unfinished) → IfOk r (λ xs. AreOutcomesOf may ts xs.items)
    → IfErr r (λ e. AreOutcomesOf may (take (vec_len e.outcomes) ts) e.outcomes.items) → AreOutcomesOf may (take (length (outcomes_in r)) ts) (outcomes_in r)
outcomes_so may ts (Ok xs) all some = whole may ts xs.items all
outcomes_so may ts (Err x) all some = subst (λ n. AreOutcomesOf may (take n ts) x.outcomes.items) x.outcomes.ok.0 some

-- and each order is answered
pub answered_by : {J : Type 0} (may_of : J → Order → Answer → Type 0) (runner later own : J) (os : List Order) (ds : List Due) (ts : List Ticket) (r : Result (Vec Outcome Global) Unfinished) (xs : List Outcome) (as' : List Answer) → later ≡ runner
    → AllZip (IsDue (may_of own)) os ds → map (λ (t : Ticket). t.order) ts ≡ waiting_in ds → IfOk r (λ xs. AreOutcomesOf (may_of later) ts xs.items) → IfErr r (λ e. AreOutcomesOf (may_of later) (take (vec_len e.outcomes) ts) e.outcomes.items)
    → xs ≡ outcomes_in r → AreAnswers (may_of own) ds xs as' → AllZip (IsAnswered (may_of runner) (may_of own)) os as'
answered_by may_of runner later own os ds ts r xs as' same h e all some is p =
    subst (λ k. AllZip (IsAnswered (may_of k) (may_of own)) os as') same
    (answered (may_of later) (may_of own) os ds ts (outcomes_in r) as' h e (outcomes_so (may_of later) ts r all some) (subst (λ ys. AreAnswers (may_of own) ds ys as') is p))
