-- What there is when all workers have ended.
use Rattle.std.proofs.Common.{◌≡◌, ◌≢◌, ◌⊎◌, inl, inr, ⊎_elim, true, false, ℕ, ◌+◌, ◌<◌, ◌≤◌, zero, suc, List, [], ◌∷◌, ◌++◌, take, drop, Option, Some, None, MatchOption, slice_get, sym, refl, ap, ◌∙◌, subst, length, arith, eqb, eq-eqb}
use Rattle.std.specs.List.{range_with_len}
use mathlib.Core.Bool.{Bool, cond}
use mathlib.Core.Option.{some, some-ne-none, some-injective}
use lib.ListN.{get_elem?}
use Rattle.std.proofs.lemmas.Bool.{cases_eq, cases_lt}
use Rattle.std.proofs.lemmas.List.{take_all}
use Rattle.std.proofs.lemmas.Option.{none-some, same_Some}
use Rattle.fleet_jobs.specs.declared.order.Order.{Order}
use Rattle.fleet_jobs.specs.declared.order.Outcome.{Outcome}
use Rattle.fleet_jobs.specs.declared.order.Ticket.{Ticket}
use Rattle.fleet_jobs.specs.declared.queue.Hand.{Hand}
use Rattle.fleet_jobs.specs.declared.queue.Part.{Part}
use Rattle.fleet_jobs.specs.Answers.{Answer, IsOutcomeOf, AreOutcomesOf}
use Rattle.fleet_jobs.specs.Fleets.{AreNumbered, LeavesWaiting}
use Rattle.fleet_jobs.specs.Places.{AreEmpty, AreSettled, front}
use Rattle.fleet_jobs.specs.Queue.{Message, Taking, messages, taken_by, tickets, tickets_of, seats_of, ArePartsOf, NoneAbove, IsTaken}
use Rattle.fleet_jobs.proofs.Rows.{Has, has_left, has_right, has_split, there, within}
use Rattle.fleet_jobs.proofs.Tickets.{tickets_append}

-- a ticket of what one seat took is one of what was taken
one_more : (m : Message) (ms : List Message) (t : Ticket) → Has (tickets ms) t → Has (tickets (m ∷ ms)) t
one_more (Some u) ms t h = (suc h.0, h.1)
one_more None ms t h = h

first_is : (u t : Ticket) (k : ℕ) → slice_get (u ∷ []) k ≡ Some t → u ≡ t
first_is u t zero e = same_Some u t e
first_is u t (suc k) e = absurd (none-some t e)

first_or : (m : Message) (ms ns : List Message) (t : Ticket) → (Has (tickets ms) t → Has (tickets ns) t) → Has (tickets (m ∷ ms)) t → Has (tickets (m ∷ ns)) t
first_or (Some u) ms ns t f h = ⊎_elim (λ (x : Has (u ∷ []) t). (zero, ap Some (first_is u t x.0 x.1))) (λ (x : Has (tickets ms) t). let y = f x in (suc y.0, y.1)) (has_split (u ∷ []) (tickets ms) t h.0 h.1)
first_or None ms ns t f h = f h

of_seat : (b : Bool) (m : Message) (ms ns : List Message) (t : Ticket) → (Has (tickets ms) t → Has (tickets ns) t) → Has (tickets (cond b (m ∷ ms) ms)) t → Has (tickets (m ∷ ns)) t
of_seat true m ms ns t f h = first_or m ms ns t f h
of_seat false m ms ns t f h = one_more m ns t (f h)

taken_has : (log : List Taking) (seat : ℕ) (t : Ticket) → Has (tickets (taken_by seat log)) t → Has (tickets (messages log)) t
taken_has [] seat t h = h
taken_has (x ∷ xs) seat t h = of_seat (eqb x.by seat) (x.message) (taken_by seat xs) (messages xs) t (taken_has xs seat t) h

-- a ticket that was taken was taken from some seat
more_of : (b : Bool) (m : Message) (ms : List Message) (t : Ticket) → Has (tickets ms) t → Has (tickets (cond b (m ∷ ms) ms)) t
more_of true m ms t h = one_more m ms t h
more_of false m ms t h = h

abbrev IsBySome : List Taking → Ticket → Type 0
IsBySome log t = (seat : ℕ) × Has (tickets (taken_by seat log)) t

by_first : (by : ℕ) (m : Message) (ms : List Message) (t : Ticket) → Has (tickets (m ∷ ms)) t → Has (tickets (cond (eqb by by) (m ∷ ms) ms)) t
by_first by m ms t h = subst (λ b. Has (tickets (cond b (m ∷ ms) ms)) t) (sym (eq-eqb by by refl)) h

head_is : (m : Message) (ms ns : List Message) (t : Ticket) → Has (tickets (m ∷ ms)) t → Has (tickets (m ∷ ns)) t ⊎ Has (tickets ms) t
head_is (Some u) ms ns t h = ⊎_elim (λ (x : Has (u ∷ []) t). inl (x.0, has_left (u ∷ []) (tickets ns) t x.0 x.1)) (λ (x : Has (tickets ms) t). inr x) (has_split (u ∷ []) (tickets ms) t h.0 h.1)
head_is None ms ns t h = inr h

taken_by_some : (log : List Taking) (t : Ticket) → Has (tickets (messages log)) t → IsBySome log t
taken_by_some [] t h = (0, h)
taken_by_some (x ∷ xs) t h = ⊎_elim
    (λ (a : Has (tickets (x.message ∷ taken_by x.by xs)) t). (x.by, by_first x.by x.message (taken_by x.by xs) t a))
    (λ (a : Has (tickets (messages xs)) t). let s = taken_by_some xs t a in (s.0, more_of (eqb x.by s.0) (x.message) (taken_by s.0 xs) t s.1))
    (head_is x.message (messages xs) (taken_by x.by xs) t h)

-- the tickets of the parts that are back are those that were taken
parts_have : (log : List Taking) (back : List Part) (t : Ticket) (k : ℕ) → ArePartsOf log back → slice_get (tickets_of back) k ≡ Some t → Has (tickets (messages log)) t
parts_have log [] t k parts e = absurd (none-some t e)
parts_have log (p ∷ ps) t k parts e = ⊎_elim
    (λ (x : Has (tickets p.taken) t). taken_has log p.seat t (subst (λ ms. Has (tickets ms) t) (parts 0 p refl) x))
    (λ (x : Has (tickets_of ps) t). parts_have log ps t x.0 (λ i q a. parts (suc i) q a) x.1)
    (has_split (tickets p.taken) (tickets_of ps) t k e)

nil_cons : {X : Type 0} → {x : X} {xs : List X} → [] ≡ x ∷ xs → ⊥
nil_cons {X} {x} {xs} e = none-some x (ap (λ l. slice_get l 0) e)

heads : {X : Type 0} → {x y : X} {xs ys : List X} → x ∷ xs ≡ y ∷ ys → x ≡ y
heads {X} {x} {y} {xs} {ys} e = same_Some x y (ap (λ l. slice_get l 0) e)

tails : {X : Type 0} → {x y : X} {xs ys : List X} → x ∷ xs ≡ y ∷ ys → xs ≡ ys
tails e = ap (drop 1) e

take_length : {X : Type 0} → (xs ys : List X) → take (length xs) (xs ++ ys) ≡ xs
take_length [] ys = refl
take_length (x ∷ xs) ys = ap (λ l. x ∷ l) (take_length xs ys)

take_front : {X : Type 0} → (all xs ys : List X) (n : ℕ) → all ≡ xs ++ ys → length xs ≡ n → take n all ≡ xs
take_front all xs ys n is long = ap (λ l. take n l) is ∙ (ap (λ k. take k (xs ++ ys)) (sym long) ∙ take_length xs ys)

-- the part of a seat is back
abbrev IsPartAt : List Part → ℕ → Type 0
IsPartAt back seat = (i : ℕ) × (p : Part) × (get_elem? back i ≡ some p) × (p.seat ≡ seat)

part_at : (back : List Part) (a n seat : ℕ) → seats_of back ≡ range_with_len a n → a ≤ seat → seat < a + n → IsPartAt back seat
part_at back a zero seat is low high = absurd (omega arith)
part_at [] a (suc n) seat is low high = absurd (nil_cons is)
part_at (p ∷ ps) a (suc n) seat is low high = ⊎_elim
    (λ (x : seat ≡ a). (0, p, refl, heads is ∙ sym x))
    (λ (x : seat ≡ a → ⊥). let r = part_at ps (a + 1) n seat (tails is) (omega (arith, x)) (omega arith) in (suc r.0, r.1, r.2, r.3))
    (cases_eq seat a)

part_has : (log : List Taking) (back : List Part) (t : Ticket) (i : ℕ) (p : Part) → ArePartsOf log back → get_elem? back i ≡ some p → Has (tickets (taken_by p.seat log)) t → Has (tickets_of back) t
part_has log [] t i p parts at h = absurd (some-ne-none p (sym at))
part_has log (q ∷ qs) t zero p parts at h =
    let mine : Has (tickets p.taken) t = subst (λ ms. Has (tickets ms) t) (sym (parts 0 p at)) h in
    let here : Has (tickets q.taken) t = subst (λ (r : Part). Has (tickets r.taken) t) (sym (some-injective q p at)) mine in
    (here.0, has_left (tickets q.taken) (tickets_of qs) t here.0 here.1)
part_has log (q ∷ qs) t (suc i) p parts at h = has_right (tickets q.taken) (tickets_of qs) t (part_has log qs t i p (λ j r a. parts (suc j) r a) at h)

log_back : (log : List Taking) (back : List Part) (seats : ℕ) (t : Ticket) → ArePartsOf log back → NoneAbove seats log → seats_of back ≡ range_with_len 0 seats → Has (tickets (messages log)) t → Has (tickets_of back) t
log_back log back seats t parts above all h =
    let by = taken_by_some log t h in
    ⊎_elim
    (λ (low : by.0 < seats).
    let at = part_at back 0 seats by.0 all (omega arith) (omega (arith, low)) in
    part_has log back t at.0 at.1 parts at.2 (subst (λ s. Has (tickets (taken_by s log)) t) (sym at.3) by.1))
    (λ (high : seats ≤ by.0). absurd (let none = subst (λ ms. Has (tickets ms) t) (above by.0 high) by.1 in none-some t none.1))
    (cases_lt by.0 seats)

-- what was taken is a beginning of what was given
begins : (given taken waiting : List Message) (t : Ticket) (k : ℕ) → given ≡ taken ++ waiting → slice_get (tickets taken) k ≡ Some t → slice_get (tickets given) k ≡ Some t
begins given taken waiting t k is e = ap (λ l. slice_get l k) (ap tickets is ∙ tickets_append taken waiting) ∙ has_left (tickets taken) (tickets waiting) t k e

-- outcomes up to the first empty place
front_at : (places : List (Option Outcome)) (k : ℕ) → k < length (front places) → (o : Outcome) × (slice_get places k ≡ Some (Some o))
front_at [] k low = absurd (omega arith)
front_at (None ∷ ps) k low = absurd (omega arith)
front_at (Some o ∷ ps) zero low = (o, refl)
front_at (Some o ∷ ps) (suc k) low = front_at ps k (omega arith)

front_end : (places : List (Option Outcome)) (o : Outcome) → slice_get places (length (front places)) ≡ Some (Some o) → ⊥
front_end [] o e = none-some (Some o) e
front_end (None ∷ ps) o e = none-some o (same_Some None (Some o) e)
front_end (Some x ∷ ps) o e = front_end ps o e

front_short : (places : List (Option Outcome)) → length (front places) ≤ length places
front_short [] = omega arith
front_short (None ∷ ps) = omega arith
front_short (Some o ∷ ps) = let h = front_short ps in omega (arith, h)

module _ (may : Order → Answer → Type 0) where
  -- each outcome is of the ticket of its place
  abbrev AreHome : List Ticket → List (Option Outcome) → Type 0
  AreHome ts places = (n : ℕ) (o : Outcome) → slice_get places n ≡ Some (Some o) → MatchOption (slice_get ts n) ⊥ (λ t. IsOutcomeOf may t o)

  zipped : (places : List (Option Outcome)) (ts : List Ticket) → AreHome ts places → AreOutcomesOf may (take (length (front places)) ts) (front places)
  zipped [] ts h = tt
  zipped (None ∷ ps) ts h = tt
  zipped (Some o ∷ ps) [] h = absurd (h 0 o refl)
  zipped (Some o ∷ ps) (t ∷ ts) h = (h 0 o refl, zipped ps ts (λ n p e. h (suc n) p e))

  -- a ticket that is back stands in the place of its number among those given
  back_home : (given : List Message) (back : List Part) (waiting : List Message) (log : List Taking) (t : Ticket) (k : ℕ) → given ≡ messages log ++ waiting → ArePartsOf log back → AreNumbered (tickets given)
      → slice_get (tickets_of back) k ≡ Some t → (slice_get (tickets given) t.number ≡ Some t) × (t.number < length (tickets (messages log)))
  back_home given back waiting log t k is parts numbered e =
      let at = parts_have log back t k parts e in
      let in' = begins given (messages log) waiting t at.0 is at.1 in
      let number : t.number ≡ at.0 = numbered at.0 t in' in (
        subst (λ n. slice_get (tickets given) n ≡ Some t) (sym number) in',
        omega (arith, number, within (tickets (messages log)) t at.0 at.1),
      )

  home : (seats : ℕ) (given : List Message) (back : List Part) (waiting : List Message) (places : List (Option Outcome)) → IsTaken seats given back waiting → AreNumbered (tickets given) → AreSettled may (tickets_of back) places
      → AreOutcomesOf may (take (length (front places)) (tickets given)) (front places)
  home seats given back waiting places taken numbered settled = zipped places (tickets given) (λ n o e.
      let m = settled.made n o e in
      let at = back_home given back waiting taken.log m.0 m.1 taken.order taken.parts numbered m.2 in
      let here : slice_get (tickets given) n ≡ Some m.0 = subst (λ k. slice_get (tickets given) k ≡ Some m.0) m.3 at.0 in
      subst (λ x. MatchOption x ⊥ (λ t. IsOutcomeOf may t o)) (sym here) m.4)

  -- the places that are filled are those of the tickets that were taken
  counted : (seats : ℕ) (given : List Message) (back : List Part) (waiting : List Message) (places : List (Option Outcome)) (taken : IsTaken seats given back waiting) → AreNumbered (tickets given) → AreSettled may (tickets_of back) places
      → seats_of back ≡ range_with_len 0 seats → length places ≡ length (tickets given) → length (tickets (messages taken.log)) ≡ length (front places)
  counted seats given back waiting places taken numbered settled all long =
      ⊎_elim
      (λ (less : length (tickets (messages taken.log)) < length (front places)). absurd (
      let o = front_at places (length (tickets (messages taken.log))) less in
      let m = settled.made (length (tickets (messages taken.log))) o.0 o.1 in
      let at = back_home given back waiting taken.log m.0 m.1 taken.order taken.parts numbered m.2 in
      omega (arith, at.1, m.3)))
      (λ (more : length (front places) ≤ length (tickets (messages taken.log))). ⊎_elim
      (λ (less : length (front places) < length (tickets (messages taken.log))). absurd (
      let t = there (tickets (messages taken.log)) (length (front places)) less in
      let in' = begins given (messages taken.log) waiting t.0 (length (front places)) taken.order t.1 in
      let number : t.0.number ≡ length (front places) = numbered (length (front places)) t.0 in' in
      let back' = log_back taken.log back seats t.0 taken.parts taken.above all (length (front places), t.1) in
      let low : t.0.number < length places = omega (arith, long, number, within (tickets given) t.0 (length (front places)) in') in
      let o = settled.filled t.0 back'.0 back'.1 low in
      front_end places o.0 (subst (λ n. slice_get places n ≡ Some (Some o.0)) number o.1)))
      (λ (same : length (tickets (messages taken.log)) ≤ length (front places)). omega (arith, more, same))
      (cases_lt (length (front places)) (length (tickets (messages taken.log)))))
      (cases_lt (length (tickets (messages taken.log))) (length (front places)))

  -- so what was left waits
  leaves : (giver : Hand) (workers : ℕ) (accepted : List Ticket) (waiting : List Message) (places : List (Option Outcome)) → IsTaken giver.seats giver.given giver.back waiting → AreNumbered (tickets giver.given) → AreSettled may (tickets_of giver.back) places
      → seats_of giver.back ≡ range_with_len 0 workers → giver.seats ≡ workers → tickets giver.given ≡ accepted → length places ≡ length (tickets giver.given) → length (front places) < length places
      → LeavesWaiting giver workers accepted (length (front places))
  leaves giver workers accepted waiting places taken numbered settled all seats is long short =
      let ran = counted giver.seats giver.given giver.back waiting places taken numbered settled (all ∙ ap (range_with_len 0) (sym seats)) long in
      let parts : accepted ≡ tickets (messages taken.log) ++ tickets waiting = sym is ∙ (ap tickets taken.order ∙ tickets_append (messages taken.log) waiting) in
      record {
        log = taken.log;
        waiting = waiting;
        given = is;
        order = taken.order;
        ended = all;
        parts = taken.parts;
        above = subst (λ n. NoneAbove n taken.log) seats taken.above;
        taken = sym (take_front accepted (tickets (messages taken.log)) (tickets waiting) (length (front places)) parts ran);
        left = omega (arith, short, long, ap length is);
      }

-- all that is known when a fleet has ended
pub record HasEnded (may : Order → Answer → Type 0) (giver : Hand) (accepted : List Ticket) (workers : ℕ) (places : List (Option Outcome)) (os : List Outcome) : Type 0 where
  pub waiting : List Message
  pub taken : IsTaken giver.seats giver.given giver.back waiting
  pub given : tickets giver.given ≡ accepted
  pub numbered : AreNumbered (tickets giver.given)
  pub settled : AreSettled may (tickets_of giver.back) places
  pub back : seats_of giver.back ≡ range_with_len 0 workers
  pub seats : giver.seats ≡ workers
  pub long : length places ≡ length (tickets giver.given)
  pub front_is : os ≡ front places

-- its state before, and what its calls say: the giver before and after, the places as they lay, were lent and came back
pub has_ended : {J : Type 0} → (may : J → Order → Answer → Type 0) (runner mine : J) (before after : Hand) (accepted : List Ticket) (workers threads n : ℕ) (old lent placed : List (Option Outcome)) (os : List Outcome)
    → runner ≡ mine → tickets before.given ≡ accepted → threads ≡ workers
    → length (tickets before.given) ≡ n → AreNumbered (tickets before.given) → AreEmpty old → before.seats ≡ threads
    → lent ≡ old → length lent ≡ n
    → tickets after.given ≡ tickets before.given → after.seats ≡ before.seats → seats_of after.back ≡ range_with_len 0 threads → (waiting : List Message) × IsTaken after.seats after.given after.back waiting
    → length placed ≡ length lent → (AreEmpty lent → AreSettled (may runner) (tickets_of after.back) placed)
    → os ≡ front (take n (placed ++ drop (length placed) old))
    → HasEnded (may mine) after accepted workers placed os
has_ended may runner mine before after accepted workers threads n old lent placed os run view staff count numbered empty seats lend all given kept back taken len settled is = record {
  waiting = taken.0;
  taken = taken.1;
  given = given ∙ view;
  numbered = subst AreNumbered (sym given) numbered;
  settled = subst (λ r. AreSettled (may r) (tickets_of after.back) placed) run (settled (subst AreEmpty (sym lend) empty));
  back = back ∙ ap (range_with_len 0) staff;
  seats = kept ∙ (seats ∙ staff);
  long = len ∙ (all ∙ (sym count ∙ ap length (sym given)));
  front_is = is ∙ ap front (take_front (placed ++ drop (length placed) old) placed (drop (length placed) old) n refl (len ∙ all));
}

pub first_of : (may : Order → Answer → Type 0) (giver : Hand) (accepted : List Ticket) (workers : ℕ) (places : List (Option Outcome)) (os : List Outcome) → HasEnded may giver accepted workers places os → AreOutcomesOf may (take (length os) accepted) os
first_of may giver accepted workers places os h =
    subst (λ (x : List Ticket × List Outcome). AreOutcomesOf may (take (length x.1) x.0) x.1) (λ i. (h.given i, sym h.front_is i)) (home may giver.seats giver.given giver.back h.waiting places h.taken h.numbered h.settled)

pub all_of : (may : Order → Answer → Type 0) (giver : Hand) (accepted : List Ticket) (workers : ℕ) (places : List (Option Outcome)) (os : List Outcome) → HasEnded may giver accepted workers places os → length os ≡ length places → AreOutcomesOf may accepted os
all_of may giver accepted workers places os h whole =
    subst (λ ts. AreOutcomesOf may ts os) (take_all (length os) accepted (omega (arith, whole, h.long, ap length h.given))) (first_of may giver accepted workers places os h)

pub left_of : (may : Order → Answer → Type 0) (giver : Hand) (accepted : List Ticket) (workers : ℕ) (places : List (Option Outcome)) (os : List Outcome) → HasEnded may giver accepted workers places os → length os ≢ length places → LeavesWaiting giver workers accepted (length os)
left_of may giver accepted workers places os h short =
    let same : length (front places) ≡ length os = ap length (sym h.front_is) in
    let low : length (front places) < length places = omega (arith, front_short places, same, short) in
    subst (λ n. LeavesWaiting giver workers accepted n) same (leaves may giver workers accepted h.waiting places h.taken h.numbered h.settled h.back h.seats h.given h.long low)
