-- Outcomes in their places.
use Rattle.std.proofs.Common.{◌≡◌, ◌≢◌, ⊎_elim, ℕ, ◌+◌, ◌<◌, zero, suc, List, [], ◌∷◌, ◌++◌, Option, Some, None, slice_get, sym, refl, ap, ◌∙◌, subst, append_assoc, append-nil, length, arith}
use Rattle.std.specs.List.{range_with_len}
use Rattle.std.proofs.lemmas.Bool.{cases_eq}
use Rattle.std.proofs.lemmas.List.{map-append, length-append, length-set}
use Rattle.std.proofs.lemmas.Slice.Zip.{all_zipped_more}
use Rattle.std.proofs.lemmas.Option.{none-some, same_Some}
use Rattle.fleet_jobs.specs.declared.order.Order.{Order}
use Rattle.fleet_jobs.specs.declared.order.Outcome.{Outcome}
use Rattle.fleet_jobs.specs.declared.order.Ticket.{Ticket}
use Rattle.fleet_jobs.specs.declared.queue.Hand.{Hand}
use Rattle.fleet_jobs.specs.declared.queue.Part.{Part}
use Rattle.fleet_jobs.specs.Answers.{Answer, IsOutcomeOf, AreOutcomesOf}
use Rattle.fleet_jobs.specs.Places.{AreEmpty, AreSettled, CameBack, put_in, put_all}
use Rattle.fleet_jobs.specs.Queue.{Message, part, seats_of, tickets, tickets_of, with_part, worker}
use Rattle.fleet_jobs.proofs.Rows.{at_last, last_there, has_left, within, set_here, set_read, set_else}

pub empty_none : (ps : List (Option Outcome)) → ps ≡ [] → AreEmpty ps
empty_none ps is n o e = none-some (Some o) (ap (λ l. slice_get l n) (sym is) ∙ e)

pub empty_more : (ps qs : List (Option Outcome)) → qs ≡ ps ++ None ∷ [] → AreEmpty ps → AreEmpty qs
empty_more ps qs is h n o e =
    ⊎_elim (λ x. h n o x) (λ (x : (n ≡ length ps) × (None ≡ Some o)). none-some o x.1) (at_last ps None (Some o) n (ap (λ l. slice_get l n) (sym is) ∙ e))

pub put_all_length : (os : List Outcome) (places : List (Option Outcome)) → length (put_all places os) ≡ length places
put_all_length [] places = refl
put_all_length (o ∷ os) places = put_all_length os (put_in places o) ∙ length-set places o.order (Some o)

range_next : (a n : ℕ) → range_with_len a (suc n) ≡ range_with_len a n ++ (a + n) ∷ []
range_next a zero = ap (λ k. k ∷ []) (omega arith)
range_next a (suc n) = ap (λ ks. a ∷ ks) (range_next (a + 1) n ∙ ap (λ k. range_with_len (a + 1) n ++ k ∷ []) (omega arith))

one_more : (n : ℕ) → suc n ≡ n + 1
one_more n = omega arith

zero_more : (n : ℕ) → n ≡ 0 + n
zero_more n = omega arith

seats_more : (back : List Part) (taken : List Message) → seats_of back ≡ range_with_len 0 (length back)
    → seats_of (back ++ part (length back) taken ∷ []) ≡ range_with_len 0 (length (back ++ part (length back) taken ∷ []))
seats_more back taken is =
    map-append (λ (p : Part). p.seat) back (part (length back) taken ∷ [])
    ∙ (ap (λ l. l ++ length back ∷ []) is
    ∙ (ap (λ k. range_with_len 0 (length back) ++ k ∷ []) (zero_more (length back))
    ∙ (sym (range_next 0 (length back))
    ∙ ap (range_with_len 0) (one_more (length back) ∙ sym (length-append back (part (length back) taken ∷ []))))))

tickets_more : (back : List Part) (p : Part) → tickets_of (back ++ p ∷ []) ≡ tickets_of back ++ tickets p.taken
tickets_more [] p = append-nil (tickets p.taken)
tickets_more (q ∷ qs) p = ap (λ l. tickets q.taken ++ l) (tickets_more qs p) ∙ sym (append_assoc (tickets q.taken) (tickets_of qs) (tickets p.taken))

-- so far these workers came back, from seat 0 on
pub record Joined (may : Order → Answer → Type 0) (first now : Hand) (places placed : List (Option Outcome)) : Type 0 where
  pub gives : now.gives ≡ first.gives
  pub given : now.given ≡ first.given
  pub seats : now.seats ≡ first.seats
  pub back : seats_of now.back ≡ range_with_len 0 (length now.back)
  pub len : length placed ≡ length places
  pub settled : AreEmpty places → AreSettled may (tickets_of now.back) placed

module _ (may : Order → Answer → Type 0) where
  settled_none : (places : List (Option Outcome)) → AreEmpty places → AreSettled may [] places
  settled_none places h = record {
    made = (λ n o e. absurd (h n o e));
    filled = (λ t k e low. absurd (none-some t e));
  }

  settled_one : (t : Ticket) (o : Outcome) (ts : List Ticket) (places : List (Option Outcome)) → IsOutcomeOf may t o → AreSettled may ts places → AreSettled may (ts ++ t ∷ []) (put_in places o)
  settled_one t o ts places is h =
      let still : (n : ℕ) (x : Outcome) → slice_get places n ≡ Some (Some x) → (y : Outcome) × (slice_get (put_in places o) n ≡ Some (Some y)) =
      λ n x e. ⊎_elim
      (λ (same : n ≡ o.order). (o, subst (λ m. slice_get (put_in places o) m ≡ Some (Some o)) (sym same) (set_here places o.order (Some o) (subst (λ m. m < length places) same (within places (Some x) n e)))))
      (λ (apart : n ≢ o.order). (x, set_else places o.order n (Some o) apart ∙ e))
      (cases_eq n o.order) in
      record {
        made = (λ n x e. ⊎_elim
            (λ (same : n ≡ o.order).
            let new : o ≡ x = same_Some o x (set_read places o.order (Some o) (Some x) (subst (λ m. slice_get (put_in places o) m ≡ Some (Some x)) same e)) in
            (t, length ts, last_there ts t, sym is.0 ∙ sym same, subst (λ y. IsOutcomeOf may t y) new is))
            (λ (apart : n ≢ o.order).
            let old = h.made n x (sym (set_else places o.order n (Some o) apart) ∙ e) in
            (old.0, old.1, has_left ts (t ∷ []) old.0 old.1 old.2, old.3, old.4))
            (cases_eq n o.order));
        filled = (λ u k e low. ⊎_elim
            (λ (x : slice_get ts k ≡ Some u). let old = h.filled u k x (omega (arith, low, length-set places o.order (Some o))) in still u.number old.0 old.1)
            (λ (x : (k ≡ length ts) × (t ≡ u)).
            let here : o.order ≡ u.number = is.0 ∙ ap (λ (v : Ticket). v.number) x.1 in
            (o, subst (λ m. slice_get (put_in places o) m ≡ Some (Some o)) here (set_here places o.order (Some o) (omega (arith, low, here, length-set places o.order (Some o))))))
            (at_last ts t u k e));
      }

  settled_all : (us : List Ticket) (os : List Outcome) (ts : List Ticket) (places : List (Option Outcome)) → AreOutcomesOf may us os → AreSettled may ts places → AreSettled may (ts ++ us) (put_all places os)
  settled_all [] [] ts places z h = subst (λ l. AreSettled may l places) (sym (append-nil ts)) h
  settled_all [] (o ∷ os) ts places z h = absurd z
  settled_all (u ∷ us) [] ts places z h = absurd z
  settled_all (u ∷ us) (o ∷ os) ts places z h =
      subst (λ l. AreSettled may l (put_all (put_in places o) os)) (append_assoc ts (u ∷ []) us) (settled_all us os (ts ++ u ∷ []) (put_in places o) z.1 (settled_one u o ts places z.0 h))

  pub joined_none : (first : Hand) (places : List (Option Outcome)) → first.back ≡ [] → Joined may first first places places
  joined_none first places none = record {
    gives = refl;
    given = refl;
    seats = refl;
    back = subst (λ b. seats_of b ≡ range_with_len 0 (length b)) (sym none) refl;
    len = refl;
    settled = (λ e. subst (λ b. AreSettled may (tickets_of b) places) (sym none) (settled_none places e));
  }

  joined_put : (first now : Hand) (places placed : List (Option Outcome)) (taken : List Message) (os : List Outcome) → Joined may first now places placed → AreOutcomesOf may (tickets taken) os
      → Joined may first (with_part now (worker (length now.back) taken)) places (put_all placed os)
  joined_put first now places placed taken os h z = record {
    gives = h.gives;
    given = h.given;
    seats = h.seats;
    back = seats_more now.back taken h.back;
    len = put_all_length os placed ∙ h.len;
    settled = (λ e. subst (λ l. AreSettled may l (put_all placed os)) (sym (tickets_more now.back (part (length now.back) taken))) (settled_all (tickets taken) os (tickets_of now.back) placed z (h.settled e)));
  }

  pub answers_more : (ts us : List Ticket) (t : Ticket) (os more : List Outcome) (o : Outcome) → us ≡ ts ++ t ∷ [] → more ≡ os ++ o ∷ [] → AreOutcomesOf may ts os → IsOutcomeOf may t o → AreOutcomesOf may us more
  answers_more ts us t os more o given answered h is = subst (λ (x : List Ticket × List Outcome). AreOutcomesOf may x.0 x.1) (λ i. (sym given i, sym answered i)) (all_zipped_more (IsOutcomeOf may) ts os t o h is)

  pub joined_more : (first now after : Hand) (places placed more : List (Option Outcome)) (seat : ℕ) → Joined may first now places placed → CameBack may seat now after placed more → seat ≡ length now.back → Joined may first after places more
  joined_more first now after places placed more seat h came is =
      subst (λ (x : Hand × List (Option Outcome)). Joined may first x.0 places x.1) (λ i. (sym (came.part_is ∙ ap (λ k. with_part now (worker k came.taken)) is) i, sym came.placed_is i)) (joined_put first now places placed came.taken came.outcomes h came.answers)

  pub back_more : (now after : Hand) (placed more : List (Option Outcome)) (seat : ℕ) → CameBack may seat now after placed more → length after.back ≡ length now.back + 1
  back_more now after placed more seat came = ap (λ (u : Hand). length u.back) came.part_is ∙ length-append now.back (part seat came.taken ∷ [])

-- the same where what runs the jobs is the promise's
pub joined_by : {J : Type 0} → (may : J → Order → Answer → Type 0) (mine theirs : J) (first now after : Hand) (places placed more : List (Option Outcome)) (seat : ℕ) → theirs ≡ mine → Joined (may mine) first now places placed
    → CameBack (may theirs) seat now after placed more → seat ≡ length now.back + 0 → Joined (may mine) first after places more
joined_by may mine theirs first now after places placed more seat same h came is =
    joined_more (may mine) first now after places placed more seat h (subst (λ j. CameBack (may j) seat now after placed more) same came) (omega (arith, is))
