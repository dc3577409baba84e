-- Each move keeps the rule of the queue.
use Rattle.std.proofs.Common.{◌≡◌, ◌≢◌, ◌⊎◌, inl, inr, ℕ, ◌<◌, ◌+◌, zero, suc, true, false, true≢false, List, [], ◌∷◌, ◌++◌, length, set, sym, refl, ap, ◌∙◌, subst, ⊎_elim, append_assoc, arith, eqb, eq-eqb, ne_eqb}
use Rattle.std.proofs.lemmas.Bool.{cases_eq}
use mathlib.Core.Bool.{cond}
use mathlib.Core.Option.{some, some-ne-none, some-injective}
use lib.ListN.{get_elem?}
use Rattle.crossbeam_channel.specs.Fifo.{Pushes, Pops, Forks, Merges, Learns}
use Rattle.atomic_table.proofs.Lists.{at_set, at_snoc}
use Rattle.fleet_jobs.specs.declared.queue.Hand.{Hand}
use Rattle.fleet_jobs.specs.declared.queue.Part.{Part}
use Rattle.fleet_jobs.specs.Laws.{Shared}
use Rattle.fleet_jobs.specs.Queue.{Message, giver, worker, spent, part, put, took, one_seat_more, with_part, Taking, taking, messages, taken_by, Moment, GiverFits, WorkerFits, Fits, Queued, IsTaken}

below : {A : Type 0} → (l : List A) (i : ℕ) (a : A) → get_elem? l i ≡ some a → i < length l
below [] i a e = absurd (some-ne-none a (sym e))
below (x ∷ xs) zero a e = omega arith
below (x ∷ xs) (suc i) a e = omega (arith, below xs i a e)

at_end : {A : Type 0} → (l : List A) (a b : A) (j : ℕ) → get_elem? (l ++ a ∷ []) j ≡ some b → (get_elem? l j ≡ some b) ⊎ ((j ≡ length l) × (a ≡ b))
at_end [] a b zero e = inr (refl, some-injective a b e)
at_end [] a b (suc j) e = absurd (some-ne-none b (sym e))
at_end (x ∷ xs) a b zero e = inl e
at_end (x ∷ xs) a b (suc j) e = ⊎_elim (λ h. inl h) (λ h. inr (ap suc h.0, h.1)) (at_end xs a b j e)

abbrev All : (ℕ → Hand → Type 0) → List Hand → Type 0
All F views = (port : ℕ) (v : Hand) → get_elem? views port ≡ some v → F port v

all_set : (F : ℕ → Hand → Type 0) (views : List Hand) (port : ℕ) (w : Hand) → F port w → ((j : ℕ) (u : Hand) → j ≢ port → get_elem? views j ≡ some u → F j u) → All F (set views port w)
all_set F views port w mine others j u e = ⊎_elim (λ (x : (j ≡ port) × (w ≡ u)). subst (λ (y : ℕ × Hand). F y.0 y.1) (λ i. (sym x.0 i, x.1 i)) mine)
    (λ (x : (j ≢ port) × (get_elem? views j ≡ some u)). others j u x.0 x.1) (at_set views port j w u e)

-- the messages of one taking more
messages_push : (log : List Taking) (by : ℕ) (x : Message) → messages (log ++ taking by x ∷ []) ≡ messages log ++ x ∷ []
messages_push [] by x = refl
messages_push (t ∷ ts) by x = ap (λ l. t.message ∷ l) (messages_push ts by x)

pushed_at : (b : _) (t x : Message) (more less : List Message) → more ≡ less ++ x ∷ [] → cond b (t ∷ more) more ≡ cond b (t ∷ less) less ++ x ∷ []
pushed_at true t x more less e = ap (λ l. t ∷ l) e
pushed_at false t x more less e = e

taken_same : (log : List Taking) (by : ℕ) (x : Message) → taken_by by (log ++ taking by x ∷ []) ≡ taken_by by log ++ x ∷ []
taken_same [] by x = ap (λ b. cond b (x ∷ []) []) (eq-eqb by by refl)
taken_same (t ∷ ts) by x = pushed_at (eqb t.by by) (t.message) x (taken_by by (ts ++ taking by x ∷ [])) (taken_by by ts) (taken_same ts by x)

taken_else : (log : List Taking) (by seat : ℕ) (x : Message) → by ≢ seat → taken_by seat (log ++ taking by x ∷ []) ≡ taken_by seat log
taken_else [] by seat x n = ap (λ b. cond b (x ∷ []) []) (ne_eqb by seat n)
taken_else (t ∷ ts) by seat x n = ap (λ l. cond (eqb t.by seat) (t.message ∷ l) l) (taken_else ts by seat x n)

pub begins : Queued [] (giver 0 [] [] ∷ [])
begins =
    let m : Moment = record { owner = 0; who = λ s. 0; seats = 0; given = []; log = [] } in
    record {
      now = m;
      order = refl;
      above = λ s h. refl;
      fits = λ port v e. ⊎_elim (λ x. absurd (some-ne-none v (sym x)))
          (λ (x : (port ≡ 0) × (giver 0 [] [] ≡ v)). subst (λ (y : ℕ × Hand). Fits m y.0 y.1) (λ i. (sym x.0 i, x.1 i))
          ((λ g. record { port_is = refl; given_is = refl; seats_are = refl; parts = (λ i p a. absurd (some-ne-none p (sym a))); kept = (λ i p a. absurd (some-ne-none p (sym a))) }), λ w. absurd (true≢false (sym w))))
          (at_end [] (giver 0 [] []) v port e);
    }

pub puts : (n port : ℕ) (v : Hand) (x : Message) → v.gives ≡ true → Pushes Queued n port v x (λ w. w ≡ put v x)
puts n port v x may items views room h at =
    let was : Moment = h.now in
    let m : Moment = record { owner = was.owner; who = was.who; seats = was.seats; given = was.given ++ x ∷ []; log = was.log } in
    let mine : GiverFits was port v = (h.fits port v at).0 may in (
      put v x,
      record {
        now = m;
        order = ap (λ l. l ++ x ∷ []) h.order ∙ append_assoc (messages was.log) items (x ∷ []);
        above = h.above;
        fits = all_set (Fits m) views port (put v x) (
          (λ g. record { port_is = mine.port_is; given_is = ap (λ l. l ++ x ∷ []) mine.given_is; seats_are = mine.seats_are; parts = mine.parts; kept = mine.kept }),
          λ w. let f = (h.fits port v at).1 w in record { port_is = f.port_is; other = f.other; seated = f.seated; taken_is = f.taken_is },
        )
            (λ j u apart e. (
              (λ g. absurd (apart (((h.fits j u e).0 g).port_is ∙ sym mine.port_is))),
              λ w. let f = (h.fits j u e).1 w in record { port_is = f.port_is; other = f.other; seated = f.seated; taken_is = f.taken_is },
            ));
      },
      refl,
    )

pub takes : (port : ℕ) (v : Hand) → v.works ≡ true → Pops Queued port v (λ x w. w ≡ took v x)
takes port v may x items views h at =
    let was : Moment = h.now in
    let log : List Taking = was.log ++ taking v.seat x ∷ [] in
    let m : Moment = record { owner = was.owner; who = was.who; seats = was.seats; given = was.given; log = log } in
    let mine : WorkerFits was port v = (h.fits port v at).1 may in
    let giver_fits : (j : ℕ) (u : Hand) → GiverFits was j u → GiverFits m j u = λ j u f. record {
      port_is = f.port_is;
      given_is = f.given_is;
      seats_are = f.seats_are;
      parts = (λ i p a. f.parts i p a ∙ sym (taken_else was.log v.seat p.seat x (λ same. mine.other (sym mine.port_is ∙ ap was.who same ∙ (f.kept i p a).0))));
      kept = f.kept;
    } in (
      took v x,
      record {
        now = m;
        order = h.order ∙ (sym (append_assoc (messages was.log) (x ∷ []) items) ∙ ap (λ l. l ++ items) (sym (messages_push was.log v.seat x)));
        above = (λ s high. taken_else was.log v.seat s x (λ same. let low = mine.seated in absurd (omega arith)) ∙ h.above s high);
        fits = all_set (Fits m) views port (took v x) (
          (λ g. absurd (mine.other ((h.fits port v at).0 g).port_is)),
          λ w. record { port_is = mine.port_is; other = mine.other; seated = mine.seated; taken_is = ap (λ l. l ++ x ∷ []) mine.taken_is ∙ sym (taken_same was.log v.seat x) },
        )
            (λ j u apart e. (
              (λ g. giver_fits j u ((h.fits j u e).0 g)),
              λ w. let f = (h.fits j u e).1 w in record {
                port_is = f.port_is;
                other = f.other;
                seated = f.seated;
                taken_is = f.taken_is ∙ sym (taken_else was.log v.seat u.seat x (λ same. apart (sym f.port_is ∙ sym (ap was.who same) ∙ mine.port_is)));
              },
            ));
      },
      refl,
    )

-- the holder of one seat changes
abbrev moved : (ℕ → ℕ) → ℕ → ℕ → ℕ → ℕ
moved who seat port s = cond (eqb s seat) port (who s)

moved_here : (who : ℕ → ℕ) (seat port : ℕ) → moved who seat port seat ≡ port
moved_here who seat port = ap (λ b. cond b port (who seat)) (eq-eqb seat seat refl)

moved_else : (who : ℕ → ℕ) (seat port s : ℕ) → s ≢ seat → moved who seat port s ≡ who s
moved_else who seat port s n = ap (λ b. cond b port (who s)) (ne_eqb s seat n)

moved_to : (who : ℕ → ℕ) (seat port s : ℕ) → who s ≡ port → moved who seat port s ≡ port
moved_to who seat port s e = ⊎_elim (λ (x : s ≡ seat). ap (λ b. cond b port (who s)) (eq-eqb s seat x)) (λ (n : s ≢ seat). moved_else who seat port s n ∙ e) (cases_eq s seat)

pub forks : (port : ℕ) (v : Hand) → v.gives ≡ true → Forks Queued port v (one_seat_more v) (worker v.seats [])
forks port v may items views h at =
    let was : Moment = h.now in
    let mine : GiverFits was port v = (h.fits port v at).0 may in
    let vs : List Hand = set views port (one_seat_more v) in
    let m : Moment = record { owner = was.owner; who = moved was.who was.seats (length vs); seats = was.seats + 1; given = was.given; log = was.log } in
    let Old : ℕ → Hand → Type 0 = λ j u. Fits m j u × (j ≡ j) in
    let old : All Old vs = all_set Old views port (one_seat_more v) (
      (
        (λ g. record {
          port_is = mine.port_is;
          given_is = mine.given_is;
          seats_are = ap (λ k. k + 1) mine.seats_are;
          parts = mine.parts;
          kept = (λ i p a. let low = (mine.kept i p a).1 in (moved_else was.who was.seats (length vs) p.seat (λ same. absurd (omega arith)) ∙ (mine.kept i p a).0, omega arith));
        }),
        λ w. absurd (((h.fits port v at).1 w).other mine.port_is),
      ),
      refl,
    )
    (λ j u apart e. (
      (
        (λ g. absurd (apart (((h.fits j u e).0 g).port_is ∙ sym mine.port_is))),
        λ w. let f = (h.fits j u e).1 w in let low = f.seated in record {
          port_is = moved_else was.who was.seats (length vs) u.seat (λ same. absurd (omega arith)) ∙ f.port_is;
          other = f.other;
          seated = omega arith;
          taken_is = f.taken_is;
        },
      ),
      refl,
    )) in
    let there : port < length vs = below vs port (one_seat_more v) (set_there views port v (one_seat_more v) at) in
    record {
      now = m;
      order = h.order;
      above = (λ s high. h.above s (omega arith));
      fits = (λ j u e. ⊎_elim (λ x. (old j u x).0)
          (λ (x : (j ≡ length vs) × (worker v.seats [] ≡ u)). subst (λ (y : ℕ × Hand). Fits m y.0 y.1) (λ i. (sym x.0 i, x.1 i)) (
            (λ g. absurd (true≢false (sym g))),
            λ w. record {
              port_is = ap (moved was.who was.seats (length vs)) mine.seats_are ∙ moved_here was.who was.seats (length vs);
              other = (λ same. let is = mine.port_is in absurd (omega arith));
              seated = (let is = mine.seats_are in omega arith);
              taken_is = sym (h.above v.seats (let is = mine.seats_are in omega arith));
            },
          ))
          (at_end vs (worker v.seats []) u j e));
    }
  where
    set_there : (l : List Hand) (i : ℕ) (a b : Hand) → get_elem? l i ≡ some a → get_elem? (set l i b) i ≡ some b
    set_there [] i a b e = absurd (some-ne-none a (sym e))
    set_there (x ∷ xs) zero a b e = refl
    set_there (x ∷ xs) (suc i) a b e = set_there xs i a b e

pub merges : (port : ℕ) (v : Hand) (other : ℕ) (u : Hand) → v.gives ≡ true → u.works ≡ true → Merges Queued port v other u (with_part v u) spent
merges port v other u may works items views h at two at' =
    let was : Moment = h.now in
    let both : Hand = with_part v u in
    let mine : GiverFits was port v = (h.fits port v at).0 may in
    let vs : List Hand = set views port both in
    let there : get_elem? views other ≡ some u = ⊎_elim (λ x. absurd (two x.0)) (λ x. x.1) (at_set views port other both u at') in
    let theirs : WorkerFits was other u = (h.fits other u there).1 works in
    let m : Moment = record { owner = was.owner; who = moved was.who u.seat was.owner; seats = was.seats; given = was.given; log = was.log } in
    let Now : ℕ → Hand → Type 0 = λ j y. j ≢ other → Fits m j y in
    let now : All Now vs = all_set Now views port both
    (λ _. (
      (λ g. record {
        port_is = mine.port_is;
        given_is = mine.given_is;
        seats_are = mine.seats_are;
        parts = (λ i p a. ⊎_elim (λ x. mine.parts i p x) (λ (x : part u.seat u.taken ≡ p). subst (λ (q : Part). q.taken ≡ taken_by q.seat was.log) x theirs.taken_is) (at_snoc v.back (part u.seat u.taken) p i a));
        kept = (λ i p a. ⊎_elim (λ x. (moved_to was.who u.seat was.owner p.seat (mine.kept i p x).0, (mine.kept i p x).1))
            (λ (x : part u.seat u.taken ≡ p). subst (λ (q : Part). (moved was.who u.seat was.owner q.seat ≡ was.owner) × (q.seat < was.seats)) x (moved_here was.who u.seat was.owner, theirs.seated))
            (at_snoc v.back (part u.seat u.taken) p i a));
      }),
      λ w. absurd (((h.fits port v at).1 w).other mine.port_is),
    ))
    (λ j y apart e away. (
      (λ g. absurd (apart (((h.fits j y e).0 g).port_is ∙ sym mine.port_is))),
      λ w. let f = (h.fits j y e).1 w in record {
        port_is = moved_else was.who u.seat was.owner y.seat (λ same. away (sym f.port_is ∙ ap was.who same ∙ theirs.port_is)) ∙ f.port_is;
        other = f.other;
        seated = f.seated;
        taken_is = f.taken_is;
      },
    )) in
    record {
      now = m;
      order = h.order;
      above = h.above;
      fits = all_set (Fits m) vs other spent ((λ g. absurd (true≢false (sym g))), λ w. absurd (true≢false (sym w))) (λ j y apart e. now j y e apart);
    }

pub settles : (port : ℕ) (v : Hand) → v.gives ≡ true → Learns Queued port v (λ items. IsTaken v.seats v.given v.back items)
settles port v may items views h at =
    let mine : GiverFits h.now port v = (h.fits port v at).0 may in
    record {
      log = h.now.log;
      order = mine.given_is ∙ h.order;
      parts = mine.parts;
      above = (λ s high. h.above s (let is = mine.seats_are in omega arith));
    }

pub shares : (waiting : List Message) (views : List Hand) → Queued waiting views → Shared waiting views
shares waiting views h =
    record {
      given = h.now.given;
      log = h.now.log;
      order = h.order;
      giver = (λ port v at may. ((h.fits port v at).0 may).given_is);
      workers = (λ port v at may. ((h.fits port v at).1 may).taken_is);
      alone = (λ p q v w at at' may may' same. sym ((h.fits p v at).1 may).port_is ∙ (ap h.now.who same ∙ ((h.fits q w at').1 may').port_is));
    }
