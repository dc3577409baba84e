-- A run that is under way may stop, also while its call is in flight: what is left is a mirror of the master. So is what a stop at any
-- moment of a run leaves.
use Rattle.std.proofs.Common.{◌≡◌, ◌≢◌, ◌⊎◌, inl, inr, ◌==◌, ℕ, Bool, true, false, List, [], ◌∷◌, ◌++◌, map, None, if◌then◌else◌, refl, sym, ap, subst, ◌∙◌}
use Rattle.std.proofs.lemmas.List.{append-nil, append_assoc}
use Rattle.std.specs.Option.{option_map_or}
use Rattle.node_base.specs.Tree.{PathMap}
use Rattle.fleet_disk.specs.Image.{Image}
use Rattle.fleet_disk.specs.Rules.{LeavesOnly}
use Rattle.repo_core.specs.Repository.{Repository}
use Rattle.repo_store.specs.Journal as journal
use Rattle.sync_core.specs.declared.answer.Answer.{Answer}
use Rattle.sync_core.specs.declared.state.JobState.{JobState}
use Rattle.sync_core.specs.Mirror.{Call, mirror_with, refusal, entry_of, revisions_by}
use Rattle.sync_core.specs.Jobs.{Order, begun}
use Rattle.sync_core.specs.Deeds.{Deed, Calls, AsksIdentity, AsksLatest, Fetches, FetchesProps, Ends}
use Rattle.sync_core.specs.Copies.{Outcome, outcome_of}
use Rattle.sync_core.specs.Copies as kept
use Rattle.sync_core.specs.States.{deed_in, after, Follows}
use Rattle.sync_core.specs.Hearing.{StopsInFlight}
use Rattle.sync_core.specs.World.{Origin, World, Event, At, Happening, Begin, Stop, StopAfter, MayHappen, run, IsRun, world_after, room_after, stopped}
use Rattle.sync_core.specs.World as world
use Rattle.sync_core.specs.Law.{Starts, Holds, EveryRun}
use Rattle.sync_job.specs.declared.report.Told.{Told}
use Rattle.sync_job.specs.Said.{Spoken, Acted}
use Rattle.sync_job.specs.Mirrors.{MirrorNow, mirror_in, repository_by, Keeps}
use Rattle.sync_job.specs.Alone.{begun as opened}
use Rattle.sync_job.specs.Masters.{IsTrue}
use Rattle.sync_job.specs.Worlds.{IsAnswered, Serves, Happens, StandsAfter}
use Rattle.sync_job.specs.Fronts.{replayed, HasCome, Working, Doubtful, KeepsFront, WentAt, Moving, accepted_by, counted_by}
use Rattle.sync_job.specs.Stops.{IsReached, IsMirrorLeft, StopsAsMirror, OpensAgain}
use Rattle.sync_job.proofs.Stores.{sure}
use Rattle.sync_job.proofs.Fronts.{replayed-append, ends_keep_all, none_counts, come_stays, come_on, went_at, moving_by, stayed, IsKeptNow}
use Rattle.sync_job.proofs.Worlds.{WorldLaws, IsUnderWay, begins, goes_on, run-append, is_run-append, at_rooms, may_at, is_room, revisions_in, no_one, event_of, comes_on}

-- what is reached after more events is reached
pub sooner : (w : World) (shaped : ℕ → Bool) (events more : List Event) (at : Origin → Type 0) (r : Repository) → IsReached w shaped (events ++ more) at r → IsReached w shaped events at r
sooner w shaped events more at r x =
    let e : (events ++ more) ++ x.more ≡ events ++ (more ++ x.more) = append_assoc events more x.more in
    let k = x.stands in
    record {
      more = more ++ x.more;
      stands = record {
        happens = subst (λ es. IsRun w es) e k.happens;
        room = k.room;
        alone = subst (λ es. (run w es).rooms ≡ k.room ∷ []) e k.alone;
        holds = subst (λ es. Holds (run w es).origin (shaped 0) k.room) e k.holds;
        master = subst (λ es. at (run w es).origin) e k.master;
        mirror = k.mirror;
        there = k.there;
        same = k.same;
      };
      nobody = x.nobody;
    }

-- a run that is under way may stop
pub stops : WorldLaws → (w : World) (shaped : ℕ → Bool) (events : List Event) (at : Origin → Type 0) (stands : MirrorNow → Type 0) (s : JobState) (trees : List PathMap) → Starts w shaped → (u : IsUnderWay w events at stands s trees) → IsReached w shaped events at u.mirror.repository
stops laws w shaped events at stands s trees starts u =
    let e : run w (events ++ At 0 Stop ∷ []) ≡ world_after (run w events) (At 0 Stop) = run-append w events (At 0 Stop ∷ []) in
    let is : IsRun w (events ++ At 0 Stop ∷ []) = is_run-append w events (At 0 Stop ∷ []) u.happens (may_at (run w events) u.room Stop u.alone tt, tt) in
    let one : (run w (events ++ At 0 Stop ∷ [])).rooms ≡ room_after (run w events).origin u.room Stop ∷ [] = ap (λ v. v.rooms) e ∙ at_rooms (run w events) u.room Stop u.alone in
    record {
      more = At 0 Stop ∷ [];
      stands = record {
        happens = is;
        room = room_after (run w events).origin u.room Stop;
        alone = one;
        holds = laws.mirrors w shaped (events ++ At 0 Stop ∷ []) starts is 0 (room_after (run w events).origin u.room Stop) (is_room (run w (events ++ At 0 Stop ∷ [])) (room_after (run w events).origin u.room Stop) one);
        master = subst (λ v. at v.origin) (sym e) u.master;
        mirror = opened u.mirror.repository;
        there = refl;
        same = ap (λ m. mirror_with m.revisions None) u.same;
      };
      nobody = refl;
    }

-- and so it may while its call is in flight, whose entry stands then
pub stops_in_flight : WorldLaws → StopsInFlight → (w : World) (shaped : ℕ → Bool) (events : List Event) (at : Origin → Type 0) (stands : MirrorNow → Type 0) (s : JobState) (trees : List PathMap) (call : Call) → Starts w shaped → (u : IsUnderWay w events at stands s trees)
    → deed_in s ≡ Calls call → refusal (mirror_in u.mirror) 0 call ≡ None → IsReached w shaped events at (repository_by u.mirror.repository call)
stops_in_flight laws flight w shaped events at stands s trees call starts u d free =
    let what : Happening = StopAfter 0 call in
    let o : Origin = (run w events).origin in
    let may : MayHappen o u.room what = flight o u.room 0 u.job s call u.seated u.follows (sym d) (ap (λ m. refusal m 0 call) u.same ∙ free) in
    let e : run w (events ++ At 0 what ∷ []) ≡ world_after (run w events) (At 0 what) = run-append w events (At 0 what ∷ []) in
    let is : IsRun w (events ++ At 0 what ∷ []) = is_run-append w events (At 0 what ∷ []) u.happens (may_at (run w events) u.room what u.alone may, tt) in
    let one : (run w (events ++ At 0 what ∷ [])).rooms ≡ room_after o u.room what ∷ [] = ap (λ v. v.rooms) e ∙ at_rooms (run w events) u.room what u.alone in
    let left : room_after o u.room what ≡ stopped (world.stands u.room 0 u.job call) = ap (λ j. option_map_or (λ job. stopped (world.stands u.room 0 job call)) j u.room) u.seated in
    record {
      more = At 0 what ∷ [];
      stands = record {
        happens = is;
        room = room_after o u.room what;
        alone = one;
        holds = laws.mirrors w shaped (events ++ At 0 what ∷ []) starts is 0 (room_after o u.room what) (is_room (run w (events ++ At 0 what ∷ [])) (room_after o u.room what) one);
        master = subst (λ v. at v.origin) (sym e) u.master;
        mirror = opened (repository_by u.mirror.repository call);
        there = refl;
        same = ap (λ r. r.mirror) left ∙ ap (λ m. mirror_with (revisions_by m.revisions call) None) u.same ∙ ap (λ x. mirror_with x None) (sym (revisions_in u.mirror.repository (entry_of u.mirror.repository.revisions call)));
      };
      nobody = ap (λ r. r.jobs) left;
    }

-- what is reached stays so while the master goes on
pub reached_later : EveryRun → (w : World) (shaped : ℕ → Bool) (events : List Event) (at new : Origin → Type 0) (r : Repository) (P : Origin → Type 0) → Starts w shaped → IsTrue at new P → IsReached w shaped events at r → IsReached w shaped events new r
reached_later mirrors w shaped events at new r P starts h x =
    let k = x.stands in
    let es : List Event = events ++ x.more in
    let t = h (run w es).origin k.master in
    let c = comes_on (run w es) t.steps t.now t.comes in
    let e : run w (es ++ map event_of t.steps) ≡ run (run w es) (map event_of t.steps) = run-append w es (map event_of t.steps) in
    let is : IsRun w (es ++ map event_of t.steps) = is_run-append w es (map event_of t.steps) k.happens c.run_is in
    let one : (run w (es ++ map event_of t.steps)).rooms ≡ k.room ∷ [] = ap (λ v. v.rooms) e ∙ c.rooms ∙ k.alone in
    let y : IsReached w shaped es new r = record {
      more = map event_of t.steps;
      stands = record {
        happens = is;
        room = k.room;
        alone = one;
        holds = mirrors w shaped (es ++ map event_of t.steps) starts is 0 k.room (is_room (run w (es ++ map event_of t.steps)) k.room one);
        master = subst new (sym (ap (λ v. v.origin) e ∙ c.origin)) t.stays;
        mirror = k.mirror;
        there = k.there;
        same = k.same;
      };
      nobody = x.nobody;
    } in
    sooner w shaped events x.more new r y

-- what is reached stands for the next run
pub opens_again : {M N : Type 0} → EveryRun → (is_at : M → Origin → Type 0) (stands : N → MirrorNow → Type 0) → OpensAgain is_at stands
opens_again mirrors is_at stands w shaped events master_old master_new mirror r starts x later there =
    let y = reached_later mirrors w shaped events (is_at master_old) (is_at master_new) r (λ _. Unit {0}) starts later x in
    let k = y.stands in (
      y.more,
      record { happens = k.happens; room = k.room; alone = k.alone; holds = k.holds; master = k.master; mirror = k.mirror; there = subst (λ m. stands mirror m) (sym k.there) there; same = k.same },
      y.nobody,
      ap (λ m. m.doubt) k.there,
    )

no_more : {X A : Type 0} (x : X) (xs : List X) → x ∷ xs ≡ [] → A
no_more x xs e = absurd (cc)

abbrev tail_of : List Call → List Call
tail_of [] = []
tail_of (z ∷ zs) = zs

abbrev head_of : Call → List Call → Call
head_of x [] = x
head_of x (z ∷ zs) = z

-- a front of two lists is one of the first, or the first and a front of the second
split_front : (front rest c1 c2 : List Call) → front ++ rest ≡ c1 ++ c2 → ((more : List Call) × (front ++ more ≡ c1)) ⊎ ((more : List Call) × (front ≡ c1 ++ more) × (more ++ rest ≡ c2))
split_front [] rest c1 c2 e = inl (c1, refl)
split_front (x ∷ xs) rest [] c2 e = inr (x ∷ xs, refl, e)
split_front (x ∷ xs) rest (y ∷ ys) c2 e = by (split_front xs rest ys c2 (ap (λ zs. tail_of zs) e))
  where
    same : x ≡ y
    same = ap (λ zs. head_of x zs) e

    by : ((more : List Call) × (xs ++ more ≡ ys)) ⊎ ((more : List Call) × (xs ≡ ys ++ more) × (more ++ rest ≡ c2)) → ((more : List Call) × ((x ∷ xs) ++ more ≡ y ∷ ys)) ⊎ ((more : List Call) × (x ∷ xs ≡ (y ∷ ys) ++ more) × (more ++ rest ≡ c2))
    by (inl p) = inl (p.0, ap (λ zs. x ∷ zs) p.1 ∙ ap (λ z. z ∷ ys) same)
    by (inr p) = inr (p.0, ap (λ zs. x ∷ zs) p.1 ∙ ap (λ z. z ∷ (ys ++ p.0)) same, p.2)

-- what of one deed counts is nothing, or its call
abbrev OneFront : Deed → List Call → List Call → Type 0
OneFront d all front = (front ≡ []) ⊎ ((call : Call) × (d ≡ Calls call) × (all ≡ call ∷ []) × (front ≡ call ∷ []))

front_of_none : (d : Deed) (front rest all : List Call) → all ≡ [] → front ++ rest ≡ all → OneFront d all front
front_of_none d [] rest all n e = inl refl
front_of_none d (x ∷ xs) rest all n e = no_more x (xs ++ rest) (e ∙ n)

front_of_one : (call : Call) (front rest all : List Call) → all ≡ call ∷ [] → front ++ rest ≡ all → OneFront (Calls call) all front
front_of_one call [] rest all n e = inl refl
front_of_one call (x ∷ []) rest all n e = inr (call, refl, n, ap (λ z. z ∷ []) (ap (λ zs. head_of x zs) (e ∙ n)))
front_of_one call (x ∷ y ∷ ys) rest all n e = no_more y (ys ++ rest) (ap (λ zs. tail_of zs) (e ∙ n))

one_front : (d : Deed) (o : Outcome) (front rest : List Call) → front ++ rest ≡ counted_by d o → OneFront d (counted_by d o) front
one_front (Calls call) kept.Done front rest e = front_of_one call front rest (call ∷ []) refl e
one_front (Calls call) (kept.Refused number text) front rest e = by (number == 31) e
  where
    by : (b : Bool) → front ++ rest ≡ (if b then call ∷ [] else []) → OneFront (Calls call) (if b then call ∷ [] else []) front
    by true e = front_of_one call front rest (call ∷ []) refl e
    by false e = front_of_none (Calls call) front rest [] refl e
one_front (Calls call) (kept.Seen s) front rest e = front_of_none (Calls call) front rest [] refl e
one_front (Calls call) (kept.Identity u) front rest e = front_of_none (Calls call) front rest [] refl e
one_front (Calls call) (kept.Latest n) front rest e = front_of_none (Calls call) front rest [] refl e
one_front (Calls call) (kept.Revision set props) front rest e = front_of_none (Calls call) front rest [] refl e
one_front (Calls call) (kept.Map props) front rest e = front_of_none (Calls call) front rest [] refl e
one_front (Calls call) (kept.Failed text) front rest e = front_of_none (Calls call) front rest [] refl e
one_front AsksIdentity o front rest e = front_of_none AsksIdentity front rest [] refl e
one_front AsksLatest o front rest e = front_of_none AsksLatest front rest [] refl e
one_front (Fetches n) o front rest e = front_of_none (Fetches n) front rest [] refl e
one_front (FetchesProps n) o front rest e = front_of_none (FetchesProps n) front rest [] refl e
one_front Ends o front rest e = front_of_none Ends front rest [] refl e

-- each front of the calls that count is reached
abbrev pub AreReached : World → (ℕ → Bool) → List Event → (Origin → Type 0) → Repository → List Call → Type 0
AreReached w shaped events at r counted = (front rest : List Call) → front ++ rest ≡ counted → IsReached w shaped events at (replayed r front)

-- where nothing counts the mirror is as it was
nothing_came : (m now : MirrorNow) → HasCome m now [] [] → now.repository ≡ m.repository
nothing_came m now (Working same none all at) = at
nothing_came m now (Doubtful call working in_it is all at) = no_one call [] refl all

none_reached : (w : World) (shaped : ℕ → Bool) (events : List Event) (at : Origin → Type 0) (r : Repository) → IsReached w shaped events at r → AreReached w shaped events at r []
none_reached w shaped events at r x [] rest e = x
none_reached w shaped events at r x (c ∷ cs) rest e = no_more c (cs ++ rest) e

-- where another call counts the mirror was in no doubt, and all that count have been accepted
all_came : (m mid now : MirrorNow) (d1 c1 d2 c2 : List Call) (call : Call) → HasCome m mid d1 c1 → HasCome mid now d2 c2 → c2 ≡ call ∷ [] → mid.repository ≡ replayed m.repository c1
all_came m mid now d1 c1 d2 c2 call (Working same none all at) second e = at ∙ ap (λ xs. replayed m.repository xs) (sym all)
all_came m mid now d1 c1 d2 c2 call (Doubtful last working in_it is all at) second e = no_one call c2 (none_counts mid now d2 c2 in_it second).1 e

-- the front of one more deed's calls
reached_on : WorldLaws → StopsInFlight → (w : World) (shaped : ℕ → Bool) (events more : List Event) (at new : Origin → Type 0) (stands stands_new : MirrorNow → Type 0) (s : JobState) (a : Answer) (trees first : List PathMap) (m : MirrorNow) (d1 c1 : List Call) (P : Origin → Type 0)
    → Starts w shaped → IsTrue at new P → (u : IsUnderWay w (events ++ more) at stands s trees) → HasCome m u.mirror d1 c1 → Serves stands_new u.mirror 0 (deed_in s) a trees first → AreReached w shaped events at m.repository c1
    → AreReached w shaped events new m.repository (c1 ++ counted_by (deed_in s) (outcome_of a))
reached_on laws flight w shaped events more at new stands stands_new s a trees first m d1 c1 P starts later u come sv before front rest e = reached_later laws.mirrors w shaped events at new (replayed m.repository front) P starts later (by (split_front front rest c1 (counted_by (deed_in s) (outcome_of a)) e))
  where
    called : (tail : List Call) → front ≡ c1 ++ tail → OneFront (deed_in s) (counted_by (deed_in s) (outcome_of a)) tail → IsReached w shaped events at (replayed m.repository front)
    called tail p (inl none) = before front [] (append-nil front ∙ p ∙ ap (λ xs. c1 ++ xs) none ∙ append-nil c1)
    called tail p (inr x) =
        let all : u.mirror.repository ≡ replayed m.repository c1 = all_came m u.mirror sv.now d1 c1 (accepted_by (deed_in s) (outcome_of a)) (counted_by (deed_in s) (outcome_of a)) x.0 come sv.come x.2 in
        let r : IsReached w shaped (events ++ more) at (repository_by u.mirror.repository x.0) = stops_in_flight laws flight w shaped (events ++ more) at stands s trees x.0 starts u x.1 (sv.free x.0 x.2) in
        subst (λ y. IsReached w shaped events at y)
        (ap (λ y. repository_by y x.0) all ∙ sym (replayed-append m.repository c1 (x.0 ∷ [])) ∙ ap (λ xs. replayed m.repository xs) (sym (p ∙ ap (λ xs. c1 ++ xs) x.3)))
        (sooner w shaped events more at (repository_by u.mirror.repository x.0) r)

    by : ((more : List Call) × (front ++ more ≡ c1)) ⊎ ((more : List Call) × (front ≡ c1 ++ more) × (more ++ rest ≡ counted_by (deed_in s) (outcome_of a))) → IsReached w shaped events at (replayed m.repository front)
    by (inl p) = before front p.0 p.1
    by (inr p) = called p.0 p.1 (one_front (deed_in s) (outcome_of a) p.0 rest p.2)

-- so a mirror stands that has come there by these calls
abbrev pub Come : (MirrorNow → Type 0) → MirrorNow → List Call → List Call → MirrorNow → Type 0
Come stands m accepted counted now = stands now × HasCome m now accepted counted

-- a loop's run so far: how its mirror has come, and that each front of the calls that count is reached
abbrev pub IsReaching : (Origin → Type 0) → (Origin → Type 0) → (MirrorNow → Type 0) → (MirrorNow → Type 0) → ℕ → ℕ → JobState → JobState → List PathMap → List Call → List Call → Type 0
IsReaching at_old at_now stands_old stands_now seat_old seat_now begin s trees accepted counted =
    (seat_now ≡ seat_old)
    × ((order : Order) → Follows (begun order) begin → (w : World) (shaped : ℕ → Bool) (events : List Event) → Starts w shaped → (x : StandsAfter w shaped events at_old stands_old) → x.room.jobs ≡ [] → seat_old ≡ 0
    → (more : List Event) × IsUnderWay w (events ++ more) at_now (Come stands_now x.mirror accepted counted) s trees × AreReached w shaped events at_now x.mirror.repository counted)

pub reaching_begins : WorldLaws → (at : Origin → Type 0) (stands : MirrorNow → Type 0) (seat : ℕ) (s : JobState) → IsReaching at at stands stands seat seat s s [] [] []
reaching_begins laws at stands seat s = (
  refl,
  λ order f w shaped events starts x none at_seat.
      let u : IsUnderWay w (events ++ At 0 (Begin order) ∷ []) at (Come stands x.mirror [] []) s [] =
      begins order s f w shaped events at (Come stands x.mirror [] []) (record { happens = x.happens; room = x.room; alone = x.alone; holds = x.holds; master = x.master; mirror = x.mirror; there = (x.there, come_stays x.mirror [] [] refl refl); same = x.same }) none in (
        At 0 (Begin order) ∷ [],
        u,
        none_reached w shaped events at x.mirror.repository
            (sooner w shaped events (At 0 (Begin order) ∷ []) at x.mirror.repository
            (subst (λ r. IsReached w shaped (events ++ At 0 (Begin order) ∷ []) at r) (nothing_came x.mirror u.mirror u.there.1) (stops laws w shaped (events ++ At 0 (Begin order) ∷ []) at (Come stands x.mirror [] []) s [] starts u))),
      ),
)

-- the same deed, of a mirror that has come there by these calls
come_with : (at_old at_new : Origin → Type 0) (stands_old stands_new : MirrorNow → Type 0) (seat_old seat_new : ℕ) (d : Deed) (a : Answer) (before first : List PathMap) (m : MirrorNow) (d1 c1 : List Call)
    → Happens at_old at_new stands_old stands_new seat_old seat_new d a before first
    → Happens at_old at_new (Come stands_old m d1 c1) (Come stands_new m (d1 ++ accepted_by d (outcome_of a)) (c1 ++ counted_by d (outcome_of a))) seat_old seat_new d a before first
come_with at_old at_new stands_old stands_new seat_old seat_new d a before first m d1 c1 h =
    record {
      master = h.master;
      mirror = λ k x.
          let sv = h.mirror k x.0 in
          record { now = sv.now; there = (sv.there, come_on m k sv.now d1 c1 (accepted_by d (outcome_of a)) (counted_by d (outcome_of a)) x.1 sv.come); served = sv.served; come = sv.come; free = sv.free; trees = sv.trees };
      seat = h.seat;
    }

pub reaching_on : WorldLaws → StopsInFlight → (at_old at_mid at_new : Origin → Type 0) (stands_old stands_mid stands_new : MirrorNow → Type 0) (seat_old seat_mid seat_new : ℕ) (begin s u : JobState) (a : Answer) (trees first : List PathMap) (d1 c1 : List Call)
    → u ≡ after s a → deed_in s ≢ Ends → Happens at_mid at_new stands_mid stands_new seat_mid seat_new (deed_in s) a trees first → IsReaching at_old at_mid stands_old stands_mid seat_old seat_mid begin s trees d1 c1
    → IsReaching at_old at_new stands_old stands_new seat_old seat_new begin u first (d1 ++ accepted_by (deed_in s) (outcome_of a)) (c1 ++ counted_by (deed_in s) (outcome_of a))
reaching_on laws flight at_old at_mid at_new stands_old stands_mid stands_new seat_old seat_mid seat_new begin s u a trees first d1 c1 e goes h g = (
  h.seat ∙ g.0,
  λ order f w shaped events starts x none at_seat.
      let r = g.1 order f w shaped events starts x none at_seat in
      let h0 : Happens at_mid at_new stands_mid stands_new 0 seat_new (deed_in s) a trees first = subst (λ k. Happens at_mid at_new stands_mid stands_new k seat_new (deed_in s) a trees first) (g.0 ∙ at_seat) h in
      let d2 : List Call = d1 ++ accepted_by (deed_in s) (outcome_of a) in
      let c2 : List Call = c1 ++ counted_by (deed_in s) (outcome_of a) in
      let n = goes_on laws w shaped (events ++ r.0) at_mid at_new (Come stands_mid x.mirror d1 c1) (Come stands_new x.mirror d2 c2) seat_new s a trees first goes starts r.1 (come_with at_mid at_new stands_mid stands_new 0 seat_new (deed_in s) a trees first x.mirror d1 c1 h0) in (
        r.0 ++ n.0,
        subst (λ k. IsUnderWay w (events ++ (r.0 ++ n.0)) at_new (Come stands_new x.mirror d2 c2) k first) (sym e) (subst (λ es. IsUnderWay w es at_new (Come stands_new x.mirror d2 c2) (after s a) first) (append_assoc events r.0 n.0) n.1),
        reached_on laws flight w shaped events r.0 at_mid at_new (Come stands_mid x.mirror d1 c1) stands_new s a trees first x.mirror d1 c1 (IsAnswered first (deed_in s) a) starts h0.master r.1 r.1.there.1 (h0.mirror r.1.mirror r.1.there.0) r.2,
      ),
)

-- what the calls of a run leave of its mirror, and what they reach
abbrev pub Leaving : {N : Type 0} → (N → MirrorNow → Type 0) → (N → ℕ) → (N → ℕ → Image → Type 0) → (N → Type 0) → (Origin → Type 0) → (Origin → Type 0) → ℕ → ℕ → JobState → JobState → List PathMap → N → N → List Call → List Call → Type 0
Leaving stands clock left_since honest at_old at_now seat_old seat_now begin s trees before after accepted counted =
    WentAt stands clock left_since honest before after accepted counted × IsReaching at_old at_now (stands before) (stands after) seat_old seat_now begin s trees accepted counted

pub leaving_begins : {N : Type 0} → WorldLaws → (stands : N → MirrorNow → Type 0) (clock : N → ℕ) (left_since : N → ℕ → Image → Type 0) (honest : N → Type 0) (at : Origin → Type 0) (seat : ℕ) (s : JobState) (old : N) (said : List Spoken)
    → IsKeptNow stands clock left_since honest → Moving said said (Leaving stands clock left_since honest at at seat seat s s [] old old)
leaving_begins laws stands clock left_since honest at seat s old said law = record { more = []; adds = sym (append-nil said); went = (stayed stands clock left_since honest old old law refl, reaching_begins laws at (stands old) seat s) }

pub leaving_on : {N B : Type 0} → WorldLaws → StopsInFlight → (stands : N → MirrorNow → Type 0) (clock : N → ℕ) (left_since : N → ℕ → Image → Type 0) (honest : N → Type 0) (at_old at_mid at_new : Origin → Type 0) (seat_old seat_mid seat_new : ℕ) (begin s u : JobState) (a : Answer) (trees first : List PathMap)
    (old mid new : N) (said_old said_mid said_new : List Spoken) (heard_mid heard_new : B → List Told → Type 0)
    → u ≡ after s a → deed_in s ≢ Ends → Happens at_mid at_new (stands mid) (stands new) seat_mid seat_new (deed_in s) a trees first → WentAt stands clock left_since honest mid new (accepted_by (deed_in s) (outcome_of a)) (counted_by (deed_in s) (outcome_of a)) → Acted (deed_in s) a said_mid said_new heard_mid heard_new
    → Moving said_old said_mid (Leaving stands clock left_since honest at_old at_mid seat_old seat_mid begin s trees old mid)
    → Moving said_old said_new (Leaving stands clock left_since honest at_old at_new seat_old seat_new begin u first old new)
leaving_on laws flight stands clock left_since honest at_old at_mid at_new seat_old seat_mid seat_new begin s u a trees first old mid new said_old said_mid said_new heard_mid heard_new e goes h went acted x =
    moving_by said_old said_mid said_new heard_mid heard_new (deed_in s) a (Leaving stands clock left_since honest at_old at_mid seat_old seat_mid begin s trees old mid) (Leaving stands clock left_since honest at_old at_new seat_old seat_new begin u first old new) x acted
    (λ d1 c1 y. (
      went_at stands clock left_since honest old mid new d1 c1 (accepted_by (deed_in s) (outcome_of a)) (counted_by (deed_in s) (outcome_of a)) y.0 went,
      reaching_on laws flight at_old at_mid at_new (stands old) (stands mid) (stands new) seat_old seat_mid seat_new begin s u a trees first d1 c1 e goes h y.1,
    ))

-- an image with a front of the calls that count is one of a mirror
front_left : (w : World) (shaped : ℕ → Bool) (events : List Event) (at : Origin → Type 0) (m : MirrorNow) (counted : List Call) (c : Image) → m.doubt ≡ None → AreReached w shaped events at m.repository counted → KeepsFront m counted c → IsMirrorLeft w shaped events at c
front_left w shaped events at m counted c working reached (inl k) = (m.repository, reached [] counted refl, sure m c working k)
front_left w shaped events at m counted c working reached (inr f) = (replayed m.repository f.0, reached f.0 f.1 f.2, f.3)

-- and so is one with the mirror as its calls have left it
end_left : (w : World) (shaped : ℕ → Bool) (events : List Event) (at : Origin → Type 0) (m now : MirrorNow) (accepted counted : List Call) (c : Image) → m.doubt ≡ None → AreReached w shaped events at m.repository counted → HasCome m now accepted counted → Keeps now c → IsMirrorLeft w shaped events at c
end_left w shaped events at m now accepted counted c working reached come k = by (ends_keep_all m now accepted counted c working come k)
  where
    rest : HasCome m now accepted counted → (more : List Call) × (accepted ++ more ≡ counted)
    rest (Working same none all at) = ([], append-nil accepted ∙ sym all)
    rest (Doubtful call free in_it is all at) = (call ∷ [], sym all)

    by : journal.Keeps (replayed m.repository accepted) c ⊎ journal.Keeps (replayed m.repository counted) c → IsMirrorLeft w shaped events at c
    by (inl x) = let r = rest come in (replayed m.repository accepted, reached accepted r.0 r.1, x)
    by (inr x) = (replayed m.repository counted, reached counted [] (append-nil counted), x)

leaves_as : {D : Type 0} (clock : D → ℕ) (left_since : D → ℕ → Image → Type 0) (old new : D) (P Q : Image → Type 0) → ((c : Image) → P c → Q c) → LeavesOnly clock left_since old new P → LeavesOnly clock left_since old new Q
leaves_as clock left_since old new P Q f x = record { later = x.later; each = λ c l. f c (x.each c l); before = λ t c le l. widen t c (x.before t c le l) }
  where
    widen : (t : ℕ) (c : Image) → left_since old t c ⊎ P c → left_since old t c ⊎ Q c
    widen t c (inl y) = inl y
    widen t c (inr y) = inr (f c y)

-- so a stop at any moment of a run leaves a mirror of its master
pub stopped_as : {M N : Type 0} (is_at : M → Origin → Type 0) (stands : N → MirrorNow → Type 0) (clock : N → ℕ) (left_since : N → ℕ → Image → Type 0) (honest : N → Type 0) (m_old m_mid m_new : M) (seat_old seat_now : ℕ) (begin s : JobState) (trees : List PathMap) (old mid new : N) (said_old said_new : List Spoken)
    → m_new ≡ m_mid → new ≡ mid → Moving said_old said_new (Leaving stands clock left_since honest (is_at m_old) (is_at m_mid) seat_old seat_now begin s trees old mid) → (order : Order) → Follows (begun order) begin
    → StopsAsMirror (is_at m_old) (is_at m_new) (stands old) seat_old clock left_since (honest old) old new
stopped_as {M} {N} is_at stands clock left_since honest m_old m_mid m_new seat_old seat_now begin s trees old mid new said_old said_new master same x order f =
    subst (λ (m : M). StopsAsMirror (is_at m_old) (is_at m) (stands old) seat_old clock left_since (honest old) old new) (sym master)
    (subst (λ (n : N). StopsAsMirror (is_at m_old) (is_at m_mid) (stands old) seat_old clock left_since (honest old) old n) (sym same)
    (λ w shaped events starts y none at_seat working is.
    let went = x.went.0.1 y.mirror y.there in
    let r = x.went.1.1 order f w shaped events starts y none at_seat in
    record {
      during = leaves_as clock left_since old mid _ _ (λ c k. front_left w shaped events (is_at m_mid) y.mirror _ c working r.2 k) (went.images is);
      last = λ c l. end_left w shaped events (is_at m_mid) y.mirror went.now _ _ c working r.2 went.come (went.left is c l);
    }))
