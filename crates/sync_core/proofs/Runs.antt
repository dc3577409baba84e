-- Whole runs.
use Rattle.std.proofs.Common.{◌≡◌, ◌≢◌, ◌⊎◌, inl, inr, ℕ, zero, suc, ◌<◌, ◌≤◌, Bool, true, false, List, [], ◌∷◌, ◌++◌, length, replicate, slice_get, slice_set, Option, Some, None, is_some, refl, sym, ap, ◌∙◌, subst, arith, le_trans, le_refl, length-append, ◌==◌}
use Rattle.std.specs.Option.{option_map, option_map_or}
use Rattle.std.specs.FinMap.{get-empty}
use Rattle.std.proofs.lemmas.Option.{slice_get-map}
use Rattle.node_base.specs.Path.{name_cmp}
use Rattle.node_base.specs.Tree.{PathMap}
use Rattle.dump_load.specs.Trees.{effect_tree}
use Rattle.repo_core.specs.Repository.{Revision, trees_of, tree_at, root_alone}
use Rattle.sync_core.specs.Names.{url_name}
use Rattle.sync_core.specs.World.{Origin, maps_now, IsOrigin, Room, fresh_room, World, Event, MasterCommit, MasterEdit, At, MayBe, Stop, room_after, stopped, world_after, run, IsRun}
use Rattle.sync_core.specs.Law.{IsMirrorOf, Holds, IsOpened, Starts, start, FreshStarts, EveryRun, EveryFreshRun, reopened, BeginsAgain, MomentsRise, StaysBlank}
use Rattle.sync_core.proofs.Lists.{slice_get-stored, slice_get-set_there, slice_get-set_elsewhere, none_isnt, some_is}
use Rattle.sync_core.proofs.Kept.{Rest, JobsKept, RoomKept, has_url, is_equal, itself}
use Rattle.sync_core.proofs.Jobs.{jobs-none}
use Rattle.sync_core.proofs.Rooms.{kept-room, room-rises, room-blank}
use Rattle.sync_core.proofs.Origins.{Grows, committed-grows, edited-grows, room-grown}

pub record WorldKept (w : World) (shaped : ℕ → Bool) : Type 0 where
  pub origin : IsOrigin w.origin
  pub rooms : (i : ℕ) (room : Room) → slice_get w.rooms i ≡ Some room → RoomKept w.origin (shaped i) room

-- a mirror as it was opened
some_of : (x : List Revision) (t : PathMap) → tree_at x 0 ≡ Some t → 0 < length x
some_of [] t e = none_isnt t e
some_of (y ∷ x) t e = omega arith

root_of : (x : List Revision) (t : PathMap) → tree_at x 0 ≡ Some t → slice_get (trees_of x) 0 ≡ Some t
root_of [] t e = none_isnt t e
root_of (y ∷ x) t e = e

kept-opened : (o : Origin) (shaped : Bool) (room : Room) → IsOrigin o → IsOpened o shaped room → RoomKept o shaped room
kept-opened o shaped room is_origin is =
    record {
      revisions = record {
        some = some_of room.mirror.revisions root_alone is.root;
        small = is.few;
        root = root_of room.mirror.revisions root_alone is.root;
        master = is_origin.root;
        commits = is.holds.commits;
        journal = is.holds.journal;
        rest = λ e. rest_of e (is.holds.mirror e);
      };
      jobs = subst (λ h. JobsKept o room.jobs h room.copied) (sym is.holder) (subst (λ j. JobsKept o j None room.copied) (sym is.jobs) (jobs-none o room.copied is.past));
      new = is.blank;
      held = λ i h. none_isnt i (sym is.holder ∙ h);
      acknowledged = is.holds.acknowledged;
      shown = is.holds.shown;
    }
  where
    rest_of : has_url room.mirror.revisions ≡ true → IsMirrorOf o room → Rest o shaped room.mirror.revisions room.copied
    rest_of e m = record { within = m.within; trees = m.trees; identity = m.identity; shape = λ z. is.holds.shape z e; maps = m.maps }

-- one that is fresh from its making
no_url : has_url fresh_room.mirror.revisions ≡ false
no_url = ap is_some (get-empty {X = List ℕ} name_cmp url_name)

not_yet : {A : Type 0} → has_url fresh_room.mirror.revisions ≡ true → A
not_yet e = let c : true ≡ false = sym e ∙ no_url in absurd (cc)

fresh-opened : (o : Origin) → IsOpened o true fresh_room
fresh-opened o =
    record {
      holds = record {
        journal = refl;
        commits = refl;
        acknowledged = omega arith;
        shown = omega arith;
        mirror = λ e. not_yet e;
        shape = λ z e. not_yet e;
      };
      root = refl;
      few = omega arith;
      past = λ n. omega arith;
      blank = λ e n. refl;
      jobs = refl;
      holder = refl;
    }

in_replicate : {X : Type 0} (x y : X) (n i : ℕ) → slice_get (replicate n x) i ≡ Some y → x ≡ y
in_replicate x y zero i e = none_isnt y e
in_replicate x y (suc n) zero e = some_is x y e
in_replicate x y (suc n) (suc i) e = in_replicate x y n i e

pub fresh-starts : FreshStarts
fresh-starts o mirrors is = record { origin = is; rooms = λ i room e. subst (IsOpened o true) (in_replicate fresh_room room mirrors i e) (fresh-opened o) }

pub kept-start : (w : World) (shaped : ℕ → Bool) → Starts w shaped → WorldKept w shaped
kept-start w shaped is = record { origin = is.origin; rooms = λ i room e. kept-opened w.origin (shaped i) room is.origin (is.rooms i room e) }

grown-world : (o p : Origin) (shaped : ℕ → Bool) (rooms : List Room) → Grows o p → WorldKept (record { origin = o; rooms = rooms }) shaped → 0 < length p.maps → WorldKept (record { origin = p; rooms = rooms }) shaped
grown-world o p shaped rooms g k some =
    record {
      origin = record { root = g.trees 0 root_alone k.origin.root; maps = some };
      rooms = λ i room e. room-grown o p (shaped i) room g (k.rooms i room e);
    }

-- one event: what is kept, and what each mirror is then
pub kept-event : (w : World) (shaped : ℕ → Bool) (e : Event) → WorldKept w shaped → MayBe w e → WorldKept (world_after w e) shaped
kept-event w shaped (MasterCommit set props) k may = grown-world w.origin (world_after w (MasterCommit set props)).origin shaped w.rooms (committed-grows w.origin (effect_tree w.origin.trees set) (maps_now w.origin ++ props ∷ [])) k (omega (arith, length-append w.origin.maps ((maps_now w.origin ++ props ∷ []) ∷ [])))
kept-event w shaped (MasterEdit n props) k may = grown-world w.origin (world_after w (MasterEdit n props)).origin shaped w.rooms (edited-grows w.origin (slice_set (maps_now w.origin) n props)) k (omega (arith, length-append w.origin.maps (slice_set (maps_now w.origin) n props ∷ [])))
kept-event w shaped (At j what) k may =
    record {
      origin = k.origin;
      rooms = λ i room at. go (slice_get w.rooms j) refl i room at;
    }
  where
    go : (s : Option Room) → slice_get w.rooms j ≡ s → (i : ℕ) (room : Room) → slice_get (option_map_or (λ r. slice_set w.rooms j (room_after w.origin r what)) s w.rooms) i ≡ Some room → RoomKept w.origin (shaped i) room
    go None e i room at = k.rooms i room at
    go (Some r) e i room at = which (slice_get-stored w.rooms j (room_after w.origin r what) i room at)
      where
        which : ((i ≡ j) × (room ≡ room_after w.origin r what)) ⊎ ((i ≢ j) × (slice_get w.rooms i ≡ Some room)) → RoomKept w.origin (shaped i) room
        which (inl p) = subst (λ m. RoomKept w.origin (shaped m) room) (sym p.0) (subst (RoomKept w.origin (shaped j)) (sym p.1) (kept-room w.origin (shaped j) r what (k.rooms j r e) (may r e)))
        which (inr p) = k.rooms i room p.1

-- the mirror of that number after one event
pub record Next (w : World) (e : Event) (i : ℕ) (room : Room) : Type 0 where
  pub next : Room
  pub there : slice_get (world_after w e).rooms i ≡ Some next
  pub rises : (n : ℕ) → room.copied n ≤ next.copied n
  pub blank : has_url next.mirror.revisions ≡ false → next.mirror.revisions ≡ room.mirror.revisions

unmoved : (w : World) (e : Event) (i : ℕ) (room : Room) → slice_get (world_after w e).rooms i ≡ Some room → Next w e i room
unmoved w e i room at = record { next = room; there = at; rises = λ n. le_refl (room.copied n); blank = λ h. refl }

next-of : (w : World) (shaped : ℕ → Bool) (e : Event) (i : ℕ) (room : Room) → WorldKept w shaped → MayBe w e → slice_get w.rooms i ≡ Some room → Next w e i room
next-of w shaped (MasterCommit set props) i room k may at = unmoved w (MasterCommit set props) i room at
next-of w shaped (MasterEdit m props) i room k may at = unmoved w (MasterEdit m props) i room at
next-of w shaped (At j what) i room k may at =
    elim (i == j) as (λ b. (i == j) ≡ b → Next w (At j what) i room) [
      | true ↦ λ e.
          let same : i ≡ j = is_equal i j e in
          let here : slice_get w.rooms j ≡ Some room = ap (slice_get w.rooms) (sym same) ∙ at in
          record {
            next = room_after w.origin room what;
            there = ap (λ s. slice_get (option_map_or (λ r. slice_set w.rooms j (room_after w.origin r what)) s w.rooms) i) here ∙ ap (slice_get (slice_set w.rooms j (room_after w.origin room what))) same ∙ slice_get-set_there w.rooms j room (room_after w.origin room what) here;
            rises = room-rises w.origin (shaped j) room what (k.rooms j room here) (may room here);
            blank = room-blank w.origin (shaped j) room what (k.rooms j room here) (may room here);
          }
      | false ↦ λ e.
          let other : i ≢ j = λ same. let t : (i == j) ≡ true = ap (λ n. n == j) same ∙ itself j in let c : true ≡ false = sym t ∙ e in absurd (cc) in
          unmoved w (At j what) i room (untouched other (slice_get w.rooms j))
    ] refl
  where
    untouched : i ≢ j → (s : Option Room) → slice_get (option_map_or (λ r. slice_set w.rooms j (room_after w.origin r what)) s w.rooms) i ≡ Some room
    untouched other None = at
    untouched other (Some r) = slice_get-set_elsewhere w.rooms j (room_after w.origin r what) i other ∙ at

pub kept-run : (w : World) (shaped : ℕ → Bool) (es : List Event) → WorldKept w shaped → IsRun w es → WorldKept (run w es) shaped
kept-run w shaped [] k is = k
kept-run w shaped (e ∷ es) k is = kept-run (world_after w e) shaped es (kept-event w shaped e k is.0) is.1

run-append : (w : World) (es fs : List Event) → run w (es ++ fs) ≡ run (run w es) fs
run-append w [] fs = refl
run-append w (e ∷ es) fs = run-append (world_after w e) es fs

run-front : (w : World) (es fs : List Event) → IsRun w (es ++ fs) → IsRun w es
run-front w [] fs is = tt
run-front w (e ∷ es) fs is = (is.0, run-front (world_after w e) es fs is.1)

run-rest : (w : World) (es fs : List Event) → IsRun w (es ++ fs) → IsRun (run w es) fs
run-rest w [] fs is = is
run-rest w (e ∷ es) fs is = run-rest (world_after w e) es fs is.1

rises-run : (w : World) (shaped : ℕ → Bool) (es : List Event) → WorldKept w shaped → IsRun w es → (i : ℕ) (early late : Room) → slice_get w.rooms i ≡ Some early → slice_get (run w es).rooms i ≡ Some late → (n : ℕ) → early.copied n ≤ late.copied n
rises-run w shaped [] k is i early late a b n = let same : early ≡ late = some_is early late (sym a ∙ b) in let c : early.copied n ≡ late.copied n = ap (λ (r : Room). r.copied n) same in omega arith
rises-run w shaped (e ∷ es) k is i early late a b n =
    let m = next-of w shaped e i early k is.0 a in
    le_trans (m.rises n) (rises-run (world_after w e) shaped es (kept-event w shaped e k is.0) is.1 i m.next late m.there b n)

blank-run : (w : World) (shaped : ℕ → Bool) (es : List Event) → WorldKept w shaped → IsRun w es → (i : ℕ) (early late : Room) → slice_get w.rooms i ≡ Some early → slice_get (run w es).rooms i ≡ Some late → has_url late.mirror.revisions ≡ false → late.mirror.revisions ≡ early.mirror.revisions
blank-run w shaped [] k is i early late a b h = ap (λ (r : Room). r.mirror.revisions) (some_is late early (sym b ∙ a))
blank-run w shaped (e ∷ es) k is i early late a b h =
    let m = next-of w shaped e i early k is.0 a in
    let later : late.mirror.revisions ≡ (m.next).mirror.revisions = blank-run (world_after w e) shaped es (kept-event w shaped e k is.0) is.1 i m.next late m.there b h in
    later ∙ m.blank (ap has_url (sym later) ∙ h)

holds-of : (o : Origin) (shaped : Bool) (room : Room) → RoomKept o shaped room → Holds o shaped room
holds-of o shaped room k =
    record {
      journal = k.revisions.journal;
      commits = k.revisions.commits;
      acknowledged = k.acknowledged;
      shown = k.shown;
      mirror = λ h. mirror_of (k.revisions.rest h);
      shape = λ z h. (k.revisions.rest h).shape z;
    }
  where
    mirror_of : Rest o shaped room.mirror.revisions room.copied → IsMirrorOf o room
    mirror_of r = record { identity = r.identity; within = r.within; trees = r.trees; maps = r.maps }

pub every-run : EveryRun
every-run w shaped events is runs i room at = holds-of (run w events).origin (shaped i) room ((kept-run w shaped events (kept-start w shaped is) runs).rooms i room at)

pub every-fresh-run : EveryFreshRun
every-fresh-run o mirrors events is runs i room at = every-run (start o mirrors) (λ _. true) events (fresh-starts o mirrors is) runs i room at

pub moments-rise-always : MomentsRise
moments-rise-always w shaped events more is runs i early late a b n =
    rises-run (run w events) shaped more (kept-run w shaped events (kept-start w shaped is) (run-front w events more runs)) (run-rest w events more runs) i early late a
    (ap (λ (v : World). slice_get v.rooms i) (sym (run-append w events more)) ∙ b) n

pub stays-blank : StaysBlank
stays-blank w shaped events is runs i first last a b h = blank-run w shaped events (kept-start w shaped is) runs i first last a b h

-- a mirror that stops is opened again
tree_of : (x : List Revision) (t : PathMap) → slice_get (trees_of x) 0 ≡ Some t → tree_at x 0 ≡ Some t
tree_of [] t e = none_isnt t e
tree_of (y ∷ x) t e = e

opened-again : (o : Origin) (shaped : Bool) (room : Room) → RoomKept o shaped room → IsOpened o shaped (stopped room)
opened-again o shaped room kept =
    let k : RoomKept o shaped (stopped room) = kept-room o shaped room Stop kept tt in
    record {
      holds = holds-of o shaped (stopped room) k;
      root = tree_of room.mirror.revisions root_alone k.revisions.root;
      few = k.revisions.small;
      past = k.jobs.past;
      blank = k.new;
      jobs = refl;
      holder = refl;
    }

starts-again : (w : World) (shaped : ℕ → Bool) → WorldKept w shaped → Starts (reopened w) shaped
starts-again w shaped k = record { origin = k.origin; rooms = λ i room e. by i room (slice_get w.rooms i) refl (sym (slice_get-map stopped w.rooms i) ∙ e) }
  where
    by : (i : ℕ) (room : Room) (s : Option Room) → slice_get w.rooms i ≡ s → option_map stopped (slice_get w.rooms i) ≡ Some room → IsOpened w.origin (shaped i) room
    by i room None at e = none_isnt room (ap (option_map stopped) (sym at) ∙ e)
    by i room (Some before) at e =
        subst (IsOpened w.origin (shaped i)) (some_is (stopped before) room (ap (option_map stopped) (sym at) ∙ e)) (opened-again w.origin (shaped i) before (k.rooms i before at))

pub begins_again : BeginsAgain
begins_again w shaped [] is runs = is
begins_again w shaped (events ∷ rest) is runs = begins_again (reopened (run w events)) shaped rest (starts-again (run w events) shaped (kept-run w shaped events (kept-start w shaped is) runs.0)) runs.1
