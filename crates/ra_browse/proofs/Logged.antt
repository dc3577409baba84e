-- Exits of what tells a log.
use Rattle.std.proofs.Common.{◌≡◌, ℕ, zero, suc, ◌≤◌, ◌<◌, ◌+◌, inl, inr, true, false, List, [], ◌∷◌, ◌++◌, map, take, length, get_or, Option, Some, None, Result, Ok, Err, true≢false, refl, sym, ap, subst, ◌∙◌, arith}
use Rattle.std.proofs.KnownBytes.{Appends-trans}
use Rattle.std.proofs.lemmas.Bool.Decides.{nat_tests}
use Rattle.std.proofs.lemmas.List.{take_more}
use Rattle.std.specs.Prelude.{IfOk, is_none, ◌==◌}
use Rattle.std.specs.FinMap as finite
use Rattle.std.specs.Io.KnownBytes.{Appends}
use Rattle.fleet_disk.specs.Rules.{Rose}
use Rattle.node_base.specs.Path.{Path}
use Rattle.node_base.specs.Tree.{PathMap}
use Rattle.dump_load.specs.Faults.{first_of}
use Rattle.path_history.specs.declared.place.Place.{Place}
use Rattle.path_history.specs.Places.{Sets, place}
use Rattle.path_history.specs.Logs as log
use Rattle.repo_core.specs.Repository.{Repository}
use Rattle.ra_item.specs.Items.{spell}
use Rattle.ra_wire.specs.Replies.{done}
use Rattle.browse_wire.specs.Asks.{Log, LogAsk}
use Rattle.browse_wire.specs.Told.{end_item}
use Rattle.browse_wire.specs.Urls.{Url}
use Rattle.ra_serve.specs.declared.fault.ServeFault.{ServeFault}
use Rattle.ra_serve.specs.Answers.{refused, asked}
use Rattle.ra_serve.specs.Ports as port
use Rattle.ra_serve.specs.Ports.{refusal_of, tree_of}
use Rattle.ra_serve.proofs.Causes.{none_is_not}
use Rattle.ra_history.specs.Logs.{IsTold}
use Rattle.ra_history.specs.declared.range.LogRange.{LogRange}
use Rattle.ra_log.specs.Entries.{entries_told}
use Rattle.ra_denial.specs.Denials.{denied, unless_denied, no_revision}
use Rattle.ra_denial.specs.Stops.{MayStop, Comes, Denies, Decides}
use Rattle.ra_denial.specs.Writing.{TellsBehind}
use Rattle.ra_denial.specs.declared.denial.Denial.{Denial}
use Rattle.ra_denial.specs.declared.denial.Denial.TheVariants as denial
use Rattle.ra_denial.specs.declared.stop.Stop.{Stop}
use Rattle.ra_denial.specs.declared.stop.Stop.TheVariants as stop
use Rattle.ra_denial.proofs.Causes.{is_there}
use Rattle.ra_denial.proofs.Stops.{denies_stops, later_stops}
use Rattle.ra_browse.specs.declared.log.LogSought.{LogSought}
use Rattle.ra_browse.specs.Histories.{Logged, PastLimits, FindsLogIf, newer, newest_logged, range_of, range_logged, paths_below, places_logged, numbers_of, entries_of, found_denied}
use Rattle.ra_browse.specs.Answers.{place_denied, paths_denied, logged_denied, log_denied}
use Rattle.ra_browse.specs.Tellings.{TellsLogged, AreRows, IsLogSought, Replied, Tells}
use Rattle.ra_browse.proofs.Exits.{stops_later}
use Rattle.ra_browse.proofs.Located.{both_calm, second_stops}
use Rattle.ra_browse.proofs.LogFronts.{sought_log, sought_entries}

-- ---- calls one after another

-- a call behind others
pub later_comes : {A : Type 0} (p m n : ℕ) (d : Option Denial) (Is : A → Type 0) (r : Result A Stop) → p ≤ m → Comes m n d Is r → Comes p n d Is r
later_comes p m n d Is (Ok a) h c = c
later_comes p m n d Is (Err s) h c = later_stops p m n d s h c

-- the first of two denies nothing where none does
pub first_calm : (d e : Option Denial) → first_of (d ∷ e ∷ []) ≡ None → d ≡ None
first_calm None e h = refl
first_calm (Some w) e h = h

-- a call for what is there stopped
pub calm_stops : (p m n : ℕ) (d e : Option Denial) (s : Stop) → p ≤ m → d ≡ None → MayStop m n d s → MayStop p n e s
calm_stops p m n d e s h k i = stops_later p m n s e h (subst (λ o. MayStop m n o s) k i)

pub seek_comes : (x : Repository) (base : Path) (l : LogAsk) (first last p m n : ℕ) (r : Result LogSought Stop) → p ≤ m → first ≡ asked x l.start → last ≡ asked x l.end → Comes m n (logged_denied x (newer first last) (paths_below base l.paths)) (IsLogSought x (newer first last) base l (range_of first last l)) r → Comes p n (log_denied x base l) (IsLogSought x (newest_logged x l) base l (range_logged x l)) r
seek_comes x base l first last p m n r h e f c =
    later_comes p m n (log_denied x base l) (IsLogSought x (newest_logged x l) base l (range_logged x l)) r h
    (subst (λ b. Comes m n (logged_denied x (newer (asked x l.start) b) (paths_below base l.paths)) (IsLogSought x (newer (asked x l.start) b) base l (range_of (asked x l.start) b l)) r) f
    (subst (λ a. Comes m n (logged_denied x (newer a last) (paths_below base l.paths)) (IsLogSought x (newer a last) base l (range_of a last l)) r) e c))

pub between_comes : (x : Repository) (base : Path) (l : LogAsk) (range : LogRange) (top k p m n : ℕ) (places : List Place) (r : Result LogSought Stop) → p ≤ m → top ≡ k → logged_denied x top (paths_below base l.paths) ≡ None → places ≡ map (place top) (paths_below base l.paths) → Comes m n (no_revision x top) (λ s. (s.places.items ≡ places) × (s.range ≡ range) × AreRows x top l.changed_paths s.rows) r → Comes p n (logged_denied x k (paths_below base l.paths)) (IsLogSought x k base l range) r
between_comes x base l range top k p m n places (Ok s) h e d q c =
    subst (λ t. Comes p n (logged_denied x t (paths_below base l.paths)) (IsLogSought x t base l range) (Ok s)) e
    (d, record { places = c.1.0 ∙ q; range = c.1.1; rows = c.1.2 })
between_comes x base l range top k p m n places (Err s) h e d q c =
    calm_stops p m n (no_revision x top) (logged_denied x k (paths_below base l.paths)) s h (first_calm (no_revision x top) (paths_denied (tree_of x top) (paths_below base l.paths)) d) c

pub between_stops : (x : Repository) (ps : List Path) (top k p n : ℕ) (s : Stop) → top ≡ k → MayStop p n (logged_denied x top ps) s → MayStop p n (logged_denied x k ps) s
between_stops x ps top k p n s e m = subst (λ t. MayStop p n (logged_denied x t ps) s) e m

-- ---- places

-- a tree's paths, as they stand in a revision that is there
pub places_there : {V : Type 0} (items : V → List Place) (x : Repository) (ps : List Path) (n : ℕ) (tree : PathMap) (k m : ℕ) (r : Result V Stop) → port.no_revision x n ≡ None → tree ≡ tree_of x n → Decides (paths_denied tree ps) (λ v. items v ≡ map (place n) ps) r → Comes k m (logged_denied x n ps) (λ v. items v ≡ map (place n) ps) r
places_there items x ps n tree k m (Ok v) h t d =
    (both_calm (no_revision x n) (paths_denied (tree_of x n) ps) (is_there x n h) (subst (λ q. paths_denied q ps ≡ None) t d.0), d.1)
places_there items x ps n tree k m (Err s) h t d =
    second_stops k k m (no_revision x n) (paths_denied (tree_of x n) ps) s (omega arith) (is_there x n h)
    (denies_stops k m (paths_denied (tree_of x n) ps) s (subst (λ q. Denies (paths_denied q ps) s) t d))

-- no paths stand for the root
pub paths_none : (base : Path) (ps : List Path) → (length ps == 0) ≡ true → paths_below base ps ≡ [] ∷ []
paths_none base [] h = refl
paths_none base (p ∷ ps) h =
    let e : (length (p ∷ ps) == 0) ≡ false = grind (arith, nat_tests) in
    absurd (true≢false (sym h ∙ e))

pub paths_some : (base : Path) (ps : List Path) → (length ps == 0) ≡ false → paths_below base ps ≡ map (λ q. base ++ q) ps
paths_some base [] h = absurd cc
paths_some base (p ∷ ps) h = refl

-- what is denied of paths, and where they stand, as it is of the same paths
pub decides_same : {V : Type 0} (items : V → List Place) (tree : PathMap) (n : ℕ) (ps qs : List Path) (r : Result V Stop) → ps ≡ qs → Decides (paths_denied tree ps) (λ v. items v ≡ map (place n) ps) r → Decides (paths_denied tree qs) (λ v. items v ≡ map (place n) qs) r
decides_same items tree n ps qs r e d = subst (λ l. Decides (paths_denied tree l) (λ v. items v ≡ map (place n) l) r) e d

-- what is denied of one path behind another, and of several
abbrev pub denied_at : PathMap → Path → Path → Option Denial
denied_at tree base q = place_denied (base ++ q) (finite.get tree (base ++ q))

abbrev pub each_denied : PathMap → Path → List Path → List (Option Denial)
each_denied tree base ps = map (λ p. place_denied p (finite.get tree p)) (map (λ q. base ++ q) ps)

abbrev pub denied_of : PathMap → Path → List Path → Option Denial
denied_of tree base ps = first_of (each_denied tree base ps)

-- the root alone
pub root_denies : (tree : PathMap) (r : Path) (s : Stop) → r ≡ [] → Denies (denied_at tree r r) s → Denies (paths_denied tree ([] ∷ [])) s
root_denies tree r (stop.Denied w) e h = ap (λ o. first_of (o ∷ [])) (sym (ap (λ q. denied_at tree q q) e) ∙ h)
root_denies tree r (stop.Port f) e h = h
root_denies tree r stop.OutOfMemory e h = tt

pub root_there : (tree : PathMap) (n : ℕ) (r : Path) (a : Place) (old new : List Place) → r ≡ [] → denied_at tree r r ≡ None → a ≡ place n (r ++ r) → old ≡ [] → new ≡ old ++ a ∷ [] → (paths_denied tree ([] ∷ []) ≡ None) × (new ≡ place n [] ∷ [])
root_there tree n r a old new e d i o p =
    (ap (λ q. first_of (q ∷ [])) (sym (ap (λ q. denied_at tree q q) e) ∙ d), p ∙ ap (λ l. l ++ a ∷ []) o ∙ ap (λ b. b ∷ []) (i ∙ ap (λ q. place n (q ++ q)) e))

module _ (tree : PathMap) (base : Path) where
  calm_step : (o : Option Denial) (front whole : List (Option Denial)) → first_of (o ∷ front) ≡ None → (first_of front ≡ None → first_of whole ≡ None) → first_of (o ∷ whole) ≡ None
  calm_step None front whole e f = f e
  calm_step (Some w) front whole e f = e

  calm_behind : (ps : List Path) (q : Path) → denied_of tree base ps ≡ None → denied_at tree base q ≡ None → denied_of tree base (ps ++ q ∷ []) ≡ None
  calm_behind [] q h k = ap (λ o. first_of (o ∷ [])) k
  calm_behind (p ∷ ps) q h k = calm_step (denied_at tree base p) (each_denied tree base ps) (each_denied tree base (ps ++ q ∷ [])) h (λ e. calm_behind ps q e k)

  past_first : (o : Option Denial) (front whole : List (Option Denial)) (w : Denial) → first_of (o ∷ front) ≡ None → (first_of front ≡ None → first_of whole ≡ Some w) → first_of (o ∷ whole) ≡ Some w
  past_first None front whole w e f = f e
  past_first (Some v) front whole w e f = absurd (none_is_not v (sym e))

  denied_next : (ps : List Path) (i : ℕ) (d : Path) (w : Denial) → i < length ps → denied_of tree base (take i ps) ≡ None → denied_at tree base (get_or ps i d) ≡ Some w → denied_of tree base ps ≡ Some w
  denied_next [] i d w h c e = absurd (omega arith)
  denied_next (p ∷ ps) zero d w h c e = ap (λ o. first_of (o ∷ each_denied tree base ps)) e
  denied_next (p ∷ ps) (suc i) d w h c e =
      let j : i < length ps = omega arith in
      past_first (denied_at tree base p) (each_denied tree base (take i ps)) (each_denied tree base ps) w c (λ k. denied_next ps i d w j k e)

  pub calm_next : (ps : List Path) (i : ℕ) (q : Path) → i < length ps → q ≡ get_or ps i q → denied_of tree base (take i ps) ≡ None → denied_at tree base q ≡ None → denied_of tree base (take (i + 1) ps) ≡ None
  calm_next ps i q h is c k = subst (λ l. denied_of tree base l ≡ None) (ap (λ r. take i ps ++ r ∷ []) is ∙ sym (take_more ps i q h)) (calm_behind (take i ps) q c k)

  pub next_denies : (ps : List Path) (i : ℕ) (q : Path) (s : Stop) → i < length ps → q ≡ get_or ps i q → denied_of tree base (take i ps) ≡ None → Denies (denied_at tree base q) s → Denies (denied_of tree base ps) s
  next_denies ps i q (stop.Denied w) h is c k = denied_next ps i q w h c (ap (denied_at tree base) (sym is) ∙ k)
  next_denies ps i q (stop.Port f) h is c k = k
  next_denies ps i q stop.OutOfMemory h is c k = tt

places_behind : (n : ℕ) (base : Path) (ps : List Path) (q : Path) → map (place n) (map (λ p. base ++ p) (ps ++ q ∷ [])) ≡ map (place n) (map (λ p. base ++ p) ps) ++ place n (base ++ q) ∷ []
places_behind n base [] q = refl
places_behind n base (p ∷ ps) q = ap (λ l. place n (base ++ p) ∷ l) (places_behind n base ps q)

pub places_next : (n : ℕ) (base : Path) (ps : List Path) (i : ℕ) (q : Path) (a : Place) (old new : List Place) → i < length ps → q ≡ get_or ps i q → a ≡ place n (base ++ q) → new ≡ old ++ a ∷ [] → old ≡ map (place n) (map (λ p. base ++ p) (take i ps)) → new ≡ map (place n) (map (λ p. base ++ p) (take (i + 1) ps))
places_next n base ps i q a old new h is e p o =
    p ∙ ap (λ l. l ++ a ∷ []) o ∙ ap (λ b. map (place n) (map (λ p. base ++ p) (take i ps)) ++ b ∷ []) e ∙ sym (places_behind n base (take i ps) q)
    ∙ ap (λ l. map (place n) (map (λ p. base ++ p) l)) (ap (λ r. take i ps ++ r ∷ []) is ∙ sym (take_more ps i q h))

-- ---- what is told

pub logged_told : {W : Type 0} (contents : W → Option (List ℕ)) (l : LogAsk) (s : LogSought) (sets : Sets) (places : List Place) (told ns : List ℕ) (out : W) (result : Result W ServeFault)
    → sets ≡ s.rows.sets.items
    → places ≡ s.places.items
    → told ≡ ns
    → IsTold sets s.range places ns
    → IfOk result (λ w. Appends (contents out) (contents w) ((entries_told l s.rows.sets.items s.rows.props.items s.rows.trees.items told ++ spell end_item) ++ spell done))
    → IfOk result (λ w. TellsLogged l s (contents out) (contents w))
logged_told contents l s sets places told ns out (Ok w) h k e a t = record {
  found = Logged ns;
  is = subst (λ v. IsTold v s.range s.places.items ns) h (subst (λ v. IsTold sets s.range v ns) k a);
  bytes = subst (λ v. Appends (contents out) (contents w) ((entries_told l s.rows.sets.items s.rows.props.items s.rows.trees.items v ++ spell end_item) ++ spell done)) e t;
}
logged_told contents l s sets places told ns out (Err f) h k e a t = tt

pub long_told : {W : Type 0} (contents : W → Option (List ℕ)) (l : LogAsk) (s : LogSought) (sets : Sets) (places : List Place) (out : W) (result : Result W ServeFault)
    → sets ≡ s.rows.sets.items
    → places ≡ s.places.items
    → log.IsOneTooLong s.range.crosses_copies sets places
    → IfOk result (λ w. TellsBehind (spell end_item) (contents out) (contents w) (stop.Denied denial.NoPath))
    → IfOk result (λ w. TellsLogged l s (contents out) (contents w))
long_told contents l s sets places out (Ok w) h k a t = record {
  found = PastLimits;
  is = subst (λ v. log.IsOneTooLong s.range.crosses_copies v s.places.items) h (subst (λ v. log.IsOneTooLong s.range.crosses_copies sets v) k a);
  bytes = Appends-trans (contents out) t.mid (contents w) (spell end_item) (denied denial.NoPath) t.told t.stop;
}
long_told contents l s sets places out (Err f) h k a t = tt

module _ (x : Repository) (at : Url) (l : LogAsk) where
  stopped : (k n : ℕ) (before now : Option (List ℕ)) (s : Stop) → MayStop k n (log_denied x at.1 l) s → TellsBehind (spell end_item) before now s → Replied x at (Log l) (Rose k n) before now
  stopped k n before now (stop.Denied w) m t = record {
    halt = None;
    found = Logged [];
    has = subst (λ o. FindsLogIf (is_none o) x.sets (range_logged x l) (places_logged x at.1 l) (Logged [])) (sym m) refl;
    lawful = tt;
    counted = inl tt;
    bytes = subst (λ o. Appends before now (spell end_item ++ unless_denied o (spell done))) (sym m) (Appends-trans before t.mid now (spell end_item) (denied w) t.told t.stop);
  }
  stopped k n before now (stop.Port f) m t = record {
    halt = Some f;
    found = Logged [];
    has = refl;
    lawful = (m.0, refl);
    counted = inr m.1;
    bytes = Appends-trans before t.mid now (spell end_item) (refused (refusal_of f)) t.told t.stop;
  }
  stopped k n before now stop.OutOfMemory m t = absurd t.stop

  found_told : (rose : Type 0) (before now : Option (List ℕ)) (s : LogSought) → log_denied x at.1 l ≡ None → IsLogSought x (newest_logged x l) at.1 l (range_logged x l) s → TellsLogged l s before now → Replied x at (Log l) rose before now
  found_told rose before now s d i t = record {
    halt = None;
    found = t.found;
    has = subst (λ o. FindsLogIf (is_none o) x.sets (range_logged x l) (places_logged x at.1 l) t.found) (sym d) (sought_log x (asked x l.start) (asked x l.end) at.1 l s i t.found t.is);
    lawful = tt;
    counted = inl tt;
    bytes = subst (λ o. Appends before now ((entries_of x l (numbers_of t.found) ++ spell end_item) ++ unless_denied (found_denied t.found) (unless_denied o (spell done)))) (sym d)
        (subst (λ v. Appends before now ((v ++ spell end_item) ++ unless_denied (found_denied t.found) (spell done))) (sought_entries x (asked x l.start) (asked x l.end) at.1 l s i t.found t.is) t.bytes);
  }

pub tells_stop : {P W : Type 0} (repository : P → Option Repository) (refusals : P → ℕ) (contents : W → Option (List ℕ)) (at : Url) (l : LogAsk) (old new : P) (out : W) (result : Result W ServeFault) (s : Stop)
    → ((x : Repository) → repository old ≡ Some x → MayStop (refusals old) (refusals new) (log_denied x at.1 l) s)
    → IfOk result (λ w. TellsBehind (spell end_item) (contents out) (contents w) s)
    → IfOk result (Tells repository refusals contents at (Log l) old new out)
tells_stop repository refusals contents at l old new out (Err g) s m t = tt
tells_stop repository refusals contents at l old new out (Ok w) s m t = λ x e. stopped x at l (refusals old) (refusals new) (contents out) (contents w) s (m x e) t

pub tells_found : {P W : Type 0} (repository : P → Option Repository) (refusals : P → ℕ) (contents : W → Option (List ℕ)) (at : Url) (l : LogAsk) (old new : P) (out : W) (result : Result W ServeFault) (s : LogSought)
    → ((x : Repository) → repository old ≡ Some x → (log_denied x at.1 l ≡ None) × IsLogSought x (newest_logged x l) at.1 l (range_logged x l) s)
    → IfOk result (λ w. TellsLogged l s (contents out) (contents w))
    → IfOk result (Tells repository refusals contents at (Log l) old new out)
tells_found repository refusals contents at l old new out (Err g) s m t = tt
tells_found repository refusals contents at l old new out (Ok w) s m t = λ x e. let f = m x e in found_told x at l (Rose (refusals old) (refusals new)) (contents out) (contents w) s f.0 f.1 t
