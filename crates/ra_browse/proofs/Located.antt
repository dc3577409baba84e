-- Exits of what tells where a node stood.
use Rattle.std.proofs.Common.{◌≡◌, ℕ, ◌≤◌, inl, inr, true, false, List, [], ◌∷◌, ◌++◌, Option, Some, None, Result, Ok, Err, true≢false, refl, sym, ap, subst, ◌∙◌, arith}
use Rattle.std.proofs.KnownBytes.{Appends-trans}
use Rattle.std.specs.Prelude.{IfOk, is_none, not, ◌&&◌}
use Rattle.std.specs.FinMap as finite
use Rattle.std.specs.List.{flat_map}
use Rattle.node_base.specs.Limits.{fits}
use Rattle.node_base.specs.Tree.{PathMap}
use Rattle.node_base.specs.declared.node.Node.{Node}
use Rattle.path_history.specs.declared.place.Place.{Place}
use Rattle.ra_history.specs.Locations.{AreLocations, IsOneTooLong}
use Rattle.ra_serve.specs.Ports as port
use Rattle.std.specs.Io.KnownBytes.{Appends}
use Rattle.fleet_disk.specs.Rules.{Rose}
use Rattle.node_base.specs.Path.{Path}
use Rattle.dump_load.specs.Faults.{first_of, fault_if}
use Rattle.repo_core.specs.Repository.{Repository}
use Rattle.ra_item.specs.Items.{spell}
use Rattle.ra_wire.specs.Replies.{done}
use Rattle.browse_wire.specs.Asks.{Locations}
use Rattle.browse_wire.specs.Told.{end_item}
use Rattle.browse_wire.specs.Urls.{Url}
use Rattle.path_history.specs.Places.{Sets, place}
use Rattle.ra_serve.specs.declared.fault.ServeFault.{ServeFault}
use Rattle.ra_serve.specs.Answers.{refused, node_in}
use Rattle.ra_serve.specs.Ports.{refusal_of, tree_of}
use Rattle.ra_serve.proofs.Causes.{rose_later, rose_sooner}
use Rattle.ra_denial.specs.Denials.{denied, unless_denied, no_revision}
use Rattle.ra_denial.specs.Stops.{MayStop, Comes, Denies, Decides}
use Rattle.ra_denial.specs.Writing.{TellsBehind}
use Rattle.ra_denial.specs.declared.denial.Denial.{Denial}
use Rattle.ra_denial.specs.declared.denial.Denial.TheVariants as denial
use Rattle.ra_denial.specs.declared.stop.Stop.{Stop}
use Rattle.ra_denial.specs.declared.stop.Stop.TheVariants as stop
use Rattle.ra_denial.proofs.Causes.{is_there}
use Rattle.ra_denial.proofs.Stops.{denies_stops}
use Rattle.ra_browse.specs.declared.location.Sought.{Sought}
use Rattle.ra_browse.specs.Histories.{Stood, PastLimits, FindsIf, newest, place_item, places_told, places_of, found_denied}
use Rattle.ra_browse.specs.Answers.{place_denied, stood_denied, locations_denied}
use Rattle.ra_browse.specs.Tellings.{TellsLocations, IsSought, Replied, Tells}
use Rattle.ra_browse.proofs.Fronts.{sought_found}

-- ---- calls one after another

-- the first of two stopped
pub first_stops : (p m n : ℕ) (d e : Option Denial) (s : Stop) → m ≤ n → MayStop p m d s → MayStop p n (first_of (d ∷ e ∷ [])) s
first_stops p m n d e (stop.Denied w) h k = ap (λ o. first_of (o ∷ e ∷ [])) k
first_stops p m n d e (stop.Port f) h k = (k.0, rose_sooner p m n h k.1)
first_stops p m n d e stop.OutOfMemory h k = tt

pub only_second : (d e : Option Denial) → d ≡ None → first_of (d ∷ e ∷ []) ≡ e
only_second d None h = ap (λ o. first_of (o ∷ None ∷ [])) h
only_second d (Some w) h = ap (λ o. first_of (o ∷ Some w ∷ [])) h

-- the second of two stopped
pub second_stops : (p m n : ℕ) (d e : Option Denial) (s : Stop) → p ≤ m → d ≡ None → MayStop m n e s → MayStop p n (first_of (d ∷ e ∷ [])) s
second_stops p m n d e (stop.Denied w) h k i = only_second d e k ∙ i
second_stops p m n d e (stop.Port f) h k i = (i.0, rose_later p m n h i.1)
second_stops p m n d e stop.OutOfMemory h k i = tt

-- none did
pub both_calm : (d e : Option Denial) → d ≡ None → e ≡ None → first_of (d ∷ e ∷ []) ≡ None
both_calm d e h k = only_second d e h ∙ k

-- ---- what calls come to

-- the same of another value
pub comes_else : {A : Type 0} (k m : ℕ) (d e : Option Denial) (Is Also : A → Type 0) (r : Result A Stop) → d ≡ e → ((a : A) → Is a → Also a) → Comes k m d Is r → Comes k m e Also r
comes_else k m d e Is Also (Ok a) h f c = (sym h ∙ c.0, f a c.1)
comes_else k m d e Is Also (Err s) h f c = subst (λ o. MayStop k m o s) h c

-- behind a call of which nothing is denied
pub both_come : {A : Type 0} (p m n : ℕ) (d e : Option Denial) (Is : A → Type 0) (r : Result A Stop) → p ≤ m → d ≡ None → Comes m n e Is r → Comes p n (first_of (d ∷ e ∷ [])) Is r
both_come p m n d e Is (Ok a) l h c = (both_calm d e h c.0, c.1)
both_come p m n d e Is (Err s) l h c = second_stops p m n d e s l h c

pub sought_comes : (x : Repository) (p : Path) (peg : ℕ) (ns : List ℕ) (from : Place) (k m n : ℕ) (r : Result Sought Stop) → k ≤ m → stood_denied x p peg ≡ None → from ≡ place peg p → Comes m n (no_revision x (newest from.revision ns)) (IsSought x from ns) r → Comes k n (locations_denied x p peg ns) (IsSought x (place peg p) ns) r
sought_comes x p peg ns from k m n r l h e c =
    both_come k m n (stood_denied x p peg) (no_revision x (newest peg ns)) (IsSought x (place peg p) ns) r l h
    (subst (λ a. Comes m n (no_revision x (newest a.revision ns)) (IsSought x a ns) r) e c)

-- ---- where something stands

pub place_there : (p : Path) (d : Option Node) → fits p ≡ true → is_none d ≡ false → place_denied p d ≡ None
place_there p None f s = absurd (true≢false s)
place_there p (Some d) f s = ap (λ b. fault_if (not (b && true)) denial.NoPath) f

pub place_comes : (x : Repository) (p : Path) (n rev : ℕ) (tree : PathMap) (k m : ℕ) (r : Result Place Stop) → port.no_revision x n ≡ None → rev ≡ n → tree ≡ tree_of x n → Decides (place_denied p (finite.get tree p)) (λ a. a ≡ place rev p) r → Comes k m (stood_denied x p n) (λ a. a ≡ place n p) r
place_comes x p n rev tree k m (Ok a) h e t d =
    (both_calm (no_revision x n) (place_denied p (node_in x n p)) (is_there x n h) (subst (λ q. place_denied p (finite.get q p) ≡ None) t d.0), d.1 ∙ ap (λ v. place v p) e)
place_comes x p n rev tree k m (Err s) h e t d =
    second_stops k k m (no_revision x n) (place_denied p (node_in x n p)) s (omega arith) (is_there x n h)
    (denies_stops k m (place_denied p (node_in x n p)) s (subst (λ q. Denies (place_denied p (finite.get q p)) s) t d))

-- ---- places

pub places_row : (places : List Place) → places_told places ≡ flat_map (λ a. spell (place_item a)) places
places_row [] = refl
places_row (a ∷ places) = ap (λ l. spell (place_item a) ++ l) (places_row places)

pub located_told : {W : Type 0} (contents : W → Option (List ℕ)) (s : Sought) (sets : Sets) (ns : List ℕ) (told places : List Place) (out : W) (result : Result W ServeFault)
    → sets ≡ s.sets.items
    → ns ≡ s.numbers.items
    → told ≡ places
    → AreLocations sets s.from ns places
    → IfOk result (λ w. Appends (contents out) (contents w) ((places_told told ++ spell end_item) ++ spell done))
    → IfOk result (λ w. TellsLocations s (contents out) (contents w))
located_told contents s sets ns told places out (Ok w) h k e a t = record {
  found = Stood places;
  is = subst (λ l. AreLocations l s.from s.numbers.items places) h (subst (λ l. AreLocations sets s.from l places) k a);
  bytes = subst (λ l. Appends (contents out) (contents w) ((places_told l ++ spell end_item) ++ spell done)) e t;
}
located_told contents s sets ns told places out (Err f) h k e a t = tt

pub long_told : {W : Type 0} (contents : W → Option (List ℕ)) (s : Sought) (sets : Sets) (ns : List ℕ) (out : W) (result : Result W ServeFault)
    → sets ≡ s.sets.items
    → ns ≡ s.numbers.items
    → IsOneTooLong sets s.from ns
    → IfOk result (λ w. TellsBehind (spell end_item) (contents out) (contents w) (stop.Denied denial.NoPath))
    → IfOk result (λ w. TellsLocations s (contents out) (contents w))
long_told contents s sets ns out (Ok w) h k a t = record { found = PastLimits; is = subst (λ l. IsOneTooLong l s.from s.numbers.items) h (subst (λ l. IsOneTooLong sets s.from l) k a); bytes = Appends-trans (contents out) t.mid (contents w) (spell end_item) (denied denial.NoPath) t.told t.stop }
long_told contents s sets ns out (Err f) h k a t = tt

-- ---- what is told

module _ (x : Repository) (at : Url) (p : Path) (peg : ℕ) (ns : List ℕ) where
  stopped : (k n : ℕ) (before now : Option (List ℕ)) (s : Stop) → MayStop k n (locations_denied x (at.1 ++ p) peg ns) s → TellsBehind (spell end_item) before now s → Replied x at (Locations p peg ns) (Rose k n) before now
  stopped k n before now (stop.Denied w) m t = record {
    halt = None;
    found = Stood [];
    has = subst (λ o. FindsIf (is_none o) x.sets (place peg (at.1 ++ p)) ns (Stood [])) (sym m) refl;
    lawful = tt;
    counted = inl tt;
    bytes = subst (λ o. Appends before now (spell end_item ++ unless_denied o (spell done))) (sym m) (Appends-trans before t.mid now (spell end_item) (denied w) t.told t.stop);
  }
  stopped k n before now (stop.Port f) m t = record {
    halt = Some f;
    found = Stood [];
    has = refl;
    lawful = (m.0, refl);
    counted = inr m.1;
    bytes = Appends-trans before t.mid now (spell end_item) (refused (refusal_of f)) t.told t.stop;
  }
  stopped k n before now stop.OutOfMemory m t = absurd t.stop

  found_told : (rose : Type 0) (before now : Option (List ℕ)) (s : Sought) → locations_denied x (at.1 ++ p) peg ns ≡ None → IsSought x (place peg (at.1 ++ p)) ns s → TellsLocations s before now → Replied x at (Locations p peg ns) rose before now
  found_told rose before now s d i t = record {
    halt = None;
    found = t.found;
    has = subst (λ o. FindsIf (is_none o) x.sets (place peg (at.1 ++ p)) ns t.found) (sym d) (sought_found x (at.1 ++ p) peg ns s t.found i t.is);
    lawful = tt;
    counted = inl tt;
    bytes = subst (λ o. Appends before now ((places_told (places_of t.found) ++ spell end_item) ++ unless_denied (found_denied t.found) (unless_denied o (spell done)))) (sym d) t.bytes;
  }

pub tells_stop : {P W : Type 0} (repository : P → Option Repository) (refusals : P → ℕ) (contents : W → Option (List ℕ)) (at : Url) (p : Path) (peg : ℕ) (ns : List ℕ) (old new : P) (out : W) (result : Result W ServeFault) (s : Stop)
    → ((x : Repository) → repository old ≡ Some x → MayStop (refusals old) (refusals new) (locations_denied x (at.1 ++ p) peg ns) s)
    → IfOk result (λ w. TellsBehind (spell end_item) (contents out) (contents w) s)
    → IfOk result (Tells repository refusals contents at (Locations p peg ns) old new out)
tells_stop repository refusals contents at p peg ns old new out (Err g) s m t = tt
tells_stop repository refusals contents at p peg ns old new out (Ok w) s m t = λ x e. stopped x at p peg ns (refusals old) (refusals new) (contents out) (contents w) s (m x e) t

pub tells_found : {P W : Type 0} (repository : P → Option Repository) (refusals : P → ℕ) (contents : W → Option (List ℕ)) (at : Url) (p : Path) (peg : ℕ) (ns : List ℕ) (old new : P) (out : W) (result : Result W ServeFault) (s : Sought)
    → ((x : Repository) → repository old ≡ Some x → (locations_denied x (at.1 ++ p) peg ns ≡ None) × IsSought x (place peg (at.1 ++ p)) ns s)
    → IfOk result (λ w. TellsLocations s (contents out) (contents w))
    → IfOk result (Tells repository refusals contents at (Locations p peg ns) old new out)
tells_found repository refusals contents at p peg ns old new out (Err g) s m t = tt
tells_found repository refusals contents at p peg ns old new out (Ok w) s m t = λ x e. let f = m x e in found_told x at p peg ns (Rose (refusals old) (refusals new)) (contents out) (contents w) s f.0 f.1 t
