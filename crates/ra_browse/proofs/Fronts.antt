-- Histories by the sets up to some revision are those by all sets.
use Rattle.std.proofs.Common.{◌≡◌, ℕ, zero, suc, ◌≤◌, ◌<◌, Bool, true, false, List, [], ◌∷◌, ◌++◌, take, length, get_or, ◌+◌, Option, Some, None, refl, sym, ap, subst, ◌∙◌, arith, nat_lt}
use Rattle.std.proofs.Math.Seq.{take-suc}
use Rattle.std.proofs.lemmas.Bool.Decides.{nat_tests}
use Rattle.std.specs.Prelude.{nat_le, if◌then◌else◌}
use Rattle.node_base.specs.declared.refusal.Refusal.TheVariants as refusal
use Rattle.dump_load.specs.Faults.{fault_if}
use Rattle.ra_serve.specs.Ports as port
use Rattle.ra_denial.specs.Denials.{no_revision}
use Rattle.ra_denial.specs.declared.denial.Denial.TheVariants as denial
use Rattle.std.specs.List.{AllByRecursion, Contains}
use Rattle.std.specs.Option.{option_and_then}
use Rattle.path_history.specs.declared.place.Place.{Place}
use Rattle.path_history.specs.Places.{Sets, place, origin, came_from, Follows, here, back}
use Rattle.path_history.specs.Histories.{IsPlaceAt}
use Rattle.path_history.proofs.Telling.{came_before}
use Rattle.ra_history.specs.Locations.{later, seen_from, IsLater, IsAt, AreLocations, IsOneTooLong}
use Rattle.repo_core.specs.Repository.{Repository}
use Rattle.node_base.specs.Path.{Path}
use Rattle.ra_browse.specs.declared.location.Sought.{Sought}
use Rattle.ra_browse.specs.Histories.{Found, Nothing, Stood, Logged, PastLimits, newer, newest, FindsPlaces}
use Rattle.ra_log.proofs.Fronts.{get_front}
use Rattle.ra_browse.specs.Tellings.{IsSought}

-- ---- the newest of some revisions

pub newer_left : (n m : ℕ) → n ≤ newer n m
newer_left n m = at (nat_lt n m) refl
  where
    at : (b : Bool) → nat_lt n m ≡ b → n ≤ (if b then m else n)
    at true e = grind (arith, nat_tests)
    at false e = omega arith

pub newer_right : (n m : ℕ) → m ≤ newer n m
newer_right n m = at (nat_lt n m) refl
  where
    at : (b : Bool) → nat_lt n m ≡ b → m ≤ (if b then m else n)
    at true e = omega arith
    at false e = grind (arith, nat_tests)

pub newest_from : (n : ℕ) (ms : List ℕ) → n ≤ newest n ms
newest_from n [] = omega arith
newest_from n (m ∷ ms) = omega (arith, newer_left n m, newest_from (newer n m) ms)

pub newest_all : (n : ℕ) (ms : List ℕ) → AllByRecursion (λ m. m ≤ newest n ms) ms
newest_all n [] = tt
newest_all n (m ∷ ms) = (omega (arith, newer_right n m, newest_from (newer n m) ms), newest_all (newer n m) ms)

pub newest_push : (n : ℕ) (ms : List ℕ) (m : ℕ) → newest n (ms ++ m ∷ []) ≡ newer (newest n ms) m
newest_push n [] m = refl
newest_push n (k ∷ ms) m = newest_push (newer n k) ms m

-- one of them
at_most : (k : ℕ) (ns : List ℕ) (i d : ℕ) → AllByRecursion (λ m. m ≤ k) ns → i < length ns → get_or ns i d ≤ k
at_most k [] i d l h = absurd (omega arith)
at_most k (m ∷ ns) zero d l h = l.0
at_most k (m ∷ ns) (suc i) d l h = at_most k ns i d l.1 (omega arith)

past : (b : Bool) → fault_if b refusal.NoSuchRevision ≡ Some refusal.NoSuchRevision → b ≡ true
past true e = refl
past false e = absurd cc

-- it isn't there, and so the newest isn't
pub above_all : (x : Repository) (peg : ℕ) (ns : List ℕ) (i d n : ℕ) → i < length ns → n ≡ get_or ns i d → port.no_revision x n ≡ Some refusal.NoSuchRevision → no_revision x (newest peg ns) ≡ Some denial.NoRevision
above_all x peg ns i d n h is e =
    let b = past (nat_le (length x.revisions) n) e in
    let l : n ≤ newest peg ns = subst (λ k. k ≤ newest peg ns) (sym is) (at_most (newest peg ns) ns i d (newest_all peg ns) h) in
    let t : nat_le (length x.revisions) (newest peg ns) ≡ true = grind (arith, nat_tests) in
    ap (λ c. fault_if c denial.NoRevision) t

-- the first of them, and the next
next_is : (i : ℕ) → suc i ≡ i + 1
next_is i = omega arith

taken : (ns : List ℕ) (i d n m : ℕ) → i < length ns → n ≡ get_or ns i d → m ≡ n → take (i + 1) ns ≡ take i ns ++ m ∷ []
taken ns i d n m h is e = ap (λ j. take j ns) (sym (next_is i)) ∙ take-suc ns i d h ∙ ap (λ k. take i ns ++ k ∷ []) (sym is ∙ sym e)

pub numbers_more : (ns : List ℕ) (i d n m : ℕ) (old new : List ℕ) → i < length ns → n ≡ get_or ns i d → m ≡ n → new ≡ old ++ m ∷ [] → old ≡ take i ns → new ≡ take (i + 1) ns
numbers_more ns i d n m old new h is e p o = p ∙ ap (λ l. l ++ m ∷ []) o ∙ sym (taken ns i d n m h is e)

pub newest_more : (peg : ℕ) (ns : List ℕ) (i d n m last new : ℕ) → i < length ns → n ≡ get_or ns i d → m ≡ n → last ≡ newest peg (take i ns) → new ≡ newer last m → new ≡ newest peg (take (i + 1) ns)
newest_more peg ns i d n m last new h is e l w = w ∙ ap (λ k. newer k m) l ∙ sym (newest_push peg (take i ns) m) ∙ ap (newest peg) (sym (taken ns i d n m h is e))

-- ---- lines

module _ (crosses : Bool) (sets : Sets) (k : ℕ) where
  came_front : (a : Place) → a.revision < k → came_from crosses (take k sets) a ≡ came_from crosses sets a
  came_front a h = ap (option_and_then (λ set. origin crosses set a)) (get_front sets k a.revision h)

  pub line_whole : (a b : Place) → a.revision < k → Follows crosses (take k sets) a b → Follows crosses sets a b
  line_whole _ _ h (here a) = here a
  line_whole _ _ h (back a b c came rest) = back a b c (sym (came_front a h) ∙ came) (line_whole b c (omega (arith, h, came_before crosses (take k sets) a b came)) rest)

  pub line_front : (a b : Place) → a.revision < k → Follows crosses sets a b → Follows crosses (take k sets) a b
  line_front _ _ h (here a) = here a
  line_front _ _ h (back a b c came rest) = back a b c (came_front a h ∙ came) (line_front b c (omega (arith, h, came_before crosses sets a b came)) rest)

module _ (sets : Sets) (k : ℕ) where
  place_whole : (a : Place) (n : ℕ) (o : Option Place) → a.revision < k → IsPlaceAt (take k sets) a n o → IsPlaceAt sets a n o
  place_whole a n None h i = λ b f e. i b (line_front true sets k a b h f) e
  place_whole a n (Some b) h i = (line_whole true sets k a b h i.0, i.1)

  later_whole : (a : Place) (n : ℕ) (o : Option Place) → n < k → IsLater (take k sets) a n o → IsLater sets a n o
  later_whole a n None h i = λ f. i (line_front true sets k (later a n) a h f)
  later_whole a n (Some b) h i = (i.0, line_whole true sets k (later a n) a h i.1)

  at_whole : (t : Bool) (a : Place) (n : ℕ) (o : Option Place) → a.revision < k → n < k → IsAt t (take k sets) a n o → IsAt t sets a n o
  at_whole true a n o h l i = later_whole a n o l i
  at_whole false a n o h l i = place_whole a n o h i

  places_whole : (a : Place) (ns : List ℕ) (told : List Place) → a.revision < k → AllByRecursion (λ n. n < k) ns → AreLocations (take k sets) a ns told → AreLocations sets a ns told
  places_whole a [] told h l i = i
  places_whole a (n ∷ ns) told h l i = (i.0, i.1, at_whole (nat_lt a.revision n) a n i.0 h l.0 i.2, places_whole a ns i.1 h l.1 i.3, i.4)

  small : (ns : List ℕ) (n : ℕ) → AllByRecursion (λ n. n < k) ns → Contains ns n → n < k
  small [] n l (i, lt, e) = absurd (omega arith)
  small (m ∷ ns) n l (zero, lt, e) = subst (λ j. j < k) e l.0
  small (m ∷ ns) n l (suc i, lt, e) = small ns n l.1 (i, omega arith, e)

  seen_small : (a : Place) (n : ℕ) → a.revision < k → n < k → (seen_from a n).revision < k
  seen_small a n h l = at (nat_lt a.revision n)
    where
      at : (t : Bool) → (if t then later a n else a).revision < k
      at true = l
      at false = h

  long_whole : (a : Place) (ns : List ℕ) → a.revision < k → AllByRecursion (λ n. n < k) ns → IsOneTooLong (take k sets) a ns → IsOneTooLong sets a ns
  long_whole a ns h l o = record {
    number = o.number;
    given = o.given;
    long = record { at = o.long.at; follows = line_whole true sets k (seen_from a o.number) o.long.at (seen_small a o.number h (small ns o.number l o.given)) o.long.follows; long = o.long.long };
  }

  found_whole : (a : Place) (ns : List ℕ) (found : Found) → a.revision < k → AllByRecursion (λ n. n < k) ns → FindsPlaces (take k sets) a ns found → FindsPlaces sets a ns found
  found_whole a ns Nothing h l i = i
  found_whole a ns (Stood places) h l i = places_whole a ns places h l i
  found_whole a ns (Logged told) h l i = i
  found_whole a ns PastLimits h l i = long_whole a ns h l i

all_below : (n : ℕ) (ms : List ℕ) → AllByRecursion (λ m. m ≤ n) ms → AllByRecursion (λ m. m < suc n) ms
all_below n [] l = tt
all_below n (m ∷ ms) l = (omega (arith, l.0), all_below n ms l.1)

-- what was looked for
pub sought_found : (x : Repository) (p : Path) (peg : ℕ) (ns : List ℕ) (s : Sought) (found : Found) → IsSought x (place peg p) ns s → FindsPlaces s.sets.items s.from s.numbers.items found → FindsPlaces x.sets (place peg p) ns found
sought_found x p peg ns s found i f =
    found_whole x.sets (suc (newest peg ns)) (place peg p) ns found (omega (arith, newest_from peg ns)) (all_below (newest peg ns) ns (newest_all peg ns))
    (subst (λ l. FindsPlaces (take (suc (newest peg ns)) x.sets) (place peg p) l found) i.numbers
    (subst (λ a. FindsPlaces (take (suc (newest peg ns)) x.sets) a s.numbers.items found) i.from
    (subst (λ l. FindsPlaces l s.from s.numbers.items found) i.sets f)))
