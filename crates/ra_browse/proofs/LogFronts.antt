-- Logs by what stands up to some revision are those by all revisions.
use Rattle.std.proofs.Common.{◌≡◌, ℕ, suc, ◌≤◌, ◌<◌, Bool, true, false, List, [], ◌∷◌, map, take, sym, ap, subst, ◌∙◌, arith}
use Rattle.std.proofs.lemmas.List.Elements.{All-weaker, All-contains, All-from_recursion, recursion_from_All}
use Rattle.std.specs.Prelude.{nat_lt, if◌then◌else◌}
use Rattle.std.specs.List.{All, AllByRecursion, Contains}
use Rattle.std.specs.Option.{option_map_or}
use Rattle.node_base.specs.Path.{Path}
use Rattle.repo_core.specs.Repository.{Repository, trees_of}
use Rattle.path_history.specs.declared.asked.Asked.{Asked}
use Rattle.path_history.specs.declared.place.Place.{Place}
use Rattle.path_history.specs.Places.{Sets, place, touches, is_touched}
use Rattle.path_history.specs.Histories.{IsAsked}
use Rattle.path_history.specs.Logs.{IsLogged, IsLog}
use Rattle.path_history.proofs.Telling.{line_before}
use Rattle.browse_wire.specs.Asks.{LogAsk}
use Rattle.ra_history.specs.Logs.{IsTold, asked_of}
use Rattle.ra_history.proofs.Logs.{tells_no_other}
use Rattle.ra_history.specs.Rows.{props_of}
use Rattle.ra_history.specs.declared.range.LogRange.{LogRange}
use Rattle.ra_log.proofs.Fronts.{get_front, entries_front}
use Rattle.ra_log.specs.Entries.{entries_told}
use Rattle.ra_browse.specs.declared.log.LogSought.{LogSought}
use Rattle.ra_browse.specs.Histories.{Found, Nothing, Stood, Logged, PastLimits, FindsLog, newer, range_of, paths_below, places_below, numbers_of, entries_of}
use Rattle.ra_browse.specs.Tellings.{IsLogSought}
use Rattle.ra_browse.proofs.Fronts.{line_whole, line_front, newer_left, newer_right}

-- ---- by a front of the sets

-- one of them
small : (k : ℕ) (places : List Place) (a : Place) → All (λ a. a.revision < k) places → Contains places a → a.revision < k
small k places a l c = All-contains (λ a. a.revision < k) places a l c

touched_front : (sets : Sets) (k : ℕ) (b : Place) → b.revision < k → is_touched (take k sets) b ≡ is_touched sets b
touched_front sets k b h = ap (λ o. option_map_or (λ set. touches set b.path) o false) (get_front sets k b.revision h)

module _ (sets : Sets) (k : ℕ) (w : Asked) where
  pub asked_whole : (a b : Place) → a.revision < k → IsAsked (take k sets) w a b → IsAsked sets w a b
  asked_whole a b h i =
      let l = line_before w.crosses_copies (take k sets) a b i.follows in
      record {
        follows = line_whole w.crosses_copies sets k a b h i.follows;
        touched = sym (touched_front sets k b (omega (arith, h, l))) ∙ i.touched;
        from = i.from;
        to = i.to;
      }

  pub asked_front : (a b : Place) → a.revision < k → IsAsked sets w a b → IsAsked (take k sets) w a b
  asked_front a b h i =
      let l = line_before w.crosses_copies sets a b i.follows in
      record {
        follows = line_front w.crosses_copies sets k a b h i.follows;
        touched = touched_front sets k b (omega (arith, h, l)) ∙ i.touched;
        from = i.from;
        to = i.to;
      }

  log_whole : (places : List Place) (told : List ℕ) → All (λ a. a.revision < k) places → IsLog (take k sets) w places told → IsLog sets w places told
  log_whole places told l i = record {
    has = record {
      each = λ n c.
          let j = i.has.each n c in
          record { from = j.from; at = j.at; given = j.given; asked = asked_whole j.from j.at (small k places j.from l j.given) j.asked; number = j.number };
      all = λ n j. i.has.all n (record { from = j.from; at = j.at; given = j.given; asked = asked_front j.from j.at (small k places j.from l j.given) j.asked; number = j.number });
    };
    rises = i.rises;
  }

module _ (sets : Sets) (k : ℕ) (r : LogRange) (places : List Place) where
  pub finds_whole : (found : Found) → All (λ a. a.revision < k) places → FindsLog (take k sets) r places found → FindsLog sets r places found
  finds_whole Nothing l f = f
  finds_whole (Stood ps) l f = f
  finds_whole (Logged told) l f = (f.0, log_whole sets k (asked_of r) places f.0 l f.1, f.2)
  finds_whole PastLimits l f = record {
    from = f.from;
    given = f.given;
    long = record { at = f.long.at; follows = line_whole r.crosses_copies sets k f.from f.long.at (small k places f.from l f.given) f.long.follows; long = f.long.long };
  }

-- ---- the revisions of a log are none above its range

highest_within : (first last : ℕ) → (if nat_lt last first then first else last) ≤ newer first last
highest_within first last = at (nat_lt last first)
  where
    at : (b : Bool) → (if b then first else last) ≤ newer first last
    at true = newer_left first last
    at false = newer_right first last

below : (first last n m : ℕ) → m ≡ n → m ≤ (if nat_lt last first then first else last) → n < suc (newer first last)
below first last n m e h = let t = highest_within first last in omega (arith, e, h, t)

told_below : (sets : Sets) (first last : ℕ) (l : LogAsk) (places : List Place) (told : List ℕ) → IsTold sets (range_of first last l) places told → AllByRecursion (λ n. n < suc (newer first last)) told
told_below sets first last l places told i =
    recursion_from_All (λ n. n < suc (newer first last)) told
    (All-weaker (IsLogged sets (asked_of (range_of first last l)) places) (λ n. n < suc (newer first last)) (λ n j. below first last n j.at.revision j.number j.asked.to) told (tells_no_other sets (range_of first last l) places told i))

found_below : (sets : Sets) (first last : ℕ) (l : LogAsk) (places : List Place) (found : Found) → FindsLog sets (range_of first last l) places found → AllByRecursion (λ n. n < suc (newer first last)) (numbers_of found)
found_below sets first last l places Nothing f = tt
found_below sets first last l places (Stood ps) f = tt
found_below sets first last l places (Logged told) f = told_below sets first last l places told f
found_below sets first last l places PastLimits f = tt

-- ---- what was looked for

places_at : (n : ℕ) (ps : List Path) → AllByRecursion (λ a. a.revision < suc n) (map (place n) ps)
places_at n [] = tt
places_at n (p ∷ ps) = let h : n < suc n = omega arith in (h, places_at n ps)

module _ (x : Repository) (first last : ℕ) (base : Path) (l : LogAsk) (s : LogSought) (i : IsLogSought x (newer first last) base l (range_of first last l) s) where
  -- what was found of it
  pub sought_log : (found : Found) → FindsLog s.rows.sets.items s.range s.places.items found → FindsLog x.sets (range_of first last l) (places_below (newer first last) base l) found
  sought_log found f =
      finds_whole x.sets (suc (newer first last)) (range_of first last l) (places_below (newer first last) base l) found
      (All-from_recursion (λ a. a.revision < suc (newer first last)) (places_below (newer first last) base l) (places_at (newer first last) (paths_below base l.paths)))
      (subst (λ v. FindsLog (take (suc (newer first last)) x.sets) (range_of first last l) v found) i.places
      (subst (λ r. FindsLog (take (suc (newer first last)) x.sets) r s.places.items found) i.range
      (subst (λ v. FindsLog v s.range s.places.items found) i.rows.sets f)))

  -- and its entries
  pub sought_entries : (found : Found) → FindsLog s.rows.sets.items s.range s.places.items found → entries_told l s.rows.sets.items s.rows.props.items s.rows.trees.items (numbers_of found) ≡ entries_of x l (numbers_of found)
  sought_entries found f =
      let ns = numbers_of found in
      let k = suc (newer first last) in
      ap (λ v. entries_told l v s.rows.props.items s.rows.trees.items ns) i.rows.sets
      ∙ ap (λ v. entries_told l (take k x.sets) v s.rows.trees.items ns) i.rows.props
      ∙ ap (λ v. entries_told l (take k x.sets) (take k (props_of x.revisions)) v ns) i.rows.trees
      ∙ entries_front l x.sets (props_of x.revisions) (trees_of x.revisions) k ns (found_below x.sets first last l (places_below (newer first last) base l) found (sought_log found f))
