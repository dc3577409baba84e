-- A walk along a line, which tells the places that are asked for.
use Rattle.std.proofs.Common.{◌≡◌, ℕ, ◌+◌, ◌-◌, ◌<◌, ◌≤◌, Bool, true, false, cond, ◌&&◌, ◌⊎◌, inl, inr, [], ◌∷◌, ◌++◌, List, length, Option, Some, None, IfSome, refl, sym, ap, subst, ◌∙◌, arith, length-append, nat_le, nat_lt}
use Rattle.std.specs.Prelude.{slice_get}
use Rattle.std.specs.Option.{option_map, option_map_or, option_and_then}
use Rattle.std.specs.List.{AllByRecursion, Contains}
use Rattle.std.proofs.lemmas.Bool.{false≢true}
use Rattle.std.proofs.lemmas.Bool.Decides.{nat_tests}
use Rattle.std.proofs.lemmas.List.Elements.{Contains-append_left, Contains-push}
use Rattle.node_base.specs.Path.{Path, rest_after}
use Rattle.node_base.specs.declared.node.Source.{Source}
use Rattle.dump_load.specs.declared.change.Change.{Change}
use Rattle.dump_load.specs.Changes.{governing}
use Rattle.path_history.specs.declared.asked.Asked.{Asked}
use Rattle.path_history.specs.declared.place.Place.{Place}
use Rattle.path_history.specs.Places.{Sets, place, stayed, copied, origin, came_from, CameFrom, Follows, here, back, touches, is_touched, IsPastLimits}
use Rattle.path_history.specs.Histories.{FollowsFrom, IsAsked, Fall, IsCut, IsHistory, IsTooLong}

-- ---- a line goes to earlier revisions

-- the place is of an earlier revision than n
abbrev pub IsBefore : ℕ → Option Place → Type 0
IsBefore n o = IfSome o (λ b. b.revision < n)

none_before : (n : ℕ) → IsBefore n None
none_before n = tt

stayed_before : (a : Place) → IsBefore a.revision (stayed a)
stayed_before a = at (nat_lt 0 a.revision) refl
  where
    at : (t : Bool) → nat_lt 0 a.revision ≡ t → IsBefore a.revision (cond t (Some (place (a.revision - 1) a.path)) None)
    at true e = grind (arith, nat_tests)
    at false e = tt

copied_before : (c : Change) (a : Place) → IsBefore a.revision (copied c a)
copied_before c a = at c.source
  where
    behind : (s : Source) → s.revision < a.revision → (r : Option Path) → IsBefore a.revision (option_map (λ r. place s.revision (s.path ++ r)) r)
    behind s lt None = tt
    behind s lt (Some r) = lt

    test : (s : Source) (t : Bool) → nat_lt s.revision a.revision ≡ t → IsBefore a.revision (cond t (option_map (λ r. place s.revision (s.path ++ r)) (rest_after c.path a.path)) None)
    test s true e = behind s (grind (arith, nat_tests)) (rest_after c.path a.path)
    test s false e = tt

    at : (o : Option Source) → IsBefore a.revision (option_and_then (λ s. cond (nat_lt s.revision a.revision) (option_map (λ r. place s.revision (s.path ++ r)) (rest_after c.path a.path)) None) o)
    at None = tt
    at (Some s) = test s (nat_lt s.revision a.revision) refl

pub origin_before : (crosses : Bool) (set : List Change) (a : Place) → IsBefore a.revision (origin crosses set a)
origin_before crosses set a = at (governing set a.path)
  where
    cross : (c : Change) (b : Bool) → IsBefore a.revision (cond b (copied c a) None)
    cross c true = copied_before c a
    cross c false = tt

    at : (o : Option Change) → IsBefore a.revision (option_map_or (λ c. cond crosses (copied c a) None) o (stayed a))
    at None = stayed_before a
    at (Some c) = cross c crosses

pub came_before : (crosses : Bool) (sets : Sets) (a b : Place) → CameFrom crosses sets a b → b.revision < a.revision
came_before crosses sets a b e = at (slice_get sets a.revision) e
  where
    at : (o : Option (List Change)) → option_and_then (λ set. origin crosses set a) o ≡ Some b → b.revision < a.revision
    at None e = cc
    at (Some set) e = subst (IsBefore a.revision) e (origin_before crosses set a)

pub line_before : (crosses : Bool) (sets : Sets) (a b : Place) → Follows crosses sets a b → b.revision ≤ a.revision
line_before crosses sets _ _ (here a) = omega arith
line_before crosses sets _ _ (back a b c came rest) = omega (arith, came_before crosses sets a b came, line_before crosses sets b c rest)

-- a place of a line is its first, or on the line of where that came from
pub line_cases : (crosses : Bool) (sets : Sets) (a b : Place) → Follows crosses sets a b → (a ≡ b) ⊎ FollowsFrom crosses sets (came_from crosses sets a) b
line_cases crosses sets _ _ (here a) = inl refl
line_cases crosses sets _ _ (back a b c came rest) = inr (subst (λ o. FollowsFrom crosses sets o c) (sym came) rest)

pub line_on : (crosses : Bool) (sets : Sets) (a b : Place) → FollowsFrom crosses sets (came_from crosses sets a) b → Follows crosses sets a b
line_on crosses sets a b h = at (came_from crosses sets a) refl h
  where
    at : (o : Option Place) → came_from crosses sets a ≡ o → FollowsFrom crosses sets o b → Follows crosses sets a b
    at None e h = absurd h
    at (Some c) e h = back a c b e h

-- ---- lists that grow at their end

each_end : (P : Place → Type 0) (s : List Place) (a : Place) → AllByRecursion P s → P a → AllByRecursion P (s ++ a ∷ [])
each_end P [] a h p = (p, tt)
each_end P (b ∷ s) a h p = (h.0, each_end P s a h.1 p)

each_map : (P Q : Place → Type 0) → ((t : Place) → P t → Q t) → (s : List Place) → AllByRecursion P s → AllByRecursion Q s
each_map P Q f [] h = tt
each_map P Q f (b ∷ s) h = (f b h.0, each_map P Q f s h.1)

fall_end : (s : List Place) (a : Place) → Fall s → AllByRecursion (λ t. a.revision < t.revision) s → Fall (s ++ a ∷ [])
fall_end [] a h n = (tt, tt)
fall_end (b ∷ s) a h n = (each_end (λ c. c.revision < b.revision) s a h.0 n.0, fall_end s a h.1 n.1)

-- ---- the walk

-- so far these are told of the history of a, and the walk goes on at next
pub record Going (sets : Sets) (w : Asked) (a : Place) (told : List Place) (next : Option Place) : Type 0 where
  pub each : AllByRecursion (IsAsked sets w a) told
  pub all : (b : Place) → IsAsked sets w a b → Contains told b ⊎ FollowsFrom w.crosses_copies sets next b
  pub falls : Fall told
  pub newer : AllByRecursion (λ t. IsBefore t.revision next) told
  pub line : (b : Place) → FollowsFrom w.crosses_copies sets next b → Follows w.crosses_copies sets a b
  pub few : (w.limit ≡ 0) ⊎ (length told ≤ w.limit)

pub going_first : (sets : Sets) (w : Asked) (a : Place) → Going sets w a [] (Some a)
going_first sets w a = record { each = tt; all = λ b h. inr h.follows; falls = tt; newer = tt; line = λ b h. h; few = inr (omega arith) }

module _ (sets : Sets) (w : Asked) (a : Place) (told : List Place) where
  pub going_last : Going sets w a told None → IsHistory sets w a told
  going_last g = record { each = g.each; all = λ b h. at b (g.all b h); falls = g.falls; few = g.few }
    where
      at : (b : Place) → Contains told b ⊎ ⊥ → Contains told b ⊎ IsCut w.limit told b
      at b (inl c) = inl c
      at b (inr f) = absurd f

  module _ (x : Place) (g : Going sets w a told (Some x)) where
    pub ends_below : x.revision < w.lowest → IsHistory sets w a told
    ends_below low = record { each = g.each; all = λ b h. at b h (g.all b h); falls = g.falls; few = g.few }
      where
        at : (b : Place) → IsAsked sets w a b → Contains told b ⊎ Follows w.crosses_copies sets x b → Contains told b ⊎ IsCut w.limit told b
        at b h (inl c) = inl c
        at b h (inr f) = absurd (omega (arith, low, h.from, line_before w.crosses_copies sets x b f))

    pub ends_full : 0 < w.limit → w.limit ≤ length told → IsHistory sets w a told
    ends_full some full = record { each = g.each; all = λ b h. at b (g.all b h); falls = g.falls; few = g.few }
      where
        exact : (w.limit ≡ 0) ⊎ (length told ≤ w.limit) → length told ≡ w.limit
        exact (inl e) = omega arith
        exact (inr l) = omega arith

        at : (b : Place) → Contains told b ⊎ Follows w.crosses_copies sets x b → Contains told b ⊎ IsCut w.limit told b
        at b (inl c) = inl c
        at b (inr f) = inr (record { some = some; full = exact g.few; newer = each_map (λ t. x.revision < t.revision) (λ t. b.revision < t.revision) (λ t lt. omega (arith, lt, line_before w.crosses_copies sets x b f)) told g.newer })

    pub ends_unset : None ≡ slice_get sets x.revision → IsHistory sets w a told
    ends_unset none = record { each = g.each; all = λ b h. at b h (g.all b h); falls = g.falls; few = g.few }
      where
        on : (b : Place) → is_touched sets b ≡ true → (x ≡ b) ⊎ FollowsFrom w.crosses_copies sets (came_from w.crosses_copies sets x) b → ⊥
        on b t (inl e) = false≢true (ap (λ o. option_map_or (λ set. touches set x.path) o false) none ∙ ap (is_touched sets) e ∙ t)
        on b t (inr f) = subst (λ o. FollowsFrom w.crosses_copies sets o b) (ap (option_and_then (λ set. origin w.crosses_copies set x)) (sym none)) f

        at : (b : Place) → IsAsked sets w a b → Contains told b ⊎ Follows w.crosses_copies sets x b → Contains told b ⊎ IsCut w.limit told b
        at b h (inl c) = inl c
        at b h (inr f) = absurd (on b h.touched (line_cases w.crosses_copies sets x b f))

    module _ (set : List Change) (is : Some set ≡ slice_get sets x.revision) where
      came_is : came_from w.crosses_copies sets x ≡ origin w.crosses_copies set x
      came_is = ap (option_and_then (λ set. origin w.crosses_copies set x)) (sym is)

      touched_is : is_touched sets x ≡ touches set x.path
      touched_is = ap (λ o. option_map_or (λ set. touches set x.path) o false) (sym is)

      pub too_long : IsPastLimits (origin w.crosses_copies set x) → IsTooLong w.crosses_copies sets a
      too_long h = at (origin w.crosses_copies set x) refl h
        where
          at : (o : Option Place) → origin w.crosses_copies set x ≡ o → IsPastLimits o → IsTooLong w.crosses_copies sets a
          at None e h = absurd h
          at (Some b) e h = record { at = b; follows = g.line b (back x b b (came_is ∙ e) (here b)); long = h }

      module _ (from : w.lowest ≤ x.revision) (room : (w.limit ≡ 0) ⊎ (length told < w.limit)) where
        abbrev next : Option Place
        next = origin w.crosses_copies set x

        line_next : (b : Place) → FollowsFrom w.crosses_copies sets next b → Follows w.crosses_copies sets a b
        line_next b f = g.line b (line_on w.crosses_copies sets x b (subst (λ o. FollowsFrom w.crosses_copies sets o b) (sym came_is) f))

        cases_next : (b : Place) → Follows w.crosses_copies sets x b → (x ≡ b) ⊎ FollowsFrom w.crosses_copies sets next b
        cases_next b f = subst (λ o. (x ≡ b) ⊎ FollowsFrom w.crosses_copies sets o b) came_is (line_cases w.crosses_copies sets x b f)

        lower : (t : Place) → x.revision < t.revision → IsBefore t.revision next
        lower t lt = at next (origin_before w.crosses_copies set x)
          where
            at : (o : Option Place) → IsBefore x.revision o → IsBefore t.revision o
            at None h = tt
            at (Some b) h = omega (arith, h, lt)

        newer_next : AllByRecursion (λ t. IsBefore t.revision next) told
        newer_next = each_map (λ t. x.revision < t.revision) (λ t. IsBefore t.revision next) lower told g.newer

        skipped : (nat_le x.revision w.highest && touches set x.path) ≡ false → Going sets w a told next
        skipped out = record { each = g.each; all = λ b h. at b h (g.all b h); falls = g.falls; newer = newer_next; line = line_next; few = g.few }
          where
            both : (p q : Bool) → p ≡ true → q ≡ true → (p && q) ≡ false → ⊥
            both true true e f h = cc
            both true false e f h = cc
            both false q e f h = cc

            le_true : (m n : ℕ) → m ≤ n → nat_le m n ≡ true
            le_true m n le = grind (arith, nat_tests)

            on : (b : Place) → IsAsked sets w a b → (x ≡ b) ⊎ FollowsFrom w.crosses_copies sets next b → Contains told b ⊎ FollowsFrom w.crosses_copies sets next b
            on b h (inl e) = absurd (both (nat_le x.revision w.highest) (touches set x.path) (le_true _ _ (subst (λ y. y.revision ≤ w.highest) (sym e) h.to)) (sym touched_is ∙ ap (is_touched sets) e ∙ h.touched) out)
            on b h (inr f) = inr f

            at : (b : Place) → IsAsked sets w a b → Contains told b ⊎ Follows w.crosses_copies sets x b → Contains told b ⊎ FollowsFrom w.crosses_copies sets next b
            at b h (inl c) = inl c
            at b h (inr f) = on b h (cases_next b f)

        said : (nat_le x.revision w.highest && touches set x.path) ≡ true → Going sets w a (told ++ x ∷ []) next
        said in' =
            record { each = each_end (IsAsked sets w a) told x g.each own; all = λ b h. at b (g.all b h); falls = fall_end told x g.falls g.newer; newer = each_end (λ t. IsBefore t.revision next) told x newer_next (origin_before w.crosses_copies set x); line = line_next; few = more room }
          where
            first : (p q : Bool) → (p && q) ≡ true → p ≡ true
            first true q e = refl
            first false q e = cc

            second : (p q : Bool) → (p && q) ≡ true → q ≡ true
            second true q e = e
            second false q e = cc

            le_is : (m n : ℕ) → nat_le m n ≡ true → m ≤ n
            le_is m n e = grind (arith, nat_tests)

            own : IsAsked sets w a x
            own = record { follows = g.line x (here x); touched = touched_is ∙ second (nat_le x.revision w.highest) _ in'; from = from; to = le_is _ _ (first (nat_le x.revision w.highest) _ in') }

            more : (w.limit ≡ 0) ⊎ (length told < w.limit) → (w.limit ≡ 0) ⊎ (length (told ++ x ∷ []) ≤ w.limit)
            more (inl e) = inl e
            more (inr l) = inr (omega (arith, length-append told (x ∷ []), l))

            on : (b : Place) → (x ≡ b) ⊎ FollowsFrom w.crosses_copies sets next b → Contains (told ++ x ∷ []) b ⊎ FollowsFrom w.crosses_copies sets next b
            on b (inl e) = inl (subst (Contains (told ++ x ∷ [])) e (Contains-push told x))
            on b (inr f) = inr f

            at : (b : Place) → Contains told b ⊎ Follows w.crosses_copies sets x b → Contains (told ++ x ∷ []) b ⊎ FollowsFrom w.crosses_copies sets next b
            at b (inl c) = inl (Contains-append_left told (x ∷ []) b c)
            at b (inr f) = on b (cases_next b f)

        -- a step of the walk
        pub goes_on : (now : List Place) (o : Option Place) → now ≡ cond (nat_le x.revision w.highest && touches set x.path) (told ++ x ∷ []) told → o ≡ next → Going sets w a now o
        goes_on now o e f =
            let step : Going sets w a (cond (nat_le x.revision w.highest && touches set x.path) (told ++ x ∷ []) told) next = at (nat_le x.revision w.highest && touches set x.path) refl in
            subst (λ n. Going sets w a n o) (sym e) (subst (Going sets w a (cond (nat_le x.revision w.highest && touches set x.path) (told ++ x ∷ []) told)) (sym f) step)
          where
            at : (t : Bool) → (nat_le x.revision w.highest && touches set x.path) ≡ t → Going sets w a (cond t (told ++ x ∷ []) told) next
            at true e = said e
            at false e = skipped e

-- what is left of a walk
abbrev pub ahead : Option Place → ℕ
ahead o = option_map_or (λ a. a.revision + 1) o 0
