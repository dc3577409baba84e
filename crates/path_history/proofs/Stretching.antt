-- A walk back along a stretch.
use Rattle.std.proofs.Common.{◌≡◌, ℕ, ◌-◌, ◌<◌, ◌≤◌, Bool, true, false, cond, ◌⊎◌, inl, inr, List, Option, Some, None, is_some, IfSome, refl, sym, ap, subst, ◌∙◌, arith, nat_lt}
use Rattle.std.specs.Prelude.{slice_get, IsSomeAnd}
use Rattle.std.specs.Option.{option_map_or, option_and_then}
use Rattle.std.proofs.lemmas.Bool.{cases_lt}
use Rattle.std.proofs.lemmas.Bool.Decides.{nat_tests}
use Rattle.node_base.specs.Path.{Path}
use Rattle.dump_load.specs.declared.change.Change.{Change}
use Rattle.dump_load.specs.Changes.{governing}
use Rattle.path_history.specs.declared.place.Place.{Place}
use Rattle.path_history.specs.Places.{Sets, place, stayed, copied, origin, came_from, CameFrom, Follows, here, back, IsPastLimits}
use Rattle.path_history.specs.Histories.{IsTooLong}
use Rattle.path_history.specs.Stretches.{IsStretch}
use Rattle.path_history.proofs.Telling.{origin_before}

follows_end : (sets : Sets) (a b c : Place) → Follows true sets a b → CameFrom true sets b c → Follows true sets a c
follows_end sets _ _ c (here a) e = back a c c e (here c)
follows_end sets _ _ c (back a x b came rest) e = back a x c came (follows_end sets x b c rest e)

-- down to n no set governs the path
pub record Backing (sets : Sets) (a : Place) (n : ℕ) : Type 0 where
  pub within : n ≤ a.revision
  pub line : (m : ℕ) → n ≤ m → m ≤ a.revision → Follows true sets a (place m a.path)
  pub stays : (m : ℕ) → n < m → m ≤ a.revision → IsSomeAnd (slice_get sets m) (λ set. governing set a.path ≡ None)

pub backing_first : (sets : Sets) (a : Place) → Backing sets a a.revision
backing_first sets a = record { within = omega arith; line = λ m l h. subst (λ k. Follows true sets a (place k a.path)) (at m l h) (here a); stays = λ m l h. absurd (omega arith) }
  where
    at : (m : ℕ) → a.revision ≤ m → m ≤ a.revision → a.revision ≡ m
    at m l h = omega arith

module _ (sets : Sets) (a : Place) (n : ℕ) (g : Backing sets a n) where
  abbrev p : Path
  p = a.path

  pub unset_ends : None ≡ slice_get sets n → IsStretch sets a n None
  unset_ends none = record { within = g.within; line = g.line; stays = g.stays; begins = subst (λ o. IfSome o (λ set. (n ≡ 0) ⊎ (is_some (governing set p) ≡ true))) none tt; came = ap (option_and_then (λ set. origin true set (place n p))) none }

  pub zero_ends : n ≡ 0 → IsStretch sets a n None
  zero_ends z = record { within = g.within; line = g.line; stays = g.stays; begins = first (slice_get sets n); came = nowhere (came_from true sets (place n p)) refl }
    where
      first : (o : Option (List Change)) → IfSome o (λ set. (n ≡ 0) ⊎ (is_some (governing set p) ≡ true))
      first None = tt
      first (Some set) = inl z

      none_before : (o : Option (List Change)) → (b : Place) → option_and_then (λ set. origin true set (place n p)) o ≡ Some b → b.revision < n
      none_before None b e = cc
      none_before (Some set) b e = subst (λ o. IfSome o (λ x. x.revision < n)) e (origin_before true set (place n p))

      nowhere : (o : Option Place) → came_from true sets (place n p) ≡ o → None ≡ came_from true sets (place n p)
      nowhere None e = sym e
      nowhere (Some b) e = absurd (omega (arith, none_before (slice_get sets n) b e))

  module _ (set : List Change) (is : Some set ≡ slice_get sets n) where
    came_is : came_from true sets (place n p) ≡ origin true set (place n p)
    came_is = ap (option_and_then (λ set. origin true set (place n p))) (sym is)

    pub governed_ends : (before : Option Place) → true ≡ is_some (governing set p) → before ≡ origin true set (place n p) → IsStretch sets a n before
    governed_ends before some e = record { within = g.within; line = g.line; stays = g.stays; begins = subst (λ o. IfSome o (λ set. (n ≡ 0) ⊎ (is_some (governing set p) ≡ true))) is (inr (sym some)); came = e ∙ sym came_is }

    pub stretch_too_long : IsPastLimits (origin true set (place n p)) → IsTooLong true sets a
    stretch_too_long h = at (origin true set (place n p)) refl h
      where
        at : (o : Option Place) → origin true set (place n p) ≡ o → IsPastLimits o → IsTooLong true sets a
        at None e h = absurd h
        at (Some b) e h = record { at = b; follows = follows_end sets a (place n p) b (g.line n (omega arith) g.within) (came_is ∙ e); long = h }

    pub backing_on : (m : ℕ) → false ≡ is_some (governing set p) → 0 < n → m ≡ n - 1 → Backing sets a m
    backing_on m out some e = record { within = omega (arith, g.within); line = λ k l h. line_at k l h (cases_lt k n); stays = λ k l h. stays_at k l h (cases_lt n k) }
      where
        none_of : (o : Option Change) → false ≡ is_some o → o ≡ None
        none_of None e = refl
        none_of (Some c) e = cc

        none : governing set p ≡ None
        none = none_of (governing set p) out

        before : (b : Bool) → nat_lt 0 n ≡ b → cond b (Some (place (n - 1) p)) None ≡ Some (place (n - 1) p)
        before true e = refl
        before false e = absurd (grind (arith, nat_tests))

        came : CameFrom true sets (place n p) (place (n - 1) p)
        came = came_is ∙ ap (λ o. option_map_or (λ c. cond true (copied c (place n p)) None) o (stayed (place n p))) none ∙ before (nat_lt 0 n) refl

        line_at : (k : ℕ) → m ≤ k → k ≤ a.revision → (k < n) ⊎ (n ≤ k) → Follows true sets a (place k p)
        line_at k l h (inl lt) =
            let same : n - 1 ≡ k = omega arith in
            subst (λ j. Follows true sets a (place j p)) same (follows_end sets a (place n p) (place (n - 1) p) (g.line n (omega arith) g.within) came)
        line_at k l h (inr le) = g.line k le h

        stays_at : (k : ℕ) → m < k → k ≤ a.revision → (n < k) ⊎ (k ≤ n) → IsSomeAnd (slice_get sets k) (λ set. governing set p ≡ None)
        stays_at k l h (inl lt) = g.stays k lt h
        stays_at k l h (inr le) =
            let same : n ≡ k = omega arith in
            subst (λ j. IsSomeAnd (slice_get sets j) (λ set. governing set p ≡ None)) same (subst (λ o. IsSomeAnd o (λ set. governing set p ≡ None)) is none)
