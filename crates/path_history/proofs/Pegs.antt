-- A walk to the place of a line in a revision.
use Rattle.std.proofs.Common.{◌≡◌, ℕ, ◌<◌, true, ◌⊎◌, inl, inr, List, Option, Some, None, refl, sym, ap, subst, ◌∙◌, arith}
use Rattle.std.specs.Prelude.{slice_get}
use Rattle.std.specs.Option.{option_and_then}
use Rattle.dump_load.specs.declared.change.Change.{Change}
use Rattle.path_history.specs.declared.place.Place.{Place}
use Rattle.path_history.specs.Places.{Sets, origin, came_from, Follows, here, back, IsPastLimits}
use Rattle.path_history.specs.Histories.{FollowsFrom, IsTooLong, IsPlaceAt}
use Rattle.path_history.proofs.Telling.{line_before, line_cases, line_on}

-- the line goes on at next, and what it has of the revision is still to come
pub record Seeking (sets : Sets) (a : Place) (n : ℕ) (next : Option Place) : Type 0 where
  pub line : (b : Place) → FollowsFrom true sets next b → Follows true sets a b
  pub all : (b : Place) → Follows true sets a b → b.revision ≡ n → FollowsFrom true sets next b

pub seeking_first : (sets : Sets) (a : Place) (n : ℕ) → Seeking sets a n (Some a)
seeking_first sets a n = record { line = λ b h. h; all = λ b h e. h }

module _ (sets : Sets) (a : Place) (n : ℕ) where
  pub nowhere : Seeking sets a n None → IsPlaceAt sets a n None
  nowhere g = λ b h e. g.all b h e

  module _ (x : Place) (g : Seeking sets a n (Some x)) where
    pub past : x.revision < n → IsPlaceAt sets a n None
    past lt = λ b h e. absurd (omega (arith, lt, e, line_before true sets x b (g.all b h e)))

    pub there : x.revision ≡ n → IsPlaceAt sets a n (Some x)
    there e = (g.line x (here x), e)

    module _ (later : x.revision ≡ n → ⊥) where
      pub unset : None ≡ slice_get sets x.revision → IsPlaceAt sets a n None
      unset none = λ b h e. on b e (line_cases true sets x b (g.all b h e))
        where
          on : (b : Place) → b.revision ≡ n → (x ≡ b) ⊎ FollowsFrom true sets (came_from true sets x) b → ⊥
          on b e (inl f) = later (ap (λ y. y.revision) f ∙ e)
          on b e (inr f) = subst (λ o. FollowsFrom true sets o b) (ap (option_and_then (λ set. origin true set x)) (sym none)) f

      module _ (set : List Change) (is : Some set ≡ slice_get sets x.revision) where
        came_is : came_from true sets x ≡ origin true set x
        came_is = ap (option_and_then (λ set. origin true set x)) (sym is)

        pub seek_on : (o : Option Place) → o ≡ origin true set x → Seeking sets a n o
        seek_on o f = subst (Seeking sets a n) (sym (f ∙ sym came_is)) (record { line = λ b h. g.line b (line_on true sets x b h); all = λ b h e. on b e (line_cases true sets x b (g.all b h e)) })
          where
            on : (b : Place) → b.revision ≡ n → (x ≡ b) ⊎ FollowsFrom true sets (came_from true sets x) b → FollowsFrom true sets (came_from true sets x) b
            on b e (inl f) = absurd (later (ap (λ y. y.revision) f ∙ e))
            on b e (inr f) = f

        pub past_limits : IsPastLimits (origin true set x) → IsTooLong true sets a
        past_limits h = at (origin true set x) refl h
          where
            at : (o : Option Place) → origin true set x ≡ o → IsPastLimits o → IsTooLong true sets a
            at None e h = absurd h
            at (Some b) e h = record { at = b; follows = g.line b (back x b b (came_is ∙ e) (here b)); long = h }
