-- Where a node stands in a later revision.
use Rattle.std.proofs.Common.{◌≡◌, ℕ, suc, ◌+◌, ◌<◌, arith, true, false, true≢false, List, [], ◌∷◌, ◌++◌, take, length, Option, Some, None, refl, sym, ap, subst, ◌∙◌, append_assoc, append-nil}
use Rattle.node_base.specs.Path.{same_path}
use Rattle.node_base.proofs.PathLemmas.{same_path_itself, path_of_same}
use Rattle.path_history.specs.declared.place.Place.{Place}
use Rattle.path_history.specs.Places.{Sets, place, Follows}
use Rattle.path_history.specs.Histories.{IsPlaceAt, IsTooLong}
use Rattle.path_history.proofs.LinesOf.{one_at_each}
use Rattle.std.proofs.Math.ListN.{get_or}
use Rattle.std.proofs.lemmas.List.Elements.{Contains-get_or}
use Rattle.std.specs.List.{Contains}
use Rattle.std.proofs.Math.Seq.{take-suc}
use Rattle.ra_history.specs.Locations.{later, seen_from, IsLater, IsLocation, AreLocations, IsOneTooLong, perhaps}

module _ (sets : Sets) (a : Place) (n : ℕ) where
  -- what stands at its path then came from it
  pub later_same : (b : Place) → IsPlaceAt sets (later a n) a.revision (Some b) → same_path b.path a.path ≡ true → IsLater sets a n (Some (later a n))
  later_same b f s = (refl, subst (Follows true sets (later a n)) (ap (λ p. place b.revision p) (path_of_same b.path a.path s) ∙ ap (λ r. place r a.path) f.1) f.0)

  -- it came from elsewhere
  pub later_other : (b : Place) → IsPlaceAt sets (later a n) a.revision (Some b) → same_path b.path a.path ≡ false → IsLater sets a n None
  later_other b f s = λ h. true≢false (sym (same_path_itself a.path) ∙ ap (λ c. same_path c.path a.path) (sym (one_at_each true sets (later a n) b a f.0 h f.1)) ∙ s)

  -- it came from nowhere
  pub later_none : IsPlaceAt sets (later a n) a.revision None → IsLater sets a n None
  later_none k = λ h. k a h refl

-- ---- in one revision more

told_more : (sets : Sets) (a : Place) (ns : List ℕ) (n : ℕ) (told : List Place) (o : Option Place) → AreLocations sets a ns told → IsLocation sets a n o → AreLocations sets a (ns ++ n ∷ []) (told ++ perhaps o)
told_more sets a [] n told o h i = (o, [], i, refl, ap (λ l. l ++ perhaps o) h ∙ sym (append-nil (perhaps o)))
told_more sets a (m ∷ ns) n told o h i = (h.0, h.1 ++ perhaps o, h.2, told_more sets a ns n h.1 o h.3 i, ap (λ l. l ++ perhaps o) h.4 ∙ append_assoc (perhaps h.0) h.1 (perhaps o))

-- the first of some revisions, and the next of them
pub one_more : (sets : Sets) (a : Place) (ns : List ℕ) (i n : ℕ) (told new : List Place) (o : Option Place) → i < length ns → n ≡ get_or ns i n → AreLocations sets a (take i ns) told → IsLocation sets a n o → new ≡ told ++ perhaps o → AreLocations sets a (take (i + 1) ns) new
one_more sets a ns i n told new o lt is h k e =
    let next : suc i ≡ i + 1 = omega arith in
    subst (λ j. AreLocations sets a (take j ns) new) next
    (subst (λ l. AreLocations sets a (take (suc i) ns) l) (sym e)
    (subst (λ l. AreLocations sets a l (told ++ perhaps o)) (ap (λ m. take i ns ++ m ∷ []) is ∙ sym (take-suc ns i n lt)) (told_more sets a (take i ns) n told o h k)))

-- one of them has a line that is too long
pub one_long : (sets : Sets) (a : Place) (ns : List ℕ) (i n : ℕ) → i < length ns → n ≡ get_or ns i n → IsTooLong true sets (seen_from a n) → IsOneTooLong sets a ns
one_long sets a ns i n lt is h = record { number = n; given = subst (Contains ns) (sym is) (Contains-get_or ns i n lt); long = h }
