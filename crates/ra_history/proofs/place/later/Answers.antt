use Rattle.std.proofs.Common.{◌≡◌, ◌∙◌, true, false, Some, ap, sym, subst}
use Rattle.node_base.specs.Path.{same_path}
use Rattle.path_history.specs.Places.{place}
use Rattle.path_history.specs.Histories.{IsPlaceAt}
use Rattle.ra_history.specs.Locations.{later}
use Rattle.ra_history.proofs.Located.{later_same, later_other}
use Rattle.ra_history.proofs.place.later.Goals as goal

pub returns-then-is_same-clause-place : goal.returns-then-is_same-clause-place
returns-then-is_same-clause-place g c =
    let sets = g.S.Sets.sets c.args.sets.now in
    let a = c.args.from.now in
    let n = c.args.revision in
    let b = c.in-Ok-Some.back in
    let e : c.in_ok-copy.field-0 ≡ later a n = c.in_ok-copy.ensures ∙ ap (λ p. place n p) c.in_ok-path.ensures in
    let f : IsPlaceAt sets (later a n) a.revision (Some b) = subst (λ t. IsPlaceAt sets t a.revision (Some b)) e (subst (λ o. IsPlaceAt sets c.in_ok-copy.field-0 a.revision o) c.in-Ok-Some.field-0-is c.in-Ok-Some.ensures.place) in
    let s : same_path b.path a.path ≡ true = sym c.is_same.ensures ∙ c.if-is_same.true in
    (ap (λ p. place n p) c.in_ok-path.ensures, (later_same sets a n b f s).1)

pub returns-else-is_same-clause-place : goal.returns-else-is_same-clause-place
returns-else-is_same-clause-place g c =
    let sets = g.S.Sets.sets c.args.sets.now in
    let a = c.args.from.now in
    let n = c.args.revision in
    let b = c.in-Ok-Some.back in
    let e : c.in_ok-copy.field-0 ≡ later a n = c.in_ok-copy.ensures ∙ ap (λ p. place n p) c.in_ok-path.ensures in
    let f : IsPlaceAt sets (later a n) a.revision (Some b) = subst (λ t. IsPlaceAt sets t a.revision (Some b)) e (subst (λ o. IsPlaceAt sets c.in_ok-copy.field-0 a.revision o) c.in-Ok-Some.field-0-is c.in-Ok-Some.ensures.place) in
    let s : same_path b.path a.path ≡ false = sym c.is_same.ensures ∙ c.if-is_same.false in
    later_other sets a n b f s
