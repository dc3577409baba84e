use Rattle.std.proofs.Common.{◌≡◌, ◌++◌, ◌∙◌, None, ap, sym, subst}
use Rattle.std.specs.FinMap as finite
use Rattle.ra_browse.specs.Answers.{place_denied}
use Rattle.ra_browse.proofs.Located.{place_there}
use Rattle.ra_browse.proofs.location.path_in.Goals as goal

pub returns : goal.returns
returns c =
    let e : c.in-Ok.whole ≡ c.args.base.now ++ c.args.path.now = c.in-Ok.ensures.joined ∙ ap (λ q. c.args.base.now ++ q) c.names.ensures.names in (
      subst (λ p. place_denied p (finite.get c.args.tree.now p) ≡ None) e (place_there c.in-Ok.whole (finite.get c.args.tree.now c.in-Ok.whole) c.is_empty_at.ensures.small (sym c.is_empty_at.ensures.empty ∙ c.if-is_empty_at.false)),
      e,
    )
