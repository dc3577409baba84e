use Rattle.std.proofs.Common.{◌≡◌, ◌++◌, ◌∷◌, [], false, subst}
use Rattle.node_base.specs.Limits.{fits}
use Rattle.path_history.proofs.Sources.{fits_behind}
use Rattle.path_history.proofs.back.joined.Goals as goal

pub returns-in-Err-clause-refused : goal.returns-in-Err-clause-refused
returns-in-Err-clause-refused c e =
    let n = c.name-item.result in
    fits_behind c.args.front.now c.args.rest.now c.loop-name.name-index n c.loop-name-test.true c.name-item.is
    (subst (λ p. fits (p ++ n ∷ []) ≡ false) c.loop-name.invariant (c.in-Err.ensures.refused e))
