use Rattle.std.proofs.Common.{◌≡◌, ◌≤◌, true, length, subst, ◌∙◌}
use Rattle.std.proofs.lemmas.Result.{err_from_is_err_and}
use Rattle.node_base.specs.Props.{IsProps, is_prop_name}
use Rattle.node_base.proofs.PropLemmas.{may_put, props_with, full, no_memory}
use Rattle.node_base.proofs.props.Props.set.Goals as goal

pub put-requires : goal.put-requires
put-requires c =
    let name = subst (λ n. (length n ≤ 255) × (is_prop_name n ≡ true)) c.name.view_is c.name.invariant in
    let value = subst (λ v. length v ≤ 65536) c.value.view_is c.value.invariant in
    let fit = may_put c.args.self.now c.args.name _ c.args.value _ c.fits_with.ensures c.as_bytes.ensures ∙ c.if-not-fits_with.false in
    props_with c.args.self.now c.args.name c.args.value (subst IsProps c.self.view_is c.self.invariant) name.1 name.0 value fit

pub returns-clause-within : goal.returns-clause-within
returns-clause-within c = may_put c.args.self.now c.args.name _ c.args.value _ c.fits_with.ensures c.as_bytes.ensures ∙ c.if-not-fits_with.false

pub returns-then-not-fits_with-clause-fault : goal.returns-then-not-fits_with-clause-fault
returns-then-not-fits_with-clause-fault c =
    full c.args.self.now c.args.name c.args.value (may_put c.args.self.now c.args.name _ c.args.value _ c.fits_with.ensures c.as_bytes.ensures ∙ c.if-not-fits_with.true)

pub returns-in_err-put-clause-fault : goal.returns-in_err-put-clause-fault
returns-in_err-put-clause-fault c =
    let p = err_from_is_err_and c.from_residual.result c.from_residual.ensures.1 in
    rw (p.1, p.2) (no_memory c.args.self.now c.args.name c.args.value (may_put c.args.self.now c.args.name _ c.args.value _ c.fits_with.ensures c.as_bytes.ensures ∙ c.if-not-fits_with.false))
