use Rattle.std.proofs.Common.{◌≤◌, subst, sym, arith}
use Rattle.svn_server.proofs.serving.may_have_failed.Goals as goal

pub returns-in-Ok-clause-stood : goal.returns-in-Ok-clause-stood
returns-in-Ok-clause-stood g c none =
    let later : c.args.before ≤ g.O.Output.failures c.into_inner-output.result = subst (λ o. c.args.before ≤ g.O.Output.failures o) (sym c.into_inner-output.ensures) c.in-Ok.ensures.cause in
    omega (arith, later, c.has_failed_since-failed.ensures.stood none)
