use Rattle.std.proofs.Common.{◌≡◌, ◌++◌, ◌∷◌, ◌∙◌, [], Err, ap, sym, subst, append_assoc, append-nil}
use Rattle.std.specs.Prelude.{codes}
use Rattle.std.specs.Fmt.{decimal}
use Rattle.std.specs.Io.KnownBytes.{Appends}
use Rattle.std.proofs.KnownBytes.{Appends-trans}
use Rattle.std.proofs.lemmas.Result.{err_from_is_err_and, on_ok_weaker}
use Rattle.std.specs.Result.{OnErr}
use Rattle.byte_streams.specs.Causes.{Rose}
use Rattle.node_base.specs.Refusals.{fault_line, inconsistent_text, told_text, refusal_number, refusal_text, shown_token}
use Rattle.fleet_engines.specs.Runs.{Counted}
use Rattle.fleet_engines.proofs.line.write_token.Goals as goal

pub returns-clause-ok : goal.returns-clause-ok
returns-clause-ok g c =
    let o = g.O.Output.contents in
    let last = c.write-2.new.output in
    on_ok_weaker c.write-2.result
    (λ w. Appends-trans (o c.args.output.now) (o c.write.new.output) (o last) c.args.before.now (shown_token c.args.token.now ++ c.args.after.now) c.in_ok-write.ensures.ok
    (Appends-trans (o c.write.new.output) (o c.write_shown.new.output) (o last) (shown_token c.args.token.now) c.args.after.now c.in_ok-write_shown.ensures.ok w))
    c.write-2.ensures.ok

pub returns-in_err-write_shown-clause-peer : goal.returns-in_err-write_shown-clause-peer
returns-in_err-write_shown-clause-peer g c =
    let p = err_from_is_err_and c.from_residual-in_err-write_shown.result c.from_residual-in_err-write_shown.ensures.1 in
    rw (p.1, p.2) (subst (λ n. Counted {T = Unit {0}} (Err c.in_err-write_shown.field-0.0) n (g.O.Output.failures c.write_shown.new.output)) c.in_ok-write.ensures.peer c.in_err-write_shown.ensures.peer)

pub returns-clause-peer : goal.returns-clause-peer
returns-clause-peer g c =
    subst (λ n. Counted c.write-2.result n (g.O.Output.failures c.write-2.new.output)) (c.in_ok-write_shown.ensures.peer ∙ c.in_ok-write.ensures.peer) c.write-2.ensures.peer

pub returns-in_err-write_shown-clause-failed : goal.returns-in_err-write_shown-clause-failed
returns-in_err-write_shown-clause-failed g c =
    let p = err_from_is_err_and c.from_residual-in_err-write_shown.result c.from_residual-in_err-write_shown.ensures.1 in
    rw p.1 (subst (λ n. Rose n (g.O.Output.failures c.write_shown.new.output)) c.in_ok-write.ensures.peer c.in_err-write_shown.ensures.failed)

pub returns-clause-failed : goal.returns-clause-failed
returns-clause-failed g c =
    subst (λ n. OnErr c.write-2.result (Rose n (g.O.Output.failures c.write-2.new.output))) (c.in_ok-write_shown.ensures.peer ∙ c.in_ok-write.ensures.peer) c.write-2.ensures.failed
