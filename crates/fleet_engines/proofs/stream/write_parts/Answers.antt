use Rattle.std.proofs.Common.{◌++◌, ◌∙◌, Err, subst}
use Rattle.std.proofs.KnownBytes.{Appends-trans}
use Rattle.std.proofs.lemmas.Result.{err_from_is_err_and, on_ok_weaker}
use Rattle.std.specs.Result.{OnErr}
use Rattle.byte_streams.specs.Causes.{Rose}
use Rattle.fleet_engines.specs.Runs.{Counted}
use Rattle.fleet_engines.proofs.stream.write_parts.Goals as goal

pub returns-clause-ok : goal.returns-clause-ok
returns-clause-ok g c =
    let o = g.O.Output.contents in
    let last = c.write-3.new.output in
    on_ok_weaker c.write-3.result
    (λ w. Appends-trans (o c.args.output.now) (o c.write.new.output) (o last) c.args.before.now (c.args.told.now ++ c.args.after.now) c.in_ok-write.ensures.ok
    (Appends-trans (o c.write.new.output) (o c.write-2.new.output) (o last) c.args.told.now c.args.after.now c.in_ok-write-2.ensures.ok w))
    c.write-3.ensures.ok

pub returns-in_err-write-2-clause-peer : goal.returns-in_err-write-2-clause-peer
returns-in_err-write-2-clause-peer g c =
    let p = err_from_is_err_and c.from_residual-in_err-write-2.result c.from_residual-in_err-write-2.ensures.1 in
    rw (p.1, p.2) (subst (λ n. Counted {T = Unit {0}} (Err c.in_err-write-2.field-0.0) n (g.O.Output.failures c.write-2.new.output)) c.in_ok-write.ensures.peer c.in_err-write-2.ensures.peer)

pub returns-clause-peer : goal.returns-clause-peer
returns-clause-peer g c =
    subst (λ n. Counted c.write-3.result n (g.O.Output.failures c.write-3.new.output)) (c.in_ok-write-2.ensures.peer ∙ c.in_ok-write.ensures.peer) c.write-3.ensures.peer

pub returns-in_err-write-2-clause-failed : goal.returns-in_err-write-2-clause-failed
returns-in_err-write-2-clause-failed g c =
    let p = err_from_is_err_and c.from_residual-in_err-write-2.result c.from_residual-in_err-write-2.ensures.1 in
    rw p.1 (subst (λ n. Rose n (g.O.Output.failures c.write-2.new.output)) c.in_ok-write.ensures.peer c.in_err-write-2.ensures.failed)

pub returns-clause-failed : goal.returns-clause-failed
returns-clause-failed g c =
    subst (λ n. OnErr c.write-3.result (Rose n (g.O.Output.failures c.write-3.new.output))) (c.in_ok-write-2.ensures.peer ∙ c.in_ok-write.ensures.peer) c.write-3.ensures.failed
