use Rattle.std.proofs.Common.{codes, Err, subst, ◌∙◌}
use Rattle.std.proofs.lemmas.Result.{err_from_is_err_and}
use Rattle.std.specs.Result.{OnErr}
use Rattle.byte_streams.specs.Causes.{Rose}
use Rattle.fleet_engines.specs.Runs.{Counted}
use Rattle.mirror_engines.proofs.Telling.{told_all}
use Rattle.mirror_engines.proofs.info.write_all.Goals as goal

pub returns-clause-ok : goal.returns-clause-ok
returns-clause-ok g c =
    told_all c.write_line-3.result (g.O.Output.contents c.args.output.now) (g.O.Output.contents c.write_line.new.output) (g.O.Output.contents c.write_line-2.new.output) (g.O.Output.contents c.write_line-3.new.output)
    (codes "Source URL: ") (codes "Source Repository UUID: ") (codes "Last Merged Revision: ") _ _ _ _ _ _ c.url.ensures c.uuid.ensures c.merged_digits.ensures c.in_ok-write_line.ensures.ok c.in_ok-write_line-2.ensures.ok c.write_line-3.ensures.ok

pub returns-in_err-write_line-2-clause-peer : goal.returns-in_err-write_line-2-clause-peer
returns-in_err-write_line-2-clause-peer g c =
    let p = err_from_is_err_and c.from_residual-in_err-write_line-2.result c.from_residual-in_err-write_line-2.ensures.1 in
    rw (p.1, p.2) (subst (λ n. Counted {T = Unit {0}} (Err c.in_err-write_line-2.field-0.0) n (g.O.Output.failures c.write_line-2.new.output)) c.in_ok-write_line.ensures.peer c.in_err-write_line-2.ensures.peer)

pub returns-clause-peer : goal.returns-clause-peer
returns-clause-peer g c =
    subst (λ n. Counted c.write_line-3.result n (g.O.Output.failures c.write_line-3.new.output)) (c.in_ok-write_line-2.ensures.peer ∙ c.in_ok-write_line.ensures.peer) c.write_line-3.ensures.peer

pub returns-in_err-write_line-2-clause-failed : goal.returns-in_err-write_line-2-clause-failed
returns-in_err-write_line-2-clause-failed g c =
    let p = err_from_is_err_and c.from_residual-in_err-write_line-2.result c.from_residual-in_err-write_line-2.ensures.1 in
    rw p.1 (subst (λ n. Rose n (g.O.Output.failures c.write_line-2.new.output)) c.in_ok-write_line.ensures.peer c.in_err-write_line-2.ensures.failed)

pub returns-clause-failed : goal.returns-clause-failed
returns-clause-failed g c =
    subst (λ n. OnErr c.write_line-3.result (Rose n (g.O.Output.failures c.write_line-3.new.output))) (c.in_ok-write_line-2.ensures.peer ∙ c.in_ok-write_line.ensures.peer) c.write_line-3.ensures.failed
