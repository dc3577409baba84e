use Rattle.std.proofs.lemmas.Result.{err_from_is_err_and}
use Rattle.sync_core.specs.Calls.{call_of}
use Rattle.sync_core.specs.Mirror.{mirror_with}
use Rattle.sync_core.proofs.PlainAnswers.{need_answer, entry_answer}
use Rattle.sync_core.proofs.planning.plan.Goals as goal

pub returns-in-Some-clause-refused : goal.returns-in-Some-clause-refused
returns-in-Some-clause-refused c =
    need_answer (mirror_with c.args.repo.now.revisions c.args.holder) c.args.seat (call_of c.args.call.now) c.own_of-own.result.now c.head.result c.in-Some.need c.need_fault.result c.own_of-own.ensures.own c.head.ensures.head c.in-Some.ensures c.need_fault.ensures

pub returns-in_err-entry-clause-refused : goal.returns-in_err-entry-clause-refused
returns-in_err-entry-clause-refused c =
    let p = err_from_is_err_and c.from_residual.result c.from_residual.ensures.1 in
    rw (p.1, p.2)
    (entry_answer (mirror_with c.args.repo.now.revisions c.args.holder) c.args.seat (call_of c.args.call.now) c.own_of-own.result.now c.head.result c.in_err-entry.field-0.0 c.own_of-own.ensures.own c.head.ensures.head c.in-None.ensures c.in_err-entry.ensures.refused)
