use Rattle.std.proofs.Common.{subst}
use Rattle.std.proofs.lemmas.Result.{err_from_is_err_and}
use Rattle.sync_core.specs.Calls.{call_of}
use Rattle.sync_core.specs.Plain.{mirror_of}
use Rattle.sync_core.specs.Plans.{IsPlanned}
use Rattle.sync_core.proofs.PlainAnswers.{staged_answer}
use Rattle.sync_core.proofs.mirror.PlainMirror.step.Goals as goal

pub returns-in_err-staged-in-Write : goal.returns-in_err-staged-in-Write
returns-in_err-staged-in-Write c =
    let p = err_from_is_err_and c.from_residual-in_err-staged-in-Write.result c.from_residual-in_err-staged-in-Write.ensures.1 in
    let planned = subst (λ x. IsPlanned (mirror_of c.args.self.now) c.args.seat (call_of c.args.call.now) x) c.in-Write.is c.in_ok-standing.ensures.planned in
    rw (p.1, p.2)
    (staged_answer (mirror_of c.args.self.now) c.args.seat (call_of c.args.call.now) c.in-Write.entry c.in_err-staged-in-Write.field-0.0 planned c.in_err-staged-in-Write.ensures.refused)
