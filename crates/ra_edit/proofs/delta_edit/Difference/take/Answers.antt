use Rattle.std.proofs.Common.{refl, rules}
use Rattle.std.proofs.lemmas.Result.{err_from_is_err_and}
use Rattle.svndiff.specs.DeltaReading.{is_failed}
use Rattle.svndiff.specs.declared.delta_fault.DeltaFault.TheVariants as failed
use Rattle.ra_edit.proofs.DeltaText.{bytes_refused, same_fault}
use Rattle.ra_edit.proofs.delta_edit.Difference.take.Goals as goal

pub returns-in_err-rest-clause-refused : goal.returns-in_err-rest-clause-refused
returns-in_err-rest-clause-refused c =
    let p = err_from_is_err_and c.from_residual.result c.from_residual.ensures.1 in
    let l = c.loop-rest in
    let f = c.in_err-rest.field-0.0 in
    let old = c.args.self.now in
    rw (p.1, p.2) (f, refl, bytes_refused old.base c.as_slice.result.now c.args.bytes.now l.rest.now l.made.items old.reader.delta l.self.reader.delta f (is_failed l.self.reader.delta.window) refl (search rules) l.invariant.1 c.in_err-rest.ensures.refuses (λ e. same_fault c.next.result f failed.Failed c.in_err-rest.was (c.next.ensures.failed e)) (λ e. search rules))
