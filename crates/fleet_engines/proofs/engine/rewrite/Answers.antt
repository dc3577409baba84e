use Rattle.std.proofs.Common.{◌&&◌, ◌∙◌, ap, not, refl, inl, inr}
use Rattle.std.specs.List.{flat_map}
use Rattle.std.proofs.lemmas.Result.{err_from_is_err_and, on_ok_weaker, IfErr-weaker}
use Rattle.fleet_engines.specs.declared.product.Product.TheVariants.{Canon}
use Rattle.fleet_engines.specs.Histories.{revs_of, told_of}
use Rattle.fleet_engines.specs.Runs.{canon_of, has_begun, head_of}
use Rattle.fleet_engines.proofs.Due.{due_written}
use Rattle.fleet_engines.proofs.Makers.{took}
use Rattle.fleet_engines.proofs.Plain.{taken_writable}
use Rattle.fleet_engines.proofs.engine.rewrite.Goals as goal

pub write_due-requires : goal.write_due-requires
write_due-requires g c = taken_writable (told_of c.args.history.now) (told_of c.take.new.self) c.args.next c.in_ok-closed.closed c.in_ok-closed.ensures.taken

pub returns-in_err-closed-clause-refused : goal.returns-in_err-closed-clause-refused
returns-in_err-closed-clause-refused g c =
    let p = err_from_is_err_and c.from_residual.result c.from_residual.ensures.1 in
    rw (p.1, p.2) (inr (refl, c.in_err-closed.ensures.refused))

pub returns-clause-ok : goal.returns-clause-ok
returns-clause-ok g c =
    let t = told_of c.args.history.now in
    let u = told_of c.take.new.self in
    let out = revs_of c.in_ok-closed.closed in
    let now = g.O.Output.contents c.args.output.now in
    let later = g.O.Output.contents c.write_due.new.output in
    let due = c.begins-is_due.ensures ∙ ap (λ b. not b && has_begun u) c.has_begun-had_begun.ensures in
    took Canon t u c.args.next out now later (g.O.Output.failures c.args.output.now) (g.O.Output.failures c.write_due.new.output) c.write_due.result c.in_ok-closed.ensures.taken
    (on_ok_weaker c.write_due.result (due_written now later (head_of u) (flat_map canon_of out) c.begins-is_due.result (not (has_begun t) && has_begun u) due) c.write_due.ensures.ok)
    c.write_due.ensures.peer

pub returns-clause-refused : goal.returns-clause-refused
returns-clause-refused g c =
    IfErr-weaker c.write_due.result _ _
    (λ e d. elim d [
      | inl failed ↦ inl failed
      | inr k ↦ inr (k.0, inl k.1)
    ])
    c.write_due.ensures.refused
