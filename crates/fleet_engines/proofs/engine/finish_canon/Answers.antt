use Rattle.std.proofs.Common.{ap, not, inl, inr}
use Rattle.std.specs.List.{flat_map}
use Rattle.std.proofs.lemmas.Result.{on_ok_weaker, IfErr-weaker}
use Rattle.fleet_engines.specs.Histories.{revs_of, told_of}
use Rattle.fleet_engines.specs.Runs.{canon_of, has_begun, head_of}
use Rattle.fleet_engines.proofs.Due.{due_written}
use Rattle.fleet_engines.proofs.Plain.{closed_writable}
use Rattle.fleet_engines.proofs.engine.finish_canon.Goals as goal

pub write_due-requires : goal.write_due-requires
write_due-requires g c = closed_writable (told_of c.args.history.now) (told_of c.close.new.self) c.in_ok-closed.closed c.in_ok-closed.ensures.closed

pub returns-clause-ok : goal.returns-clause-ok
returns-clause-ok g c =
    let t = told_of c.args.history.now in
    let u = told_of c.close.new.self in
    let newest = revs_of c.in_ok-closed.closed in
    let now = g.O.Output.contents c.args.output.now in
    let later = g.O.Output.contents c.write_due.new.output in
    on_ok_weaker c.write_due.result
    (λ w. (u, newest, c.in_ok-closed.ensures.closed, due_written now later (head_of u) (flat_map canon_of newest) (not c.has_begun-had_begun.result) (not (has_begun t)) (ap not c.has_begun-had_begun.ensures) w))
    c.write_due.ensures.ok

pub returns-clause-refused : goal.returns-clause-refused
returns-clause-refused g c =
    IfErr-weaker c.write_due.result _ _
    (λ e d. elim d [
      | inl failed ↦ inl failed
      | inr k ↦ inr (k.0, inl k.1)
    ])
    c.write_due.ensures.refused
