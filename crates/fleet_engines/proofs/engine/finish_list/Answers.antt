use Rattle.std.proofs.Common.{◌≡◌, ◌∙◌, ap, subst}
use Rattle.std.proofs.lemmas.Result.{on_ok_weaker}
use Rattle.std.specs.Io.KnownBytes.{Appends}
use Rattle.fleet_engines.specs.Histories.{revs_of, told_of}
use Rattle.fleet_engines.specs.Runs.{newest_listing}
use Rattle.fleet_engines.proofs.engine.finish_list.Goals as goal

pub returns-in-Ok-clause-ok : goal.returns-in-Ok-clause-ok
returns-in-Ok-clause-ok g c =
    let u = told_of c.close.new.self in
    let text : c.as_slice.result.now ≡ newest_listing u.trees =
    c.as_slice.ensures.value ∙ c.in-Ok.ensures ∙ ap newest_listing c.trees.ensures in
    on_ok_weaker c.write.result
    (λ w. (u, revs_of c.in_ok-close.field-0, c.in_ok-close.ensures.closed, subst (Appends (g.O.Output.contents c.args.output.now) (g.O.Output.contents c.write.new.output)) text w))
    c.write.ensures.ok
