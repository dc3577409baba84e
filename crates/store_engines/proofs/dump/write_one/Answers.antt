use Rattle.std.proofs.Common.{◌∙◌, subst}
use Rattle.std.proofs.lemmas.Result.{on_ok_weaker}
use Rattle.std.specs.Io.KnownBytes.{Appends}
use Rattle.repo_store.specs.Words.{repository_of}
use Rattle.store_engines.proofs.Dumping.{export_now}
use Rattle.store_engines.proofs.dump.write_one.Goals as goal

pub returns-in-Ok-clause-ok : goal.returns-in-Ok-clause-ok
returns-in-Ok-clause-ok g c =
    let text = c.deref.ensures.value ∙ export_now (repository_of c.args.store.now) c.args.number c.in-Ok.text.items c.in-Ok.ensures.canonical in
    on_ok_weaker c.write_text.result (λ w. subst (Appends (g.O.Output.contents c.args.output.now) (g.O.Output.contents c.write_text.new.output)) text w) c.write_text.ensures.ok
