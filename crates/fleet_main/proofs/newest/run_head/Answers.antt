use Rattle.std.proofs.Common.{ℕ, ◌++◌, ◌∙◌, ap, codes, subst}
use Rattle.std.specs.Fmt.{decimal}
use Rattle.std.specs.Io.KnownBytes.{Appends}
use Rattle.std.proofs.lemmas.Result.{on_ok_weaker}
use Rattle.repo_core.specs.Repository.{Repository, head_of}
use Rattle.fleet_main.proofs.newest.run_head.Goals as goal

pub returns-clause-ok : goal.returns-clause-ok
returns-clause-ok g c =
    on_ok_weaker c.write_count.result
    (λ w. subst (λ (n : ℕ). Appends (g.O.Output.contents c.args.output.now) (g.O.Output.contents c.write_count.new.output) (decimal n ++ codes "\n"))
    (c.from.ensures ∙ c.get.ensures.number ∙ c.head-head.ensures.head ∙ ap (λ (r : Repository). head_of r.revisions) c.repo.ensures.value) w)
    c.write_count.ensures.ok
