use Rattle.std.proofs.Common.{◌++◌, ◌∙◌, ℕ, subst, sym}
use Rattle.std.specs.Prelude.{codes}
use Rattle.std.specs.Fmt.{decimal}
use Rattle.std.specs.Result.{OnOk}
use Rattle.std.specs.Io.KnownBytes.{Appends}
use Rattle.mirror_engines.specs.Lines.{line_of}
use Rattle.mirror_engines.proofs.lines.write_told.Goals as goal

pub returns-in-Committed-clause-ok : goal.returns-in-Committed-clause-ok
returns-in-Committed-clause-ok g c =
    let a = g.O.Output.contents c.args.output.now in
    let b = g.O.Output.contents c.write_count.new.output in
    subst (λ k. OnOk c.write_count.result (Appends a b (line_of k))) (sym c.in-Committed.is)
    (subst (λ (n : ℕ). OnOk c.write_count.result (Appends a b (codes "Committed revision " ++ (decimal n ++ codes ".\n")))) (c.from.ensures ∙ c.get.ensures.number) c.write_count.ensures.ok)
