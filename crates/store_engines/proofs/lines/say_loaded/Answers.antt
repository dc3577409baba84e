use Rattle.std.proofs.Common.{◌++◌, ◌∙◌, ℕ, subst}
use Rattle.std.specs.Prelude.{codes}
use Rattle.std.specs.Fmt.{decimal}
use Rattle.std.specs.Result.{OnErr}
use Rattle.std.specs.Io.KnownBytes.{Appends}
use Rattle.std.proofs.KnownBytes.{Appends-kept}
use Rattle.byte_streams.specs.Causes.{Rose}
use Rattle.fleet_engines.specs.Runs.{Counted}
use Rattle.store_engines.specs.Loads.{loaded_line}
use Rattle.store_engines.proofs.Serving.{any_ok}
use Rattle.store_engines.proofs.lines.say_loaded.Goals as goal

pub returns-clause-ok : goal.returns-clause-ok
returns-clause-ok g c =
    let a = g.O.Output.contents c.args.output.now in
    let b = g.O.Output.contents c.write_count.new.output in
    any_ok c.hand_on.result _
    (Appends-kept a b (g.O.Output.contents c.hand_on.new.output) (loaded_line c.args.number)
    (subst (λ (n : ℕ). Appends a b (codes "Loaded revision " ++ (decimal n ++ codes ".\n"))) (c.from.ensures ∙ c.get.ensures.number) c.in_ok-write_count.ensures.ok) c.hand_on.ensures.kept)

pub returns-clause-peer : goal.returns-clause-peer
returns-clause-peer g c = subst (λ n. Counted c.hand_on.result n (g.O.Output.failures c.hand_on.new.output)) c.in_ok-write_count.ensures.peer c.hand_on.ensures.peer

pub returns-clause-failed : goal.returns-clause-failed
returns-clause-failed g c = subst (λ n. OnErr c.hand_on.result (Rose n (g.O.Output.failures c.hand_on.new.output))) c.in_ok-write_count.ensures.peer c.hand_on.ensures.failed
