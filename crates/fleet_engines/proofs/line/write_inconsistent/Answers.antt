use Rattle.std.proofs.Common.{◌≡◌, ℕ, ◌++◌, ◌∷◌, ◌∙◌, [], Err, ap, sym, subst, append_assoc, append-nil}
use Rattle.std.specs.Prelude.{codes}
use Rattle.std.specs.Fmt.{decimal}
use Rattle.std.specs.Io.KnownBytes.{Appends}
use Rattle.std.proofs.KnownBytes.{Appends-trans}
use Rattle.std.proofs.lemmas.Result.{err_from_is_err_and, on_ok_weaker}
use Rattle.std.specs.Result.{OnErr}
use Rattle.byte_streams.specs.Causes.{Rose}
use Rattle.node_base.specs.Refusals.{fault_line, inconsistent_text, told_text, refusal_number, refusal_text, shown_token}
use Rattle.fleet_engines.specs.Runs.{Counted}
use Rattle.fleet_engines.proofs.Spelled.{whole_inconsistent}
use Rattle.fleet_engines.proofs.line.write_inconsistent.Goals as goal

pub returns-clause-ok : goal.returns-clause-ok
returns-clause-ok g c =
    let o = g.O.Output.contents in
    let last = c.write_count.new.output in
    on_ok_weaker c.write_count.result
    (λ w. subst (Appends (o c.args.output.now) (o last)) (whole_inconsistent c.args.merged.now c.args.copying.now c.args.head)
    (Appends-trans (o c.args.output.now) (o c.write_told.new.output) (o last) (codes "inconsistent: merged " ++ (told_text c.args.merged.now ++ codes ", copying ")) ((told_text c.args.copying.now ++ codes ", head ") ++ (decimal c.args.head ++ [])) c.in_ok-write_told.ensures.ok
    (Appends-trans (o c.write_told.new.output) (o c.write_told-2.new.output) (o last) (told_text c.args.copying.now ++ codes ", head ") (decimal c.args.head ++ []) c.in_ok-write_told-2.ensures.ok
    (subst (λ (n : ℕ). Appends (o c.write_told-2.new.output) (o last) (decimal n ++ [])) (c.from.ensures ∙ c.get.ensures.number) w))))
    c.write_count.ensures.ok

pub returns-in_err-write_told-2-clause-peer : goal.returns-in_err-write_told-2-clause-peer
returns-in_err-write_told-2-clause-peer g c =
    let p = err_from_is_err_and c.from_residual-in_err-write_told-2.result c.from_residual-in_err-write_told-2.ensures.1 in
    rw (p.1, p.2) (subst (λ n. Counted {T = Unit {0}} (Err c.in_err-write_told-2.field-0.0) n (g.O.Output.failures c.write_told-2.new.output)) c.in_ok-write_told.ensures.peer c.in_err-write_told-2.ensures.peer)

pub returns-clause-peer : goal.returns-clause-peer
returns-clause-peer g c =
    subst (λ n. Counted c.write_count.result n (g.O.Output.failures c.write_count.new.output)) (c.in_ok-write_told-2.ensures.peer ∙ c.in_ok-write_told.ensures.peer) c.write_count.ensures.peer

pub returns-in_err-write_told-2-clause-failed : goal.returns-in_err-write_told-2-clause-failed
returns-in_err-write_told-2-clause-failed g c =
    let p = err_from_is_err_and c.from_residual-in_err-write_told-2.result c.from_residual-in_err-write_told-2.ensures.1 in
    rw p.1 (subst (λ n. Rose n (g.O.Output.failures c.write_told-2.new.output)) c.in_ok-write_told.ensures.peer c.in_err-write_told-2.ensures.failed)

pub returns-clause-failed : goal.returns-clause-failed
returns-clause-failed g c =
    subst (λ n. OnErr c.write_count.result (Rose n (g.O.Output.failures c.write_count.new.output))) (c.in_ok-write_told-2.ensures.peer ∙ c.in_ok-write_told.ensures.peer) c.write_count.ensures.failed
