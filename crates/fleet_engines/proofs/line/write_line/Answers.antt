use Rattle.std.proofs.Common.{◌≡◌, ◌++◌, ◌∷◌, ◌∙◌, [], Err, ap, sym, subst, append_assoc, append-nil}
use Rattle.std.specs.Prelude.{codes}
use Rattle.std.specs.Fmt.{decimal}
use Rattle.std.specs.Io.KnownBytes.{Appends}
use Rattle.std.proofs.KnownBytes.{Appends-trans}
use Rattle.std.proofs.lemmas.Result.{err_from_is_err_and, on_ok_weaker}
use Rattle.std.specs.Result.{OnErr}
use Rattle.byte_streams.specs.Causes.{Rose}
use Rattle.node_base.specs.Refusals.{fault_line, inconsistent_text, told_text, refusal_number, refusal_text, shown_token}
use Rattle.fleet_engines.specs.Runs.{Counted}
use Rattle.fleet_engines.proofs.Spelled.{whole_line}
use Rattle.fleet_engines.proofs.line.write_line.Goals as goal

pub returns-clause-ok : goal.returns-clause-ok
returns-clause-ok g c =
    let o = g.O.Output.contents in
    let last = c.write.new.output in
    on_ok_weaker c.write.result
    (λ w. subst (Appends (o c.args.output.now) (o last)) (whole_line c.args.refusal.now)
    (subst (λ n. Appends (o c.args.output.now) (o last) ((codes "svnfleet: " ++ (decimal n ++ codes " ")) ++ (refusal_text c.args.refusal.now ++ 10 ∷ []))) (c.from.ensures ∙ c.number.ensures)
    (Appends-trans (o c.args.output.now) (o c.write_count.new.output) (o last) _ (refusal_text c.args.refusal.now ++ 10 ∷ []) c.in_ok-write_count.ensures.ok
    (Appends-trans (o c.write_count.new.output) (o c.write_text.new.output) (o last) (refusal_text c.args.refusal.now) (10 ∷ []) c.in_ok-write_text.ensures.ok w))))
    c.write.ensures.ok

pub returns-in_err-write_text-clause-peer : goal.returns-in_err-write_text-clause-peer
returns-in_err-write_text-clause-peer g c =
    let p = err_from_is_err_and c.from_residual-in_err-write_text.result c.from_residual-in_err-write_text.ensures.1 in
    rw (p.1, p.2) (subst (λ n. Counted {T = Unit {0}} (Err c.in_err-write_text.field-0.0) n (g.O.Output.failures c.write_text.new.output)) c.in_ok-write_count.ensures.peer c.in_err-write_text.ensures.peer)

pub returns-clause-peer : goal.returns-clause-peer
returns-clause-peer g c =
    subst (λ n. Counted c.write.result n (g.O.Output.failures c.write.new.output)) (c.in_ok-write_text.ensures.peer ∙ c.in_ok-write_count.ensures.peer) c.write.ensures.peer

pub returns-in_err-write_text-clause-failed : goal.returns-in_err-write_text-clause-failed
returns-in_err-write_text-clause-failed g c =
    let p = err_from_is_err_and c.from_residual-in_err-write_text.result c.from_residual-in_err-write_text.ensures.1 in
    rw p.1 (subst (λ n. Rose n (g.O.Output.failures c.write_text.new.output)) c.in_ok-write_count.ensures.peer c.in_err-write_text.ensures.failed)

pub returns-clause-failed : goal.returns-clause-failed
returns-clause-failed g c =
    subst (λ n. OnErr c.write.result (Rose n (g.O.Output.failures c.write.new.output))) (c.in_ok-write_text.ensures.peer ∙ c.in_ok-write_count.ensures.peer) c.write.ensures.failed
