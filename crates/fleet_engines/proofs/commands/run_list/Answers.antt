use Rattle.std.proofs.Common.{◌⊎◌, refl, arith, inr}
use Rattle.std.proofs.lemmas.Result.{err_from_is_err_and, on_ok_weaker, IfErr-weaker}
use Rattle.byte_streams.specs.Causes.{Rose}
use Rattle.fleet_engines.specs.declared.engine.Lister.{Lister}
use Rattle.fleet_engines.specs.declared.product.Product.TheVariants.{List as ListIt}
use Rattle.fleet_engines.specs.Histories.{held}
use Rattle.fleet_engines.specs.Runs.{Accepted, Refused}
use Rattle.fleet_engines.proofs.Makers.{accepted, first_refused, refused}
use Rattle.fleet_engines.proofs.Streaming.{memory_no_peer, of_stream, some_or}
use Rattle.fleet_engines.proofs.commands.run_list.Goals as goal

pub returns-in_err-history-clause-refused : goal.returns-in_err-history-clause-refused
returns-in_err-history-clause-refused g c =
    let p = err_from_is_err_and c.from_residual.result c.from_residual.ensures.1 in
    rw (p.1, p.2) (inr (first_refused c.args.deltas ListIt (g.O.Output.contents c.args.output.now) (g.I.Input.remaining c.args.input.now) c.in_err-history.field-0.0 c.in_err-history.ensures.memory))

pub returns-in_err-history-clause-peer : goal.returns-in_err-history-clause-peer
returns-in_err-history-clause-peer g c =
    let p = err_from_is_err_and c.from_residual.result c.from_residual.ensures.1 in
    rw (p.1, p.2) (omega (arith), inr (memory_no_peer c.in_err-history.field-0.0 c.in_err-history.ensures.memory, refl, refl))

pub returns-clause-ok : goal.returns-clause-ok
returns-clause-ok g c =
    let a = g.I.Input.remaining c.args.input.now in
    let b = g.I.Input.remaining c.read_stream-done.new.input in
    let start = g.O.Output.contents c.args.output.now in
    let later = g.O.Output.contents c.read_stream-done.new.output in
    on_ok_weaker c.read_stream-done.result
    (λ k. of_stream a b _ (λ bytes. Accepted c.args.deltas ListIt bytes start later) k (λ bytes d. accepted (held {K = Lister} g.O.Output) c.args.deltas ListIt bytes _ _ d c.in_ok-history.ensures.new))
    c.read_stream-done.ensures.ok

pub returns-clause-refused : goal.returns-clause-refused
returns-clause-refused g c =
    let a = g.I.Input.remaining c.args.input.now in
    let b = g.I.Input.remaining c.read_stream-done.new.input in
    let start = g.O.Output.contents c.args.output.now in
    let later = g.O.Output.contents c.read_stream-done.new.output in
    let failed = Rose (g.O.Output.failures c.args.output.now) (g.O.Output.failures c.read_stream-done.new.output) in
    IfErr-weaker c.read_stream-done.result _ _
    (λ e k. some_or a failed (λ bytes. Refused c.args.deltas ListIt bytes start later e)
    (of_stream a b _ (λ bytes. failed ⊎ Refused c.args.deltas ListIt bytes start later e) k (λ bytes h. refused (held {K = Lister} g.O.Output) c.args.deltas ListIt bytes _ e _ h c.in_ok-history.ensures.new)))
    c.read_stream-done.ensures.refused
