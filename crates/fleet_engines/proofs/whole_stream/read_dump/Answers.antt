use Rattle.std.proofs.Common.{◌∙◌, Err, ap, sym, refl, subst, inr}
use Rattle.std.proofs.lemmas.Result.{err_from_is_err_and, on_ok_weaker, IfErr-weaker}
use Rattle.byte_streams.specs.Causes.{counts}
use Rattle.dump_text.specs.Streams.{fresh_by}
use Rattle.fleet_engines.specs.Takers.{place, end_refused, Halts, OfStream, Reached}
use Rattle.fleet_engines.proofs.Feeding.{ends_between, is_cut}
use Rattle.fleet_engines.proofs.Streaming.{later_counted}
use Rattle.fleet_engines.proofs.whole_stream.read_dump.Goals as goal

pub read_all-requires-clause-begins : goal.read_all-requires-clause-begins
read_all-requires-clause-begins g c =
    let is = c.new_reader-reader.ensures in
    is ∙ ap (λ r. fresh_by r.head.deltas) (sym is)

pub returns-in_err-read_all-clause-refused : goal.returns-in_err-read_all-clause-refused
returns-in_err-read_all-clause-refused g c =
    let p = err_from_is_err_and c.from_residual.result c.from_residual.ensures.1 in
    let k = g.K.Taker in
    let first = place c.args.taker.now c.args.store.now c.args.output.now in
    let now = place c.read_all.new.taker c.read_all.new.store c.read_all.new.output in
    rw (p.1, p.2)
    (subst (λ d. OfStream (g.I.Input.remaining c.args.input.now) (g.I.Input.remaining c.read_all.new.input) (λ bytes. Halts d k.takes k.refuses k.cant_end bytes first c.in_err-read_all.field-0.0 now))
    (ap (λ r. r.head.deltas) c.new_reader-reader.ensures) c.in_err-read_all.ensures.refused)

pub returns-in_err-read_all-clause-peer : goal.returns-in_err-read_all-clause-peer
returns-in_err-read_all-clause-peer g c =
    let p = err_from_is_err_and c.from_residual.result c.from_residual.ensures.1 in
    rw (p.1, p.2) c.in_err-read_all.ensures.peer

pub returns-in-Err-clause-refused : goal.returns-in-Err-clause-refused
returns-in-Err-clause-refused g c =
    let k = g.K.Taker in
    let r = c.in_ok-read_all.ensures.ok in
    let first = place c.args.taker.now c.args.store.now c.args.output.now in
    let now = place c.read_all.new.taker c.read_all.new.store c.read_all.new.output in
    let reached = subst (λ d. Reached d k.takes r.0 c.read_all.new.reader first now) (ap (λ r. r.head.deltas) c.new_reader-reader.ensures) r.3 in
    rw c.dump_refusal.ensures.value
    (record { bytes = r.0; read = r.1; holds = inr (r.2, is_cut c.args.deltas k.takes k.refuses k.cant_end r.0 c.read_all.new.reader first now c.finish.result c.in-Err.fault c.finish.ensures.ended c.in-Err.is reached) })

pub returns-in-Err-clause-peer : goal.returns-in-Err-clause-peer
returns-in-Err-clause-peer g c =
    let f = c.in_ok-read_all.ensures.peer in
    let failures = g.K.Taker.failures in
    later_counted (Err c.dump_refusal.result) (counts g.I.Input.failures g.I.Input.reads c.args.input.now c.read_all.new.input) (failures c.args.output.now) (failures c.read_all.new.output) (failures c.read_all.new.output) f.0 f.1 (inr (c.dump_refusal.ensures.no_peer, refl))

pub returns-clause-ok : goal.returns-clause-ok
returns-clause-ok g c =
    let r = c.in_ok-read_all.ensures.ok in
    let first = place c.args.taker.now c.args.store.now c.args.output.now in
    let now = place c.read_all.new.taker c.read_all.new.store c.read_all.new.output in
    let reached = subst (λ d. Reached d g.K.Taker.takes r.0 c.read_all.new.reader first now) (ap (λ r. r.head.deltas) c.new_reader-reader.ensures) r.3 in
    let ended = ends_between c.args.deltas g.K.Taker.takes r.0 c.read_all.new.reader first now c.finish.result c.in_default.field-0 c.finish.ensures.ended c.in_default.is reached in
    on_ok_weaker c.end.result
    (λ k. record { bytes = r.0; read = r.1; holds = inr (r.2, record { reader = c.read_all.new.reader; before = now; reached = reached; ended = ended; end = k }) })
    c.end.ensures.ok

pub returns-clause-refused : goal.returns-clause-refused
returns-clause-refused g c =
    let r = c.in_ok-read_all.ensures.ok in
    let first = place c.args.taker.now c.args.store.now c.args.output.now in
    let now = place c.read_all.new.taker c.read_all.new.store c.read_all.new.output in
    let reached = subst (λ d. Reached d g.K.Taker.takes r.0 c.read_all.new.reader first now) (ap (λ r. r.head.deltas) c.new_reader-reader.ensures) r.3 in
    let ended = ends_between c.args.deltas g.K.Taker.takes r.0 c.read_all.new.reader first now c.finish.result c.in_default.field-0 c.finish.ensures.ended c.in_default.is reached in
    IfErr-weaker c.end.result _ _
    (λ e k. record { bytes = r.0; read = r.1; holds = inr (r.2, end_refused c.read_all.new.reader now reached ended k) })
    c.end.ensures.refused

pub returns-clause-peer : goal.returns-clause-peer
returns-clause-peer g c =
    let f = c.in_ok-read_all.ensures.peer in
    let failures = g.K.Taker.failures in
    later_counted c.end.result (counts g.I.Input.failures g.I.Input.reads c.args.input.now c.read_all.new.input) (failures c.args.output.now) (failures c.read_all.new.output) (failures c.end.new.output) f.0 f.1 c.end.ensures.peer
