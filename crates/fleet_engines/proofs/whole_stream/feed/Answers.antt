use Rattle.std.proofs.Common.{◌≡◌, Err, subst}
use Rattle.std.proofs.lemmas.Result.{err_from_is_err_and}
use Rattle.std.specs.Result.{OnErr}
use Rattle.dump_text.specs.Streams.{Reads, reading, StreamIs, IsFront}
use Rattle.fleet_engines.specs.Takers.{place}
use Rattle.fleet_engines.proofs.Feeding.{fed_ok, fed_err, fed_stops}
use Rattle.fleet_engines.proofs.whole_stream.feed.Goals as goal

pub returns-in-Ok-clause-ok : goal.returns-in-Ok-clause-ok
returns-in-Ok-clause-ok g c =
    let k = g.K.Taker in
    let old = c.args.reader.now in
    let new = c.feed-fed.new.self in
    let out = c.feed-fed.new.out.items in
    let piece = c.args.piece.now in
    λ deltas bytes first. fed_ok deltas k.takes k.refuses k.cant_end bytes piece old new out first (place c.args.taker.now c.args.store.now c.args.output.now) (place c.take_all.new.taker c.take_all.new.store c.take_all.new.output)
    (λ e. subst (λ l. reading (Reads l old) piece ≡ Reads out new) c.no_records-records.ensures (c.in-Ok.ensures.reads e)) c.in_ok-take_all.ensures.ok

pub returns-in-Err-clause-refused : goal.returns-in-Err-clause-refused
returns-in-Err-clause-refused g c =
    let k = g.K.Taker in
    let old = c.args.reader.now in
    let new = c.feed-fed.new.self in
    let out = c.feed-fed.new.out.items in
    let piece = c.args.piece.now in
    let none = c.no_records-records.ensures in
    rw c.dump_refusal.ensures.value
    (λ deltas bytes rest first. fed_err deltas k.takes k.refuses k.cant_end bytes piece rest old new out first (place c.args.taker.now c.args.store.now c.args.output.now) (place c.take_all.new.taker c.take_all.new.store c.take_all.new.output) c.in-Err.fault
    (λ e. subst (λ l. StreamIs (Err c.in-Err.fault) new out (reading (Reads l old) piece)) none (c.in-Err.ensures.reads e))
    (λ e. subst (λ l. IsFront out (reading (Reads l old) piece)) none (c.in-Err.ensures.front e))
    c.in_ok-take_all.ensures.ok)

pub returns-in_err-take_all-clause-refused : goal.returns-in_err-take_all-clause-refused
returns-in_err-take_all-clause-refused g c =
    let p = err_from_is_err_and c.from_residual.result c.from_residual.ensures.1 in
    let k = g.K.Taker in
    let old = c.args.reader.now in
    let new = c.feed-fed.new.self in
    let out = c.feed-fed.new.out.items in
    let piece = c.args.piece.now in
    let none = c.no_records-records.ensures in
    rw (p.1, p.2)
    (λ deltas bytes rest first. fed_stops deltas k.takes k.refuses k.cant_end bytes piece rest old new out first (place c.args.taker.now c.args.store.now c.args.output.now) (place c.take_all.new.taker c.take_all.new.store c.take_all.new.output) c.feed-fed.result c.in_err-take_all.field-0.0
    (λ e. subst (λ l. StreamIs c.feed-fed.result new out (reading (Reads l old) piece)) none (c.feed-fed.ensures.reads e))
    (λ e. subst (λ l. OnErr c.feed-fed.result (IsFront out (reading (Reads l old) piece))) none (c.feed-fed.ensures.front e))
    c.in_err-take_all.ensures.refused)
