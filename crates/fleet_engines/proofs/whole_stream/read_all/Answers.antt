use Rattle.std.proofs.Common.{◌≡◌, ◌++◌, ◌∙◌, [], Err, take, ap, sym, refl, subst, append-nil, arith, inl, inr, rules}
use Rattle.std.proofs.KnownBytes.{Consumes-kept, Consumes-nil, Consumes-trans}
use Rattle.std.proofs.lemmas.Result.{err_from_is_err_and}
use Rattle.std.specs.Io.KnownBytes.{Consumes}
use Rattle.byte_streams.specs.Causes.{counts}
use Rattle.byte_streams.proofs.Counting.{counts_on}
use Rattle.node_base.specs.declared.refusal.Refusal.TheVariants.{PeerFailed}
use Rattle.dump_text.specs.Streams.{Reads}
use Rattle.fleet_engines.specs.Takers.{place}
use Rattle.fleet_engines.proofs.Feeding.{peer_failed}
use Rattle.fleet_engines.proofs.Streaming.{input_counted, later_counted, reads_spent, rose_on}
use Rattle.fleet_engines.proofs.whole_stream.read_all.Goals as goal

pub loop-turn-init : goal.loop-turn-init
loop-turn-init g c = (
  [],
  Consumes-nil (g.I.Input.remaining c.args.input.now),
  record { records = []; read = ap (Reads []) (sym c.requires.begins); taken = refl },
  refl,
  inl (omega (arith)),
  refl,
)

pub loop-turn-preserved : goal.loop-turn-preserved
loop-turn-preserved g c =
    let i = c.loop-turn.invariant in
    let piece = take c.in_ok-n.n c.read.new.piece in (
      i.0 ++ piece,
      Consumes-trans (g.I.Input.remaining c.args.input.now) (g.I.Input.remaining c.loop-turn.input) (g.I.Input.remaining c.read.new.input) i.0 piece i.1 c.in_ok-n.ensures.bytes,
      c.in_ok-feed.ensures.ok c.args.reader.now.head.deltas i.0 (place c.args.taker.now c.args.store.now c.args.output.now) i.2,
      c.in_ok-n.ensures.working ∙ i.3,
      counts_on c.loop-turn._turn (g.I.Input.reads c.args.input.now) (g.I.Input.reads c.loop-turn.input) (g.I.Input.reads c.read.new.input) i.4 c.read.ensures.counted,
      c.in_ok-feed.ensures.peer ∙ i.5,
    )

pub returns-in_err-n-clause-refused : goal.returns-in_err-n-clause-refused
returns-in_err-n-clause-refused g c =
    let p = err_from_is_err_and c.from_residual.result c.from_residual.ensures.1 in
    let k = g.K.Taker in
    let i = c.loop-turn.invariant in
    let first = place c.args.taker.now c.args.store.now c.args.output.now in
    let now = place c.loop-turn.taker c.loop-turn.store c.loop-turn.output in
    rw (p.1, p.2)
    (record {
      bytes = i.0;
      read = Consumes-kept (g.I.Input.remaining c.args.input.now) (g.I.Input.remaining c.loop-turn.input) (g.I.Input.remaining c.read.new.input) i.0 i.1 c.in_err-n.ensures.none;
      holds = inl (λ rest. peer_failed c.args.reader.now.head.deltas k.takes k.refuses k.cant_end i.0 rest c.loop-turn.reader first now c.in_err-n.field-0.0 c.in_err-n.ensures.only_peer i.2);
    })

pub returns-in_err-n-clause-peer : goal.returns-in_err-n-clause-peer
returns-in_err-n-clause-peer g c =
    let p = err_from_is_err_and c.from_residual.result c.from_residual.ensures.1 in
    let i = c.loop-turn.invariant in
    rw (p.1, p.2)
    (input_counted c.in_err-n.field-0.0 (counts g.I.Input.failures g.I.Input.reads c.args.input.now c.read.new.input) (g.K.Taker.failures c.args.output.now) (g.K.Taker.failures c.loop-turn.output) c.in_err-n.ensures.only_peer
    (omega (arith, i.3, c.read.ensures.later)) (inl (rose_on (g.I.Input.failures c.args.input.now) (g.I.Input.failures c.loop-turn.input) (g.I.Input.failures c.read.new.input) (omega (arith, i.3)) c.in_err-n.ensures.failed)))

pub returns-then-n-eq0-clause-ok : goal.returns-then-n-eq0-clause-ok
returns-then-n-eq0-clause-ok g c =
    let i = c.loop-turn.invariant in
    let a = g.I.Input.remaining c.args.input.now in
    let b = g.I.Input.remaining c.loop-turn.input in
    let d = g.I.Input.remaining c.read.new.input in
    let none : take c.in_ok-n.n c.read.new.piece ≡ [] = ap (λ n. take n c.read.new.piece) c.if-n-eq0.true in (
      i.0,
      subst (Consumes a d) (ap (λ l. i.0 ++ l) none ∙ append-nil i.0) (Consumes-trans a b d i.0 (take c.in_ok-n.n c.read.new.piece) i.1 c.in_ok-n.ensures.bytes),
      c.in_ok-n.ensures.end c.if-n-eq0.true (omega (arith, c.requires.room, c.loop-turn.auto.piece, c.read.auto.piece)),
      i.2,
    )

pub returns-then-n-eq0-clause-peer : goal.returns-then-n-eq0-clause-peer
returns-then-n-eq0-clause-peer g c =
    let i = c.loop-turn.invariant in
    (c.in_ok-n.ensures.working ∙ i.3, i.5)

pub returns-in_err-feed-clause-refused : goal.returns-in_err-feed-clause-refused
returns-in_err-feed-clause-refused g c =
    let p = err_from_is_err_and c.from_residual-in_err-feed.result c.from_residual-in_err-feed.ensures.1 in
    let i = c.loop-turn.invariant in
    let piece = take c.in_ok-n.n c.read.new.piece in
    rw (p.1, p.2)
    (record {
      bytes = i.0 ++ piece;
      read = Consumes-trans (g.I.Input.remaining c.args.input.now) (g.I.Input.remaining c.loop-turn.input) (g.I.Input.remaining c.read.new.input) i.0 piece i.1 c.in_ok-n.ensures.bytes;
      holds = inl (λ rest. c.in_err-feed.ensures.refused c.args.reader.now.head.deltas i.0 rest (place c.args.taker.now c.args.store.now c.args.output.now) i.2);
    })

pub returns-in_err-feed-clause-peer : goal.returns-in_err-feed-clause-peer
returns-in_err-feed-clause-peer g c =
    let p = err_from_is_err_and c.from_residual-in_err-feed.result c.from_residual-in_err-feed.ensures.1 in
    let i = c.loop-turn.invariant in
    rw (p.1, p.2)
    (later_counted (Err c.in_err-feed.field-0.0) (counts g.I.Input.failures g.I.Input.reads c.args.input.now c.read.new.input) (g.K.Taker.failures c.args.output.now) (g.K.Taker.failures c.loop-turn.output) (g.K.Taker.failures c.feed.new.output)
    (c.in_ok-n.ensures.working ∙ i.3) i.5 c.in_err-feed.ensures.peer)

pub returns-clause-refused : goal.returns-clause-refused
returns-clause-refused g c =
    let k = g.K.Taker in
    let i = c.loop-turn.invariant in
    let first = place c.args.taker.now c.args.store.now c.args.output.now in
    let now = place c.loop-turn.taker c.loop-turn.store c.loop-turn.output in
    record { bytes = i.0; read = i.1; holds = inl (λ rest. peer_failed c.args.reader.now.head.deltas k.takes k.refuses k.cant_end i.0 rest c.loop-turn.reader first now PeerFailed refl i.2) }

pub returns-clause-peer : goal.returns-clause-peer
returns-clause-peer g c =
    let i = c.loop-turn.invariant in
    input_counted PeerFailed (counts g.I.Input.failures g.I.Input.reads c.args.input.now c.loop-turn.input) (g.K.Taker.failures c.args.output.now) (g.K.Taker.failures c.loop-turn.output) refl (omega (arith, i.3))
    (inr (reads_spent (g.I.Input.reads c.args.input.now) (g.I.Input.reads c.loop-turn.input) c.loop-turn._turn (search rules) i.4))
