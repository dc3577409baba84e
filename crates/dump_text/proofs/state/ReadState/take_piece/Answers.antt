use Rattle.std.proofs.Common.{drop, ap, sym, ◌∙◌, ◌++◌}
use Rattle.dump_text.specs.Streams.{Reads, records_of}
use Rattle.dump_text.proofs.Grows.{grows}
use Rattle.dump_text.proofs.state.ReadState.take_piece.Goals as goal

pub returns-in-Err-clause-front : goal.returns-in-Err-clause-front
returns-in-Err-clause-front c =
    let g = grows (Reads c.loop-at.out.items c.loop-at.self) (drop c.loop-at.at c.args.piece.now) in
    (g.0, ap records_of (sym c.loop-at.invariant.1) ∙ g.1 ∙ ap (λ x. x ++ g.0) (sym c.in-Err.ensures.out))
