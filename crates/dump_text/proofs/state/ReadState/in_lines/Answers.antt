use Rattle.std.proofs.Common.{◌+◌, ◌∙◌, ap, drop, arith}
use Rattle.std.proofs.lemmas.List.{drop_all, take_all}
use Rattle.dump_text.specs.Streams.{reading}
use Rattle.dump_text.proofs.StreamRuns.{line_kept, line_whole, line_too_long, refused_so}
use Rattle.dump_text.proofs.state.ReadState.in_lines.Goals as goal

pub returns-then-k-room-clause-on : goal.returns-then-k-room-clause-on
returns-then-k-room-clause-on c = line_too_long c.args.out.now.items c.args.self.now c.saturating_sub-room.result c.line_end-k.result c.args.piece.now c.requires.place c.line_end-k.ensures.within c.line_end-k.ensures.free c.if-k-room.true (λ q. omega arith) (omega arith)

pub returns-then-k-piece-clause-on : goal.returns-then-k-piece-clause-on
returns-then-k-piece-clause-on c =
    let t = take_all c.line_end-k.result c.args.piece.now (omega arith) in
    rw (drop_all c.line_end-k.result c.args.piece.now (omega arith), c.in_ok-extend.ensures) (line_kept c.args.out.now.items c.args.self.now c.args.piece.now c.requires.place (rw t at c.line_end-k.ensures.free) (λ q. omega arith))

pub returns-in-Ok-clause-on : goal.returns-in-Ok-clause-on
returns-in-Ok-clause-on c =
    let e = line_whole c.args.out.now.items c.args.self.now c.line_end-k.result c.args.piece.now c.requires.place (omega arith) c.line_end-k.ensures.free (c.line_end-k.ensures.end (omega arith)) (λ q. omega arith) in
    e ∙ ap (λ t. reading t (drop (c.line_end-k.result + 1) c.args.piece.now)) c.in-Ok.ensures.on

pub returns-in-Err-clause-on : goal.returns-in-Err-clause-on
returns-in-Err-clause-on c =
    let e = line_whole c.args.out.now.items c.args.self.now c.line_end-k.result c.args.piece.now c.requires.place (omega arith) c.line_end-k.ensures.free (c.line_end-k.ensures.end (omega arith)) (λ q. omega arith) in
    refused_so c.in-Err.fault _ _ _ (drop (c.line_end-k.result + 1) c.args.piece.now) _ _ e c.in-Err.ensures.on
