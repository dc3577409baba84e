use Rattle.std.proofs.Common.{◌+◌, ◌∙◌, ap, sym, drop, length, arith}
use Rattle.std.proofs.lemmas.List.{drop_all}
use Rattle.dump_text.specs.Streams.{reading, text_is}
use Rattle.dump_text.proofs.StreamRuns.{text_kept, text_whole, last_taken, refused_so}
use Rattle.dump_text.proofs.state.ReadState.in_text.Goals as goal

pub returns-then-piece-keep-clause-on : goal.returns-then-piece-keep-clause-on
returns-then-piece-keep-clause-on c =
    rw (drop_all (length c.args.piece.now) c.args.piece.now (omega arith), c.in_ok-extend.ensures) (text_kept c.args.out.now.items c.args.self.now c.args.n c.args.piece.now c.requires.place (λ q. omega arith))

pub returns-in-Ok-clause-on : goal.returns-in-Ok-clause-on
returns-in-Ok-clause-on c =
    let h = c.take-text.ensures.bytes ∙ c.in_ok-extend-2.ensures ∙ last_taken c.args.self.now.held c.args.piece.now c.saturating_sub-keep.result (omega arith) in
    let more = drop (c.saturating_sub-keep.result + 1) c.args.piece.now in
    let e = text_whole c.args.out.now.items c.args.self.now c.args.n c.saturating_sub-keep.result c.args.piece.now c.requires.place (omega arith) (λ q. omega arith) (omega arith) in
    e ∙ ap (λ t. reading t more) (ap (text_is c.args.out.now.items c.args.self.now c.args.self.now.props) (sym h) ∙ ap (λ p. text_is c.args.out.now.items c.args.self.now p c.take-text.result.items) (sym c.replace-props.ensures.value) ∙ c.in-Ok.ensures.on)

pub returns-in-Err-clause-on : goal.returns-in-Err-clause-on
returns-in-Err-clause-on c =
    let h = c.take-text.ensures.bytes ∙ c.in_ok-extend-2.ensures ∙ last_taken c.args.self.now.held c.args.piece.now c.saturating_sub-keep.result (omega arith) in
    let more = drop (c.saturating_sub-keep.result + 1) c.args.piece.now in
    let e = text_whole c.args.out.now.items c.args.self.now c.args.n c.saturating_sub-keep.result c.args.piece.now c.requires.place (omega arith) (λ q. omega arith) (omega arith) in
    refused_so c.in-Err.fault _ _ _ more _ _ (e ∙ ap (λ t. reading t more) (ap (text_is c.args.out.now.items c.args.self.now c.args.self.now.props) (sym h) ∙ ap (λ p. text_is c.args.out.now.items c.args.self.now p c.take-text.result.items) (sym c.replace-props.ensures.value))) c.in-Err.ensures.on
