use Rattle.std.proofs.Common.{◌∙◌, sym, ap, drop, arith}
use Rattle.svndiff.specs.DeltaStreams.{Now, held, settled, reading, and_texts, texts_in}
use Rattle.svndiff.proofs.DeltaRuns.{stretch_at, stretch_texts, refused_by}
use Rattle.svndiff.proofs.delta.Delta.step.Goals as goal

pub returns-in-NewData-clause-reads : goal.returns-in-NewData-clause-reads
returns-in-NewData-clause-reads c = λ text.
    let m = c.max-left.ensures in
    let base = c.args.base.now in
    let k = c.max-left.result in
    stretch_at base text c.args.self.now c.args.piece.now k c.in-NewData.is (grind (arith, m)) c.requires (λ l. grind (arith, m, l))
    ∙ ap (λ d. reading base (settled base text (Now d)) (drop k c.args.piece.now)) (sym (c.in_ok-keep.ensures ∙ ap (λ b. held b c.args.self.now) c.front-bytes.ensures))
    ∙ ap (λ r. reading base (settled base text (Now c.keep.new.self)) r) (sym c.behind.ensures)

pub returns-in-NewData-clause-pieces : goal.returns-in-NewData-clause-pieces
returns-in-NewData-clause-pieces c =
    let m = c.max-left.ensures in
    let base = c.args.base.now in
    let k = c.max-left.result in
    stretch_texts base c.args.self.now c.args.piece.now k c.in-NewData.is (grind (arith, m)) c.requires (λ l. grind (arith, m, l))
    ∙ ap (λ d. and_texts base (Now d) (λ z. texts_in base z (drop k c.args.piece.now))) (sym (c.in_ok-keep.ensures ∙ ap (λ b. held b c.args.self.now) c.front-bytes.ensures))
    ∙ ap (λ r. and_texts base (Now c.keep.new.self) (λ z. texts_in base z r)) (sym c.behind.ensures)

pub returns-in-Err : goal.returns-in-Err
returns-in-Err c = record {
  reads = tt;
  pieces = tt;
  on = tt;
  refuses = rw c.in-Some.ensures.cases.0 (refused_by c.in-Err.fault c.args.base.now c.args.self.now c.take.new.self c.in-Some.first.now c.in-Some.rest.now c.in_default.not-NewData c.in-Err.ensures);
}
