use Rattle.std.proofs.Common.{◌∙◌, ap, sym, drop, length, Some, arith}
use Rattle.std.proofs.lemmas.List.{drop_all}
use Rattle.dump_text.specs.Streams.{reading, after_block, of_block}
use Rattle.dump_text.specs.declared.record.PropPart.{PropPart}
use Rattle.dump_text.specs.Forms.{is_delta, part_of}
use Rattle.node_base.specs.declared.block.BlockReader.{BlockReader}
use Rattle.dump_text.proofs.StreamRuns.{block_piece, block_refused, refused_so}
use Rattle.dump_text.proofs.state.ReadState.in_block.Goals as goal

pub returns-in-Ok-None-clause-on : goal.returns-in-Ok-None-clause-on
returns-in-Ok-None-clause-on c =
    rw (drop_all (length c.args.piece.now) c.args.piece.now (omega arith)) (block_piece c.args.out.now.items c.args.self.now c.args.piece.now c.requires.place ∙ ap (of_block c.args.out.now.items c.args.self.now) (rw c.in-Ok-None.field-0-is at c.in-Ok-None.ensures.run))

pub returns-in-Err-clause-on : goal.returns-in-Err-clause-on
returns-in-Err-clause-on c =
    rw c.block_fault.ensures (block_refused c.in-Err.fault c.feed.new.self _ c.args.out.now.items c.args.self.now c.args.piece.now _ _ (block_piece c.args.out.now.items c.args.self.now c.args.piece.now c.requires.place) c.in-Err.ensures.run)

pub returns-in-Ok-clause-on : goal.returns-in-Ok-clause-on
returns-in-Ok-clause-on c =
    let e = block_piece c.args.out.now.items c.args.self.now c.args.piece.now c.requires.place ∙ ap (of_block c.args.out.now.items c.args.self.now) (rw c.in-Ok-Some.field-0-is at c.in-Ok-Some.ensures.run) in
    let f = λ (b : BlockReader) (p : PropPart). after_block c.args.out.now.items (record c.args.self.now { block = b }) (Some p) in
    e ∙ ap (λ t. reading t (drop c.in-Ok-Some.k c.args.piece.now)) (ap (λ b. f b (part_of (is_delta c.args.self.now.head) c.feed.new.self.props c.feed.new.self.removed)) (sym c.restart.ensures) ∙ ap (f _) (sym (c.part_from-part.ensures ∙ ap (λ d. part_of d c.feed.new.self.props c.feed.new.self.removed) c.is_delta.ensures)) ∙ c.in-Ok.ensures.on)

pub returns-in-Err-after_block-clause-on : goal.returns-in-Err-after_block-clause-on
returns-in-Err-after_block-clause-on c =
    let more = drop c.in-Ok-Some.k c.args.piece.now in
    let e = block_piece c.args.out.now.items c.args.self.now c.args.piece.now c.requires.place ∙ ap (of_block c.args.out.now.items c.args.self.now) (rw c.in-Ok-Some.field-0-is at c.in-Ok-Some.ensures.run) in
    let f = λ (b : BlockReader) (p : PropPart). after_block c.args.out.now.items (record c.args.self.now { block = b }) (Some p) in
    refused_so c.in-Err-after_block.fault _ _ _ more _ _ (e ∙ ap (λ t. reading t more) (ap (λ b. f b (part_of (is_delta c.args.self.now.head) c.feed.new.self.props c.feed.new.self.removed)) (sym c.restart.ensures) ∙ ap (f _) (sym (c.part_from-part.ensures ∙ ap (λ d. part_of d c.feed.new.self.props c.feed.new.self.removed) c.is_delta.ensures)))) c.in-Err-after_block.ensures.on
