use Rattle.std.proofs.Common.{◌≡◌, ◌≤◌, ◌++◌, [], drop, length, length-append, ap, ◌∙◌, arith}
use Rattle.std.proofs.lemmas.List.{nil_from_length}
use Rattle.node_base.specs.BlockGrammar.{block_end}
use Rattle.node_base.specs.Blocks.{run_block}
use Rattle.node_base.proofs.BlockRuns.{ended}
use Rattle.node_base.proofs.block.BlockReader.is_ended_by.Goals as goal

pub returns-in-Tag : goal.returns-in-Tag
returns-in-Tag c = λ e.
    let rest = drop 10 c.args.rest.now in
    let is : c.args.rest.now ≡ block_end ++ rest = c.is_block_end.ensures e in
    let long : 10 ≤ length c.args.rest.now = omega (arith, ap length is, length-append block_end rest) in
    let none : length c.args.self.now.held ≡ 0 = omega (arith, c.len.ensures, c.if-len-ne0.false) in
    let held : c.args.self.now.held ≡ [] = nil_from_length c.args.self.now.held none in
    (long, ap (run_block c.args.self.now) is ∙ ended c.args.self.now rest c.if-self-ne10.false c.in-Tag.is held)
