use Rattle.std.proofs.Common.{sym, ◌∙◌}
use Rattle.path_tree.specs.Reach.{either}
use Rattle.path_tree.specs.Rows.{in_row}
use Rattle.path_tree.proofs.Reaches.{reach-joint}
use Rattle.path_tree.proofs.row.reach_over.Goals as goal

pub returns-clause-reach : goal.returns-clause-reach
returns-clause-reach c =
    c.either.ensures
    ∙ (λ i. either ((c.either-front.ensures ∙ (λ j. either (c.reach_in.ensures j) (c.reach.ensures.reach j))) i) (c.reach_in-2.ensures i))
    ∙ sym (reach-joint (in_row c.args.before.now) c.args.child.now (in_row c.args.behind.now))
