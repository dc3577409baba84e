use Rattle.std.proofs.Common.{Option, [], ap, sym, ◌∙◌}
use Rattle.node_base.specs.Path.{Path}
use Rattle.node_base.specs.declared.node.Node.{Node}
use Rattle.node_base.specs.Tree.{base, marked}
use Rattle.dump_load.proofs.Walk.{effect_none}
use Rattle.dump_load.proofs.steps.begin.Goals as goal

pub returns : goal.returns
returns c = λ q.
    c.in_ok-mark.ensures.ok q
    ∙ ap (λ (f : Path → Option Node). marked f [] c.next_number.result q) (λ i p. c.in_ok-tree.ensures p i)
    ∙ ap (λ n. marked (base c.args.trees.now) [] n q) c.next_number.ensures
    ∙ sym (effect_none c.args.trees.now q)
