use Rattle.std.proofs.Common.{◌∙◌}
use Rattle.dump_load.proofs.Faultless.{source_read, source_node_is, source_past}
use Rattle.dump_load.proofs.judge.source_node.Goals as goal

pub returns-then-revision-trees : goal.returns-then-revision-trees
returns-then-revision-trees c =
    c.get.ensures
    ∙ source_node_is c.args.trees.now c.args.source.now c.index-trees-revision.result c.names.result.now
    (source_read c.args.trees.now c.args.source.now c.index-revision.result c.index-trees-revision.result c.index-revision.ensures.number c.if-revision-trees.true c.index-trees-revision.is)
    c.names.ensures.names

pub returns-else-revision-trees : goal.returns-else-revision-trees
returns-else-revision-trees c = source_past c.args.trees.now c.args.source.now c.index-revision.result c.index-revision.ensures.number c.if-revision-trees.false
