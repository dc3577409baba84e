use Rattle.path_tree.proofs.row.joint.Goals as goal

pub invariant_of-twig : goal.invariant_of-twig
invariant_of-twig c = record { rooted = c.reach_over-reach.ensures.rooted; reach = c.reach_over-reach.ensures.reach }
