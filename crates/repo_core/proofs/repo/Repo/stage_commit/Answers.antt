use Rattle.repo_core.proofs.Ready.{ready_revision}
use Rattle.repo_core.proofs.repo.Repo.stage_commit.Goals as goal

pub returns-clause-ready : goal.returns-clause-ready
returns-clause-ready c =
    ready_revision c.args.self.now.revisions c.in_ok-number.number c.args.set c.in_ok-props.props c.in_ok-tree.tree c.trees.result.now c.revision.result c.revision.ensures.entry c.revision.ensures.tree
    c.in_ok-number.ensures.number c.in_ok-number.ensures.room c.trees.ensures.trees c.in_ok-tree.ensures.makes.faultless c.in_ok-tree.ensures.makes.effect c.in_ok-props.ensures.within
