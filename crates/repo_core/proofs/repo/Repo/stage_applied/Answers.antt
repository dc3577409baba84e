use Rattle.std.proofs.Common.{length, refl, arith}
use Rattle.repo_core.specs.Repository.{trees_of}
use Rattle.repo_core.proofs.Limited.{props_within}
use Rattle.repo_core.proofs.Ready.{ready_revision, refuses_full}
use Rattle.repo_core.proofs.repo.Repo.stage_applied.Goals as goal

pub returns-in-Ok-clause-ready : goal.returns-in-Ok-clause-ready
returns-in-Ok-clause-ready c =
    ready_revision c.args.self.now.revisions c.in-Ok.number c.args.applied.set c.args.props c.args.applied.tree (trees_of c.args.self.now.revisions) c.revision.result c.revision.ensures.entry c.revision.ensures.tree
    c.in-Ok.ensures.number c.in-Ok.ensures.room refl c.requires.faultless c.requires.effect (props_within _ c.entries.ensures.rules)

pub returns-in-Err-clause-refused : goal.returns-in-Err-clause-refused
returns-in-Err-clause-refused c = refuses_full c.args.self.now.revisions (length c.args.self.now.revisions) c.args.applied.set c.args.props c.in-Err.fault c.in-Err.ensures.full

pub returns-in-Err-clause-room : goal.returns-in-Err-clause-room
returns-in-Err-clause-room c = λ room. absurd (omega (arith, room, c.in-Err.ensures.full.1))
