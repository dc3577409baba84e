use Rattle.std.proofs.Common.{arith}
use Rattle.repo_core.proofs.Limited.{props_within}
use Rattle.repo_core.proofs.Ready.{ready_map, found_within, missed_past, refuses_past}
use Rattle.repo_core.proofs.repo.Repo.stage_put_props.Goals as goal

pub returns-in-Some-clause-ready : goal.returns-in-Some-clause-ready
returns-in-Some-clause-ready c =
    let there = found_within c.args.self.now.revisions c.args.number _ c.in-Some.ensures in
    ready_map c.args.self.now.revisions c.args.number c.args.props c.map.result c.map.ensures.entry c.map.ensures.tree there (props_within _ c.entries.ensures.rules)

pub returns-in-None-clause-refused : goal.returns-in-None-clause-refused
returns-in-None-clause-refused c = refuses_past c.args.self.now.revisions c.args.number c.args.props (missed_past c.args.self.now.revisions c.args.number c.in-None.ensures)

pub returns-in-None-clause-there : goal.returns-in-None-clause-there
returns-in-None-clause-there c = λ there. absurd (omega (arith, missed_past c.args.self.now.revisions c.args.number c.in-None.ensures))
