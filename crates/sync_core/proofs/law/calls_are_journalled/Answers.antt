use Rattle.sync_core.proofs.Replays.{calls-are-journalled, calls-join}
use Rattle.sync_core.proofs.law.calls_are_journalled.Goals as goal

pub returns-clause-journal : goal.returns-clause-journal
returns-clause-journal c = calls-are-journalled

pub returns-clause-joined : goal.returns-clause-joined
returns-clause-joined c = calls-join
