use Rattle.sync_core.proofs.Going.{commits-in-order}
use Rattle.sync_core.proofs.Moves.{calls-move}
use Rattle.sync_core.proofs.law.calls_move_numbers.Goals as goal

pub returns-clause-moved : goal.returns-clause-moved
returns-clause-moved c = calls-move

pub returns-clause-commits : goal.returns-clause-commits
returns-clause-commits c = commits-in-order
