use Rattle.std.proofs.Common.{rules}
use Rattle.editor_ends.proofs.Showing.{stop_here, stop_before, stop_later}
use Rattle.editor_ends.proofs.props.reset_dir.Goals as goal

pub returns-in_err-unset_dir-clause-stops : goal.returns-in_err-unset_dir-clause-stops
returns-in_err-unset_dir-clause-stops g c = search (rules, stop_here, stop_before, stop_later)

pub returns-clause-stops : goal.returns-clause-stops
returns-clause-stops g c = search (rules, stop_here, stop_before, stop_later)
