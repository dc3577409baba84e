use Rattle.std.proofs.Common.{rules}
use Rattle.editor_ends.proofs.Showing.{stop_here, stop_before, stop_later}
use Rattle.editor_ends.proofs.props.reset_file.Goals as goal

pub returns-in_err-unset_file-clause-stops : goal.returns-in_err-unset_file-clause-stops
returns-in_err-unset_file-clause-stops g c = search (rules, stop_here, stop_before, stop_later)

pub returns-clause-stops : goal.returns-clause-stops
returns-clause-stops g c = search (rules, stop_here, stop_before, stop_later)
