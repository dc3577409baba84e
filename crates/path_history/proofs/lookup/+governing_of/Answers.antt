use Rattle.dump_load.specs.Changes.{change_at, settling}
use Rattle.path_history.proofs.Lookups.{found_first, found_above}
use Rattle.path_history.proofs.lookup.+governing_of.Goals as goal

pub returns-in-Some : goal.returns-in-Some
returns-in-Some t c = found_first (change_at (settling c.args.set.now)) c.args.path.now c.in-Some.change.now c.in-Some.ensures

pub returns-in-Some-split_last : goal.returns-in-Some-split_last
returns-in-Some-split_last t c =
    found_above (change_at (settling c.args.set.now)) c.args.path.now c.in-Some-split_last.above.now c.in-Some-split_last.field-0-0.now _ c.in-Some-split_last.ensures.cases.0 c.in-None.ensures c.governing_of.ensures
