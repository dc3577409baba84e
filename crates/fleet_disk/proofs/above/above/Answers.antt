use Rattle.std.proofs.Common.{refl, rules}
use Rattle.fleet_disk.proofs.AboveLemmas.{above_split, above_root, above_none, some_left}
use Rattle.fleet_disk.proofs.above.above.Goals as goal

pub returns-then-is_empty : goal.returns-then-is_empty
returns-then-is_empty c =
    above_root c.args.folder.now c.trim_end_matches-folder.result.now c.in-Some.above.now c.in-Some.field-0-1.now _ c.trim_end_matches-folder.ensures.matches c.in-Some.ensures.cases (search rules) refl

pub returns-else-is_empty : goal.returns-else-is_empty
returns-else-is_empty c =
    above_split c.args.folder.now c.trim_end_matches-folder.result.now c.in-Some.above.now c.in-Some.field-0-1.now c.trim_end_matches-folder.ensures.matches c.in-Some.ensures.cases (some_left _ (search rules))

pub returns-in-None : goal.returns-in-None
returns-in-None c = above_none c.args.folder.now c.trim_end_matches-folder.result.now _ c.trim_end_matches-folder.ensures.matches c.in-None.ensures.cases refl
