use Rattle.path_history.specs.Places.{origin}
use Rattle.std.proofs.Common.{true}
use Rattle.ra_log.proofs.Standing.{below_past}
use Rattle.ra_log.proofs.kind.kind_from.Goals as goal

pub returns-in-Err-TooLong : goal.returns-in-Err-TooLong
returns-in-Err-TooLong c = below_past c.args.trees.now c.args.rest.now (origin true c.args.set.now c.args.folder) (c.in-Err-TooLong.ensures.refused c.in-Err-TooLong.field-0-is)
