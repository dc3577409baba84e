use Rattle.std.proofs.Common.{◌∙◌, ap}
use Rattle.path_history.specs.Places.{place}
use Rattle.ra_log.specs.Kinds.{below, kind_at}
use Rattle.ra_log.proofs.Standing.{kind_past}
use Rattle.ra_log.proofs.kind.kind_below.Goals as goal

pub returns-in-Ok : goal.returns-in-Ok
returns-in-Ok c = c.kind_at.ensures ∙ ap (λ p. kind_at c.args.trees.now (place c.args.from.now.revision p)) c.in-Ok.ensures.joined

pub returns-in-Err-TooLong : goal.returns-in-Err-TooLong
returns-in-Err-TooLong c = kind_past c.args.trees.now (below c.args.rest.now c.args.from.now) (c.in-Err-TooLong.ensures.refused c.in-Err-TooLong.field-0-is)
