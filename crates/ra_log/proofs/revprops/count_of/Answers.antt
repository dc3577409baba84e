use Rattle.std.proofs.Common.{◌∙◌, length, ap}
use Rattle.browse_wire.specs.Asks.{revprops_as}
use Rattle.ra_log.specs.Entries.{others_of}
use Rattle.ra_log.proofs.revprops.count_of.Goals as goal

pub returns : goal.returns
returns c = c.count_others.ensures ∙ ap (λ l. length (others_of (revprops_as c.args.wanted.now) l)) c.entries.ensures.entries
