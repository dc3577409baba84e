use Rattle.std.proofs.Common.{inr, refl, ap, ◌∙◌}
use Rattle.sync_job.specs.Masters.{fault_text}
use Rattle.svn_ends.proofs.refusals.refused.Goals as goal

pub returns-in-Ok : goal.returns-in-Ok
returns-in-Ok c = inr (c.in-Ok.text, refl, c.in-Ok.ensures ∙ ap fault_text c.from.ensures)
