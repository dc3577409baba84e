use Rattle.std.proofs.Common.{inr, refl, ◌∙◌}
use Rattle.mirror_share.proofs.jobs.running.Goals as goal

pub returns-in-Ok : goal.returns-in-Ok
returns-in-Ok c = inr (_, refl, c.in-Ok.ensures.items ∙ c.as_bytes.ensures.bytes)
