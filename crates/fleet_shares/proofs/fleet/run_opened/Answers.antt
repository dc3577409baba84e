use Rattle.std.proofs.Common.{◌∙◌}
use Rattle.std.specs.Arc.{arc_value}
use Rattle.fleet_shares.proofs.Forgetting.{closed_in, shared_in}
use Rattle.fleet_shares.proofs.Settling.{all_brought}
use Rattle.fleet_shares.proofs.Telling.{of_ok}
use Rattle.fleet_shares.proofs.fleet.run_opened.Goals as goal

pub returns-in-Ok-answers-clause-slots : goal.returns-in-Ok-answers-clause-slots
returns-in-Ok-answers-clause-slots g c =
    closed_in c.unshared.result c.with_readers-shares.result.0 c.args.opened c.settle-stores.result.0 (c.unshared.ensures ∙ c.in-Ok.ensures.shares) c.with_readers-shares.ensures.slots c.settle-stores.ensures.slots

pub returns-in-Err-answers-clause-slots : goal.returns-in-Err-answers-clause-slots
returns-in-Err-answers-clause-slots g c =
    closed_in c.unshared.result c.with_readers-shares.result.0 c.args.opened c.settle-stores.result.0 (c.unshared.ensures ∙ c.in-Ok.ensures.shares) c.with_readers-shares.ensures.slots c.settle-stores.ensures.slots

pub returns-in-Ok-answers-clause-answers : goal.returns-in-Ok-answers-clause-answers
returns-in-Ok-answers-clause-answers g c =
    of_ok c.run_shared-answers.result c.in-Ok-answers.answers _ c.in-Ok-answers.is
    (shared_in (arc_value c.in-Ok.shares) c.with_readers-shares.result.0 c.args.opened c.in-Ok.ensures.shares c.with_readers-shares.ensures.slots c.args.orders.items c.run_shared-answers.result c.run_shared-answers.ensures)

pub returns-in-Ok-answers-clause-brought : goal.returns-in-Ok-answers-clause-brought
returns-in-Ok-answers-clause-brought g c =
    all_brought c.args.opened c.in-Ok.readers c.settle-stores.result.0 c.settle-stores.result.1 (of_ok c.with_readers-shares.result.1 _ _ c.in-Ok.ensures.readers c.with_readers-shares.ensures.readers) c.settle-stores.ensures.brought
