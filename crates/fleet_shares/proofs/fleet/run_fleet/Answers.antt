use Rattle.std.proofs.Common.{◌∙◌}
use Rattle.fleet_shares.specs.Closing.{brings_at}
use Rattle.fleet_shares.proofs.Telling.{all_told, of_ok}
use Rattle.fleet_shares.proofs.fleet.run_fleet.Goals as goal

pub returns-in-Ok-answers-clause-answers : goal.returns-in-Ok-answers-clause-answers
returns-in-Ok-answers-clause-answers g c =
    all_told c.args.stores c.run_orders-stores.result.0 c.run_orders-stores.ensures.slots (brings_at c.in-Ok-answers.brings)
    (of_ok c.run_orders-stores.result.1 _ _ c.in-Ok-answers.is c.run_orders-stores.ensures.brought) c.args.refusals.items c.len-count.result c.in-Ok.orders.items c.in-Ok-answers.answers.items
    c.tell_all-told.result.items (c.len-count.ensures ∙ c.args.refusals.ok.0) c.in-Ok.ensures (of_ok c.run_orders-stores.result.1 _ _ c.in-Ok-answers.is c.run_orders-stores.ensures.answers) c.tell_all-told.ensures
