use Rattle.store_share.specs.Opened.{cells_of}
use Rattle.fleet_shares.specs.Opening.{cells_at}
use Rattle.fleet_shares.proofs.Settling.{brought_over}
use Rattle.fleet_shares.proofs.Telling.{answered_over, own_names}
use Rattle.fleet_shares.proofs.fleet.run_orders.Goals as goal

pub run_opened-requires-clause-first : goal.run_opened-requires-clause-first
run_opened-requires-clause-first g c κs within = own_names _ c.in-Ok.opened.first

pub run_opened-requires-clause-second : goal.run_opened-requires-clause-second
run_opened-requires-clause-second g c κs within = own_names _ c.in-Ok.opened.second

pub run_opened-requires-clause-third : goal.run_opened-requires-clause-third
run_opened-requires-clause-third g c κs within = own_names _ c.in-Ok.opened.third

pub run_opened-requires-clause-fourth : goal.run_opened-requires-clause-fourth
run_opened-requires-clause-fourth g c κs within = own_names _ c.in-Ok.opened.fourth

pub returns-in-Ok-clause-brought : goal.returns-in-Ok-clause-brought
returns-in-Ok-clause-brought g c =
    brought_over (cells_of c.in-Ok.opened.master) (cells_at c.in-Ok.opened.first) (cells_at c.in-Ok.opened.second) (cells_at c.in-Ok.opened.third) (cells_at c.in-Ok.opened.fourth) c.args.stores c.run_opened.result.0 c.in-Ok.opened c.in-Ok.ensures.from c.run_opened.result.1 c.run_opened.ensures.brought

pub returns-in-Ok-clause-answers : goal.returns-in-Ok-clause-answers
returns-in-Ok-clause-answers g c =
    answered_over (cells_of c.in-Ok.opened.master) (cells_at c.in-Ok.opened.first) (cells_at c.in-Ok.opened.second) (cells_at c.in-Ok.opened.third) (cells_at c.in-Ok.opened.fourth) c.args.stores c.in-Ok.opened c.args.orders.items c.run_opened.result.1 c.in-Ok.ensures.opened c.run_opened.ensures.answers
