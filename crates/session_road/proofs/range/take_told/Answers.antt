use Rattle.session_road.proofs.Taken.{told_heard, told_unheard}
use Rattle.session_road.proofs.range.take_told.Goals as goal

pub returns-in-Ok : goal.returns-in-Ok
returns-in-Ok g c = record { heard = told_heard {g = g.I.Input} (λ v. v.items) c.args.repo.now c.args.first c.args.last c.args.items.now c.take_each.new.items c.take_end.new.items c.take_each.new.found c.take_end.result c.in-Ok.ensures.later c.in-Ok.ensures.heard c.take_end.ensures.heard }

pub returns-in-Err : goal.returns-in-Err
returns-in-Err g c = record { heard = told_unheard {g = g.I.Input} (λ v. v.items) c.args.repo.now c.args.first c.args.last c.args.items.now c.take_each.new.items c.take_each.new.found c.in-Err.fault c.in-Err.ensures.heard }
