use Rattle.std.proofs.Common.{inr}
use Rattle.std.proofs.lemmas.Result.{err_from_is_err_and}
use Rattle.fleet_shares.proofs.Ending.{answered_well}
use Rattle.fleet_shares.proofs.job.run_on.Goals as goal

pub returns-in-Ok : goal.returns-in-Ok
returns-in-Ok g c =
    answered_well c.args.master.now c.args.mirror.now c.args.order.now c.latest.result c.latest.new.reader c.run_seated-seat.result.1 c.in-Ok.field-0 c.in-Ok.is c.run_seated-seat.ensures c.latest.ensures.seen

pub returns-in_err-seat : goal.returns-in_err-seat
returns-in_err-seat g c =
    let p = err_from_is_err_and c.from_residual-in_err-seat.result c.from_residual-in_err-seat.ensures.1 in
    rw (p.1, p.2) (inr c.in_err-seat.ensures.refused)
