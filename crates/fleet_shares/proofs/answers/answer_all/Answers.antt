use Rattle.fleet_shares.proofs.Giving.{answered_by}
use Rattle.fleet_shares.proofs.answers.answer_all.Goals as goal

pub returns : goal.returns
returns g c =
    let given = c.give_all-dues.ensures in
    let ended = c.finish.ensures in
    answered_by g.J.Runner.may_answer c.args.fleet.runner c.give_all-dues.new.fleet.runner c.args.own.now c.args.orders.items c.give_all-dues.result.items c.give_all-dues.new.fleet.accepted c.finish.result c.outcomes_of.result.items c.gather.result.items given.same given.due
    given.accepted ended.all ended.taken c.outcomes_of.ensures c.gather.ensures
