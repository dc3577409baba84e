use Rattle.std.proofs.Common.{Ok}
use Rattle.session_road.proofs.Sessions.{latest_told}
use Rattle.session_road.proofs.served.newest.Goals as goal

pub returns-in-Ok : goal.returns-in-Ok
returns-in-Ok c = λ asked. latest_told c.written_is_taken.ensures c.written_comes.ensures c.args.repo.now c.head-head.ensures.few c.args.client c.latest.new.self (Ok c.in-Ok.number) asked c.in-Ok.ensures.told c.in-Ok.ensures.call
