use Rattle.fleet_shares.proofs.Settling.{all_seen}
use Rattle.fleet_shares.proofs.shares.FleetShares.with_readers.Goals as goal

pub returns-clause-readers : goal.returns-clause-readers
returns-clause-readers g c =
    all_seen c.args.opened c.all_read.result c.master_of-master.result.1 c.mirror_of-first.result.1 c.mirror_of-second.result.1 c.mirror_of-third.result.1 c.mirror_of-fourth.result.1 c.all_read.ensures c.master_of-master.ensures
    c.mirror_of-first.ensures.read c.mirror_of-second.ensures.read c.mirror_of-third.ensures.read c.mirror_of-fourth.ensures.read
