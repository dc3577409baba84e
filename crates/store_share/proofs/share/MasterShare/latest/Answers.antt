use Rattle.store_share.specs.Seats.{seen_by}
use Rattle.store_share.proofs.Locks.{newest}
use Rattle.store_share.proofs.share.MasterShare.latest.Goals as goal

pub returns-clause-newest : goal.returns-clause-newest
returns-clause-newest g c =
    newest c.args.self.now c.deref_mut.result.now (seen_by c.args.reader.now) c.latest.result c.latest.new.reader c.latest.ensures.safe c.latest.ensures.most.1 c.latest.ensures.one c.latest.ensures.known
