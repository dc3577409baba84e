use Rattle.std.proofs.Common.{Ok, refl, arith}
use Rattle.store_share.specs.Seats.{seen_by}
use Rattle.sync_job.specs.Questions.{Latest}
use Rattle.fleet_shares.specs.Ports.{seat_of}
use Rattle.fleet_shares.proofs.Asking.{told_on}
use Rattle.fleet_shares.proofs.master.SharedMasterMasterPort.latest.Goals as goal

pub returns-clause-answered : goal.returns-clause-answered
returns-clause-answered g c = λ first made h.
    let has = c.latest.ensures in
    told_on first c.args.self.now _ made (Latest (Ok c.latest.result)) refl (omega (arith, has.most, has.seen)) has.kept (omega (arith, has.seen), (seen_by (seat_of c.args.self.now), has.newest)) h
