use Rattle.std.proofs.Common.{Ok, Err, refl, arith}
use Rattle.sync_job.specs.Questions.{FetchProps}
use Rattle.fleet_shares.specs.Ports.{share_of}
use Rattle.fleet_shares.proofs.Asking.{told_on, untold}
use Rattle.fleet_shares.proofs.master.SharedMasterMasterPort.fetch_props.Goals as goal

pub returns-in-Ok-clause-answered : goal.returns-in-Ok-clause-answered
returns-in-Ok-clause-answered g c = λ first made h.
    told_on first c.args.self.now c.args.self.now made (FetchProps c.args.number (Ok c.in-Ok.props)) refl (omega arith) (λ n le. refl) c.in-Ok.ensures.props h

pub returns-in-Err-clause-answered : goal.returns-in-Err-clause-answered
returns-in-Err-clause-answered g c = λ first made h.
    told_on first c.args.self.now c.args.self.now made (FetchProps c.args.number (Err c.master_fault.result)) refl (omega arith) (λ n le. refl)
    (untold (share_of c.args.self.now) c.args.number c.in-Err.fault _ c.master_fault.result refl c.master_fault.ensures c.in-Err.ensures.refused c.in-Err.ensures.above) h
