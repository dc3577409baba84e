use Rattle.std.proofs.Common.{Ok, Err, refl, arith}
use Rattle.sync_job.specs.Questions.{Identity}
use Rattle.fleet_shares.proofs.Asking.{told_on}
use Rattle.fleet_shares.proofs.master.SharedMasterMasterPort.identity.Goals as goal

pub returns-in-Ok-clause-answered : goal.returns-in-Ok-clause-answered
returns-in-Ok-clause-answered g c = λ first made h.
    told_on first c.args.self.now c.args.self.now made (Identity (Ok c.in-Ok.text)) refl (omega arith) (λ n le. refl) (c.identity.result, c.identity.ensures, c.in-Ok.ensures) h

pub returns-in-Err-clause-answered : goal.returns-in-Err-clause-answered
returns-in-Err-clause-answered g c = λ first made h. told_on first c.args.self.now c.args.self.now made (Identity (Err _)) refl (omega arith) (λ n le. refl) refl h
