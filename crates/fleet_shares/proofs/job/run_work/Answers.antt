use Rattle.std.proofs.Common.{inl, inr, refl, subst}
use Rattle.sync_job.specs.Words.{calls_of}
use Rattle.fleet_shares.specs.Jobs.{IsRunOf}
use Rattle.fleet_shares.proofs.job.run_work.Goals as goal

pub returns-in-Ok : goal.returns-in-Ok
returns-in-Ok g c = record {
  ended = inl (subst (λ t. IsRunOf c.args.order.now.work t (calls_of c.run_under.new.ports) c.run_under.result) c.in-Ok.ensures c.run_under.ensures.ran);
  asked = c.run_under.ensures.asked;
  answered = c.run_under.ensures.answered;
}

pub returns-in-Err : goal.returns-in-Err
returns-in-Err g c = record {
  ended = inr (refl, c.requires);
  asked = λ first base t. t;
  answered = λ first base t. t;
}
