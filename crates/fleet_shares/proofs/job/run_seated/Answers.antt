use Rattle.std.proofs.Common.{ap, subst, ◌∙◌}
use Rattle.mirror_share.specs.Ports.{seat_of, share_of, WasAsked}
use Rattle.mirror_share.specs.Seats.{hand_of}
use Rattle.sync_job.specs.Questions.{KeepsAnswers}
use Rattle.sync_job.specs.Telling.{KeepsTelling}
use Rattle.sync_job.specs.Words.{calls_of, master_of, mirror_of}
use Rattle.fleet_shares.specs.Ports.{WasTold}
use Rattle.fleet_shares.specs.Ports as master
use Rattle.fleet_shares.proofs.Ending.{ends_as}
use Rattle.fleet_shares.proofs.job.run_seated.Goals as goal

pub returns : goal.returns
returns g c =
    ends_as c.args.master.now (master_of c.new-ports.result) (master_of c.run_work-ended.new.ports) c.args.mirror.now (mirror_of c.new-ports.result) (mirror_of c.run_work-ended.new.ports) c.args.order.now (calls_of c.run_work-ended.new.ports) c.run_work-ended.result
    (ap master.share_of c.new-ports.ensures.parts.0 ∙ c.in-Ok-new.ensures)
    (subst (λ xs. KeepsAnswers WasTold (master_of c.new-ports.result) (master_of c.run_work-ended.new.ports) xs (calls_of c.run_work-ended.new.ports)) c.new-ports.ensures.calls c.run_work-ended.ensures.answered)
    (ap share_of c.new-ports.ensures.parts.1 ∙ c.in-Ok.ensures.share)
    (ap (λ p. hand_of (seat_of p)) c.new-ports.ensures.parts.1 ∙ ap hand_of c.in-Ok.ensures.seat ∙ c.requires)
    (subst (λ xs. KeepsTelling WasAsked (mirror_of c.new-ports.result) (mirror_of c.run_work-ended.new.ports) xs (calls_of c.run_work-ended.new.ports)) c.new-ports.ensures.calls c.run_work-ended.ensures.asked)
    c.run_work-ended.ensures.ended
