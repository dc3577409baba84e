use Rattle.std.proofs.Common.{Ok, Err, ap, subst, ◌∙◌}
use Rattle.repo_store.specs.Words.{disk_of, revisions_of}
use Rattle.sync_core.specs.declared.reply.Reply.TheVariants as given
use Rattle.sync_core.specs.Mirror.{mirror_with, standing_of}
use Rattle.sync_core.specs.Plain.{AnswersErr}
use Rattle.sync_core.specs.Calls.{call_of}
use Rattle.sync_job.specs.Alone.{IsStep}
use Rattle.sync_job.specs.Asked.{asked_as}
use Rattle.sync_job.proofs.Devices.{asked_refused, asked_seen, full_not, full_refused}
use Rattle.sync_job.proofs.Questions.{leads_on}
use Rattle.sync_job.proofs.Stores.{seen, look_told, not_planned, as_moves}
use Rattle.sync_job.proofs.alone.AloneMirrorMirrorPort.step.Goals as goal

pub returns-in-Ok-Tell-clause-moves : goal.returns-in-Ok-Tell-clause-moves
returns-in-Ok-Tell-clause-moves g c =
    let told = look_told (mirror_with c.repo.result.now.revisions c.args.self.now.holder) c.new.result (call_of c.args.call.now) c.in-Ok-Tell.field-0 c.in-Ok-Tell.standing c.in-Ok-Tell.field-0-is c.in-Ok-Tell.ensures.planned in
    λ m s. as_moves c.args.self.now c.args.self.now (call_of c.args.call.now) _ m (seen c.args.self.now.store c.args.self.now.holder (call_of c.args.call.now) c.in-Ok-Tell.standing m (λ image honest left. g.met.D.Disk.only_now (disk_of c.args.self.now.store) image honest left) s told.0 (told.1 ∙ ap (λ r. standing_of r.revisions) c.repo.ensures.value))

pub returns-in-Ok-Write-clause-moves : goal.returns-in-Ok-Write-clause-moves
returns-in-Ok-Write-clause-moves g c = λ m s. as_moves c.args.self.now c.write.new.self (call_of c.args.call.now) c.write.result m (c.write.ensures.moved m s)

pub returns-in-Err-clause-moves : goal.returns-in-Err-clause-moves
returns-in-Err-clause-moves g c = λ m s. as_moves c.args.self.now c.args.self.now (call_of c.args.call.now) _ m (not_planned c.args.self.now.store c.args.self.now.holder (call_of c.args.call.now) c.in-Err.fault m (λ image honest left. g.met.D.Disk.only_now (disk_of c.args.self.now.store) image honest left) s (subst (λ k. AnswersErr (mirror_with (revisions_of c.args.self.now.store) c.args.self.now.holder) k (call_of c.args.call.now) c.in-Err.fault (mirror_with (revisions_of c.args.self.now.store) c.args.self.now.holder)) c.new.ensures
    (subst (λ r. AnswersErr (mirror_with r.revisions c.args.self.now.holder) c.new.result (call_of c.args.call.now) c.in-Err.fault (mirror_with r.revisions c.args.self.now.holder)) c.repo.ensures.value c.in-Err.ensures.refused)))

pub returns-in-Ok-Tell-clause-asked : goal.returns-in-Ok-Tell-clause-asked
returns-in-Ok-Tell-clause-asked g c = λ first calls h.
    leads_on IsStep first c.args.self.now c.args.self.now calls (asked_as (call_of c.args.call.now) (Ok (given.Seen c.in-Ok-Tell.standing))) h
    (record {
      steps = λ m s. let x = returns-in-Ok-Tell-clause-moves g c m s in (x.now, x.there, x.steps);
      device = asked_seen c.args.self.now.store (call_of c.args.call.now) (given.Seen c.in-Ok-Tell.standing);
      full = full_not c.args.self.now.store (call_of c.args.call.now) (given.Seen c.in-Ok-Tell.standing);
    })

pub returns-in-Ok-Write-clause-asked : goal.returns-in-Ok-Write-clause-asked
returns-in-Ok-Write-clause-asked g c = λ first calls h.
    leads_on IsStep first c.args.self.now c.write.new.self calls (asked_as (call_of c.args.call.now) c.write.result) h
    (record { steps = λ m s. let x = c.write.ensures.moved m s in (x.now, x.there, x.steps); device = c.write.ensures.asked; full = c.write.ensures.full })

pub returns-in-Err-clause-asked : goal.returns-in-Err-clause-asked
returns-in-Err-clause-asked g c = λ first calls h.
    leads_on IsStep first c.args.self.now c.args.self.now calls (asked_as (call_of c.args.call.now) (Err c.in-Err.fault)) h
    (record {
      steps = λ m s. let x = returns-in-Err-clause-moves g c m s in (x.now, x.there, x.steps);
      device = asked_refused c.args.self.now.store (mirror_with c.repo.result.now.revisions c.args.self.now.holder) c.new.result (call_of c.args.call.now) c.in-Err.fault c.in-Err.ensures.refused;
      full = full_refused c.args.self.now.store (mirror_with c.repo.result.now.revisions c.args.self.now.holder) c.new.result (call_of c.args.call.now) c.in-Err.fault c.in-Err.ensures.refused;
    })
