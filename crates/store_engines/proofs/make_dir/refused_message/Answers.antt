use Rattle.std.proofs.Common.{Some, length, refl, ◌∙◌, ap, inr}
use Rattle.repo_core.specs.Dates.{dated}
use Rattle.repo_core.specs.Repository.{Repository, head_of}
use Rattle.repo_core.specs.declared.entry.Entry.TheVariants.{Revised}
use Rattle.repo_store.specs.Words.{revisions_of}
use Rattle.store_engines.proofs.Committing.{refused_long, taken_long}
use Rattle.store_engines.proofs.Devices.{entries_same, why_refused}
use Rattle.store_engines.proofs.Serving.{refused_one, staged_one}
use Rattle.store_engines.proofs.make_dir.refused_message.Goals as goal

pub returns-in-Ok-clause-due : goal.returns-in-Ok-clause-due
returns-in-Ok-clause-due g c =
    let base = c.head-head.ensures.head ∙ ap (λ (r : Repository). head_of r.revisions) c.repo.ensures.value in
    inr (inr (taken_long (revisions_of c.args.store.now) c.head-head.result c.args.set c.args.moment (dated c.empty.result (Some c.args.moment)) base c.in-Ok.ensures.stages.taken))

pub returns-in-Ok-clause-same : goal.returns-in-Ok-clause-same
returns-in-Ok-clause-same g c = c.in-Ok.ensures.stages.stays.repository

pub returns-in-Ok-clause-device : goal.returns-in-Ok-clause-device
returns-in-Ok-clause-device g c entry safe =
    let s = c.in-Ok.ensures.stages.stays in
    staged_one entry c.args.store.now c.stage_commit.new.self _ refl s.disk s.repository s.working safe c.in-Ok.ensures.version (entries_same c.args.store.now c.stage_commit.new.self s)

pub returns-in-Err-clause-due : goal.returns-in-Err-clause-due
returns-in-Err-clause-due g c =
    let x = revisions_of c.args.store.now in
    let base = c.head-head.ensures.head ∙ ap (λ (r : Repository). head_of r.revisions) c.repo.ensures.value in
    let props = dated c.empty.result (Some c.args.moment) in
    let s = c.in-Err.ensures.stages in
    rw c.store_refusal.ensures.value
    (refused_long c.stage_commit.new.self x c.head-head.result c.args.set c.args.moment props _ (ap (λ m. dated m (Some c.args.moment)) c.empty.ensures) base
    (why_refused c.args.store.now c.stage_commit.new.self (Revised (length x) c.args.set props) _ c.in-Err.fault s.0 s.1))

pub returns-in-Err-clause-same : goal.returns-in-Err-clause-same
returns-in-Err-clause-same g c = c.in-Err.ensures.stages.0.repository

pub returns-in-Err-clause-device : goal.returns-in-Err-clause-device
returns-in-Err-clause-device g c entry safe =
    let x = revisions_of c.args.store.now in
    let bare = Revised (length x) c.args.set (dated c.empty.result (Some c.args.moment)) in
    let s = c.in-Err.ensures.stages in
    rw c.store_refusal.ensures.value (refused_one entry c.args.store.now c.stage_commit.new.self bare _ c.in-Err.fault s.0 s.1 safe c.in-Err.ensures.version)
