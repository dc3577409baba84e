use Rattle.std.proofs.Common.{◌≡◌, List, ℕ, Err, is_ok, refl, sym, ◌∙◌, ap, subst, ⊎_elim}
use Rattle.std.proofs.Math.Logic.{∥∥₁_map}
use Rattle.std.proofs.lemmas.Bool.{true≢false}
use Rattle.fleet_disk.specs.Image.{Image}
use Rattle.fleet_disk.proofs.Moments.{weaker}
use Rattle.gate_log.specs.Log.{entries_of, HasFailed as LogFailed}
use Rattle.gate_log.proofs.EndLemmas.{length_parts}
use Rattle.gate_log.specs.Standing.{Stands}
use Rattle.gate_log.specs.Version.{IsOf}
use Rattle.gate_log.specs.declared.fault.LogFault.TheVariants.{DeviceFailed, Failed}
use Rattle.gate_log.specs.declared.version.LogVersion.{LogVersion}
use Rattle.repo_store.specs.Journal.{Keeps, Tell, doubt_in}
use Rattle.repo_store.specs.Openings.{NotUpgraded}
use Rattle.repo_store.specs.Words.{HasFailed}
use Rattle.repo_store.specs.declared.fault.StoreFault.TheVariants.{Log}
use Rattle.repo_store.proofs.Opening.{same_fault, upgrade_fault, looked_on}
use Rattle.repo_store.proofs.Telling.{kept}
use Rattle.repo_store.proofs.Sure.{kept_or}
use Rattle.repo_store.proofs.store.RepoStore.upgrade.Goals as goal

pub invariant_of-store : goal.invariant_of-store
invariant_of-store g c =
    let old = c.args.self in
    let working : ¬ HasFailed old = λ f. true≢false (ap is_ok (c.in-Ok.ensures.acts.failed.1 f)) in
    record {
      told = ∥∥₁_map old.told (λ told. λ h w.
          let honest = c.upgrade.ensures.acts.honest.1 h in
          subst (λ (l : List (List ℕ)). Tell l old.repo) (sym (c.upgrade.ensures.keeps.same honest)) (told honest working));
      kept = ∣ (λ h image left.
          let honest = c.upgrade.ensures.acts.honest.1 h in
          kept_or old.repo (doubt_in old.doubt) image (λ some. working (old.doubted.1 some))
          (kept (entries_of old.log) old.repo image (∥∥₁_map old.told (λ told. told honest working)) (c.upgrade.ensures.keeps.durable honest working image left))) ∣₁;
      doubted = (
        λ f. absurd (⊎_elim working (λ k. true≢false (ap is_ok k)) (c.in-Ok.ensures.acts.working.0 f)),
        λ some. absurd (working (old.doubted.1 some)),
      );
    }

pub returns-in-Ok-clause-upgraded : goal.returns-in-Ok-clause-upgraded
returns-in-Ok-clause-upgraded g c =
    let D = g.D.Disk in
    let old = c.args.self in
    let e = c.in-Ok.ensures in
    let worked : ¬ HasFailed old = λ f. true≢false (ap is_ok (e.acts.failed.1 f)) in
    let works : ¬ LogFailed c.upgrade.new.self = λ f. ⊎_elim worked (λ k. true≢false (ap is_ok k)) (e.acts.working.0 f) in
    record {
      worked = worked;
      working = works;
      same = refl;
      entries = e.keeps.same;
      version = e.made.version;
      count = λ first. e.made.count first ∙ sym (length_parts 0 old.log.ends.items (D.reads old.log.disk).journal);
      already = e.made.already;
      stand = e.keeps.durable;
      second = λ h image left. subst (λ (v : LogVersion). IsOf v image) (c.version-version.ensures.version ∙ e.made.version) (c.version-version.ensures.stand (e.acts.honest.0 h) works image left);
      durable = λ h. c.repo-repo.ensures.keeps (e.acts.honest.0 h) works;
      any_moment = λ h working.
          weaker D.clock D.left_since old.log.disk c.upgrade.new.self.disk (λ (i : Image). Stands i (entries_of old.log)) (λ (i : Image). Keeps old.repo i) (e.keeps.any_moment h working)
          (λ i stands. kept (entries_of old.log) old.repo i (∥∥₁_map old.told (λ told. told h working)) stands);
      honest = e.acts.honest;
      later = e.acts.later;
    }

pub returns-in-Err-clause-refused : goal.returns-in-Err-clause-refused
returns-in-Err-clause-refused g c =
    let D = g.D.Disk in
    let old = c.args.self in
    let f = c.in-Err.fault in
    let e = c.in-Err.ensures in
    subst (λ (d : g.row.D.Denot). NotUpgraded old (Log f, d)) (sym c.into_disk.ensures) (record {
      failed = (λ is. e.acts.failed.0 (ap Err (same_fault f Failed is)), λ k. let is : f ≡ Failed = cc (e.acts.failed.1 k) in ap Log is);
      stays = e.keeps.failed;
      device = λ is. e.acts.device (ap Err (same_fault f DeviceFailed is));
      no_other = λ h. upgrade_fault f (e.refused.no_other h);
      looks = looked_on f e.refused.looks;
      kept = λ h working image left. kept (entries_of old.log) old.repo image (∥∥₁_map old.told (λ told. told h working)) (e.keeps.durable h working image left);
      any_moment = λ h working.
          weaker D.clock D.left_since old.log.disk c.upgrade.new.self.disk (λ (i : Image). Stands i (entries_of old.log)) (λ (i : Image). Keeps old.repo i) (e.keeps.any_moment h working)
          (λ i stands. kept (entries_of old.log) old.repo i (∥∥₁_map old.told (λ told. told h working)) stands);
      honest = e.acts.honest;
      later = e.acts.later;
    })
