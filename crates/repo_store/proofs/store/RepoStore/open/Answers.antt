use Rattle.std.proofs.Common.{◌≤◌, List, ℕ, ◌⊎◌, inl, inr, sym, subst, ap, arith, Err}
use Rattle.fleet_disk.specs.Image.{Image}
use Rattle.fleet_disk.proofs.Moments.{weaker}
use Rattle.gate_log.specs.Log.{disk_of, entries_of, version_of}
use Rattle.gate_log.specs.Standing.{StandsAlike}
use Rattle.gate_log.specs.Version.{IsOf}
use Rattle.gate_log.specs.declared.version.LogVersion.{LogVersion}
use Rattle.gate_log.specs.declared.fault.LogFault.{LogFault}
use Rattle.gate_log.specs.declared.fault.LogFault.TheVariants.{DeviceFailed}
use Rattle.repo_store.specs.Journal.{KeepsAlike, Tell}
use Rattle.repo_store.specs.Openings.{NotOpened}
use Rattle.repo_store.specs.declared.fault.StoreFault.TheVariants.{Log}
use Rattle.repo_store.proofs.Going.{rose_on, same_entries}
use Rattle.repo_store.proofs.Images.{reopened}
use Rattle.repo_store.proofs.Opening.{alike_or, handed_back, keeps_through, same_fault, only_device, only_first, replayed_fault, never_missing, version_through}
use Rattle.repo_store.proofs.Telling.{told_stands, kept}
use Rattle.std.proofs.lemmas.Bool.{false≢true}
use Rattle.repo_store.proofs.store.RepoStore.open.Goals as goal

pub invariant_of-result : goal.invariant_of-result
invariant_of-result g c = record {
  told = ∣ (λ h w.
      let honest = c.replay.ensures.looks.looks.both_ways.1 h in
      subst (λ (l : List (List ℕ)). Tell l c.in-Ok-replay.repo) (sym (same_entries c.in-Ok.log c.replay.new.log c.replay.ensures.looks honest)) (c.in-Ok-replay.ensures.told honest)) ∣₁;
  kept = ∣ (λ h image left.
      let honest = c.replay.ensures.looks.looks.both_ways.1 h in
      kept (entries_of c.in-Ok.log) c.in-Ok-replay.repo image (∣ c.in-Ok-replay.ensures.told honest ∣₁) (c.in-Ok.ensures.opened.durable (c.in-Ok.ensures.acts.honest.1 honest) image (c.replay.ensures.looks.looks.inside honest image left))) ∣₁;
  doubted = (λ f. absurd (c.in-Ok-replay.ensures.working f), λ t. absurd (false≢true t));
}

pub returns-in-Ok-replay-clause-opened : goal.returns-in-Ok-replay-clause-opened
returns-in-Ok-replay-clause-opened g c =
    let D = g.D.Disk in
    let first = D.reads c.args.disk in
    let log = c.in-Ok.log in
    let o = c.in-Ok.ensures.opened in
    let both = c.in-Ok.ensures.acts.honest in
    let looks = c.replay.ensures.looks.looks in
    let repo = c.in-Ok-replay.repo in
    let told = λ (h : D.honest c.args.disk). c.in-Ok-replay.ensures.told (both.0 h) in
    let stands = λ (h : D.honest c.args.disk). reopened (entries_of log) repo.identity repo.revisions first (∣ told_stands _ _ (told h) ∣₁) (o.stands h) in
    let opening : D.failures c.args.disk ≤ D.failures (disk_of log) = c.in-Ok.ensures.acts.later in
    let reading : D.failures (disk_of log) ≤ D.failures (disk_of c.replay.new.log) = looks.later in
    record {
      stands = stands;
      keeps = λ h. kept (entries_of log) repo first (∣ told h ∣₁) (o.stands h);
      found = λ h identity x known. c.one_verdict.ensures.one_repository first repo.identity identity repo.revisions x (stands h) known;
      whole = λ h entry damage. c.one_verdict.ensures.not_damaged first repo.identity repo.revisions entry (stands h) damage;
      working = c.in-Ok-replay.ensures.working;
      version = λ h. subst (λ (v : LogVersion). IsOf v first) (sym c.replay.ensures.looks.version) (o.version h);
      durable = λ h image left. kept (entries_of log) repo image (∣ told h ∣₁) (o.durable h image (looks.inside (both.0 h) image left));
      any_moment = λ h. keeps_through D c.args.disk (disk_of log) (disk_of c.replay.new.log) (looks.moments (both.0 h)) (entries_of log) (c.in-Ok.ensures.any_moment.entries h) (o.stands h) (o.durable h);
      version_stays = λ h. version_through D c.args.disk (disk_of log) (disk_of c.replay.new.log) (looks.moments (both.0 h)) (version_of log) (c.in-Ok.ensures.any_moment.version h) (o.version h)
          (λ image left. subst (λ (v : LogVersion). IsOf v image) c.version-version.ensures.version (c.version-version.ensures.stand (both.0 h) o.working image left));
      honest = (λ h. looks.both_ways.0 (both.0 h), λ h. both.1 (looks.both_ways.1 h));
      later = omega (arith, opening, reading);
    }

pub returns-in-Err-clause-refused : goal.returns-in-Err-clause-refused
returns-in-Err-clause-refused g c =
    let D = g.D.Disk in
    let first = D.reads c.args.disk in
    let f = c.in-Err.fault in
    let o = c.in-Err.ensures.refused in
    let acts = c.in-Err.ensures.acts in
    record {
      due = λ h identity x known. only_device c.one_verdict.ensures.not_damaged c.one_verdict.ensures.not_missing first identity x f known o.no_other (λ n is. inl (o.damaged h n is)) (o.missing h);
      damaged = λ h entry is. inl (o.damaged h entry (same_fault f _ is));
      first = λ h entry damage. only_first c.one_verdict.ensures.one_damage c.one_verdict.ensures.damage_not_missing first entry f damage o.no_other (λ n is. inl (o.damaged h n is)) (o.missing h);
      missing = λ h is. o.missing h (same_fault f _ is);
      device = λ is. acts.device (same_fault f _ is);
      no_other = o.no_other;
      kept = λ h. handed_back f (λ only image left. inl (only image left)) (o.kept h);
      any_moment = λ h. weaker D.clock D.left_since c.args.disk c.in-Err.disk (λ (i : Image). D.may_leave c.args.disk i ⊎ StandsAlike first i) (λ (i : Image). D.may_leave c.args.disk i ⊎ KeepsAlike first i) (c.in-Err.ensures.any_moment.entries h) (λ i p. alike_or first i p);
      version_stays = c.in-Err.ensures.any_moment.version;
      honest = acts.honest;
      later = acts.later;
    }

pub returns-in-Err-replay-clause-refused : goal.returns-in-Err-replay-clause-refused
returns-in-Err-replay-clause-refused g c =
    let D = g.D.Disk in
    let first = D.reads c.args.disk in
    let log = c.in-Ok.log in
    let o = c.in-Ok.ensures.opened in
    let both = c.in-Ok.ensures.acts.honest in
    let looks = c.replay.ensures.looks.looks in
    let f = c.in-Err-replay.fault in
    let e = c.in-Err-replay.ensures in
    let opening : D.failures c.args.disk ≤ D.failures (disk_of log) = c.in-Ok.ensures.acts.later in
    let reading : D.failures (disk_of log) ≤ D.failures (disk_of c.replay.new.log) = looks.later in
    subst (λ (d : g.row.D.Denot). NotOpened D c.args.disk (Log f, d)) (sym c.into_disk.ensures) (record {
      due = λ h identity x known. only_device c.one_verdict.ensures.not_damaged c.one_verdict.ensures.not_missing first identity x f known (replayed_fault f e.no_other)
          (λ n is. inr (entries_of log, o.stands h, e.damaged (both.0 h) n (ap (λ (k : LogFault). Err k) is))) (λ is. absurd (never_missing f e.no_other is));
      damaged = λ h entry is. inr (entries_of log, o.stands h, e.damaged (both.0 h) entry (ap (λ (k : LogFault). Err k) (same_fault f _ is)));
      first = λ h entry damage. only_first c.one_verdict.ensures.one_damage c.one_verdict.ensures.damage_not_missing first entry f damage (replayed_fault f e.no_other)
          (λ n is. inr (entries_of log, o.stands h, e.damaged (both.0 h) n (ap (λ (k : LogFault). Err k) is))) (λ is. absurd (never_missing f e.no_other is));
      missing = λ h is. absurd (never_missing f e.no_other (same_fault f _ is));
      device = λ is. rose_on (D.failures c.args.disk) (D.failures (disk_of log)) (D.failures (disk_of c.replay.new.log)) opening (e.device (ap (λ (k : LogFault). Err k) (same_fault f DeviceFailed is)));
      no_other = replayed_fault f e.no_other;
      kept = λ h. inr (λ image left. inr (entries_of log, o.stands h, o.durable h image (looks.inside (both.0 h) image left)));
      any_moment = λ h. keeps_through D c.args.disk (disk_of log) (disk_of c.replay.new.log) (looks.moments (both.0 h)) (entries_of log) (c.in-Ok.ensures.any_moment.entries h) (o.stands h) (o.durable h);
      version_stays = λ h. version_through D c.args.disk (disk_of log) (disk_of c.replay.new.log) (looks.moments (both.0 h)) (version_of log) (c.in-Ok.ensures.any_moment.version h) (o.version h)
          (λ image left. subst (λ (v : LogVersion). IsOf v image) c.version-version.ensures.version (c.version-version.ensures.stand (both.0 h) o.working image left));
      honest = (λ h. looks.both_ways.0 (both.0 h), λ h. both.1 (looks.both_ways.1 h));
      later = omega (arith, opening, reading);
    })
