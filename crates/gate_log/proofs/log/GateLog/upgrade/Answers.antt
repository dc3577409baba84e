use Rattle.std.proofs.Common.{ℕ, List, refl, ap, subst, rules}
use Rattle.fleet_disk.specs.Image.{Image}
use Rattle.fleet_disk.specs.Rules.{LeavesOnly}
use Rattle.fleet_disk.proofs.Moments.{started}
use Rattle.gate_log.specs.Log.{entries_of}
use Rattle.gate_log.specs.Standing.{parts, Stands}
use Rattle.gate_log.proofs.Steps.{still, not_failed}
use Rattle.gate_log.proofs.log.GateLog.upgrade.Goals as goal

pub returns-in-Second-clause-keeps : goal.returns-in-Second-clause-keeps
returns-in-Second-clause-keeps g c =
    let D = g.D.Disk in
    let log = c.args.self.now in
    record {
      ends = refl;
      same = λ h. refl;
      any_moment = λ h working.
          let works = not_failed log.failed working in
          started D.clock D.left_since log.disk (λ (f : Image). Stands f (entries_of log)) (λ f left. still log.version log.ends.items (D.reads log.disk) log.rising (log.at_rest h works) f (log.durable h works f (g.met.D.Disk.only_now log.disk f h left)));
      durable = λ h working image left.
          let works = not_failed log.failed working in
          still log.version log.ends.items (D.reads log.disk) log.rising (log.at_rest h works) image (log.durable h works image left);
      failed = λ f. refl;
    }

pub returns-in-Ok-clause-keeps : goal.returns-in-Ok-clause-keeps
returns-in-Ok-clause-keeps g c =
    let D = g.D.Disk in
    let log = c.args.self.now in
    let run = λ (h : D.honest log.disk). subst (λ (l : List ℕ). LeavesOnly D.clock D.left_since log.disk c.migrate.new.disk (λ (f : Image). Stands f (parts 0 l (D.reads log.disk).journal))) c.deref.ensures.value (c.migrate.ensures.any_moment h) in
    record {
      ends = refl;
      same = λ h. ap (λ (l : List ℕ). parts 0 log.ends.items l) (c.in-Ok.ensures.done h).files.0;
      any_moment = λ h working. run h;
      durable = λ h working image left. (run h).each image (g.met.D.Disk.counts_now c.migrate.new.disk (D.clock log.disk) image (c.migrate.ensures.acts.honest.0 h) (run h).later left);
      failed = search rules;
    }

pub returns-in-Err-DeviceFailed-clause-keeps : goal.returns-in-Err-DeviceFailed-clause-keeps
returns-in-Err-DeviceFailed-clause-keeps g c =
    let D = g.D.Disk in
    let log = c.args.self.now in
    let run = λ (h : D.honest log.disk). subst (λ (l : List ℕ). LeavesOnly D.clock D.left_since log.disk c.migrate.new.disk (λ (f : Image). Stands f (parts 0 l (D.reads log.disk).journal))) c.deref.ensures.value (c.migrate.ensures.any_moment h) in
    record {
      ends = refl;
      same = λ h. ap (λ (l : List ℕ). parts 0 log.ends.items l) (c.in-Err-DeviceFailed.ensures.same h);
      any_moment = λ h working. run h;
      durable = λ h working image left. (run h).each image (g.met.D.Disk.counts_now c.migrate.new.disk (D.clock log.disk) image (c.migrate.ensures.acts.honest.0 h) (run h).later left);
      failed = search rules;
    }

pub returns-in-Err-clause-keeps : goal.returns-in-Err-clause-keeps
returns-in-Err-clause-keeps g c =
    let D = g.D.Disk in
    let log = c.args.self.now in
    let run = λ (h : D.honest log.disk). subst (λ (l : List ℕ). LeavesOnly D.clock D.left_since log.disk c.migrate.new.disk (λ (f : Image). Stands f (parts 0 l (D.reads log.disk).journal))) c.deref.ensures.value (c.migrate.ensures.any_moment h) in
    record {
      ends = refl;
      same = λ h. ap (λ (l : List ℕ). parts 0 log.ends.items l) (c.in-Err.ensures.same h);
      any_moment = λ h working. run h;
      durable = λ h working image left. (run h).each image (g.met.D.Disk.counts_now c.migrate.new.disk (D.clock log.disk) image (c.migrate.ensures.acts.honest.0 h) (run h).later left);
      failed = search rules;
    }
