use Rattle.std.proofs.Common.{◌≡◌, ◌∙◌}
use Rattle.fleet_disk.specs.Image.{Image}
use Rattle.fleet_disk.proofs.Moments.{joined, weaker}
use Rattle.gate_log.specs.Upgrade.{IsSwitching}
use Rattle.gate_log.proofs.Migration.{opening, closing, opened_first}
use Rattle.gate_log.proofs.migrate.switch.Goals as goal

pub returns-in_err-write_synced-clause-any_moment : goal.returns-in_err-write_synced-clause-any_moment
returns-in_err-write_synced-clause-any_moment g c h =
    let D = g.D.Disk in
    let disk = c.args.disk.now in
    let rest = D.reads disk in
    let some = c.requires.some h in
    let P : Image → Type 0 = λ f. IsSwitching rest f in
    let run1 = weaker D.clock D.left_since disk c.write_synced.new.disk _ P (c.write_synced.ensures.any_moment h) (λ f goes. opening rest f some goes) in
    run1

pub returns-in_err-cut_synced-clause-any_moment : goal.returns-in_err-cut_synced-clause-any_moment
returns-in_err-cut_synced-clause-any_moment g c h =
    let D = g.D.Disk in
    let disk = c.args.disk.now in
    let rest = D.reads disk in
    let some = c.requires.some h in
    let P : Image → Type 0 = λ f. IsSwitching rest f in
    let run1 = weaker D.clock D.left_since disk c.write_synced.new.disk _ P (c.write_synced.ensures.any_moment h) (λ f goes. opening rest f some goes) in
    let h1 = c.write_synced.ensures.acts.honest.0 h in
    let mid = D.reads c.write_synced.new.disk in
    let w1 = c.in_ok-write_synced.ensures.written h in
    let first = opened_first rest.slots mid.slots some w1.0 in
    let run2 = joined D.clock D.left_since disk c.write_synced.new.disk c.cut_synced.new.disk P _ run1 (c.cut_synced.ensures.any_moment h1) (λ f goes. closing rest mid f w1.1 first goes) in
    run2

pub returns-clause-any_moment : goal.returns-clause-any_moment
returns-clause-any_moment g c h =
    let D = g.D.Disk in
    let disk = c.args.disk.now in
    let rest = D.reads disk in
    let some = c.requires.some h in
    let P : Image → Type 0 = λ f. IsSwitching rest f in
    let run1 = weaker D.clock D.left_since disk c.write_synced.new.disk _ P (c.write_synced.ensures.any_moment h) (λ f goes. opening rest f some goes) in
    let h1 = c.write_synced.ensures.acts.honest.0 h in
    let mid = D.reads c.write_synced.new.disk in
    let w1 = c.in_ok-write_synced.ensures.written h in
    let first = opened_first rest.slots mid.slots some w1.0 in
    let run2 = joined D.clock D.left_since disk c.write_synced.new.disk c.cut_synced.new.disk P _ run1 (c.cut_synced.ensures.any_moment h1) (λ f goes. closing rest mid f w1.1 first goes) in
    run2

pub returns-clause-switched : goal.returns-clause-switched
returns-clause-switched g c h =
    let D = g.D.Disk in
    let h1 = c.write_synced.ensures.acts.honest.0 h in
    let w1 = c.in_ok-write_synced.ensures.written h in
    let w2 = c.in_ok-cut_synced.ensures.cut h1 in
    record {
      journal = w2.1 ∙ w1.1;
      slots = w2.2 ∙ opened_first (D.reads c.args.disk.now).slots (D.reads c.write_synced.new.disk).slots (c.requires.some h) w1.0;
      gate = w2.0;
    }
