use Rattle.std.proofs.Common.{◌≡◌, ◌≤◌, length, ◌∙◌, ap, arith}
use Rattle.fleet_disk.specs.Image.{Image}
use Rattle.fleet_disk.proofs.Moments.{joined, weaker}
use Rattle.gate_log.specs.Upgrade.{IsUnbegun}
use Rattle.gate_log.proofs.Migration.{emptying, beginning, filling, one_gate, filled_up}
use Rattle.gate_log.proofs.migrate.stage.Goals as goal

pub returns-in_err-cut_synced-clause-any_moment : goal.returns-in_err-cut_synced-clause-any_moment
returns-in_err-cut_synced-clause-any_moment g c h =
    let D = g.D.Disk in
    let disk = c.args.disk.now in
    let rest = D.reads disk in
    let bytes = c.args.bytes.now in
    let P : Image → Type 0 = λ f. IsUnbegun rest f in
    let run1 = weaker D.clock D.left_since disk c.cut_synced.new.disk _ P (c.cut_synced.ensures.any_moment h) (λ f goes. emptying rest f (c.requires.idle h) goes) in
    run1

pub returns-in_err-write_synced-clause-any_moment : goal.returns-in_err-write_synced-clause-any_moment
returns-in_err-write_synced-clause-any_moment g c h =
    let D = g.D.Disk in
    let disk = c.args.disk.now in
    let rest = D.reads disk in
    let bytes = c.args.bytes.now in
    let P : Image → Type 0 = λ f. IsUnbegun rest f in
    let run1 = weaker D.clock D.left_since disk c.cut_synced.new.disk _ P (c.cut_synced.ensures.any_moment h) (λ f goes. emptying rest f (c.requires.idle h) goes) in
    let h1 = c.cut_synced.ensures.acts.honest.0 h in
    let mid1 = D.reads c.cut_synced.new.disk in
    let w1 = c.in_ok-cut_synced.ensures.cut h in
    let run2 = joined D.clock D.left_since disk c.cut_synced.new.disk c.write_synced.new.disk P _ run1 (c.write_synced.ensures.any_moment h1) (λ f goes. beginning rest mid1 f w1.1 w1.2 w1.0 goes) in
    run2

pub returns-in_err-write_synced-2-clause-any_moment : goal.returns-in_err-write_synced-2-clause-any_moment
returns-in_err-write_synced-2-clause-any_moment g c h =
    let D = g.D.Disk in
    let disk = c.args.disk.now in
    let rest = D.reads disk in
    let bytes = c.args.bytes.now in
    let P : Image → Type 0 = λ f. IsUnbegun rest f in
    let run1 = weaker D.clock D.left_since disk c.cut_synced.new.disk _ P (c.cut_synced.ensures.any_moment h) (λ f goes. emptying rest f (c.requires.idle h) goes) in
    let h1 = c.cut_synced.ensures.acts.honest.0 h in
    let mid1 = D.reads c.cut_synced.new.disk in
    let w1 = c.in_ok-cut_synced.ensures.cut h in
    let run2 = joined D.clock D.left_since disk c.cut_synced.new.disk c.write_synced.new.disk P _ run1 (c.write_synced.ensures.any_moment h1) (λ f goes. beginning rest mid1 f w1.1 w1.2 w1.0 goes) in
    let h2 = c.write_synced.ensures.acts.honest.0 h1 in
    let mid2 = D.reads c.write_synced.new.disk in
    let w2 = c.in_ok-write_synced.ensures.written h1 in
    let one = one_gate mid1.slots mid2.slots w1.0 w2.0 in
    let run3 = joined D.clock D.left_since disk c.write_synced.new.disk c.write_synced-2.new.disk P _ run2 (c.write_synced-2.ensures.any_moment h2) (λ f goes. filling rest mid2 f (length bytes) (w2.1 ∙ w1.1) (w2.2 ∙ w1.2) one goes) in
    run3

pub returns-clause-any_moment : goal.returns-clause-any_moment
returns-clause-any_moment g c h =
    let D = g.D.Disk in
    let disk = c.args.disk.now in
    let rest = D.reads disk in
    let bytes = c.args.bytes.now in
    let P : Image → Type 0 = λ f. IsUnbegun rest f in
    let run1 = weaker D.clock D.left_since disk c.cut_synced.new.disk _ P (c.cut_synced.ensures.any_moment h) (λ f goes. emptying rest f (c.requires.idle h) goes) in
    let h1 = c.cut_synced.ensures.acts.honest.0 h in
    let mid1 = D.reads c.cut_synced.new.disk in
    let w1 = c.in_ok-cut_synced.ensures.cut h in
    let run2 = joined D.clock D.left_since disk c.cut_synced.new.disk c.write_synced.new.disk P _ run1 (c.write_synced.ensures.any_moment h1) (λ f goes. beginning rest mid1 f w1.1 w1.2 w1.0 goes) in
    let h2 = c.write_synced.ensures.acts.honest.0 h1 in
    let mid2 = D.reads c.write_synced.new.disk in
    let w2 = c.in_ok-write_synced.ensures.written h1 in
    let one = one_gate mid1.slots mid2.slots w1.0 w2.0 in
    let run3 = joined D.clock D.left_since disk c.write_synced.new.disk c.write_synced-2.new.disk P _ run2 (c.write_synced-2.ensures.any_moment h2) (λ f goes. filling rest mid2 f (length bytes) (w2.1 ∙ w1.1) (w2.2 ∙ w1.2) one goes) in
    run3

pub returns-clause-staged : goal.returns-clause-staged
returns-clause-staged g c h =
    let D = g.D.Disk in
    let h1 = c.cut_synced.ensures.acts.honest.0 h in
    let h2 = c.write_synced.ensures.acts.honest.0 h1 in
    let w1 = c.in_ok-cut_synced.ensures.cut h in
    let w2 = c.in_ok-write_synced.ensures.written h1 in
    let w3 = c.in_ok-write_synced-2.ensures.written h2 in
    let mid1 = D.reads c.cut_synced.new.disk in
    let mid2 = D.reads c.write_synced.new.disk in
    let new = D.reads c.write_synced-2.new.disk in
    record {
      journal = w3.1 ∙ w2.1 ∙ w1.1;
      gate = w3.2 ∙ w2.2 ∙ w1.2;
      slots = filled_up mid2.slots new.slots c.args.bytes.now (one_gate mid1.slots mid2.slots w1.0 w2.0) w3.0;
    }
