-- Runs of calls that only look.
use Rattle.std.proofs.Common.{◌≡◌, ◌≤◌, ℕ, List, refl, ◌∙◌, arith}
use Rattle.fleet_disk.specs.Image.{Image}
use Rattle.fleet_disk.specs.Rules.{Within, Elapses, LeavesOnly}
use Rattle.fleet_disk.proofs.Moments.{started, goes_on, joined}
use Rattle.fleet_disk.specs.declared.disk.Disk.{Ghosts}
use Rattle.gate_log.specs.Looks.{Looks}

module _ {D : Type 0} (G : Ghosts D) (only_now : (disk : D) (c : Image) → G.honest disk → G.left_since disk (G.clock disk) c → G.may_leave disk c) where
  pub looks_none : (disk : D) → Looks G disk disk
  looks_none disk = record {
    both_ways = (λ h. h, λ h. h);
    same = λ h. refl;
    inside = λ h c now. now;
    moments = λ h. started G.clock G.left_since disk (G.may_leave disk) (λ c left. only_now disk c h left);
    later = omega arith;
  }

  -- one call that looks
  pub looks_more : (old mid new : D) → Looks G old mid → Looks G mid new → Looks G old new
  looks_more old mid new first then = record {
    both_ways = (λ h. then.both_ways.0 (first.both_ways.0 h), λ h. first.both_ways.1 (then.both_ways.1 h));
    same = λ h. then.same (first.both_ways.0 h) ∙ first.same h;
    inside = λ h c now. first.inside h c (then.inside (first.both_ways.0 h) c now);
    moments = λ h. joined G.clock G.left_since old mid new (G.may_leave old) (G.may_leave mid) (first.moments h) (then.moments (first.both_ways.0 h)) (first.inside h);
    later = omega (arith, first.later, then.later);
  }
