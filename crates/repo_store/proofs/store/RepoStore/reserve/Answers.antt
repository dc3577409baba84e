use Rattle.std.proofs.Common.{◌≡◌, List, ℕ, sym, subst, ap₂}
use Rattle.std.proofs.Math.Logic.{∥∥₁_map}
use Rattle.gate_log.specs.Log.{entries_of}
use Rattle.gate_log.specs.Standing.{parts}
use Rattle.repo_store.specs.Journal.{Tell}
use Rattle.repo_store.proofs.store.RepoStore.reserve.Goals as goal

pub invariant_of-self : goal.invariant_of-self
invariant_of-self g c =
    let same : entries_of c.reserve.new.self ≡ entries_of c.args.self.now.log =
    ap₂ (λ (d : g.row.D.Denot) (l : List ℕ). parts 0 l (g.D.Disk.reads d).journal) c.reserve.ensures.disk c.reserve.ensures.entries in
    record {
      told = ∥∥₁_map c.args.self.now.told (λ f. λ h w.
          subst (λ (l : List (List ℕ)). Tell l c.args.self.now.repo) (sym same)
          (f (subst (λ (d : g.row.D.Denot). g.D.Disk.honest d) c.reserve.ensures.disk h) (λ failed. w (c.reserve.ensures.working.1 failed))));
      kept = ∥∥₁_map c.args.self.now.kept (λ f. λ h image left.
          f (subst (λ (d : g.row.D.Denot). g.D.Disk.honest d) c.reserve.ensures.disk h) image (subst (λ (d : g.row.D.Denot). g.D.Disk.may_leave d image) c.reserve.ensures.disk left));
      doubted = (λ f. c.args.self.now.doubted.0 (c.reserve.ensures.working.0 f), λ t. c.reserve.ensures.working.1 (c.args.self.now.doubted.1 t));
    }
