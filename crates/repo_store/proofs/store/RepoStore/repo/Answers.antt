use Rattle.std.proofs.Math.Logic.{∥∥₁_map}
use Rattle.repo_store.proofs.Images.{reopened}
use Rattle.repo_store.proofs.Keeping.{kept_now}
use Rattle.repo_store.proofs.Telling.{told_stands, kept}
use Rattle.repo_store.proofs.store.RepoStore.repo.Goals as goal

pub returns-clause-stands : goal.returns-clause-stands
returns-clause-stands g c h w image left =
    reopened _ _ _ image (∥∥₁_map c.args.self.now.told (λ f. told_stands _ _ (f h w))) (c.len-count.ensures.stand h w image left)

pub returns-clause-keeps : goal.returns-clause-keeps
returns-clause-keeps g c h w image left =
    kept _ _ image (∥∥₁_map c.args.self.now.told (λ f. f h w)) (c.len-count.ensures.stand h w image left)

pub returns-clause-kept : goal.returns-clause-kept
returns-clause-kept g c = kept_now c.args.self.now.repo _ c.args.self.now.kept
