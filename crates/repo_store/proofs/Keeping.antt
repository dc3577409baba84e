-- What images keep while an entry is in doubt.
use Rattle.std.proofs.Common.{◌≡◌, IsTrue, Option, None, Some, is_some, refl}
use Rattle.std.proofs.Math.Logic.{∥∥₁_prop, ∥∥₁_elim}
use Rattle.fleet_disk.specs.Image.{Image}
use Rattle.repo_core.specs.Repository.{Repository}
use Rattle.repo_core.specs.declared.entry.Entry.{Entry}
use Rattle.repo_store.specs.Journal.{KeepsOr}

keeps_prop : (r : Repository) (doubt : Option Entry) (image : Image) (a b : KeepsOr r doubt image) → a ≡ b
keeps_prop r None image = ∥∥₁_prop
keeps_prop r (Some e) image = ∥∥₁_prop

-- what a store keeps of its images
pub kept_now : {Honest : Type 0} {Left : Image → Type 0} (r : Repository) (doubt : Option Entry)
    → ∥ (Honest → (image : Image) → Left image → KeepsOr r doubt image) ∥₁ → Honest → (image : Image) → Left image → KeepsOr r doubt image
kept_now r doubt known h image left = ∥∥₁_elim known (keeps_prop r doubt image) (λ f. f h image left)

-- nothing is in doubt
pub no_doubt : {Failed : Type 0} (doubt : Option Entry) → (IsTrue (is_some doubt) → Failed) → ¬ Failed → doubt ≡ None
no_doubt None f w = refl
no_doubt (Some e) f w = absurd (w (f refl))
