-- What a store keeps while nothing is in doubt.
use Rattle.std.proofs.Common.{Option, Some, None, is_some, IsTrue, refl}
use Rattle.fleet_disk.specs.Image.{Image}
use Rattle.repo_core.specs.Repository.{Repository}
use Rattle.repo_core.specs.declared.entry.Entry.{Entry}
use Rattle.repo_store.specs.Journal.{Keeps, KeepsOr}

pub kept_or : (r : Repository) (doubt : Option Entry) (image : Image) → ¬ (IsTrue (is_some doubt)) → Keeps r image → KeepsOr r doubt image
kept_or r None image sure keeps = keeps
kept_or r (Some e) image sure keeps = absurd (sure refl)
