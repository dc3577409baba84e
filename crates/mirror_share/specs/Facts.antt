-- A fact that a book keeps has at most one proof.
use Rattle.std.specs.Prelude.{◌≡◌}
use Rattle.std.specs.Coded.{Coded-set}
use Rattle.repo_core.specs.Repository.{Repository, coded_repository}

pub replay_prop : (r s : Repository) → IsProp (r ≡ s)
replay_prop r s = Coded-set coded_repository r s
