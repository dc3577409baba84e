-- What an opened store is to its caller.
use Rattle.std.specs.Prelude.{ℕ, List}
use Rattle.repo_store.specs.declared.store.RepoStore.{RepoStore}
use Rattle.store_share.specs.declared.opened.OpenedStore.{OpenedStore}

abbrev pub store_in : {D : Type 0} {g : _} → OpenedStore D g → RepoStore D g
store_in opened = opened.store

-- the cells of its row
abbrev pub cells_of : {D : Type 0} {g : _} → OpenedStore D g → List ℕ
cells_of opened = opened.row
