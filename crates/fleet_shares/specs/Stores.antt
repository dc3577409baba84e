-- The stores of a fleet by the numbers of their slots.
use Rattle.std.specs.Prelude.{ℕ, zero, suc, Option, None}
use Rattle.repo_store.specs.declared.store.RepoStore.{RepoStore}
use Rattle.fleet_shares.specs.declared.stores.FleetStores.{FleetStores}

-- what there is in the slot of a number, of four
abbrev pub pick : {A : Type 0} → ℕ → A → A → A → A → A → A
pick zero a b c d none = a
pick (suc zero) a b c d none = b
pick (suc (suc zero)) a b c d none = c
pick (suc (suc (suc zero))) a b c d none = d
pick (suc (suc (suc (suc n)))) a b c d none = none

-- the store of a mirror's slot
abbrev pub store_at : {D : Type 0} {g : _} → FleetStores D g → ℕ → Option (RepoStore D g)
store_at stores slot = pick slot stores.first stores.second stores.third stores.fourth None
