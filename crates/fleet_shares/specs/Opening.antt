-- Stores that are opened for a fleet.
use Rattle.std.specs.Prelude.{◌≡◌, ℕ, Bool, true, List, [], Option, Some, None, Result, Ok, Err, is_some}
use Rattle.std.specs.Option.{option_map}
use Rattle.repo_store.specs.declared.store.RepoStore.{RepoStore}
use Rattle.store_share.specs.Opened.{cells_of, store_in}
use Rattle.mirror_share.specs.Names.{ledgers_named, opened_in}
use Rattle.mirror_share.specs.declared.name.MirrorName.{Ghosts}
use Rattle.mirror_share.specs.declared.opened.OpenedMirror.{OpenedMirror}
use Rattle.fleet_shares.specs.declared.shares.FleetShares.{FleetShares}
use Rattle.fleet_shares.specs.declared.stores.FleetStores.{FleetStores}
use Rattle.fleet_shares.specs.declared.stores.OpenedFleet.{OpenedFleet}

-- whether a slot has a store, opened or left as it was
abbrev pub has_store : {D : Type 0} {g : _} → Result (Option (OpenedMirror D g)) (RepoStore D g) → Bool
has_store (Ok opened) = is_some opened
has_store (Err store) = true

-- which mirrors there are among opened stores
abbrev pub HasOpened : {D : Type 0} {g : _} → Bool → Bool → Bool → Bool → OpenedFleet D g → Type 0
HasOpened a b c d opened = (is_some opened.first ≡ a) × (is_some opened.second ≡ b) × (is_some opened.third ≡ c) × (is_some opened.fourth ≡ d)

-- and among stores
abbrev pub HasStores : {D : Type 0} {g : _} → Bool → Bool → Bool → Bool → FleetStores D g → Type 0
HasStores a b c d stores = (is_some stores.first ≡ a) × (is_some stores.second ≡ b) × (is_some stores.third ≡ c) × (is_some stores.fourth ≡ d)

-- shares are in the slots of opened stores
abbrev pub HasShares : {M L0 L1 L2 L3 D : Type 0} {m : _} {r0 : _} {r1 : _} {r2 : _} {r3 : _} {g : _} → OpenedFleet D g → FleetShares M L0 L1 L2 L3 D m r0 r1 r2 r3 g → Type 0
HasShares opened shares =
    (is_some shares.first ≡ is_some opened.first) × (is_some shares.second ≡ is_some opened.second) × (is_some shares.third ≡ is_some opened.third) × (is_some shares.fourth ≡ is_some opened.fourth)

-- stores are in the slots of shares, or of opened ones
abbrev pub HasClosed : {M L0 L1 L2 L3 D : Type 0} {m : _} {r0 : _} {r1 : _} {r2 : _} {r3 : _} {g : _} → FleetShares M L0 L1 L2 L3 D m r0 r1 r2 r3 g → FleetStores D g → Type 0
HasClosed shares stores = HasStores (is_some shares.first) (is_some shares.second) (is_some shares.third) (is_some shares.fourth) stores

abbrev pub HasStoresOf : {D : Type 0} {g : _} → OpenedFleet D g → FleetStores D g → Type 0
HasStoresOf opened stores = HasStores (is_some opened.first) (is_some opened.second) (is_some opened.third) (is_some opened.fourth) stores

-- the store of a slot
abbrev pub stored_in : {D : Type 0} {g : _} → Result (Option (OpenedMirror D g)) (RepoStore D g) → Option (RepoStore D g)
stored_in (Ok opened) = option_map (λ o. store_in (opened_in o)) opened
stored_in (Err store) = Some store

-- these were opened
abbrev pub IsOpenedFrom : {D : Type 0} {g : _} → RepoStore D g → Option (RepoStore D g) → Option (RepoStore D g) → Option (RepoStore D g) → Option (RepoStore D g) → OpenedFleet D g → Type 0
IsOpenedFrom master a b c d opened =
    (store_in opened.master ≡ master) × (stored_in (Ok opened.first) ≡ a) × (stored_in (Ok opened.second) ≡ b) × (stored_in (Ok opened.third) ≡ c) × (stored_in (Ok opened.fourth) ≡ d)

-- the cells of a slot's row, and the names of its ledgers
abbrev pub cells_at : {D : Type 0} {g : _} → Option (OpenedMirror D g) → List ℕ
cells_at None = []
cells_at (Some mirror) = cells_of (opened_in mirror)

abbrev pub ledgers_at : {L D : Type 0} {g : _} → Option (OpenedMirror D g) → Ghosts L
ledgers_at None = record { merged = 0; copying = 0; head = 0; holder = 0 }
ledgers_at (Some mirror) = ledgers_named mirror
