-- What came of the disks that folders lent.
use Rattle.std.specs.Prelude.{◌≡◌, ◌≢◌, ◌≤◌, ℕ, List, [], ◌∷◌}
use Rattle.fleet_disk.specs.declared.disk.Disk.{Ghosts}
use Rattle.fleet_disk.specs.Lending.{Lent, There, IsGiven, OthersStay}
use Rattle.fleet_main.specs.declared.lending.Folders.{Ghosts as FolderGhosts}

-- a folder's disk is lent, and other folders stay
pub record IsLent {F D : Type 0} (G : Ghosts D) (H : FolderGhosts F D) (before now : F) (folder : List ℕ) (disk : D) : Type 0 where
  pub given : H.honest before → IsGiven G (H.disk before folder) disk
  pub rules : H.honest before → G.honest disk
  pub lent : H.honest before → H.disk now folder ≡ Lent
  pub others : H.honest before → OthersStay folder (H.disk before) (H.disk now)
  pub honest : H.honest before → H.honest now
  pub later : H.failures before ≤ H.failures now

-- a folder takes its disk back, if it is lent, and other folders stay
pub record TakesBack {F D : Type 0} (G : Ghosts D) (H : FolderGhosts F D) (before now : F) (folder : List ℕ) (disk : D) : Type 0 where
  pub back : H.honest before → H.disk before folder ≡ Lent → H.disk now folder ≡ There disk
  pub others : H.honest before → H.disk before folder ≡ Lent → OthersStay folder (H.disk before) (H.disk now)
  pub honest : H.honest before → G.honest disk → H.honest now
  pub later : H.failures before ≤ H.failures now

-- the disk of a folder, as it was lent and as it came back
pub record Loan (D : Type 0) : Type 0 where
  pub folder : List ℕ
  pub given : D
  pub back : D

-- each of the loans has P
abbrev pub Each : {D : Type 0} → (Loan D → Type 0) → List (Loan D) → Type 0
Each P [] = Unit {0}
Each P (l ∷ loans) = P l × Each P loans

-- these disks were lent, and no other; each is back in its folder, and all other folders stay
pub record AreBack {F D : Type 0} (G : Ghosts D) (H : FolderGhosts F D) (before now : F) (loans : List (Loan D)) : Type 0 where
  pub given : H.honest before → Each (λ l. IsGiven G (H.disk before l.folder) l.given) loans
  pub back : H.honest before → Each (λ l. H.disk now l.folder ≡ There l.back) loans
  pub others : H.honest before → (other : List ℕ) → Each (λ l. other ≢ l.folder) loans → H.disk now other ≡ H.disk before other
  pub honest : H.honest before → H.honest now
  pub later : H.failures before ≤ H.failures now

-- the loan of a folder's disk
abbrev pub lent_by : {D : Type 0} → List ℕ → D → D → Loan D
lent_by folder given back = record { folder = folder; given = given; back = back }

-- that folder's alone
abbrev pub only_of : {D : Type 0} → List ℕ → D → D → List (Loan D)
only_of folder given back = lent_by folder given back ∷ []
