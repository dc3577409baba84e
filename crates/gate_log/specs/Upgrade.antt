-- The images of an upgrade to the second version.
use Rattle.std.specs.Prelude.{◌≡◌, ◌⊎◌, ◌<◌, ℕ, List, [], ◌∷◌, ◌++◌, drop}
use Rattle.fleet_disk.specs.Image.{Image}
use Rattle.gate_log.specs.declared.fault.LogFault.{LogFault}
use Rattle.gate_log.specs.declared.fault.LogFault.TheVariants.{DeviceFailed, Damaged, OutOfMemory}
use Rattle.gate_log.specs.declared.version.LogVersion.TheVariants.{Second}
use Rattle.gate_log.specs.Slots.{slots}
use Rattle.gate_log.specs.Standing.{IsAtRest}
use Rattle.gate_log.specs.Version.{IsBegun}

-- the journal and `gate` as they were, and `slots` not begun
pub record IsUnbegun (old new : Image) : Type 0 where
  pub journal : new.journal ≡ old.journal
  pub gate : new.gate ≡ old.gate
  pub idle : ¬ IsBegun new.slots

-- the journal and `gate` as they were, and in `slots` these bytes behind a closed gate
pub record IsStaged (bytes : List ℕ) (old new : Image) : Type 0 where
  pub journal : new.journal ≡ old.journal
  pub gate : new.gate ≡ old.gate
  pub slots : new.slots ≡ 0 ∷ bytes

-- the journal as it was, and of `slots` all but the first gate; `gate` as it was, or that gate open
pub record IsSwitching (old new : Image) : Type 0 where
  pub journal : new.journal ≡ old.journal
  pub first : ℕ
  pub slots : new.slots ≡ first ∷ drop 1 old.slots
  pub either : (new.gate ≡ old.gate) ⊎ (first ≡ 1)

-- the journal as it was, the first gate of `slots` open, and `gate` empty
pub record IsSwitched (old new : Image) : Type 0 where
  pub journal : new.journal ≡ old.journal
  pub slots : new.slots ≡ 1 ∷ drop 1 old.slots
  pub gate : new.gate ≡ []

-- why a log of so many entries isn't upgraded: 31, 70, and of a disk that isn't honest 33
abbrev pub IsMigrationFault : ℕ → LogFault → Type 0
IsMigrationFault count fault = (fault ≡ DeviceFailed) ⊎ (fault ≡ OutOfMemory) ⊎ ((entry : ℕ) × (entry < count) × (fault ≡ Damaged entry))

-- the journal as it was, `gate` empty, and in `slots` the entries with these ends and a closed gate behind them
abbrev pub IsUpgraded : List ℕ → Image → Image → Type 0
IsUpgraded ends old new = (new.journal ≡ old.journal) × (new.gate ≡ [])
    × (new.slots ≡ slots Second 0 ends old.journal ++ 0 ∷ [])

-- these entries are at rest in the second version, and exactly their bytes are there
pub record IsMigrated (ends : List ℕ) (old new : Image) : Type 0 where
  pub at_rest : IsAtRest Second ends new
  pub files : IsUpgraded ends old new
