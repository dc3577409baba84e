-- Which refusal is due.
use Rattle.std.specs.Prelude.{◌≡◌, ℕ, Bool, true, false, List, [], Option, Some, unwrap_or}
use Rattle.std.specs.Option.{option_map}
use Rattle.repo_core.specs.declared.fault.RepoFault.{RepoFault}
use Rattle.sync_core.specs.declared.fault.SyncFault.{SyncFault}
use Rattle.sync_core.specs.declared.fault.SyncFault.TheVariants as fault
use Rattle.sync_core.specs.declared.lock_token.LockToken.{LockToken}
use Rattle.sync_core.specs.declared.need.Need.{Need}
use Rattle.sync_core.specs.declared.need.Need.TheVariants as need
use Rattle.sync_core.specs.Faults.{of_repository}

-- what the repository refuses, or want of memory
abbrev pub IsDue : SyncFault → Option RepoFault → Type 0
IsDue fault.OutOfMemory due = Unit {0}
IsDue f due = option_map of_repository due ≡ Some f

-- a need that isn't met, as a refusal: a lock or a holder is told with the lock's text
abbrev pub IsNeedFault : Need → Option (List ℕ) → SyncFault → Type 0
IsNeedFault need.NotInitialised text f = f ≡ fault.NotInitialised
IsNeedFault need.AlreadyInitialised text f = f ≡ fault.AlreadyInitialised
IsNeedFault need.NotEmpty text f = f ≡ fault.NotEmpty
IsNeedFault need.LockHeld text f = (token : LockToken) × (f ≡ fault.LockHeld token) × (token.bytes.items ≡ unwrap_or text [])
IsNeedFault need.HolderRunning text f = (token : LockToken) × (f ≡ fault.HolderRunning token) × (token.bytes.items ≡ unwrap_or text [])
IsNeedFault need.NotHolder text f = f ≡ fault.NotHolder
IsNeedFault need.OutOfTurn text f = f ≡ fault.OutOfTurn

-- the needs that are told with the lock's text, for which memory is taken
abbrev pub tells_lock : Need → Bool
tells_lock need.NotInitialised = false
tells_lock need.AlreadyInitialised = false
tells_lock need.NotEmpty = false
tells_lock need.LockHeld = true
tells_lock need.HolderRunning = true
tells_lock need.NotHolder = false
tells_lock need.OutOfTurn = false

-- the same, or want of memory for the lock's text
abbrev pub IsNeedAnswer : Need → Option (List ℕ) → SyncFault → Type 0
IsNeedAnswer n text fault.OutOfMemory = tells_lock n ≡ true
IsNeedAnswer n text f = IsNeedFault n text f
