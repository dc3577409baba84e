-- The refusal that each fault of a synchronisation is.
use Rattle.std.specs.Prelude.{◌≡◌, ℕ, Bool, true, false, List, [], ◌∷◌, ◌++◌, Option, Some, None, codes}
use Rattle.std.specs.Option.{option_map_or}
use Rattle.std.specs.Fmt.{decimal}
use Rattle.node_base.specs.Refusals.{refusal_number, refusal_text, told_text}
use Rattle.node_base.specs.declared.refusal.Refusal.{Refusal}
use Rattle.node_base.specs.declared.refusal.Refusal.TheVariants as refusal
use Rattle.dump_load.specs.Faults.{change_refusal}
use Rattle.dump_load.specs.declared.fault.ChangeFault.{ChangeFault}
use Rattle.dump_load.specs.declared.fault.ChangeFault.TheVariants as change
use Rattle.repo_core.specs.Refusals.{repo_refusal}
use Rattle.repo_core.specs.declared.fault.RepoFault.{RepoFault}
use Rattle.repo_core.specs.declared.fault.RepoFault.TheVariants as repo
use Rattle.sync_core.specs.Names.{Number, Absent, Misspelt, Spelt, Huge, number_of}
use Rattle.sync_core.specs.declared.standing.Standing.{Standing}
use Rattle.node_base.specs.declared.told_number.ToldNumber.{ToldNumber}
use Rattle.node_base.specs.declared.told_number.ToldNumber.TheVariants as told
use Rattle.sync_core.specs.declared.fault.SyncFault.{SyncFault}
use Rattle.sync_core.specs.declared.fault.SyncFault.TheVariants as fault

-- the number that is spelt, where it is below 2^64
abbrev pub spelt_in : Number → Option ℕ
spelt_in Absent = None
spelt_in Misspelt = None
spelt_in (Spelt n) = Some n
spelt_in Huge = None

-- what is told of a number whose property has that value: nothing where it is absent or misspelt
abbrev pub told_of : Number → Option (List ℕ) → ToldNumber
told_of Absent value = told.Missing
told_of Misspelt value = told.Missing
told_of (Spelt n) value = told.Spelt n
told_of Huge value = option_map_or told.Huge value told.Missing

-- so a number from 2^64 on is told by its digits
abbrev pub DigitsAreTold : Type 0
DigitsAreTold = (digits : List ℕ) → number_of digits ≡ Huge → told_text (told_of (number_of digits) (Some digits)) ≡ digits

-- how a mirror stands that rests in no shape
abbrev pub inconsistent_as : Standing → SyncFault
inconsistent_as s = fault.Inconsistent (told_of s.merged s.merged_text) (told_of s.copying s.copying_text) s.head

-- as a refusal of the table
abbrev pub refusal_of : SyncFault → Refusal
refusal_of fault.NotInitialised = refusal.NotInitialised
refusal_of fault.AlreadyInitialised = refusal.AlreadyInitialised
refusal_of fault.NotEmpty = refusal.NotEmpty
refusal_of (fault.LockHeld token) = refusal.LockHeld token.bytes
refusal_of (fault.HolderRunning token) = refusal.HolderRunning token.bytes
refusal_of fault.WrongMaster = refusal.WrongMaster
refusal_of (fault.Inconsistent merged copying head) = refusal.Inconsistent merged copying head
refusal_of (fault.NotYetCopied n) = refusal.NotYetCopied n
refusal_of fault.NotHolder = refusal.NotHolder
refusal_of (fault.MasterFailed text) = refusal.MasterFailed text
refusal_of fault.OutOfTurn = refusal.OutOfTurn
refusal_of (fault.Other r) = r
refusal_of fault.OutOfMemory = refusal.OutOfMemory

-- the text of a fault: that of its refusal
abbrev pub fault_text : SyncFault → List ℕ
fault_text f = refusal_text (refusal_of f)

-- the line that a program prints for it
abbrev pub fault_line : SyncFault → List ℕ
fault_line f = codes "svnfleet: " ++ (decimal (refusal_number (refusal_of f)) ++ (codes " " ++ (fault_text f ++ 10 ∷ [])))

-- whether it tells a number, a token or a text of its own
abbrev pub tells_more : SyncFault → Bool
tells_more (fault.LockHeld token) = true
tells_more (fault.HolderRunning token) = true
tells_more (fault.Inconsistent merged copying head) = true
tells_more (fault.NotYetCopied n) = true
tells_more (fault.MasterFailed text) = true
tells_more (fault.Other r) = true
tells_more f = false

-- a fault of a set of changes
abbrev pub of_changes : ChangeFault → SyncFault
of_changes change.OutOfMemory = fault.OutOfMemory
of_changes f = fault.Other (change_refusal f)

-- what a repository refuses
abbrev pub of_repository : RepoFault → SyncFault
of_repository (repo.Change f) = of_changes f
of_repository repo.OutOfMemory = fault.OutOfMemory
of_repository f = fault.Other (repo_refusal f)
