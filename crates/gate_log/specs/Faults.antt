-- The numbers of refusals.
use Rattle.std.specs.Prelude.{◌≡◌, ◌⊎◌, ℕ}
use Rattle.gate_log.specs.declared.fault.LogFault.{LogFault}
use Rattle.gate_log.specs.declared.fault.LogFault.TheVariants.{DeviceFailed, Failed, Damaged, NoRepository, ThereAlready, LogFull, OutOfMemory}

-- the number of a refusal
abbrev pub number_of : LogFault → ℕ
number_of DeviceFailed = 31
number_of Failed = 32
number_of (Damaged entry) = 33
number_of NoRepository = 34
number_of ThereAlready = 35
number_of LogFull = 36
number_of OutOfMemory = 70

-- what the search for standing entries answers: 31, 33, 34 or 70
abbrev pub IsFindFault : LogFault → Type 0
IsFindFault DeviceFailed = Unit {0}
IsFindFault (Damaged entry) = Unit {0}
IsFindFault NoRepository = Unit {0}
IsFindFault OutOfMemory = Unit {0}
IsFindFault Failed = ⊥
IsFindFault ThereAlready = ⊥
IsFindFault LogFull = ⊥

-- what the search answers at one entry: 31, 33 with its number, or 70
abbrev pub IsEntryFault : ℕ → LogFault → Type 0
IsEntryFault entry fault = (fault ≡ DeviceFailed) ⊎ (fault ≡ Damaged entry) ⊎ (fault ≡ OutOfMemory)

-- what a read of bytes that are there answers: 31 or 70
abbrev pub IsReadFault : LogFault → Type 0
IsReadFault fault = (fault ≡ DeviceFailed) ⊎ (fault ≡ OutOfMemory)

-- what a beginning answers: 31, 35 or 70
abbrev pub IsCreateFault : LogFault → Type 0
IsCreateFault fault = (fault ≡ DeviceFailed) ⊎ (fault ≡ ThereAlready) ⊎ (fault ≡ OutOfMemory)

-- what the growths of an append answer: 32, 36 or 70
abbrev pub IsReserveFault : LogFault → Type 0
IsReserveFault fault = (fault ≡ Failed) ⊎ (fault ≡ LogFull) ⊎ (fault ≡ OutOfMemory)

-- what an append answers: 31, 32, 36 or 70
abbrev pub IsAppendFault : LogFault → Type 0
IsAppendFault fault = (fault ≡ DeviceFailed) ⊎ IsReserveFault fault

-- what a call that needs memory answers of a log whose disk is honest: 31, 32 or 70
abbrev pub IsLogFault : LogFault → Type 0
IsLogFault fault = (fault ≡ DeviceFailed) ⊎ (fault ≡ Failed) ⊎ (fault ≡ OutOfMemory)

-- what a read of an entry answers: 31, 32, 33 with its number, or 70
abbrev pub IsReadingFault : ℕ → LogFault → Type 0
IsReadingFault entry fault = (fault ≡ DeviceFailed) ⊎ (fault ≡ Failed) ⊎ (fault ≡ Damaged entry) ⊎ (fault ≡ OutOfMemory)
