-- When trouble may be told.
use Rattle.std.specs.Prelude.{◌≤◌, ◌-◌, ◌/◌, ℕ, Option, Some, None}
use Rattle.std.specs.Time.{instant_nanos}
use Rattle.std.specs.declared.time.Instant.{Instant}
use Rattle.sockets.specs.declared.troubles.Trouble.{Trouble}
use Rattle.sockets.specs.declared.troubles.Trouble.TheVariants.{DeviceFailed, Failed, LogFull, PeerFailed, OutOfMemory}

-- the place of a kind of trouble among them
abbrev pub place_of : Trouble → ℕ
place_of DeviceFailed = 0
place_of Failed = 1
place_of LogFull = 2
place_of PeerFailed = 3
place_of OutOfMemory = 4

-- trouble of a kind, with the moment at which it was told last, if it was, may be told now: a minute has passed
abbrev pub MayTell : Option (Option Instant) → Instant → Type 0
MayTell None now = Unit {0}
MayTell (Some None) now = Unit {0}
MayTell (Some (Some last)) now = 60 ≤ (instant_nanos now - instant_nanos last) / 1000000000
