-- What is known of a sink.
use Rattle.std.specs.Prelude.{◌≡◌, ◌≤◌, ℕ, Bool, true, false, Result, Ok, Err}
use Rattle.byte_streams.specs.declared.output.Output.{Ghosts}
use Rattle.byte_streams.specs.declared.sink.Sink.{Sink}
use Rattle.byte_streams.specs.declared.fault.SinkFault.{SinkFault}
use Rattle.byte_streams.specs.declared.fault.SinkFault.TheVariants as fault
use Rattle.byte_streams.specs.Causes.{Rose}

-- the output
abbrev pub inner_of : {O : Type 0} {G : Ghosts O} → Sink O G → O
inner_of sink = sink.inner

-- how often that had failed as the last run of writes was begun
abbrev pub begun_of : {O : Type 0} {G : Ghosts O} → Sink O G → ℕ
begun_of sink = sink.begun

-- whether it has failed in that run
abbrev pub failed_of : {O : Type 0} {G : Ghosts O} → Sink O G → Bool
failed_of sink = sink.failed

-- what the answer of a run comes to in which the output failed or didn't
abbrev pub told : {T E : Type 0} → Bool → Result T E → Result T SinkFault
told failed (Ok x) = Ok x
told true (Err e) = Err fault.PeerFailed
told false (Err e) = Err fault.OutOfMemory

-- 49 comes only where the count rose; at Ok it didn't fall
abbrev pub PeerCause : {T : Type 0} → Result T SinkFault → ℕ → ℕ → Type 0
PeerCause (Ok x) before now = before ≤ now
PeerCause (Err e) before now = e ≡ fault.PeerFailed → Rose before now
